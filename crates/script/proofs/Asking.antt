-- What the words of a line ask for, from what was read of each word. Assumes nothing.
use mathlib.Core.Path.{◌≡◌, refl, sym, ◌∙◌, ap}
use mathlib.Core.Bool.{Bool, true, false}
use mathlib.Core.List.{List, [], ◌∷◌}
use Prim.Native.Nat.{ℕ, ◌≤◌, ◌<◌}
use native.Mathlib.Omega.{arith}
use lib.IntN.{ℤ}
use Prim.Native.String.{String}
use lib.Utf8.{encode}
use borrow.Author.Tests.{eq-eqb, ne_eqb, lt-ltb, le-ltb}
use Rattle.std.proofs.lemmas.Int.{to_z-of_z}
use Rattle.copper.specs.declared.Favour.{Favour}
use Rattle.text.specs.Words.{without_return, words_of, word}
use Rattle.script.specs.Said.{most_line, favour_in, is_form, ends_in_favour, only, calls, said_as, call_in, is_skipped, said_in, is_long, said_by}
use Rattle.script.specs.declared.Said.{Said}
use Rattle.std.specs.Str.{IsUtf8}
use Rattle.text.proofs.Cutting.{same_is}
use lib.ListN.{length}
use Rattle.std.specs.Prelude.{Option, Some, None, unwrap_or}
use Rattle.std.proofs.lemmas.Option.{none-some, same_Some}
use Rattle.basics.specs.Tests.{either, choose}
use Rattle.basics.proofs.Tests.{opposite, fails_if, both_left, both_right, both_of, both_no, both_yes, either_left, either_right, either_no, choose_yes, choose_no}
use Rattle.text.specs.Text.{text, same}
use Rattle.text.specs.Numbers.{value_of, is_number, number_of, is_coordinate, signed, coordinate_of}

-- What came of a choice between something and nothing says how the test went.
chosen_is : {A : Type 0} (t : Bool) {a b : A} → choose t (Some a) None ≡ Some b → (t ≡ true) × (a ≡ b)
unfolding choose
chosen_is true {a} {b} e = (refl, same_Some a b e)
chosen_is false {b = b} e = absurd (none-some b e)

chosen_none : {A : Type 0} (t : Bool) (a : A) → choose t (Some a) None ≡ None → t ≡ false
unfolding choose
chosen_none true a e = absurd (none-some a (sym e))
chosen_none false a e = refl

-- A word that was read as a number is one, of that value,
pub number_yes : (top : ℕ) (w : List ℕ) (n : ℕ) → number_of top w ≡ Some n → (is_number top w ≡ true) × (value_of w ≡ n)
unfolding number_of
number_yes top w n e = chosen_is (is_number top w) e

-- and one that was not is none.
pub number_no : (top : ℕ) (w : List ℕ) → number_of top w ≡ None → is_number top w ≡ false
unfolding number_of
number_no top w e = chosen_none (is_number top w) (value_of w) e

-- Likewise x and y.
pub coordinate_yes : (w : List ℕ) (z : ℤ) → coordinate_of w ≡ Some z → (is_coordinate w ≡ true) × (signed w ≡ z)
unfolding coordinate_of
coordinate_yes w z e = chosen_is (is_coordinate w) e

pub coordinate_no : (w : List ℕ) → coordinate_of w ≡ None → is_coordinate w ≡ false
unfolding coordinate_of
coordinate_no w e = chosen_none (is_coordinate w) (signed w) e

same_itself : (u : List ℕ) → same u u ≡ true
unfolding same
same_itself [] = refl
same_itself (a ∷ u) = both_of (eq-eqb a a refl) (same_itself u)

-- Texts are the same where they are equal, and else not.
pub same_yes : (u v : List ℕ) → u ≡ v → same u v ≡ true
same_yes u v e = rw e (same_itself v)

pub same_no : (u v : List ℕ) → (u ≡ v → ⊥) → same u v ≡ false
same_no u v h = fails_if (same u v) (λ e. h (same_is u v e))

-- Bytes that are no text are not those of a text.
pub no_text : (u v : List ℕ) → ¬ (IsUtf8 u) → IsUtf8 v → same u v ≡ false
no_text u v h k = same_no u v (λ e. h (rw (← e) at k))

-- What the checks of the readers go by,
pub ruleset readings = (number_yes, number_no, coordinate_yes, coordinate_no, both_yes, both_no, either_left, either_right, choose_yes, choose_no, same_yes, same_no, eq-eqb, ne_eqb)

-- and of one that reads numbers with signs.
pub ruleset readings_signed = (readings, to_z-of_z)

-- ---- words that are no text
-- What is no text is none of the names and words of a line.
module _ (w : List ℕ) (h : ¬ (IsUtf8 w)) where
  pub favour_none : Favour.Unsaid ≡ favour_in w
  unfolding favour_in encode
  favour_none =
      sym (choose_no _ _ (no_text w (text "lower") h (text "lower", (refl, refl))) ∙ choose_no _ _ (no_text w (text "upper") h (text "upper", (refl, refl))))

  pub form_none : is_form w ≡ false
  unfolding is_form encode
  form_none = either_no (no_text w (text "old") h (text "old", (refl, refl))) (no_text w (text "new") h (text "new", (refl, refl)))

  pub ends_none : either (same w (text "lower")) (same w (text "upper")) ≡ false
  unfolding encode
  ends_none = either_no (no_text w (text "lower") h (text "lower", (refl, refl))) (no_text w (text "upper") h (text "upper", (refl, refl)))

-- Of five words the last is a favour where they end in one.
pub ends_five : (words : List (List ℕ)) {n : ℕ} {w : List ℕ} → n ≡ length words → n ≡ 5 → w ≡ word 4 words
    → either (same w (text "lower")) (same w (text "upper")) ≡ ends_in_favour words
unfolding ends_in_favour
ends_five words e h f =
    ap (λ (v : List ℕ). either (same v (text "lower")) (same v (text "upper"))) f
    ∙ sym (either_right _ (ne_eqb (length words) 4 (λ q. omega (arith, e, h, q))) ∙ both_yes _ (eq-eqb (length words) 5 (sym e ∙ h)))

-- ---- the call that the first word names
-- What was read is what is said where its words pass, and nothing else is.
module _ {A : Type 0} (call : A → Said) (t : Bool) (a : A) {r : Option A} (e : r ≡ choose t (Some a) None) where
  pub asked : {b : A} → r ≡ Some b → call b ≡ only t (call a)
  unfolding only
  asked {b} f =
      let h : (t ≡ true) × (a ≡ b) = chosen_is t (sym e ∙ f) in
      ap call (sym h.1) ∙ sym (choose_yes _ _ h.0)

  pub not_asked : {s : Option Said} → r ≡ None → s ≡ None → unwrap_or s Said.NotACall ≡ only t (call a)
  unfolding only
  not_asked f g = ap (λ (o : Option Said). unwrap_or o Said.NotACall) g ∙ sym (choose_no _ _ (chosen_none t a (sym e ∙ f)))

-- Words whose first has the name of a call say what that call says.
pub named : (name : String) (words : List (List ℕ)) {w n : List ℕ} → w ≡ word 0 words → n ≡ w → n ≡ text name → said_as calls (text name) words ≡ call_in words
unfolding call_in
named name words e f g = ap (λ (l : List ℕ). said_as calls l words) (sym g ∙ f ∙ e)

other : (words : List (List ℕ))
    → same (word 0 words) (text "open") ≡ false → same (word 0 words) (text "close") ≡ false → same (word 0 words) (text "place") ≡ false → same (word 0 words) (text "move") ≡ false
    → same (word 0 words) (text "remove") ≡ false → same (word 0 words) (text "undo") ≡ false → same (word 0 words) (text "redo") ≡ false → same (word 0 words) (text "write") ≡ false
    → same (word 0 words) (text "wire") ≡ false → same (word 0 words) (text "mill") ≡ false → same (word 0 words) (text "bare") ≡ false → same (word 0 words) (text "drops") ≡ false
    → same (word 0 words) (text "over") ≡ false → same (word 0 words) (text "back") ≡ false → same (word 0 words) (text "pins") ≡ false → Said.NotACall ≡ call_in words
unfolding call_in said_as choose
other words h1 h2 h3 h4 h5 h6 h7 h8 h9 h10 h11 h12 h13 h14 h15 = rw (h1, h2, h3, h4, h5, h6, h7, h8, h9, h10, h11, h12, h13, h14, h15)

-- Words whose first has no such name are not a call,
pub none_named : (words : List (List ℕ)) {w n : List ℕ} → w ≡ word 0 words → n ≡ w
    → (n ≡ text "open" → ⊥) → (n ≡ text "close" → ⊥) → (n ≡ text "place" → ⊥) → (n ≡ text "move" → ⊥)
    → (n ≡ text "remove" → ⊥) → (n ≡ text "undo" → ⊥) → (n ≡ text "redo" → ⊥) → (n ≡ text "write" → ⊥)
    → (n ≡ text "wire" → ⊥) → (n ≡ text "mill" → ⊥) → (n ≡ text "bare" → ⊥) → (n ≡ text "drops" → ⊥)
    → (n ≡ text "over" → ⊥) → (n ≡ text "back" → ⊥) → (n ≡ text "pins" → ⊥) → Said.NotACall ≡ call_in words
none_named words {w} {n} e f h1 h2 h3 h4 h5 h6 h7 h8 h9 h10 h11 h12 h13 h14 h15 =
    let no = λ (name : String) (h : n ≡ text name → ⊥). same_no (word 0 words) (text name) (λ (q : word 0 words ≡ text name). h (f ∙ e ∙ q)) in
    other words
    (no "open" h1) (no "close" h2) (no "place" h3) (no "move" h4) (no "remove" h5)
    (no "undo" h6) (no "redo" h7) (no "write" h8) (no "wire" h9) (no "mill" h10)
    (no "bare" h11) (no "drops" h12) (no "over" h13) (no "back" h14) (no "pins" h15)

-- nor are words whose first is no text.
pub no_name : (words : List (List ℕ)) {w : List ℕ} → w ≡ word 0 words → ¬ (IsUtf8 w) → Said.NotACall ≡ call_in words
unfolding encode
no_name words {w} e h =
    let no = λ (name : String) (k : IsUtf8 (text name)). no_text (word 0 words) (text name) (λ (q : IsUtf8 (word 0 words)). h (rw (← e) at q)) k in
    other words
    (no "open" (text "open", (refl, refl))) (no "close" (text "close", (refl, refl))) (no "place" (text "place", (refl, refl)))
    (no "move" (text "move", (refl, refl))) (no "remove" (text "remove", (refl, refl))) (no "undo" (text "undo", (refl, refl)))
    (no "redo" (text "redo", (refl, refl))) (no "write" (text "write", (refl, refl))) (no "wire" (text "wire", (refl, refl)))
    (no "mill" (text "mill", (refl, refl))) (no "bare" (text "bare", (refl, refl))) (no "drops" (text "drops", (refl, refl)))
    (no "over" (text "over", (refl, refl))) (no "back" (text "back", (refl, refl))) (no "pins" (text "pins", (refl, refl)))

module _ (line : List ℕ) {t : List ℕ} (e : t ≡ without_return line) where
  -- A line of more than 16,384 bytes is not a call;
  pub line_long : most_line < length t → Said.NotACall ≡ said_by line
  unfolding said_by is_long
  line_long h = sym (choose_yes _ _ (lt-ltb most_line (length (without_return line)) (rw (← e) h)))

  -- any other says what its words say:
  line_short : length t ≤ most_line → said_in (words_of t) ≡ said_by line
  unfolding said_by is_long
  line_short h = ap (λ (l : List ℕ). said_in (words_of l)) e ∙ sym (choose_no _ _ (le-ltb most_line (length (without_return line)) (rw (← e) h)))

  module _ (short : length t ≤ most_line) {name : List ℕ} (w : name ≡ word 0 (words_of t)) where
    -- nothing where it is skipped,
    pub line_skipped : is_skipped name ≡ true → Said.Skip ≡ said_by line
    unfolding said_in
    line_skipped h = sym (choose_yes _ _ (sym (ap is_skipped w) ∙ h)) ∙ line_short short

    -- and else the call that the first of them names.
    pub line_call : {o : Said} → is_skipped name ≡ false → o ≡ call_in (words_of t) → o ≡ said_by line
    unfolding said_in
    line_call h f = f ∙ sym (choose_no _ _ (sym (ap is_skipped w) ∙ h)) ∙ line_short short
