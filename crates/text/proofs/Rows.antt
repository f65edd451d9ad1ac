-- A row, words of one form separated by single commas: whether it is one, and its words gone through from comma to comma. Assumes nothing.
use mathlib.Core.Path.{◌≡◌, refl, sym, ◌∙◌, ap}
use mathlib.Core.Bool.{Bool, true, false, ◌&&◌}
use mathlib.Core.List.{List, [], ◌∷◌}
use Prim.Native.Nat.{ℕ, suc, ◌+◌, ◌-◌, ◌≤◌, ◌<◌}
use native.Mathlib.Omega.{arith}
use lib.Dec.{eqb, ltb, leb}
use lib.ListN.{length, take, drop, get_or, length-drop}
use lib.Seq.{take_all, drop-drop}
use borrow.Author.Tests.{lt-leb, le-leb, leb-true, ltb-true, ltb-false}
use Rattle.std.specs.List.{slice_split, list_all, enumerate_from, position_or_len}
use Rattle.std.proofs.lemmas.List.Sums.{fails_before_first}
use Rattle.std.proofs.lemmas.List.Splits.{slice_split_none, slice_split_first, length-slice_split}
use Rattle.basics.specs.Tests.{each_of}
use Rattle.basics.proofs.Tests.{both_left, both_right}
use Rattle.text.specs.Words.{comma, pieces, index_of, stop_at}
use Rattle.text.specs.Numbers.{is_row_of}
use Rattle.text.proofs.Steps.{front}
use Rattle.text.proofs.Cutting.{index_within}
use Rattle.text.proofs.Library.{both_and, all_each, split_pieces, index_position}

-- The words of a row as the library cuts them.
abbrev pub cut : List ℕ → List (List ℕ)
cut w = slice_split (λ b. eqb b comma) w

-- One test before others that come to two tests,
and_both : (a : Bool) {b : Bool} (c d : Bool) → b ≡ (c && d) → (a && b) ≡ ((a && c) && d)
and_both true c d e = e
and_both false c d e = refl

-- and tests of which the last fails.
and_fails : (a : Bool) {b : Bool} → b ≡ false → false ≡ (a && b)
and_fails true e = sym e
and_fails false e = refl

module _ (form : List ℕ → Bool) (most : ℕ) where
  -- Whether a word has the form and is at a number that is allowed,
  abbrev pub in_row : ℕ × List ℕ → Bool
  in_row p = ltb p.0 most && form p.1

  -- and so all words from a number on: where they have the form, and the last is at a number that is allowed.
  all_in_row : (n : ℕ) (ps : List (List ℕ)) → n ≤ most → list_all in_row (enumerate_from n ps) ≡ (list_all form ps && leb (n + length ps) most)
  all_in_row n [] h = sym (le-leb (n + 0) most (omega arith))
  all_in_row n (p ∷ ps) h = by (ltb n most) refl (λ m. all_in_row (n + 1) ps m)
    where
      by : (t : Bool) → ltb n most ≡ t → (n + 1 ≤ most → list_all in_row (enumerate_from (n + 1) ps) ≡ (list_all form ps && leb (n + 1 + length ps) most))
          → ((t && form p) && list_all in_row (enumerate_from (n + 1) ps)) ≡ ((form p && list_all form ps) && leb (n + suc (length ps)) most)
      by true e others =
          let next : n + 1 + length ps ≡ n + suc (length ps) = omega arith in
          and_both (form p) (list_all form ps) (leb (n + suc (length ps)) most)
          (others (omega (arith, ltb-true n most e)) ∙ ap (λ (m : ℕ). list_all form ps && leb m most) next)
      by false e others = and_fails (form p && list_all form ps) (lt-leb (n + suc (length ps)) most (omega (arith, ltb-false n most e)))

  -- A word is a row where its words are in it from 0 on.
  pub row_is : (w : List ℕ) → list_all in_row (enumerate_from 0 (cut w)) ≡ is_row_of form most w
  unfolding is_row_of
  row_is w =
      let few : 0 + length (cut w) ≡ length (cut w) = omega arith in
      all_in_row 0 (cut w) (omega arith) ∙ ap (λ (m : ℕ). list_all form (cut w) && leb m most) few
      ∙ rw (both_and (list_all form (cut w)) (leb (length (cut w)) most), all_each form form (λ a. refl) (cut w), split_pieces comma w) refl

-- The words of a row have the form, and are not too many.
pub row_words : (form : List ℕ → Bool) (most : ℕ) (w : List ℕ) → is_row_of form most w ≡ true
    → (each_of form (pieces comma w) ≡ true) × (length (pieces comma w) ≤ most)
unfolding is_row_of
row_words form most w h = (both_left _ _ h, leb-true (length (pieces comma w)) most (both_right _ _ h))

-- A word without a comma is one piece;
only_piece : (l : List ℕ) → index_of comma l ≡ length l → pieces comma l ≡ take (index_of comma l) l ∷ []
only_piece l e =
    let h : position_or_len (λ b. eqb b comma) l ≡ length l = sym (index_position comma l) ∙ e in
    sym (split_pieces comma l)
    ∙ slice_split_none (λ b. eqb b comma) l (λ k d m. fails_before_first (λ b. eqb b comma) l k d (omega arith))
    ∙ ap (λ (p : List ℕ). p ∷ []) (sym (take_all (index_of comma l) l (omega arith)))

-- any other is the piece before its first comma, and those of what follows that comma.
cut_piece : (l : List ℕ) → index_of comma l < length l → pieces comma l ≡ take (index_of comma l) l ∷ pieces comma (drop (index_of comma l + 1) l)
cut_piece l h =
    sym (split_pieces comma l)
    ∙ slice_split_first (λ b. eqb b comma) l 0 (rw (index_position comma l) at h)
    ∙ rw (← (index_position comma l), split_pieces comma (drop (index_of comma l + 1) l)) refl

-- So many pieces of a word have been passed where it has been read to: up to its end others are left, those of what follows; beyond it there is none.
pub record Passed (w : List ℕ) (count at : ℕ) : Type 0 where
  pub some : at ≤ length w → count < length (pieces comma w)
  pub rest : at ≤ length w → drop count (pieces comma w) ≡ pieces comma (drop at w)
  pub all : length w < at → count ≡ length (pieces comma w)

-- A text always has a piece, so where those of what follows are left there is another.
some_left : (w : List ℕ) (count at : ℕ) → drop count (pieces comma w) ≡ pieces comma (drop at w) → count < length (pieces comma w)
some_left w count at e =
    let l = drop at w in
    omega (arith, ap length e, length-drop count (pieces comma w), ap length (split_pieces comma l), length-slice_split (λ b. eqb b comma) l)

-- At the start none has been passed.
pub passed_none : (w : List ℕ) → Passed w 0 0
passed_none w = record { some = λ h. some_left w 0 0 refl; rest = λ h. refl; all = λ h. absurd (omega arith) }

module _ (w : List ℕ) (count at to : ℕ) (before : Passed w count at) (h : at ≤ length w) (e : to ≡ stop_at comma w at) where
  -- The first of the pieces that are left, and the others after it.
  here : (others : List (List ℕ)) → pieces comma (drop at w) ≡ take (index_of comma (drop at w)) (drop at w) ∷ others
      → (get_or (pieces comma w) count [] ≡ take (to - at) (drop at w)) × (drop (count + 1) (pieces comma w) ≡ others)
  unfolding stop_at
  here others k =
      let so_far : index_of comma (drop at w) ≡ to - at = omega arith in
      let parts = sym (front [] (pieces comma w) count (before.some h)) ∙ before.rest h ∙ k in
      (cc, cc)

  -- The next piece goes up to the next comma, and after that comma one more has been passed.
  pub passed_one : (get_or (pieces comma w) count [] ≡ take (to - at) (drop at w)) × Passed w (count + 1) (to + 1)
  unfolding stop_at
  passed_one = by (ltb (index_of comma (drop at w)) (length (drop at w))) refl
    where
      by : (t : Bool) → ltb (index_of comma (drop at w)) (length (drop at w)) ≡ t
          → (get_or (pieces comma w) count [] ≡ take (to - at) (drop at w)) × Passed w (count + 1) (to + 1)
      by true q =
          let i = index_of comma (drop at w) in
          let found = ltb-true i (length (drop at w)) q in
          let next = here (pieces comma (drop (i + 1) (drop at w))) (cut_piece (drop at w) found) in
          let there : at + (i + 1) ≡ to + 1 = omega arith in
          let left : drop (count + 1) (pieces comma w) ≡ pieces comma (drop (to + 1) w) =
          next.1 ∙ ap (pieces comma) (drop-drop (i + 1) at w ∙ ap (λ (n : ℕ). drop n w) there) in (
            next.0,
            record {
              some = λ m. some_left w (count + 1) (to + 1) left;
              rest = λ m. left;
              all = λ m. absurd (omega (arith, length-drop at w));
            },
          )
      by false q =
          let i = index_of comma (drop at w) in
          let end : i ≡ length (drop at w) = omega (arith, index_within comma (drop at w), ltb-false i (length (drop at w)) q) in
          let next = here [] (only_piece (drop at w) end) in (
            next.0,
            record {
              some = λ m. absurd (omega (arith, length-drop at w));
              rest = λ m. absurd (omega (arith, length-drop at w));
              all = λ m. omega (arith, before.some h, ap length next.1, length-drop (count + 1) (pieces comma w));
            },
          )
