-- Lists that loops fill: entries before blanks, legs run by run; and what the small functions answer. Assumes nothing.
use mathlib.Core.Path.{◌≡◌, refl, sym, ap, ap₂, ◌∙◌}
use mathlib.Core.Bool.{Bool, true, false, not}
use mathlib.Core.List.{List, [], ◌∷◌, ◌++◌, append_assoc, append-nil}
use Prim.Native.Nat.{ℕ, zero, suc, ◌+◌, ◌/◌, ◌%◌, ◌≤◌, ◌<◌}
use native.Mathlib.Numerals.{add-one}
use native.Mathlib.Omega.{arith}
use lib.Dec.{eqb}
use lib.ListN.{length, get_or, set, take, drop, replicate, length-append, length-set, drop_of_length-le}
use lib.Seq.{append_snoc, take_all, get_or-set_same, get_or-set_other}
use borrow.Author.Tests.{eqb-true, eqb-false, eq-eqb, ne_eqb}
use denote.Param.Members.{Mut}
use Rattle.std.specs.Fn.{Called}
use Rattle.std.specs.Array.{IsFromFnResultFrom, IsFromFnResult}
use Rattle.basics.specs.Tests.{choose}
use Rattle.basics.specs.Lists.{padded, values_from}
use Rattle.basics.proofs.Lists.{blank_at, front, first_more, padded_more, values_long, value_more}
use Rattle.board.specs.declared.Place.{Place}
use Rattle.board.specs.Spots.{Spot}
use Rattle.tree.specs.declared.Run.{Run}
use Rattle.board.specs.Spots.{most_pins, place_at}
use Rattle.least.specs.Asking.{mark_at}
use Rattle.tree.specs.Trees.{most_runs}
use Rattle.tree.specs.Reached.{run_at}
use Rattle.copper.specs.declared.Shape.{Shape}
use Rattle.copper.specs.declared.Shape.TheVariants.{Straight, Lower, Upper}
use Rattle.copper.specs.declared.Leg.{Leg}
use Rattle.copper.specs.Shapes.{first_leg, second_leg, leg_count, legs_of}
use Rattle.laying.specs.declared.RunEntry.{RunEntry}
use Rattle.laying.specs.Entries.{no_run, most_legs, no_leg, run_entries, leg_entries}
use Rattle.laying.specs.Reaching.{reached_as, nears_of, Numbered, upper_in, shaped_run, shaped_in, entries_in, legs_of_entry, legs_of_entries, strip}

-- ---- entries before blanks
-- A leg put after the last takes the place of a blank.
leg_more : (l : List Leg) (x : Leg) → length l < most_legs → set (leg_entries l) (length l) x ≡ leg_entries (l ++ (x ∷ []))
unfolding leg_entries
leg_more l x h = padded_more most_legs no_leg l x h

-- Values stored one after the other over blanks: one more.
pub values_next : {A : Type 0} (n : ℕ) (d : A) (f : ℕ → A) (o : List A) (i : ℕ) (x : A) → i < n → o ≡ padded n d (values_from f 0 i) → x ≡ f i
    → set o i x ≡ padded n d (values_from f 0 (i + 1))
values_next n d f o i x h e g =
    let l : List _ = values_from f 0 i in
    let m : length l ≡ i = values_long f 0 i in
    ap₂ (λ (a : List _) (y : _). set a i y) e g
    ∙ ap (λ (k : ℕ). set (padded n d l) k (f i)) (sym m)
    ∙ padded_more n d l (f i) (let z : length l < n = omega arith in z)
    ∙ ap (padded n d) (sym (value_more f i))

-- The run entries that a mask gives, one after the other.
module _ (feed : List Spot) (favoured : Bool) (mask : ℕ) (runs : List Run) where
  -- None yet,
  pub entries_none : replicate most_runs no_run ≡ run_entries (values_from (shaped_in feed favoured mask runs) 0 0)
  unfolding run_entries values_from
  entries_none = refl

  -- one more,
  pub entries_turn : (entries : List RunEntry) (i : ℕ) (upper : Bool) (x : RunEntry) → i < most_runs
      → entries ≡ run_entries (values_from (shaped_in feed favoured mask runs) 0 i) → upper ≡ upper_in favoured mask i → x ≡ shaped_run feed (run_at runs i) upper
      → set entries i x ≡ run_entries (values_from (shaped_in feed favoured mask runs) 0 (i + 1))
  unfolding run_entries shaped_in
  entries_turn entries i upper x h e u g = values_next most_runs no_run (shaped_in feed favoured mask runs) entries i x h e (rw u at g)

  -- and all.
  pub entries_all : (entries : List RunEntry) (i : ℕ) → length runs ≤ i → i ≤ length runs → entries ≡ run_entries (values_from (shaped_in feed favoured mask runs) 0 i)
      → entries ≡ entries_in feed favoured mask runs
  unfolding entries_in
  entries_all entries i h k g = let e : i ≡ length runs = omega arith in rw (← e) g

-- ---- the pins as they are reached
-- A list made by a closure that leaves itself as it was, and makes f of each number.
module _ {A F : Type 0} {g : Mut F (ℕ × Unit {0}) A} (f : ℕ → A) (h : F) (d : A) (makes : (i : ℕ) (a : A) (q : F) → Called g h (i, tt) a q → (q ≡ h) × (a ≡ f i))
    (ys : List A) where
  -- Its entries from i on are the values from i on,
  made_from : (n i : ℕ) → length ys ≡ i + n → IsFromFnResultFrom g h ys i n → drop i ys ≡ values_from f i n
  unfolding values_from
  made_from zero i long m = drop_of_length-le ys {i = i} (omega arith)
  made_from (suc n) i long m =
      let e = makes i m.1 m.0 m.3 in
      front d ys i (omega arith)
      ∙ ap₂ (λ (a : A) (l : List A). a ∷ l) (m.2.1 d ∙ e.1)
      (made_from n (i + 1) (omega arith) (rw e.0 at m.4) ∙ ap (λ (j : ℕ). values_from f j n) (add-one i))

  -- and all are the values.
  pub made_values : (n : ℕ) → IsFromFnResult g h ys n → ys ≡ values_from f 0 n
  made_values n m = made_from n 0 (omega (arith, m.long)) m.each

-- An entry for each pin: the number as which it is reached by the first k runs.
pub record Told (runs : List Run) (order : List ℕ) (k : ℕ) : Type 0 where
  pub long : length order ≡ most_pins
  pub is : (pin : ℕ) → pin < most_pins → get_or order pin 0 ≡ reached_as runs k pin

-- So far in one pass over the runs: the numbers of the near pins of the first k, and of all pins.
pub record Numbering (runs : List Run) (order nears : List ℕ) (k : ℕ) : Type 0 where
  pub in_range : Numbered runs
  pub to : k ≤ length runs
  pub told : Told runs order k
  pub are : nears ≡ padded most_runs 0 (values_from (λ r. reached_as runs r (run_at runs r).near) 0 k)

module _ (runs : List Run) where
  -- No pin is reached yet.
  pub numbering_none : Numbered runs → Numbering runs (replicate most_pins 0) (replicate most_runs 0) 0
  unfolding reached_as values_from
  numbering_none n = record { in_range = n; to = omega arith; told = record { long = refl; is = λ pin h. blank_at {A = ℕ} most_pins pin 0 }; are = refl }

  module _ (order nears : List ℕ) (k : ℕ) (s : Numbering runs order nears k) (h : k < length runs) where
    -- The far pin of the next run has its entry.
    far_entry : (run_at runs k).far < length order
    far_entry = omega (arith, s.told.long, s.in_range.far k h)

    -- Its far pin is reached as the next number.
    told_turn : Told runs (set order (run_at runs k).far (k + 1)) (k + 1)
    told_turn =
        record {
          long = length-set order (run_at runs k).far (k + 1) ∙ s.told.long;
          is = λ pin l. rw (add-one k) (go pin l (eqb (run_at runs k).far pin) refl);
        }
      where
        f : ℕ
        f = (run_at runs k).far

        go : (pin : ℕ) → pin < most_pins → (b : Bool) → eqb f pin ≡ b → get_or (set order f (suc k)) pin 0 ≡ reached_as runs (suc k) pin
        go pin l true q =
            unfold reached_as choose in
            rw (q, sym (eqb-true f pin q)) (get_or-set_same order f (suc k) 0 far_entry)
        go pin l false q =
            unfold reached_as choose in
            rw q (get_or-set_other order f pin (suc k) 0 (λ e. eqb-false f pin q (sym e)) ∙ s.told.is pin l)

    -- One run more.
    pub numbering_turn : Numbering runs (set order (run_at runs k).far (k + 1)) (set nears k (get_or order (run_at runs k).near 0)) (k + 1)
    numbering_turn =
        record {
          in_range = s.in_range;
          to = omega arith;
          told = told_turn;
          are = values_next most_runs 0 (λ r. reached_as runs r (run_at runs r).near) nears k _ (omega (arith, s.in_range.few)) s.are
              (s.told.is (run_at runs k).near (s.in_range.near k h));
        }

  -- All runs.
  pub numbering_all : (order nears : List ℕ) (k : ℕ) → Numbering runs order nears k → length runs ≤ k → nears ≡ nears_of runs
  unfolding nears_of
  numbering_all order nears k s h = let e : k ≡ length runs = omega (arith, s.to) in rw (← e) s.are

-- ---- the small functions
-- A run that is marked has the other shape ..
pub upper_marked : (favoured : Bool) (mask r : ℕ) → mask / mark_at r % 2 ≡ 1 → not favoured ≡ upper_in favoured mask r
unfolding upper_in
upper_marked favoured mask r e = rw (eq-eqb (mask / mark_at r % 2) 1 e)

-- .. and one that is not the favoured.
pub upper_unmarked : (favoured : Bool) (mask r : ℕ) → (mask / mark_at r % 2 ≡ 1 → ⊥) → favoured ≡ upper_in favoured mask r
unfolding upper_in
upper_unmarked favoured mask r e = rw (ne_eqb (mask / mark_at r % 2) 1 e)

-- A straight run puts one leg after those that are there.
one_more : (old : List Leg) (shape : Shape) (near far : Place) (n : ℕ) → n ≡ leg_count shape → (n ≡ 2 → ⊥) → length old < most_legs
    → set (leg_entries old) (length old) (first_leg shape near far) ≡ leg_entries (old ++ legs_of shape near far)
unfolding legs_of
one_more old Straight near far n e h l = leg_more old (first_leg Straight near far) l
one_more old Lower near far n e h l = absurd (h e)
one_more old Upper near far n e h l = absurd (h e)

-- Two legs put after those that are there,
both_more : (old : List Leg) (a b : Leg) → length old + 1 < most_legs
    → set (set (leg_entries old) (length old) a) (length old + 1) b ≡ leg_entries (old ++ (a ∷ b ∷ []))
both_more old a b l =
    let n : length (old ++ (a ∷ [])) ≡ length old + 1 = length-append old (a ∷ []) in
    ap₂ (λ (z : List Leg) (k : ℕ). set z k b) (leg_more old a (omega arith)) (sym n)
    ∙ leg_more (old ++ (a ∷ [])) b (omega arith)
    ∙ ap leg_entries (append_snoc old a (b ∷ []))

-- as a bent run puts them.
two_more : (old : List Leg) (shape : Shape) (near far : Place) (n : ℕ) → n ≡ leg_count shape → n ≡ 2 → length old + 1 < most_legs
    → set (set (leg_entries old) (length old) (first_leg shape near far)) (length old + 1) (second_leg shape near far)
    ≡ leg_entries (old ++ legs_of shape near far)
unfolding legs_of
two_more old Straight near far n e h l = absurd (omega arith)
two_more old Lower near far n e h l = both_more old (first_leg Lower near far) (second_leg Lower near far) l
two_more old Upper near far n e h l = both_more old (first_leg Upper near far) (second_leg Upper near far) l

-- A run has as many legs as its shape counts,
pub legs_many : (shape : Shape) (near far : Place) → length (legs_of shape near far) ≡ leg_count shape
unfolding legs_of
legs_many Straight near far = refl
legs_many Lower near far = refl
legs_many Upper near far = refl

-- and so has its run entry;
entry_many : (feed : List Spot) (s : RunEntry) → length (legs_of_entry feed s) ≡ leg_count s.shape
unfolding legs_of_entry
entry_many feed s = legs_many s.shape (place_at feed s.near) (place_at feed s.far)

-- a shape counts at most two,
legs_few : (shape : Shape) → leg_count shape ≤ 2
legs_few Straight = omega arith
legs_few Lower = omega arith
legs_few Upper = omega arith

-- so that a run's legs are at most two.
pub leg_small : (shape : Shape) {n : ℕ} → n ≡ leg_count shape → n ≤ 2
leg_small shape e = omega (arith, legs_few shape)

-- The legs of one run entry more come last.
legs_join : (feed : List Spot) (l : List RunEntry) (x : RunEntry) → legs_of_entries feed (l ++ (x ∷ [])) ≡ legs_of_entries feed l ++ legs_of_entry feed x
unfolding legs_of_entries
legs_join feed [] x = append-nil (legs_of_entry feed x)
legs_join feed (y ∷ l) x =
    ap (λ (z : List Leg). legs_of_entry feed y ++ z) (legs_join feed l x)
    ∙ sym (append_assoc (legs_of_entry feed y) (legs_of_entries feed l) (legs_of_entry feed x))

-- The legs of the first i entries are put.
pub record Put (feed : List Spot) (entries : List RunEntry) (legs : List Leg) (filled i : ℕ) : Type 0 where
  pub many : filled ≡ length (legs_of_entries feed (take i entries))
  pub few : filled ≤ i + i
  pub are : legs ≡ leg_entries (legs_of_entries feed (take i entries))

module _ (feed : List Spot) (entries : List RunEntry) (short : length entries ≤ most_runs) where
  -- None yet.
  pub put_none : Put feed entries (replicate most_legs no_leg) 0 0
  unfolding legs_of_entries leg_entries
  put_none = record { many = refl; few = omega arith; are = refl }

  module _ (legs : List Leg) (filled i n : ℕ) (within : i < length entries) (p : Put feed entries legs filled i) (near far : Place) (a : Leg) where
    abbrev x : RunEntry
    x = get_or entries i no_run

    abbrev old : List Leg
    old = legs_of_entries feed (take i entries)

    -- The legs of one run entry more.
    put_turn : (more : List Leg) → n ≡ leg_count x.shape → more ≡ leg_entries (old ++ legs_of_entry feed x) → Put feed entries more (filled + n) (i + 1)
    put_turn more c e =
        let t : take (i + 1) entries ≡ take i entries ++ (x ∷ []) = sym (first_more no_run entries i (omega arith)) in
        let j : legs_of_entries feed (take (i + 1) entries) ≡ old ++ legs_of_entry feed x = ap (legs_of_entries feed) t ∙ legs_join feed (take i entries) x in
        let m : length (legs_of_entry feed x) ≡ n = entry_many feed x ∙ sym c in
        record {
          many = omega (arith, p.many, ap length j, length-append old (legs_of_entry feed x), m);
          few = omega (arith, p.few, leg_small x.shape c);
          are = e ∙ ap leg_entries (sym j);
        }

    -- A straight run adds one leg ..
    pub put_one : near ≡ place_at feed x.near → far ≡ place_at feed x.far → n ≡ leg_count x.shape → a ≡ first_leg x.shape near far
        → (n ≡ 2 → ⊥) → Put feed entries (set legs filled a) (filled + n) (i + 1)
    unfolding legs_of_entry
    put_one en ef c ea h =
        put_turn (set legs filled a) c
        (rw (p.are, p.many, ea, ← en, ← ef) (one_more old x.shape near far n c h (omega (arith, p.many, p.few))))

    -- .. and a bent run two.
    pub put_two : (b : Leg) → near ≡ place_at feed x.near → far ≡ place_at feed x.far → n ≡ leg_count x.shape
        → a ≡ first_leg x.shape near far → b ≡ second_leg x.shape near far → n ≡ 2
        → Put feed entries (set (set legs filled a) (filled + 1) b) (filled + n) (i + 1)
    unfolding legs_of_entry
    put_two b en ef c ea eb h =
        put_turn (set (set legs filled a) (filled + 1) b) c
        (rw (p.are, p.many, ea, eb, ← en, ← ef) (two_more old x.shape near far n c h (omega (arith, p.many, p.few))))

  -- All of them, with their number.
  pub put_all : (legs : List Leg) (filled i : ℕ) → length entries ≤ i → Put feed entries legs filled i
      → record { count = filled; list = legs } ≡ strip (legs_of_entries feed entries)
  unfolding strip
  put_all legs filled i h p = let e : take i entries ≡ entries = take_all i entries h in rw (p.are, p.many, e)
