-- Of two segments the first stands before the second just where its span ends before the other's begins, with a gap. Assumes nothing.
use mathlib.Core.Path.{◌≡◌, sym, ap, ◌∙◌}
use mathlib.Core.Bool.{Bool, true, false}
use mathlib.Core.List.{map}
use mathlib.Core.Logic.{◌⊎◌, inl, inr}
use Prim.Native.Nat.{ℕ, ◌+◌, ◌-◌, ◌≤◌, ◌<◌}
use native.Mathlib.Omega.{arith}
use native.Mathlib.Decide.{dec_lt, ℕ_discrete}
use lib.Dec.{ltb, eqb}
use borrow.Author.Tests.{lt-ltb, ltb-true, eqb-true, eq-eqb, ne_eqb}
use Rattle.basics.specs.Tests.{both, either, choose}
use Rattle.basics.specs.Lists.{Among}
use Rattle.basics.proofs.Tests.{both_left, both_right, both_of, both_no, both-none, both_swap, both_true, either_which, either_left, either_second, opposite}
use Rattle.basics.proofs.Members.{From, in_map, from_map}
use Rattle.board.specs.Place.{same_place}
use Rattle.copper.specs.Length.{Step, steps_of}
use Rattle.spans.specs.declared.Span.{Span}
use Rattle.spans.proofs.Lists.{Inside}
use Rattle.spans.proofs.Numbers.{numbers_of, up_in, up_only}
use Rattle.mill.specs.Segments.{rises, comes_first, joinable, StandsBefore}
use Rattle.mill.specs.Numbered.{uncounted}
use Rattle.mill.proofs.Counting.{longest, same_counts, rises_count}
use Rattle.mill.proofs.Steps.{step_at, step_number, base, leg_at, leg_steps}
use Rattle.mill.proofs.Stretches.{Fit, span_at, row_at, inside_at, span_at_lem}

-- ---- the steps of a stretch
-- A number of a span, with its step.
record Numbered (step : Step) (s : Span) : Type 0 where
  number : ℕ
  within : Inside number s
  is : step_at number ≡ step

-- The steps of a stretch are those with its numbers:
steps_at : (row : Bool) (line a b : ℕ) → Fit line a b → steps_of (leg_at row line a b) ≡ map step_at (numbers_of (span_at row line a b))
steps_at row line a b f =
    leg_steps (leg_at row line a b) (inside_at row line a b f) ∙ ap (λ (s : Span). map step_at (numbers_of s)) (span_at_lem row line a b f)

-- the step with a number of the stretch is one of them,
step_covered : (row : Bool) (line a b : ℕ) → Fit line a b → (n : ℕ) → Inside n (span_at row line a b) → Among (step_at n) (steps_of (leg_at row line a b))
step_covered row line a b f n h =
    rw (steps_at row line a b f) (in_map step_at (up_in (base row line + a) (base row line + b - (base row line + a)) n h.from (omega (arith, h.below))))

-- and each of them has such a number.
covered_step : (row : Bool) (line a b : ℕ) → Fit line a b → (step : Step) → Among step (steps_of (leg_at row line a b)) → Numbered step (span_at row line a b)
covered_step row line a b f step h = found (from_map step_at (numbers_of (span_at row line a b)) (rw (steps_at row line a b f) at h))
  where
    found : From step_at step (numbers_of (span_at row line a b)) → Numbered step (span_at row line a b)
    found r =
        let k : (base row line + a ≤ r.source) × (r.source < base row line + a + (base row line + b - (base row line + a)))
        = up_only (base row line + a) (base row line + b - (base row line + a)) r.among in
        record { number = r.source; within = record { from = k.0; below = omega (arith, f.rise) }; is = r.is }

-- ---- two stretches
-- The order of two counts of two lines, line by line.
abbrev in_order : ℕ → ℕ → ℕ → ℕ → Bool
in_order line a m c = either (ltb line m) (both (eqb line m) (ltb a c))

-- It is the order of the numbers of the board.
rises_at : (line a m c : ℕ) → line ≤ longest → a ≤ longest → m ≤ longest → c ≤ longest
    → rises (uncounted line) (uncounted a) (uncounted m) (uncounted c) ≡ in_order line a m c
unfolding rises
rises_at line a m c h k p q = rw (rises_count line m h p, same_counts line m, rises_count a c k q)

module _ (line a b m c d : ℕ) (f : Fit line a b) (g : Fit m c d) where
  -- Both of rows or both of columns: the order is that of their counts,
  first_alike : (row : Bool) → comes_first (leg_at row line a b) (leg_at row m c d) ≡ in_order line a m c
  unfolding comes_first choose
  first_alike true = rw (row_at true line a b f, row_at true m c d g) (rises_at line a m c f.low (omega (arith, f)) g.low (omega (arith, g)))
  first_alike false = rw (row_at false line a b f, row_at false m c d g) (rises_at line a m c f.low (omega (arith, f)) g.low (omega (arith, g)))

  -- and they could be joined where, in one line, the second begins at the count where the first ends.
  join_alike : (row : Bool) → joinable (leg_at row line a b) (leg_at row m c d) ≡ both (eqb line m) (eqb b c)
  unfolding joinable choose same_place
  join_alike true =
      rw (row_at true line a b f, row_at true m c d g, same_counts b c, same_counts line m)
      (both_true (both (eqb b c) (eqb line m)) ∙ both_swap (eqb b c) (eqb line m))
  join_alike false = rw (row_at false line a b f, row_at false m c d g, same_counts b c, same_counts line m) (both_true (both (eqb line m) (eqb b c)))

  -- A row comes before a column,
  first_mixed : comes_first (leg_at true line a b) (leg_at false m c d) ≡ true
  unfolding comes_first choose
  first_mixed = rw (row_at true line a b f, row_at false m c d g)

  -- they cannot be joined,
  join_mixed : joinable (leg_at true line a b) (leg_at false m c d) ≡ false
  unfolding joinable choose
  join_mixed = rw (row_at true line a b f, row_at false m c d g) (both-none _)

  -- and no column comes before a row.
  first_not : comes_first (leg_at false line a b) (leg_at true m c d) ≡ false
  unfolding comes_first choose
  first_not = rw (row_at false line a b f, row_at true m c d g)

  -- ---- what stands before leaves a gap
  -- What ends in a lower line ends before,
  lower_line : (row : Bool) → line < m → base row line + b < base row m + c
  lower_line true h = omega (arith, f.high)
  lower_line false h = omega (arith, f.high)

  -- and so does, in one line, what ends at a lower count.
  one_line : (row : Bool) → line ≡ m → b < c → base row line + b < base row m + c
  one_line row e h = omega (arith, ap (base row) e)

  -- Where it ends after the count where the second begins, that number lies in the first,
  meets : (row : Bool) → line ≡ m → a < c → c < b → Inside (base row m + c) (span_at row line a b)
  meets row e h k = omega (arith, ap (base row) e)

  -- and in the second.
  begins : (row : Bool) → Inside (base row m + c) (span_at row m c d)
  begins row = omega (arith, g.rise)

  -- Two of rows or of columns, the first standing before the second.
  alike_gap : (row : Bool) → StandsBefore (leg_at row line a b) (leg_at row m c d) → base row line + b < base row m + c
  alike_gap row s = by_order (either_which (ltb line m) (both (eqb line m) (ltb a c)) (sym (first_alike row) ∙ s.ordered))
    where
      by_end : line ≡ m → a < c → Dec (b < c) → Dec (b ≡ c) → base row line + b < base row m + c
      by_end e h (yes k) w = one_line row e k
      by_end e h (no k) (yes w) = absurd (opposite (both_of (eq-eqb line m e) (eq-eqb b c w)) (sym (join_alike row) ∙ s.unjoined))
      by_end e h (no k) (no w) =
          absurd (s.unshared (step_at (base row m + c)) (step_covered row line a b f (base row m + c) (meets row e h (omega arith)))
          (step_covered row m c d g (base row m + c) (begins row)))

      by_order : (ltb line m ≡ true) ⊎ (both (eqb line m) (ltb a c) ≡ true) → base row line + b < base row m + c
      by_order (inl h) = lower_line row (ltb-true line m h)
      by_order (inr h) = by_end (eqb-true line m (both_left _ _ h)) (ltb-true a c (both_right _ _ h)) (dec_lt b c) (ℕ_discrete b c)

  -- ---- what leaves a gap stands before
  -- No step is in both where there is a gap.
  gap_unshared : (row row' : Bool) → base row line + b < base row' m + c
      → (step : Step) → Among step (steps_of (leg_at row line a b)) → Among step (steps_of (leg_at row' m c d)) → ⊥
  gap_unshared row row' h step p q =
      let x : Numbered step (span_at row line a b) = covered_step row line a b f step p in
      let y : Numbered step (span_at row' m c d) = covered_step row' m c d g step q in
      omega (arith, step_number x.number y.number (x.is ∙ sym y.is), x.within.below, y.within.from)

  -- The second lies in a later line, or later in the same.
  gap_lines : (row : Bool) → base row line + b < base row m + c → (line < m) ⊎ ((line ≡ m) × (b < c))
  gap_lines row h = by_test row h (dec_lt line m)
    where
      by_test : (row : Bool) → base row line + b < base row m + c → Dec (line < m) → (line < m) ⊎ ((line ≡ m) × (b < c))
      by_test row h (yes k) = inl k
      by_test true h (no k) = inr (omega (arith, f, g))
      by_test false h (no k) = inr (omega (arith, f, g))

  -- Two of rows or of columns with a gap between them.
  gap_alike : (row : Bool) → base row line + b < base row m + c → StandsBefore (leg_at row line a b) (leg_at row m c d)
  gap_alike row h = by_line (gap_lines row h)
    where
      by_line : (line < m) ⊎ ((line ≡ m) × (b < c)) → StandsBefore (leg_at row line a b) (leg_at row m c d)
      by_line (inl k) =
          record {
            ordered = first_alike row ∙ either_left _ (lt-ltb line m k);
            unshared = gap_unshared row row h;
            unjoined = join_alike row ∙ both_no _ (ne_eqb line m (omega arith));
          }
      by_line (inr k) =
          record {
            ordered = first_alike row ∙ either_second (ltb line m) (both_of (eq-eqb line m k.0) (lt-ltb a c (omega (arith, f.rise))));
            unshared = gap_unshared row row h;
            unjoined = join_alike row ∙ both_swap _ _ ∙ both_no _ (ne_eqb b c (omega arith));
          }

  -- ---- both ways
  -- Where the first stands before the second there is a gap,
  pub stands_gap : (row row' : Bool) → StandsBefore (leg_at row line a b) (leg_at row' m c d) → base row line + b < base row' m + c
  stands_gap true true s = alike_gap true s
  stands_gap true false s = omega (arith, f)
  stands_gap false true s = absurd (opposite s.ordered first_not)
  stands_gap false false s = alike_gap false s

  -- and where there is a gap the first stands before the second.
  pub gap_stands : (row row' : Bool) → base row line + b < base row' m + c → StandsBefore (leg_at row line a b) (leg_at row' m c d)
  gap_stands true true h = gap_alike true h
  gap_stands true false h = record { ordered = first_mixed; unshared = gap_unshared true false h; unjoined = join_mixed }
  gap_stands false true h = absurd (omega (arith, g))
  gap_stands false false h = gap_alike false h
