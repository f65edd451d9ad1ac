-- A clean list that covers no steps but those of legs of the board lies on the board: its segments begin and end where such steps do. From legs on the board.
use mathlib.Core.Path.{◌≡◌, refl, sym, ap, ap₂, ◌∙◌}
use mathlib.Core.Bool.{Bool, true, false}
use mathlib.Core.List.{List, [], ◌∷◌, map}
use Prim.Native.Nat.{ℕ, zero, suc, ◌+◌, ◌-◌, ◌≤◌, ◌<◌}
use native.Mathlib.Omega.{arith}
use lib.IntN.{ℤ, pos, negsuc, ◌+ℤ◌, +ℤ_assoc, +ℤ_idr}
use lib.Signed.{lt_z}
use borrow.Author.Tests.{lt-ltb, le-ltb, ltb-true, le-leb}
use Rattle.basics.specs.Tests.{choose, each_of}
use Rattle.basics.specs.Lists.{Among, first, later}
use Rattle.basics.proofs.Tests.{opposite, both_of}
use Rattle.basics.proofs.Anyone.{each_end, each_first, each_rest, each_more}
use Rattle.basics.proofs.Members.{in_front, in_back}
use Rattle.board.specs.Place.{on_board, inside, difference, smaller}
use Rattle.board.proofs.Signed.{abs_sub}
use Rattle.copper.specs.declared.Leg.{Leg}
use Rattle.copper.specs.Length.{Step, across, up, steps_of, steps_of_all}
use Rattle.spans.specs.declared.Span.{Span}
use Rattle.spans.proofs.Lists as Spans
use Rattle.spans.proofs.Lists.{Inside, Covered}
use Rattle.mill.specs.Segments.{Segment, CleanList, none, one}
use Rattle.mill.specs.Numbered.{uncounted, span_of, is_inside}
use Rattle.mill.proofs.Counting.{longest, on_board_lem, count_next}
use Rattle.mill.proofs.Lines.{leg_on, step_on, steps_on, steps_more, steps_along, not_less, rising_row, Rising, rising, segment_rising}
use Rattle.mill.proofs.Steps.{step_at, base, step_is}
use Rattle.mill.proofs.Stretches.{low_of, high_of, Lined, lined, leg_lined}
use Rattle.mill.proofs.Covering.{Numbered, step-numbered}

-- ---- the first and the last step of a segment
-- Of a number and a larger one the first is the smaller,
smaller_first : (a b : ℤ) → lt_z a b ≡ true → smaller a b ≡ a
unfolding smaller choose
smaller_first (pos m) (pos n) e = rw (le-leb m n (omega (arith, ltb-true m n e)))
smaller_first (pos m) (negsuc n) e = absurd (opposite e refl)
smaller_first (negsuc m) (pos n) e = refl
smaller_first (negsuc m) (negsuc n) e = rw (le-leb n m (omega (arith, ltb-true n m e)))

-- and the second is as far on as they differ.
reached : (a b : ℤ) → lt_z a b ≡ true → a +ℤ pos (difference a b) ≡ b
unfolding difference
reached (pos m) (pos zero) e = absurd (omega (arith, ltb-true m 0 e))
reached (pos m) (pos (suc n)) e = ap pos (omega (arith, abs_sub m (suc n), ltb-true m (suc n) e))
reached (pos m) (negsuc n) e = absurd (opposite e refl)
reached (negsuc m) (pos zero) e = rw (abs_sub 0 (suc m), le-ltb (0 - suc m + (suc m - 0)) (suc m) (omega arith)) (ap pos (omega arith))
reached (negsuc m) (pos (suc n)) e = rw (le-ltb (suc (suc (m + n))) (suc m) (omega arith)) (ap pos (omega arith))
reached (negsuc m) (negsuc n) e =
    let h : n < m = ltb-true n m e in
    rw (abs_sub (suc n) (suc m), lt-ltb (suc n - suc m + (suc m - suc n)) (suc m) (omega arith)) (ap negsuc (omega arith))

-- So many steps from a number on end with the one that is so many on, less one.
last_step : (row : Bool) (line at : ℤ) (n : ℕ) → Among (step_on row line (at +ℤ pos n)) (steps_on row line at (suc n))
last_step row line at zero = rw (steps_more row line at 0, +ℤ_idr at) (first refl)
last_step row line at (suc n) =
    let one_on : at +ℤ pos 1 +ℤ pos n ≡ at +ℤ pos (suc n) = +ℤ_assoc at (pos 1) (pos n) ∙ ap (λ (k : ℕ). at +ℤ pos k) (let e : 1 + n ≡ suc n = omega arith in e) in
    rw (steps_more row line at (suc n)) (later (rw one_on at (last_step row line (at +ℤ pos 1) n)))

-- Among the steps of a leg along a line are the one where it begins, and one that ends where it ends.
record Ended (row : Bool) (line a b : ℤ) : Type 0 where
  begins : Among (step_on row line a) (steps_of (leg_on row line a b))
  last : ℤ
  next : last +ℤ pos 1 ≡ b
  ends : Among (step_on row line last) (steps_of (leg_on row line a b))

-- So it is for one that rises.
ended : (row : Bool) (line a b : ℤ) → lt_z a b ≡ true → Ended row line a b
ended row line a b h = by_number (difference a b) refl
  where
    steps_are : (n : ℕ) → difference a b ≡ n → steps_of (leg_on row line a b) ≡ steps_on row line a n
    steps_are n e =
        steps_along row line a b (rising_row row line a b h)
        ∙ ap₂ (λ (z : ℤ) (k : ℕ). steps_on row line z k) (smaller_first a b h) e

    by_number : (n : ℕ) → difference a b ≡ n → Ended row line a b
    by_number zero e =
        let same : b ≡ a = sym (reached a b h) ∙ ap (λ (k : ℕ). a +ℤ pos k) e ∙ +ℤ_idr a in
        absurd (not_less a (rw same at h))
    by_number (suc n) e =
        let one_on : a +ℤ pos n +ℤ pos 1 ≡ a +ℤ pos (suc n) = +ℤ_assoc a (pos n) (pos 1) ∙ ap (λ (k : ℕ). a +ℤ pos k) (let f : n + 1 ≡ suc n = omega arith in f) in
        record {
          begins = rw (steps_are (suc n) e, steps_more row line a n) (first refl);
          last = a +ℤ pos n;
          next = one_on ∙ ap (λ (k : ℕ). a +ℤ pos k) (sym e) ∙ reached a b h;
          ends = rw (steps_are (suc n) e) (last_step row line a n);
        }

-- ---- steps of the board
-- The line of a step,
abbrev line_of : Step → ℤ
line_of (across x y) = y
line_of (up x y) = x

-- and the number where it begins.
abbrev at_of : Step → ℤ
at_of (across x y) = x
at_of (up x y) = y

-- A step of the board begins and ends on a line of it.
record OnBoard (step : Step) : Type 0 where
  line : on_board (line_of step) ≡ true
  begins : on_board (at_of step) ≡ true
  ends : on_board (at_of step +ℤ pos 1) ≡ true

-- The step at a count of a line of the board that is not the last is such a step.
step_on_lem : (row : Bool) (line at : ℕ) → line ≤ longest → at < longest → OnBoard (step_on row (uncounted line) (uncounted at))
step_on_lem true line at h k = record { line = on_board_lem line h; begins = on_board_lem at (omega arith); ends = rw (count_next at) (on_board_lem (suc at) k) }
step_on_lem false line at h k = record { line = on_board_lem line h; begins = on_board_lem at (omega arith); ends = rw (count_next at) (on_board_lem (suc at) k) }

-- So is the step with a number of a span of one line,
lined_step : (n : ℕ) {s : Span} → Inside n s → Lined s → OnBoard (step_at n)
lined_step n {s} h (lined row line a b f e) =
    let low : s.low ≡ base row line + a = ap low_of e in
    let high : s.high ≡ base row line + b = ap high_of e in
    let at : ℕ = n - base row line in
    let is : n ≡ base row line + at = omega (arith, h.from) in
    let few : at < longest = omega (arith, h.below, f.high) in
    rw (ap step_at is ∙ step_is row line at (omega (arith, f.low)) (omega arith)) (step_on_lem row line at f.low few)

-- with one that the spans of legs of the board cover,
covered_step : (n : ℕ) (legs : List Leg) → each_of is_inside legs ≡ true → Covered n (map span_of legs) → OnBoard (step_at n)
covered_step n [] on h = elim h [ ]
covered_step n (l ∷ ls) on (Spans.here h) = lined_step n h (leg_lined l (each_first is_inside l ls on) (omega (arith, h.from, h.below)))
covered_step n (l ∷ ls) on (Spans.later h) = covered_step n ls (each_rest is_inside l ls on) h

-- and each step that they cover.
step_of : (legs : List Leg) → each_of is_inside legs ≡ true → (step : Step) → Among step (steps_of_all legs) → OnBoard step
step_of legs on step h = let r : Numbered step legs = step-numbered legs on step h in rw r.is at (covered_step r.number legs on r.covered)

-- ---- segments
-- A leg along a line that begins and ends with such steps is on the board.
ends-inside : (row : Bool) (line a b : ℤ) → on_board line ≡ true → on_board a ≡ true → on_board b ≡ true → is_inside (leg_on row line a b) ≡ true
unfolding inside
ends-inside true line a b h p q = both_of (both_of p h) (both_of q h)
ends-inside false line a b h p q = both_of (both_of h p) (both_of h q)

-- A segment whose steps are steps of the board is on the board.
segment_inside : (s : Leg) → Segment s → ((step : Step) → Among step (steps_of s) → OnBoard step) → is_inside s ≡ true
segment_inside s g on = by_line (segment_rising g)
  where
    by_line : Rising s → is_inside s ≡ true
    by_line (rising row line a b h e) = rw e (by_ends (ended row line a b h) (rw e at on))
      where
        told : (r : Bool) (at : ℤ) → OnBoard (step_on r line at) → (on_board line ≡ true) × (on_board at ≡ true) × (on_board (at +ℤ pos 1) ≡ true)
        told true at o = (o.line, o.begins, o.ends)
        told false at o = (o.line, o.begins, o.ends)

        by_ends : Ended row line a b → ((step : Step) → Among step (steps_of (leg_on row line a b)) → OnBoard step) → is_inside (leg_on row line a b) ≡ true
        by_ends w on' =
            let p = told row a (on' (step_on row line a) w.begins) in
            let q = told row w.last (on' (step_on row line w.last) w.ends) in
            ends-inside row line a b p.0 p.1 (rw w.next at q.2)

-- So are the segments of a clean list that covers no other steps.
list_inside : {l : List Leg} → CleanList l → ((step : Step) → Among step (steps_of_all l) → OnBoard step) → each_of is_inside l ≡ true
unfolding steps_of_all
list_inside none on = each_end refl is_inside
list_inside (one {s = s} {l = l} g f c) on =
    each_more is_inside s l (segment_inside s g (λ step h. on step (in_front (steps_of_all l) h))) (list_inside c (λ step h. on step (in_back (steps_of s) h)))

-- A clean list that covers no steps but those of legs of the board lies on the board.
pub clean_inside : (legs : List Leg) → each_of is_inside legs ≡ true → {l : List Leg} → CleanList l
    → ((step : Step) → Among step (steps_of_all l) → Among step (steps_of_all legs)) → each_of is_inside l ≡ true
clean_inside legs on c there = list_inside c (λ step h. step_of legs on step (there step h))
