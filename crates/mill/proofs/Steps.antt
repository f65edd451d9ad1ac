-- Steps and their numbers: different numbers are different steps, and a leg's steps are those with the numbers of its span. Assumes nothing.
use mathlib.Core.Path.{◌≡◌, refl, sym, ap, ap₂, ◌∙◌}
use mathlib.Core.Bool.{Bool, true, false}
use mathlib.Core.List.{◌∷◌, map}
use Prim.Native.Nat.{ℕ, zero, suc, ◌+◌, ◌-◌, ◌*◌, ◌/◌, ◌%◌, ◌≤◌, ◌<◌, min, max}
use native.Mathlib.Omega.{arith}
use lib.IntN.{ℤ}
use lib.Dec.{eqb}
use borrow.Author.Tests.{lt-ltb, le-ltb, ltb-false, eqb-true, eq-eqb}
use Rattle.basics.specs.Tests.{choose}
use Rattle.basics.proofs.Tests.{both_left, both_right, both_of, same_test}
use Rattle.board.specs.declared.Place.{Place}
use Rattle.board.specs.Place.{place, inside, same_number}
use Rattle.board.proofs.Board.{number_same, number_self}
use Rattle.copper.specs.declared.Leg.{Leg}
use Rattle.copper.specs.Length.{Step, across, up, same_step, steps_of}
use Rattle.spans.specs.Spans.{span, between_of}
use Rattle.spans.proofs.Numbers.{up_from, numbers_of}
use Rattle.mill.specs.Segments.{horizontal}
use Rattle.mill.specs.Numbered.{width, columns, counted, uncounted, row_number, column_number, span_of, is_inside, is_row, place_of}
use Rattle.mill.proofs.Counting.{longest, count_back_lem, Counted, count, x_on, y_on, count_next, smaller_count, difference_count}
use Rattle.mill.proofs.Lines.{place_on, leg_on, step_on, steps_on, steps_none, steps_more, steps_along}

-- ---- steps by their numbers
-- The step that begins at a place, of its row or of its column.
abbrev step_from : Bool → Place → Step
step_from true a = across a.x a.y
step_from false a = up a.x a.y

-- The step with a number.
unfoldable pub step_at : ℕ → Step
step_at n = step_from (is_row n) (place_of n)

-- The number of a step.
unfoldable number_of : Step → ℕ
number_of (across x y) = row_number (place x y)
number_of (up x y) = column_number (place x y)

-- The step with a number has that number,
number_back : (n : ℕ) → number_of (step_at n) ≡ n
unfolding number_of step_at place_of row_number column_number choose
number_back n = by_test (is_row n) refl
  where
    by_test : (t : Bool) → is_row n ≡ t
        → number_of (step_from t (choose t (place (uncounted (n % width)) (uncounted (n / width)))
        (place (uncounted ((n - columns) / width)) (uncounted (n % width))))) ≡ n
    by_test true e = rw (count_back_lem (n % width), count_back_lem (n / width)) (omega arith)
    by_test false e = let h : columns ≤ n = ltb-false n columns e in rw (count_back_lem ((n - columns) / width), count_back_lem (n % width)) (omega arith)

-- so that a step has only one number.
pub step_number : (a b : ℕ) → step_at a ≡ step_at b → a ≡ b
step_number a b e = sym (number_back a) ∙ ap number_of e ∙ number_back b

-- Steps that are the same are equal,
step_same : (s t : Step) → same_step s t ≡ true → s ≡ t
unfolding same_step
step_same (across x y) (across v w) e = ap₂ across (number_same x v (both_left _ _ e)) (number_same y w (both_right _ _ e))
step_same (across x y) (up v w) e = cc
step_same (up x y) (across v w) e = cc
step_same (up x y) (up v w) e = ap₂ up (number_same x v (both_left _ _ e)) (number_same y w (both_right _ _ e))

-- and a step is the same as itself.
step_self : (s : Step) → same_step s s ≡ true
unfolding same_step
step_self (across x y) = both_of (number_self x) (number_self y)
step_self (up x y) = both_of (number_self x) (number_self y)

-- So steps are the same where their numbers are.
pub same_numbers : (a b : ℕ) → same_step (step_at a) (step_at b) ≡ eqb a b
same_numbers a b =
    same_test (same_step (step_at a) (step_at b)) (eqb a b)
    (λ e. eq-eqb a b (step_number a b (step_same (step_at a) (step_at b) e)))
    (λ e. let same : a ≡ b = eqb-true a b e in rw same (step_self (step_at b)))

-- ---- lines by their numbers
-- Where the numbers of a line begin.
abbrev pub base : Bool → ℕ → ℕ
base true line = line * width
base false line = columns + line * width

-- A number of a line, which lies below the width:
module _ (row : Bool) (line at : ℕ) (h : line < width) (k : at < width) where
  -- it is that of a step in a row just where the line is one;
  row_is : is_row (base row line + at) ≡ row
  row_is = by_row row
    where
      by_row : (r : Bool) → is_row (base r line + at) ≡ r
      by_row true = lt-ltb (line * width + at) columns (omega arith)
      by_row false = le-ltb (columns + line * width + at) columns (omega arith)

  -- this is the place where that step begins,
  pub place_is : place_of (base row line + at) ≡ place_on row (uncounted line) (uncounted at)
  unfolding place_of choose
  place_is = rw row_is (by_row row)
    where
      by_row : (r : Bool)
          → choose r (place (uncounted ((base r line + at) % width)) (uncounted ((base r line + at) / width)))
          (place (uncounted ((base r line + at - columns) / width)) (uncounted ((base r line + at) % width))) ≡ place_on r (uncounted line) (uncounted at)
      by_row true =
          let rest : (line * width + at) % width ≡ at = omega arith in
          let part : (line * width + at) / width ≡ line = omega arith in
          rw (rest, part)
      by_row false =
          let rest : (columns + line * width + at) % width ≡ at = omega arith in
          let part : (columns + line * width + at - columns) / width ≡ line = omega arith in
          rw (rest, part)

  -- and this the step.
  pub step_is : step_at (base row line + at) ≡ step_on row (uncounted line) (uncounted at)
  unfolding step_at
  step_is = rw (row_is, place_is) (by_row row)
    where
      by_row : (r : Bool) → step_from r (place_on r (uncounted line) (uncounted at)) ≡ step_on r (uncounted line) (uncounted at)
      by_row true = refl
      by_row false = refl

-- The steps of a line from a count on are those with the numbers from one on.
line_steps : (row : Bool) (line at n : ℕ) → line < width → at + n ≤ width
    → steps_on row (uncounted line) (uncounted at) n ≡ map step_at (up_from (base row line + at) n)
unfolding up_from
line_steps row line at zero h k = steps_none row (uncounted line) (uncounted at)
line_steps row line at (suc n) h k =
    let next : base row line + suc at ≡ suc (base row line + at) = omega arith in
    steps_more row (uncounted line) (uncounted at) n
    ∙ ap₂ (◌∷◌) (sym (step_is row line at h (omega arith)))
    (ap (λ (z : ℤ). steps_on row (uncounted line) z n) (count_next at)
    ∙ line_steps row line (suc at) n h (omega arith)
    ∙ ap (λ (m : ℕ). map step_at (up_from m n)) next)

-- ---- legs by their spans
-- The leg along a line of the board from one count to another.
abbrev pub leg_at : Bool → ℕ → ℕ → ℕ → Leg
leg_at row line a b = leg_on row (uncounted line) (uncounted a) (uncounted b)

-- A leg of the board lies along a line of it; or in no row and in no column.
pub data Lies (l : Leg) : Type 0 where
  along : (row : Bool) (line a b : ℕ) → line ≤ longest → a ≤ longest → b ≤ longest → horizontal (leg_at row line a b) ≡ row → l ≡ leg_at row line a b → Lies l
  askew : same_number l.from.y l.to.y ≡ false → same_number l.from.x l.to.x ≡ false → Lies l

-- The counts of a place of the board.
record Placed (a : Place) : Type 0 where
  x : Counted a.x
  y : Counted a.y

-- Each place of the board has them.
placed : (a : Place) → inside a ≡ true → Placed a
placed a e = record { x = count a.x (x_on a e); y = count a.y (y_on a e) }

-- Which it is, its two tests decide.
pub lies : (l : Leg) → is_inside l ≡ true → Lies l
lies l e =
    by_test (placed l.from (both_left _ _ e)) (placed l.to (both_right _ _ e))
    (same_number l.from.y l.to.y) (same_number l.from.x l.to.x) refl refl
  where
    by_test : Placed l.from → Placed l.to → (t u : Bool) → same_number l.from.y l.to.y ≡ t → same_number l.from.x l.to.x ≡ u → Lies l
    by_test p q true u f g =
        let same : l.to.y ≡ l.from.y = sym (number_same l.from.y l.to.y f) in
        along true (counted l.from.y) (counted l.from.x) (counted l.to.x) p.y.few p.x.few q.x.few (number_self _)
        (λ i. record { from = record { x = sym p.x.back i; y = sym p.y.back i }; to = record { x = sym q.x.back i; y = (same ∙ sym p.y.back) i } })
    by_test p q false true f g =
        let same : l.to.x ≡ l.from.x = sym (number_same l.from.x l.to.x g) in
        along false (counted l.from.x) (counted l.from.y) (counted l.to.y) p.x.few p.y.few q.y.few
        (rw (p.y.back, q.y.back) f)
        (λ i. record { from = record { x = sym p.x.back i; y = sym p.y.back i }; to = record { x = (same ∙ sym p.x.back) i; y = sym q.y.back i } })
    by_test p q false false f g = askew f g

-- The span of a leg along a line.
pub span_along : (row : Bool) (line a b : ℕ) → horizontal (leg_at row line a b) ≡ row
    → span_of (leg_at row line a b) ≡ between_of (base row line + a) (base row line + b)
unfolding span_of row_number column_number choose
span_along true line a b h = rw (h, count_back_lem line, count_back_lem a, count_back_lem b)
span_along false line a b h = rw (h, number_self (uncounted line), count_back_lem line, count_back_lem a, count_back_lem b)

-- The span of one that lies in no row and in no column has no number.
pub span_askew : (l : Leg) → same_number l.from.y l.to.y ≡ false → same_number l.from.x l.to.x ≡ false → span_of l ≡ span 0 0
unfolding span_of choose
span_askew l f g = rw (f, g)

-- A stretch between two counts, moved up to where its line begins,
moved_low : (from a b : ℕ) → from + min a b ≡ min (from + a) (from + b)
moved_low from a b = omega arith

-- is as long as it was.
moved_length : (from a b : ℕ) → max a b - min a b ≡ max (from + a) (from + b) - min (from + a) (from + b)
moved_length from a b = omega arith

-- A leg's steps are those with the numbers of its span.
pub leg_steps : (l : Leg) → is_inside l ≡ true → steps_of l ≡ map step_at (numbers_of (span_of l))
leg_steps l e = by_line (lies l e)
  where
    by_line : Lies l → steps_of l ≡ map step_at (numbers_of (span_of l))
    by_line (along row line a b p q r h is) =
        rw (is, span_along row line a b h)
        (steps_along row (uncounted line) (uncounted a) (uncounted b) h
        ∙ ap₂ (λ (z : ℤ) (n : ℕ). steps_on row (uncounted line) z n) (smaller_count a b q r) (difference_count a b q r)
        ∙ line_steps row line (min a b) (max a b - min a b) (omega arith) (omega arith)
        ∙ ap₂ (λ (m n : ℕ). map step_at (up_from m n)) (moved_low (base row line) a b) (moved_length (base row line) a b))
    by_line (askew f g) = rw (span_askew l f g) (unfold steps_of choose up_from in rw (f, g))
