-- Rows and columns as one: places, legs and steps along a line, true for a row and false for a column. Assumes nothing.
use mathlib.Core.Path.{◌≡◌, refl, sym}
use mathlib.Core.Bool.{Bool, true, false}
use mathlib.Core.List.{List, [], ◌∷◌}
use Prim.Native.Nat.{ℕ, suc}
use native.Mathlib.Omega.{arith}
use lib.IntN.{ℤ, pos, negsuc, ◌+ℤ◌}
use lib.Signed.{lt_z}
use borrow.Author.Tests.{ltb-true}
use Rattle.basics.specs.Tests.{choose}
use Rattle.basics.proofs.Tests.{fails_if}
use Rattle.board.specs.declared.Place.{Place}
use Rattle.board.specs.Place.{place, difference, smaller}
use Rattle.board.proofs.Board.{number_same, number_self}
use Rattle.copper.specs.declared.Leg.{Leg}
use Rattle.copper.specs.Length.{Step, across, up, steps_across, steps_up, steps_of}
use Rattle.mill.specs.Segments.{Segment, in_row, in_column, horizontal}

-- The place of a line at a number.
abbrev pub place_on : Bool → ℤ → ℤ → Place
place_on true line at = place at line
place_on false line at = place line at

-- The leg along a line from one number to another.
abbrev pub leg_on : Bool → ℤ → ℤ → ℤ → Leg
leg_on row line a b = record { from = place_on row line a; to = place_on row line b }

-- The step of a line at a number,
abbrev pub step_on : Bool → ℤ → ℤ → Step
step_on true line at = across at line
step_on false line at = up line at

-- and so many steps from there on.
abbrev pub steps_on : Bool → ℤ → ℤ → ℕ → List Step
steps_on true line at n = steps_across at line n
steps_on false line at n = steps_up line at n

-- Of no steps there is none,
pub steps_none : (row : Bool) (line at : ℤ) → steps_on row line at 0 ≡ []
unfolding steps_across steps_up
steps_none true line at = refl
steps_none false line at = refl

-- and one more begins at the number itself.
pub steps_more : (row : Bool) (line at : ℤ) (n : ℕ) → steps_on row line at (suc n) ≡ step_on row line at ∷ steps_on row line (at +ℤ pos 1) n
unfolding steps_across steps_up
steps_more true line at n = refl
steps_more false line at n = refl

-- The steps of a leg along a line; one along a column has two different ends.
pub steps_along : (row : Bool) (line a b : ℤ) → horizontal (leg_on row line a b) ≡ row
    → steps_of (leg_on row line a b) ≡ steps_on row line (smaller a b) (difference a b)
unfolding steps_of choose
steps_along true line a b h = rw h
steps_along false line a b h = rw (h, number_self line)

-- No number is less than itself,
pub not_less : (a : ℤ) → lt_z a a ≡ true → ⊥
not_less (pos n) e = omega (arith, ltb-true n n e)
not_less (negsuc n) e = omega (arith, ltb-true n n e)

-- so that a leg from one number to a larger one is horizontal just along a row.
pub rising_row : (row : Bool) (line a b : ℤ) → lt_z a b ≡ true → horizontal (leg_on row line a b) ≡ row
rising_row true line a b h = number_self line
rising_row false line a b h = fails_if _ (λ e. not_less a (rw (← (number_same a b e)) at h))

-- A leg along a line from one number to a larger one.
pub data Rising (s : Leg) : Type 0 where
  rising : (row : Bool) (line a b : ℤ) → lt_z a b ≡ true → s ≡ leg_on row line a b → Rising s

-- Such a leg is a segment,
pub rising_segment : (row : Bool) (line a b : ℤ) → lt_z a b ≡ true → Segment (leg_on row line a b)
rising_segment true line a b h = in_row refl h
rising_segment false line a b h = in_column refl h

-- and each segment is such a leg.
pub segment_rising : {s : Leg} → Segment s → Rising s
segment_rising {s} (in_row e h) =
    rising true s.from.y s.from.x s.to.x h (λ i. record { from = s.from; to = record { x = s.to.x; y = sym e i } })
segment_rising {s} (in_column e h) =
    rising false s.from.x s.from.y s.to.y h (λ i. record { from = s.from; to = record { x = sym e i; y = s.to.y } })
