-- Being too near goes both ways, whatever the numbers: no range is asked. Assumes nothing.
use mathlib.Core.Path.{◌≡◌}
use Prim.Native.Nat.{ℕ, zero, suc, ◌+◌, ◌-◌}
use native.Mathlib.Omega.{arith}
use lib.IntN.{ℤ, pos, negsuc}
use Rattle.board.specs.declared.Place.{Place}
use Rattle.board.specs.Place.{difference, closer, too_near}
use Rattle.board.proofs.Signed.{abs_sub}

-- How far a number is above 0.
abbrev up : ℤ → ℕ
up (pos n) = n
up (negsuc n) = 0

-- How far a number lies below zero.
abbrev down : ℤ → ℕ
down (pos n) = 0
down (negsuc n) = suc n

-- How far two numbers are apart, in ℕ.
difference_is : (a b : ℤ) → difference a b ≡ (up a + down b - (up b + down a)) + (up b + down a - (up a + down b))
unfolding difference
difference_is (pos a) (pos zero) = omega arith
difference_is (pos a) (pos (suc b)) = omega (arith, abs_sub a (suc b))
difference_is (pos a) (negsuc b) = omega arith
difference_is (negsuc a) (pos zero) = omega (arith, abs_sub 0 (suc a))
difference_is (negsuc a) (pos (suc b)) = omega arith
difference_is (negsuc a) (negsuc b) = omega (arith, abs_sub (suc b) (suc a))

-- Two numbers are as far apart from either side.
difference_turned : (a b : ℤ) → difference a b ≡ difference b a
difference_turned a b = omega (arith, difference_is a b, difference_is b a)

-- Two places are too near to each other, not one to the other.
pub near_turned : (a b : Place) → too_near a b ≡ too_near b a
unfolding too_near closer
near_turned a b = rw (difference_turned a.x b.x, difference_turned a.y b.y)
