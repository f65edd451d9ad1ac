-- What the library's order of floats says of a range: a number is from its start to its end by `le`; and the ends of the ranges, by their bits.
-- Assumes nothing.
use Rattle.std.proofs.Common.{◌≡◌, Bool, true, false, ◌||◌, cond, Some, None, Less, Equal, Greater, refl}
use Rattle.std.specs.Ordering.{partial_le, is_some_and, is_le, float_partial_cmp}
use Rattle.loads.specs.Loads.{nought, one, sixty, hundredth, five_hundred, twelve_thousand}
use lib.Ieee.{Float, eq, le, lt, of_bits, binary32}

-- By whether the first is less, whether they are the same, and whether the second is less.
by_tests : (s t u : Bool) → is_some_and is_le (cond s (Some Less) (cond t (Some Equal) (cond u (Some Greater) None))) ≡ s || t
by_tests true t u = refl
by_tests false true u = refl
by_tests false false true = refl
by_tests false false false = refl

-- The library's test of at most is `le`.
pub at_most_is : (x y : Float) → partial_le float_partial_cmp x y ≡ le x y
unfolding le
at_most_is x y = by_tests (lt x y) (eq x y) (lt y x)

pub nought_is : of_bits binary32 0 ≡ nought
unfolding of_bits
nought_is = refl

pub one_is : of_bits binary32 0x3f80_0000 ≡ one
unfolding of_bits
one_is = refl

pub sixty_is : of_bits binary32 0x4270_0000 ≡ sixty
unfolding of_bits
sixty_is = refl

pub hundredth_is : of_bits binary32 0x3c23_d70a ≡ hundredth
unfolding of_bits
hundredth_is = refl

pub five_hundred_is : of_bits binary32 0x43fa_0000 ≡ five_hundred
unfolding of_bits
five_hundred_is = refl

pub twelve_thousand_is : of_bits binary32 0x463b_8000 ≡ twelve_thousand
unfolding of_bits
twelve_thousand_is = refl

-- All of these.
pub ruleset ranges = (at_most_is, nought_is, one_is, sixty_is, hundredth_is, five_hundred_is, twelve_thousand_is)
