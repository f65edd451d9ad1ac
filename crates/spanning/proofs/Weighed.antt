-- Worked cases of weights: parts around zero and at the ends of the board, and ties, each computed. Assumes nothing.
use mathlib.Core.Path.{◌≡◌, refl}
use mathlib.Core.Bool.{true, false}
use lib.IntN.{pos, negsuc}
use Rattle.basics.specs.Tests.{choose}
use Rattle.board.specs.Place.{place, difference, larger, distance_of}
use Rattle.tree.specs.Weight.{weight_of, pair_of, comes_before, by_part, by_number}

-- The weight of (-1, 2) and (3, -1): distance 7, minus 3, minus 3.
weight_case : weight_of (place (negsuc 0) (pos 2)) (place (pos 3) (negsuc 0)) ≡ record { distance = pos 7; rise = negsuc 2; right = negsuc 2 }
unfolding weight_of distance_of difference larger choose
weight_case = refl

-- The weight of two places left of zero has a third part above zero.
weight_left : weight_of (place (negsuc 4) (pos 0)) (place (negsuc 2) (pos 0)) ≡ record { distance = pos 2; rise = pos 0; right = pos 3 }
unfolding weight_of distance_of difference larger choose
weight_left = refl

-- The board's ends: distance 240,000.
weight_ends : weight_of (place (negsuc 59999) (negsuc 59999)) (place (pos 60000) (pos 60000)) ≡ record { distance = pos 240000; rise = negsuc 119999; right = negsuc 59999 }
unfolding weight_of distance_of difference larger choose
weight_ends = refl

-- At equal distance the taller pair comes first.
taller : comes_before (pair_of 2 (place (pos 0) (pos 0)) 3 (place (pos 1) (pos 2))) (pair_of 0 (place (pos 5) (pos 0)) 1 (place (pos 7) (pos 1))) ≡ true
unfolding comes_before pair_of weight_of distance_of difference larger choose by_part by_number
taller = refl

-- Where all parts are equal, the pair with the higher numbers does not come before.
numbers : comes_before (pair_of 3 (place (pos 0) (pos 2)) 1 (place (pos 1) (pos 1))) (pair_of 0 (place (pos 0) (pos 0)) 2 (place (pos 1) (pos 1))) ≡ false
unfolding comes_before pair_of weight_of distance_of difference larger choose by_part by_number
numbers = refl
