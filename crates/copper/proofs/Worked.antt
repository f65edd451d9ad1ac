-- Three boards worked by hand, and one of them with another shape: the lengths of their legs, computed from the definition. Assumes nothing.
use Rattle.std.proofs.Common.{◌≡◌, refl}
use Rattle.basics.specs.Tests.{both, either, choose, any_of}
use Rattle.basics.specs.Sums.{different, sum, how_many}
use Rattle.board.specs.Place.{difference, same_number, smaller}
use Rattle.copper.specs.Shapes.{lower_corner, upper_corner, legs_of}
use Rattle.copper.specs.Length.{same_step, steps_across, steps_up, steps_of, steps_of_all, length_of, legs_of_w3, legs_of_w5, legs_of_w6, legs_of_w6_lower}

-- Their lengths are 160, 80 and 120; the last one's is 160.
pub worked : (length_of legs_of_w3 ≡ 160) × (length_of legs_of_w5 ≡ 80) × (length_of legs_of_w6 ≡ 120) × (length_of legs_of_w6_lower ≡ 160)
unfolding both either choose difference same_number lower_corner upper_corner legs_of same_step steps_across steps_up smaller steps_of steps_of_all any_of different sum how_many length_of
worked = (refl, refl, refl, refl)
