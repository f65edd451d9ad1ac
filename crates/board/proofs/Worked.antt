-- Worked cases: numbers at the ends of the board, and places too near, each computed. Assumes nothing.
use mathlib.Core.Path.{◌≡◌, refl}
use mathlib.Core.Bool.{true, false}
use lib.IntN.{pos, negsuc}
use Rattle.basics.specs.Tests.{both}
use Rattle.board.specs.Place.{place, on_board, too_near, closer, difference}

-- 60,000 and -60,000 are on the board, one more on either side is not; 20,001 is an ordinary number.
ends : (on_board (pos 60000) ≡ true) × (on_board (negsuc 59999) ≡ true) × (on_board (pos 60001) ≡ false) × (on_board (negsuc 60000) ≡ false)
    × (on_board (pos 20001) ≡ true)
unfolding on_board both
ends = (refl, refl, refl, refl, refl)

-- Places that differ by 19 in x and in y are too near, a place is too near to itself; 20 in x alone, or in y alone, is far enough.
steps_apart : (too_near (place (pos 0) (pos 0)) (place (negsuc 18) (pos 19)) ≡ true) × (too_near (place (negsuc 4) (pos 3)) (place (negsuc 4) (pos 3)) ≡ true)
    × (too_near (place (pos 0) (pos 0)) (place (negsuc 19) (pos 19)) ≡ false) × (too_near (place (pos 5) (negsuc 9)) (place (pos 5) (pos 10)) ≡ false)
unfolding too_near closer difference both
steps_apart = (refl, refl, refl, refl)
