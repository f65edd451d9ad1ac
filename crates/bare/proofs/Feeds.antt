-- Lists of x and y as a feed of 32 spots. Assumes nothing.
use mathlib.Core.Path.{◌≡◌}
use mathlib.Core.List.{List}
use lib.IntN.{ℤ}
use lib.ListN.{length}
use Rattle.basics.proofs.Lists.{values_long}
use Rattle.board.specs.Spots.{most_pins}
use Rattle.bare.specs.Bare.{listed_at, feed_of_lists}

-- A feed has 32 spots.
pub feed_many : (xs ys : List ℤ) → length (feed_of_lists xs ys) ≡ most_pins
unfolding feed_of_lists
feed_many xs ys = values_long (listed_at xs ys) 0 most_pins
