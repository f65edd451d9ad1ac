-- How far the ends of a run are apart, and that this becomes an f32 without loss. From pins that stand on the board.
use mathlib.Core.Path.{◌≡◌}
use mathlib.Core.Bool.{true, false}
use mathlib.Core.List.{List}
use Prim.Native.Nat.{ℕ, ◌*◌, ◌^◌, ◌≤◌}
use native.Mathlib.Nat.{le_trans}
use lib.Dec.{lit≤}
use lib.IntN.{pos}
use lib.Ieee.{binary32, prec, of_int}
use lib.Ieee.Exact.{HasValue}
use lib.Ieee.Back.{round_whole}
use Rattle.board.specs.Spots.{Spot}
use Rattle.board.specs.Place.{limit}
use Rattle.board.specs.Spots.{all_within}
use Rattle.tree.specs.declared.Run.{Run}
use Rattle.drops.specs.Drops.{distance_of_run}
use Rattle.drops.proofs.Distances.{pins_near}

-- The most that two places of the board are apart, in steps: 240,000.
abbrev pub most_distance : ℕ
most_distance = 4 * limit

-- An f32 holds every whole number up to that.
pub distance_held : (n : ℕ) → n ≤ most_distance → n ≤ 2 ^ prec binary32
distance_held n h = le_trans h (lit≤ tt)

module _ (feed : List Spot) (ok : all_within feed ≡ true) (r : Run) where
  -- The ends of a run are no further apart.
  pub distance_most : distance_of_run feed r ≤ most_distance
  distance_most = pins_near feed ok r.near r.far

  -- THE DISTANCE OF A RUN BECOMES AN F32 WITHOUT LOSS: it is at most 240,000, and the f32 is that number.
  pub distance_exact : (distance_of_run feed r ≤ most_distance) × HasValue (of_int binary32 (pos (distance_of_run feed r))) false (distance_of_run feed r) 1
  unfolding of_int
  distance_exact = (distance_most, round_whole binary32 false (distance_of_run feed r) (distance_held (distance_of_run feed r) distance_most))
