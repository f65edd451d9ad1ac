-- The two answers of `tree_of`, each under its condition; and how many runs there are at most. Assumes nothing.
use mathlib.Core.Path.{◌≡◌, refl, ap}
use mathlib.Core.Bool.{true, false}
use mathlib.Core.List.{List, [], ◌∷◌}
use Prim.Native.Nat.{ℕ, zero, suc, ◌≤◌}
use native.Mathlib.Omega.{arith}
use lib.ListN.{length}
use Rattle.basics.specs.Tests.{both, choose}
use Rattle.refusal.specs.Rows.{first_of}
use Rattle.refusal.specs.declared.Refusal.TheVariants.{NoPins}
use Rattle.std.specs.Prelude.{Ok, Err}
use Rattle.refusal.proofs.Rows.{unlike, distinct, Apart, apart_by}
use Rattle.board.specs.Spots.{Spot}
use Rattle.board.specs.Spots.{most_pins}
use Rattle.tree.specs.Growth.{pins_of, runs_among, runs_of, grown}
use Rattle.tree.specs.Trees.{most_runs, tree_with, none, tree_rows, tree_of}
use Rattle.tree.proofs.Membership.{pins_few}

module _ (feed : List Spot) where
  -- No two rows give the same: there is but 17.
  pub tree_apart : Apart (tree_rows feed)
  unfolding distinct unlike both
  tree_apart = apart_by (tree_rows feed) refl

  -- 17, where there are no pins.
  pub seventeen : none (pins_of feed) ≡ true → tree_of feed ≡ Err NoPins
  unfolding tree_of first_of choose
  seventeen e = rw e

  -- Else the runs.
  pub runs_told : none (pins_of feed) ≡ false → tree_of feed ≡ Ok (tree_with (runs_of feed))
  unfolding tree_of first_of choose
  runs_told e = rw e

-- 17 or the runs.
pub data Answer (feed : List Spot) : Type 0 where
  no_pins : pins_of feed ≡ [] → tree_of feed ≡ Err NoPins → Answer feed
  the_runs : (f : ℕ) (left : List ℕ) → pins_of feed ≡ f ∷ left → tree_of feed ≡ Ok (tree_with (runs_of feed)) → Answer feed

-- Every feed has one of the two.
pub answer : (feed : List Spot) → Answer feed
answer feed = go (pins_of feed) refl
  where
    go : (l : List ℕ) → pins_of feed ≡ l → Answer feed
    go [] e = no_pins e (seventeen feed (ap none e))
    go (f ∷ left) e = the_runs f left e (runs_told feed (ap none e))

-- Growing takes as many runs as it is told.
grown_many : (feed : List Spot) (n : ℕ) (reached left : List ℕ) → length (grown feed n reached left) ≡ n
unfolding grown
grown_many feed zero reached left = refl
grown_many feed (suc n) reached left = ap suc (grown_many feed n _ _)

-- At most 32 pins have at most 31 runs.
among_few : (feed : List Spot) (pins : List ℕ) → length pins ≤ most_pins → length (runs_among feed pins) ≤ most_runs
unfolding runs_among
among_few feed [] h = omega arith
among_few feed (p ∷ left) h = omega (arith, grown_many feed (length left) (p ∷ []) left)

-- So a feed has at most 31 runs.
pub runs_few : (feed : List Spot) → length feed ≡ most_pins → length (runs_of feed) ≤ most_runs
unfolding runs_of pins_of
runs_few feed full = among_few feed (pins_of feed) (omega (arith, pins_few 0 feed))
