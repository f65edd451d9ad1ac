-- THE RUNS OF A FEED ARE ITS TREE, in the words of document 01. From pins that stand on the board.
use mathlib.Core.Path.{◌≡◌}
use mathlib.Core.Bool.{true}
use mathlib.Core.List.{List, ◌∷◌}
use Prim.Native.Nat.{ℕ}
use lib.ListN.{length}
use Rattle.board.specs.Spots.{Spot, most_pins, all_within}
use Rattle.tree.specs.Growth.{pins_of, runs_of}
use Rattle.tree.specs.Spanning.{IsTree}
use Rattle.spanning.proofs.Spanning.{runs_join, runs_many, runs_cut, runs_groups, runs_two, runs_only}

-- The runs of a feed that has pins are its tree.
pub runs_are_the_tree : (feed : List Spot) → length feed ≡ most_pins → all_within feed ≡ true → (f : ℕ) (left : List ℕ) → pins_of feed ≡ f ∷ left
    → IsTree feed (runs_of feed)
runs_are_the_tree feed full ok f left e =
    record {
      joins = runs_join feed full ok;
      one_fewer = runs_many feed full ok f left e;
      two_groups = record { to_an_end = runs_groups feed full ok; no_way_across = runs_two feed full ok };
      before_others = runs_cut feed full ok;
      unique = runs_only feed full ok;
    }
