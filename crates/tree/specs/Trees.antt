-- The runs of a feed, or 17.
use Rattle.std.specs.Prelude.{Bool, true, false, List, [], ◌∷◌, ℕ, ◌-◌, length, Result}
use Rattle.basics.specs.Lists.{padded}
use Rattle.refusal.specs.Rows.{Row, given, first_of, granted}
use Rattle.refusal.specs.declared.Refusal.{Refusal}
use Rattle.refusal.specs.declared.Refusal.TheVariants.{NoPins}
use Rattle.board.specs.Spots.{Spot}
use Rattle.board.specs.Spots.{most_pins}
use Rattle.tree.specs.declared.Run.{Run}
use Rattle.tree.specs.declared.Tree.{Tree}
use Rattle.tree.specs.Growth.{run, pins_of, runs_of}

-- The answer holds 31 run entries: one fewer than there can be pins.
abbrev pub most_runs : ℕ
most_runs = most_pins - 1

-- Some runs in their entries; entries after the last are 0, 0.
unfoldable pub entries : List Run → List Run
entries runs = padded most_runs (run 0 0) runs

-- Some runs, with their number.
unfoldable pub tree_with : List Run → Tree
tree_with runs = record { count = length runs; runs = entries runs }

-- There are no pins.
abbrev pub none : List ℕ → Bool
none [] = true
none (n ∷ pins) = false

-- 17: no pins to wire.
abbrev pub tree_rows : List Spot → List Row
tree_rows feed = given (none (pins_of feed)) NoPins ∷ []

-- The runs of a feed, where it is not turned away.
unfoldable pub tree_of : List Spot → Result Tree Refusal
tree_of feed = granted (first_of (tree_rows feed)) (tree_with (runs_of feed))
