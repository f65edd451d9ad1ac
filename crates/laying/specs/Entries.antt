-- Run entries and legs as an answer lists them, and the ends of a run.
use Rattle.std.specs.Prelude.{List, ℕ, ◌*◌}
use Rattle.basics.specs.Lists.{padded}
use Rattle.board.specs.declared.Place.{Place}
use Rattle.board.specs.Spots.{Spot}
use Rattle.board.specs.Place.{middle}
use Rattle.board.specs.Spots.{place_at}
use Rattle.tree.specs.declared.Run.{Run}
use Rattle.tree.specs.Trees.{most_runs}
use Rattle.copper.specs.declared.Shape.{Shape}
use Rattle.copper.specs.declared.Shape.TheVariants.{Straight}
use Rattle.copper.specs.declared.Leg.{Leg}
use Rattle.laying.specs.declared.RunEntry.{RunEntry}

-- A run entry: near, far, shape.
abbrev pub run_entry : ℕ → ℕ → Shape → RunEntry
run_entry near far shape = record { near = near; far = far; shape = shape }

-- A run entry after the last: 0, 0, straight.
abbrev pub no_run : RunEntry
no_run = run_entry 0 0 Straight

-- The most legs that a board has: 31 runs of two legs each.
abbrev pub most_legs : ℕ
most_legs = 2 * most_runs

-- A leg that is not filled.
abbrev pub no_leg : Leg
no_leg = record { from = middle; to = middle }

-- 31 run entries; entries after the last are 0, 0, straight.
unfoldable pub run_entries : List RunEntry → List RunEntry
run_entries runs = padded most_runs no_run runs

-- As many legs as a board can have; those after the last are not filled.
unfoldable pub leg_entries : List Leg → List Leg
leg_entries legs = padded most_legs no_leg legs

-- Where a run begins.
abbrev pub near_end : List Spot → Run → Place
near_end feed r = place_at feed r.near

-- Where a run ends.
abbrev pub far_end : List Spot → Run → Place
far_end feed r = place_at feed r.far
