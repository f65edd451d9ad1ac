-- `drops::drops_over` meets its contract: with the runs that are left still to be taken, the drops come to the same as from the start. Assumes nothing.
use mathlib.Core.Path.{◌≡◌}
use Rattle.std.specs.Prelude.{All, ◌<◌}
use Rattle.std.specs.Iterator.Adapters.{zip_first, zip_second}
use Rattle.std.specs.Slice.Iter.{iter_rest}
use Rattle.board.specs.Spots.{most_pins}
use Rattle.drops.specs.Drops.{drops_after, no_drops}
use Rattle.drops.proofs.drops_over.Given as goal

abbrev pub invariant-loop-run : goal.invariant-loop-run
invariant-loop-run l =
    let left = iter_rest (zip_first l.run-iterator) in
    All (λ r. (r.near < most_pins) × (r.far < most_pins)) left
    × (drops_after l.spots l.sheet.ohms l.drops left (iter_rest (zip_second l.run-iterator)) ≡ drops_after l.spots l.sheet.ohms no_drops l.runs l.currents)
