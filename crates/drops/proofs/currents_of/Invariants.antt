-- `drops::currents_of` meets its contract: the runs that are left are the first ones, the currents of the others are reckoned, and these others stand in the
-- chains of their near pins. Assumes nothing.
use mathlib.Core.Path.{◌≡◌}
use lib.ListN.{length, take}
use Rattle.std.specs.Iterator.Adapters.{rev_source, enumerate_source, enumerate_count}
use Rattle.std.specs.Slice.Iter.{iter_rest}
use Rattle.drops.specs.Passes.{amps_at}
use Rattle.drops.proofs.Passes.{Chained, Reckoned}
use Rattle.drops.proofs.currents_of.Given as goal

abbrev pub invariant-loop-at : goal.invariant-loop-at
invariant-loop-at l =
    let left = iter_rest (enumerate_source (rev_source l.at-iterator)) in
    (goal.iterator-loop-at).can_next l.at-iterator
    × (goal.iterator-loop-at).is_finite l.at-iterator
    × (enumerate_count (rev_source l.at-iterator) ≡ 0)
    × (left ≡ take (length left) l.runs)
    × Reckoned (amps_at l.loads l.sheet) l.runs l.currents (length left)
    × Chained l.runs l.currents l.leading l.chain (length left)
