-- `tree::grow` meets its contract: the runs taken, with those still to be taken, are all. Assumes nothing.
use Rattle.board.specs.Spots.{place_at}
use Rattle.tree.proofs.Going.{Going}
use Rattle.tree.proofs.grow.Given as goal

abbrev pub invariant-loop-count : goal.invariant-loop-count
invariant-loop-count l = Going l.spots (place_at l.spots) l.waits l.near l.latest l.runs l.count
