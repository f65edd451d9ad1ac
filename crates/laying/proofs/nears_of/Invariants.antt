-- `laying::nears_of` meets its contract, in one pass over the runs. Assumes nothing.
use Rattle.laying.proofs.Filling.{Numbering}
use Rattle.laying.proofs.nears_of.Given as goal

abbrev pub invariant-loop-at : goal.invariant-loop-at
invariant-loop-at l = Numbering l.runs l.order l.nears l.at
