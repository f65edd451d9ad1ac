-- `laying::legs_of` meets its contract: the legs are put entry by entry. Assumes nothing.
use Rattle.laying.proofs.Filling.{Put}
use Rattle.laying.proofs.legs_of.Given as goal

abbrev pub invariant-loop-entry : goal.invariant-loop-entry
invariant-loop-entry l = Put l.spots l.entries l.list l.count l.entry-index
