-- `laying::nears_of` meets its contract, in one pass over the runs. Assumes nothing.
use Rattle.laying.proofs.Filling.{numbering_none, numbering_turn, numbering_all}
use Rattle.laying.proofs.nears_of.Goals as goal

pub loop-at-init : goal.loop-at-init
loop-at-init c = numbering_none _ c.requires

pub loop-at-preserved : goal.loop-at-preserved
loop-at-preserved c = numbering_turn _ _ _ _ c.loop-at.invariant c.loop-at-test.true

pub returns : goal.returns
returns c = numbering_all _ _ _ _ c.loop-at.invariant c.loop-at-test.false
