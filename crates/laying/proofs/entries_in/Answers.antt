-- `laying::entries_in` meets its contract: the entries are filled from the front. Assumes nothing.
use native.Mathlib.Omega.{arith}
use Rattle.laying.proofs.Filling.{entries_none, entries_turn, entries_all}
use Rattle.laying.proofs.entries_in.Goals as goal

pub loop-at-init : goal.loop-at-init
loop-at-init c = entries_none _ _ _ _

pub loop-at-preserved : goal.loop-at-preserved
loop-at-preserved c = entries_turn _ _ _ _ _ _ _ _ (omega arith) c.loop-at.invariant c.upper_in.ensures c.shaped.ensures

pub returns : goal.returns
returns c = entries_all _ _ _ _ _ _ c.loop-at-test.false c.loop-at.auto.at-end c.loop-at.invariant
