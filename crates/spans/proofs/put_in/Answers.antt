-- `spans::put_in` meets its contract: one of the two spans is left behind in a turn, or neither is. Assumes nothing.
use Rattle.std.proofs.Common.{arith}
use Rattle.std.proofs.lemmas.Grind.{common_steps}
use Rattle.spans.proofs.Walk.{walk_left, walk_joined}
use Rattle.spans.proofs.put_in.Goals.{in-Some, in_default}
use Rattle.spans.proofs.put_in.Goals as goal

pub loop-at-preserved : goal.loop-at-preserved
loop-at-preserved c =
    elim c.match-left_of.branch [
      | in-Some w ↦ grind (arith, common_steps, walk_left)
      | in_default w ↦ grind (arith, common_steps, walk_joined)
    ]
