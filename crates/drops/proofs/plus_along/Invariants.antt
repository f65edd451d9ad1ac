-- `drops::plus_along` meets its contract: what is still to be added gives the same as the whole, and the chain goes up. Assumes nothing.
use mathlib.Core.Path.{◌≡◌}
use Prim.Native.Nat.{ℕ, ◌-◌, ◌<◌}
use Rattle.std.specs.Prelude.{Option, None, Some, IfSome}
use Rattle.tree.specs.Trees.{most_runs}
use Rattle.drops.specs.Passes.{plus_along}
use Rattle.drops.proofs.plus_along.Given as goal

abbrev pub invariant-loop-next : goal.invariant-loop-next
invariant-loop-next l =
    IfSome l.next (λ r. r < most_runs) × (plus_along l.chain l.currents most_runs l.next l.total ≡ plus_along l.chain l.currents most_runs l.fn.first l.own)

-- How many runs can still be met.
abbrev runs_left : Option ℕ → ℕ
runs_left None = 0
runs_left (Some r) = most_runs - r

abbrev pub decreases-loop-next : goal.decreases-loop-next
decreases-loop-next l = runs_left l.next
