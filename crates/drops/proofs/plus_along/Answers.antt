-- `drops::plus_along` meets its contract: what is still to be added gives the same as the whole, and the chain goes up. Assumes nothing.
use mathlib.Core.Path.{◌∙◌}
use Prim.Native.Nat.{◌<◌}
use lib.ListN.{get_or}
use Rattle.std.specs.Prelude.{None}
use Rattle.std.proofs.lemmas.Option.{IfSome_then}
use Rattle.tree.specs.Trees.{most_runs}
use Rattle.drops.specs.Passes.{plus_along}
use Rattle.drops.proofs.Passes.{along_next}
use Rattle.drops.proofs.plus_along.Goals as goal

pub loop-next-preserved : goal.loop-next-preserved
loop-next-preserved c =
    let a = c.args in
    let r = c.in-Some.run' in
    let low : r < most_runs = rw c.in-Some.is at c.loop-next.invariant.0 in (
      IfSome_then (get_or a.chain.now r None) (c.requires.0 r low) (λ n q. q.1),
      along_next a.chain.now c.requires.0 a.currents.now r c.loop-next.total low ∙ (rw c.in-Some.is at c.loop-next.invariant.1),
    )

pub returns : goal.returns
unfolding plus_along
returns c = rw c.in_default.is at c.loop-next.invariant.1
