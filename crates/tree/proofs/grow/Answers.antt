-- `tree::grow` meets its contract: the runs taken, with those still to be taken, are all. Assumes nothing.
use mathlib.Core.Path.{◌≡◌, sym, ◌∙◌}
use native.Mathlib.Omega.{arith}
use Rattle.tree.specs.Trees.{most_runs}
use Rattle.tree.proofs.Going.{ready, far_low, going_turn, going_stop, going_end}
use Rattle.tree.proofs.Result.{going_first}
use Rattle.tree.proofs.grow.Goals as goal

pub loop-count-init : goal.loop-count-init
loop-count-init c =
    rw c.are_there-waits.ensures (going_first c.args.spots.now (omega arith) c.args.first c.requires.1)

pub next_offer-requires : goal.next_offer-requires
next_offer-requires c = ready c.requires.0 c.loop-count.invariant

pub returns-in_default : goal.returns-in_default
returns-in_default c = going_stop c.requires.0 c.loop-count.invariant (sym c.next_offer.ensures.value ∙ c.in_default.is)

pub bounds-waits-next : goal.bounds-waits-next
bounds-waits-next c = far_low c.requires.0 c.loop-count.invariant c.in-Some.next (sym c.next_offer.ensures.value ∙ c.in-Some.is)

pub loop-count-preserved : goal.loop-count-preserved
loop-count-preserved c = going_turn c.requires.0 c.loop-count.invariant c.in-Some.next (sym c.next_offer.ensures.value ∙ c.in-Some.is) _ c.next_offer.ensures.near_after

pub returns : goal.returns
returns c =
    let e : c.loop-count.count ≡ most_runs = omega arith in
    rw e at (going_end c.loop-count.invariant (omega arith))
