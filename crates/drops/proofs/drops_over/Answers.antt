-- `drops::drops_over` meets its contract: with the runs that are left still to be taken, the drops come to the same as from the start. Assumes nothing.
use mathlib.Core.Path.{◌∙◌}
use mathlib.Core.Logic.{inl, inr}
use Prim.Native.Nat.{◌<◌}
use Rattle.board.specs.Spots.{most_pins}
use Rattle.tree.specs.declared.Run.{Run}
use Rattle.drops.proofs.Passes.{others_so, drops_turn, drops_end}
use Rattle.drops.proofs.drops_over.Goals as goal

pub loop-run-preserved : goal.loop-run-preserved
loop-run-preserved c =
    let a = c.args in
    let step = c.in-Some.ensures.steps in (
      others_so (λ (r : Run). (r.near < most_pins) × (r.far < most_pins)) step.0 c.loop-run.invariant.0,
      drops_turn a.spots.now a.sheet.ohms c.loop-run.drops step.0 step.1 c.drop_between-more.ensures ∙ c.loop-run.invariant.1,
    )

pub returns : goal.returns
returns c =
    let a = c.args in
    elim c.in-None.ensures.steps [
      | inl e ↦ drops_end a.spots.now a.sheet.ohms c.loop-run.drops _ _ (inl e.1.0) ∙ c.loop-run.invariant.1
      | inr e ↦ drops_end a.spots.now a.sheet.ohms c.loop-run.drops _ _ (inr e.1.0) ∙ c.loop-run.invariant.1
    ]
