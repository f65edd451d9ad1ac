-- `spans::clean` meets its contract: the spans are put in one after another, then what is left of them is cleared. Assumes nothing.
use Rattle.std.proofs.Common.{arith, sym, ◌∙◌}
use Rattle.std.proofs.lemmas.Grind.{common_steps}
use Rattle.spans.proofs.Cleaning.{give_put, give_empty, give_all, give_number, cleared}
use Rattle.spans.proofs.clean.Goals.{then-span, else-span}
use Rattle.spans.proofs.clean.Goals as goal

pub loop-at-preserved : goal.loop-at-preserved
loop-at-preserved c =
    elim c.if-span.branch [
      | then-span w ↦
          let e = w.put_in-kept.ensures in
          let g = give_put c.loop-at.spans w.put_in-kept.new.spans c.loop-at.kept w.put_in-kept.result c.loop-at.at c.args.count
          (omega arith) (omega arith) (omega arith) w.if-span.true e.list_after e.rest_unchanged in
          grind arith
      | else-span w ↦ grind (arith, common_steps, give_empty)
    ]

pub returns-clause-value : goal.returns-clause-value
returns-clause-value c = give_number _ _ _ _ _ (omega arith) (omega arith) c.loop-at.invariant.same

pub returns-clause-list_after : goal.returns-clause-list_after
returns-clause-list_after c =
    let kept = sym (give_all _ _ _ _ (omega arith)) ∙ c.loop-at.invariant.same in
    cleared _ _ _ _ (omega arith) (omega arith) kept (c.fill.ensures.after (λ y h. h))
