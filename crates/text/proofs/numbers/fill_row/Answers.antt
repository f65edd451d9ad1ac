-- `text::numbers::fill_row` meets its contract. Assumes nothing.
use Rattle.std.proofs.Common.{◌∙◌, ap, sym, refl, [], arith, rules}
use Rattle.text.specs.Words.{comma, pieces}
use Rattle.text.proofs.Cutting.{stop_within}
use Rattle.text.proofs.Steps.{map_more, map_done}
use Rattle.text.proofs.Rows.{passed_none, passed_one}
use Rattle.text.proofs.numbers.fill_row.Goals as goal

pub loop-at-init : goal.loop-at-init
loop-at-init g c = record { within = omega arith; long = omega arith; passed = passed_none c.args.word.now; stored = λ of k. refl }

pub loop-at-preserved : goal.loop-at-preserved
loop-at-preserved g c =
    let w = c.args.word.now in
    let l = c.loop-at in
    let next = passed_one w l.count l.at c.stop_at-to.result l.invariant.passed c.loop-at-test.true c.stop_at-to.ensures in
    record {
      within = omega (arith, c.stop_at-to.ensures, stop_within comma w l.at (omega arith));
      long = search rules;
      passed = next.1;
      stored = λ of k.
          map_more of [] (pieces comma w) c.args.values.now l.count (l.invariant.stored of k) (l.invariant.passed.some c.loop-at-test.true)
          (k _ _ c.value.ensures ∙ ap of (sym next.0));
    }

pub returns-clause-values_after : goal.returns-clause-values_after
returns-clause-values_after g c = λ of k.
    map_done of [] (pieces comma c.args.word.now) c.args.values.now c.loop-at.count (c.loop-at.invariant.stored of k)
    (omega (arith, c.loop-at.invariant.passed.all c.loop-at-test.false))
