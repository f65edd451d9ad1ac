-- `play::play_window` meets its contract. Assumes nothing.
use Rattle.std.proofs.Common.{refl, arith}
use Rattle.play.specs.Log.{log_of}
use Rattle.play.proofs.Passing.{writes_err}
use Rattle.play.proofs.Turns.{window_more, window_done, answering_none, answering_more, answering_failed, answering_all}
use Rattle.play.proofs.play_window.Goals as goal

pub loop-at-init : goal.loop-at-init
loop-at-init g c = (c.requires, refl, answering_none _ _ _)

pub take_in-requires : goal.take_in-requires
take_in-requires g c = (c.loop-at.invariant.0, c.newline-to.ensures.lower_bound.0, c.newline-to.ensures.lower_bound.1)

pub returns-in_err-s-clause-written : goal.returns-in_err-s-clause-written
returns-in_err-s-clause-written g c =
    let l = c.loop-at in
    writes_err c.from_residual.result _ _ _ c.from_residual.ensures.0
    (answering_failed l.s l.line l.out c.args.window.now l.at c.newline-to.result _ _ _ _ l.invariant.0 (omega arith) c.newline-to.ensures.value l.invariant.2
    c.in_err-s.ensures.written)

pub loop-at-preserved : goal.loop-at-preserved
loop-at-preserved g c =
    let l = c.loop-at in
    let n = c.newline-to.ensures.value in
    let t = c.in_ok-s.ensures in (
      t.kept_le_most_kept,
      window_more l.s l.line l.out c.args.window.now l.at l.invariant.0 (omega arith) n t.out_after l.invariant.1,
      answering_more l.s l.line l.out c.args.window.now l.at c.newline-to.result _ _ _ _ l.invariant.0 (omega arith) n l.invariant.2 t.out_after t.written,
    )

pub returns : goal.returns
returns g c =
    let l = c.loop-at in
    record {
      out_after = window_done l.s l.line l.out c.args.window.now c.loop-at-test.false l.invariant.1;
      kept_le_most_kept = l.invariant.0;
      written = answering_all _ (log_of l.s l.line l.out) c.args.window.now c.loop-at-test.false l.invariant.2;
    }
