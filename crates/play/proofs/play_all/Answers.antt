-- `play::play_all` meets its contract. Assumes nothing.
use Rattle.play.specs.Log.{log_of}
use Rattle.play.proofs.Passing.{on_err}
use Rattle.play.proofs.Coming.{streamed_none, streamed_both, failed_after}
use Rattle.play.proofs.play_all.Goals as goal

pub loop-init : goal.loop-init
loop-init g c = (c.requires.0, streamed_none (log_of c.args.session c.args.line.now c.args.out.now) _ _ c.requires.1)

pub play_some-requires : goal.play_some-requires
play_some-requires g c = (c.loop.invariant.0, c.if-s.false)

pub returns-in_err-s-clause-failed : goal.returns-in_err-s-clause-failed
returns-in_err-s-clause-failed g c =
    on_err c.from_residual.result (failed_after c.loop.invariant.1 (c.if-s.false) c.in_err-s.ensures.failed)

pub loop-preserved : goal.loop-preserved
loop-preserved g c =
    (c.in_ok-s.ensures.kept_le_most_kept, streamed_both c.loop.invariant.1 (c.if-s.false) c.in_ok-s.ensures.streamed)
