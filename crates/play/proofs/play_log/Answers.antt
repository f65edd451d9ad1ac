-- `play::play_log` meets its contract. Assumes nothing.
use Rattle.play.proofs.Passing.{then_ok, then_err}
use Rattle.play.proofs.Coming.{from_start, answers_from_start, cut_from_start}
use Rattle.play.proofs.play_log.Goals as goal

pub returns-clause-played : goal.returns-clause-played
returns-clause-played g c = then_ok c.play_all.result (λ s p. from_start s c.play_all.new.line c.empty.ensures p) c.play_all.ensures.comes_of

pub returns-clause-answered : goal.returns-clause-answered
returns-clause-answered g c = then_ok c.play_all.result (λ s p. answers_from_start s c.play_all.new.line c.empty.ensures p) c.play_all.ensures.streamed

pub returns-clause-cut_short : goal.returns-clause-cut_short
returns-clause-cut_short g c = then_err c.play_all.result (cut_from_start c.empty.ensures) c.play_all.ensures.failed
