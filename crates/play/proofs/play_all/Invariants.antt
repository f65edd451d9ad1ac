-- `play::play_all`: the log comes of the first one, with what was read and written. Assumes nothing.
use Rattle.std.proofs.Common.{◌≤◌}
use Rattle.play.specs.Log.{most_kept, log_of}
use Rattle.play.specs.Answers.{Streamed}
use Rattle.play.proofs.play_all.Given as goal

abbrev pub invariant-loop : goal.invariant-loop
invariant-loop g l =
    (l.s.kept ≤ most_kept)
    × Streamed (log_of l.initial.s l.initial.line l.initial.out) (log_of l.s l.line l.out) (g.R.Read.remaining l.initial.reader) (g.R.Read.remaining l.reader)
    (g.W.Write.contents l.initial.writer) (g.W.Write.contents l.writer)
