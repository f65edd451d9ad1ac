-- `play::play_window`: what is to come of the rest of a window is what is to come of the whole. Assumes nothing.
use Rattle.std.proofs.Common.{◌≡◌, ◌-◌, ◌≤◌, length, drop}
use Rattle.play.specs.Log.{most_kept, log_of, heard}
use Rattle.play.proofs.Turns.{Answering}
use Rattle.play.proofs.play_window.Given as goal

abbrev pub invariant-loop-at : goal.invariant-loop-at
invariant-loop-at g l =
    (l.s.kept ≤ most_kept)
    × (heard (log_of l.s l.line l.out) (drop l.at l.window) ≡ heard (log_of l.initial.s l.initial.line l.initial.out) l.window)
    × Answering (log_of l.initial.s l.initial.line l.initial.out) l.window (log_of l.s l.line l.out) l.at (g.W.Write.contents l.initial.writer) (g.W.Write.contents l.writer)

abbrev pub decreases-loop-at : goal.decreases-loop-at
decreases-loop-at g l = length l.window - l.at
