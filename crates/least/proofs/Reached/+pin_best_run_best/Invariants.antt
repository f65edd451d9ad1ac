-- The measure is twice the number of pins not yet visited, and one more for a run.
use Rattle.std.proofs.Common.{◌-◌, ◌+◌, ◌*◌}
use Rattle.least.proofs.Collecting.{Collecting}
use Rattle.least.proofs.Reached.+pin_best_run_best.Given as goal

abbrev pub decreases-pin_best : goal.decreases-pin_best
decreases-pin_best l = 2 * (l.self.now.count - l.pin)

abbrev pub decreases-run_best : goal.decreases-run_best
decreases-run_best l = 2 * (l.self.now.count - (l.run + 1)) + 1

abbrev pub invariant-pin_best-loop-run : goal.invariant-pin_best-loop-run
invariant-pin_best-loop-run l = Collecting l.self.places l.self.near l.self.count l.pin l.favoured l.asked l.weighed l.run
