-- The measure is the number of runs to come.
use Rattle.std.proofs.Common.{◌-◌}
use Rattle.least.proofs.Reached.+weigh.Given as goal

abbrev pub decreases-weigh : goal.decreases-weigh
decreases-weigh l = l.self.now.count - l.from
