-- `seats::jobs_apart` looks at fewer and fewer jobs. Assumes nothing.
use lib.ListN.{length}
use Rattle.seats.proofs.+jobs_apart.Given as goal

abbrev pub decreases-jobs_apart : goal.decreases-jobs_apart
decreases-jobs_apart l = length l.jobs.now
