-- `seats::job_among` meets its contract: `any` asks whether one of the jobs is the same. Assumes nothing.
use Rattle.std.proofs.Common.{rules}
use Rattle.std.proofs.lemmas.Iterator.{YieldsList-from_slice}
use Rattle.basics.proofs.Chains.{any_answers}
use Rattle.seats.specs.Seats.{same_job}
use Rattle.seats.proofs.job_among.Goals as goal

pub returns : goal.returns
returns c = any_answers _ _ (same_job c.args.job) _ (YieldsList-from_slice c.args.jobs.now cc) (λ x b q k. search rules) c.any.ensures.ran
