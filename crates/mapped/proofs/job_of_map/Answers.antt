-- `mapped::job_of_map` meets its contract. Assumes nothing.
use mathlib.Core.Path.{◌∙◌}
use native.Mathlib.Omega.{arith}
use Rattle.mapped.proofs.Job.{job_short, job_long}
use Rattle.mapped.proofs.job_of_map.Goals as goal

pub returns-then-map-lt2 : goal.returns-then-map-lt2
returns-then-map-lt2 c = job_short c.args.map.now (omega arith)

pub returns : goal.returns
returns c = c.job_at.ensures ∙ job_long c.args.map.now (omega arith)
