-- `shown::print_map` meets its contract. Assumes nothing.
use mathlib.Core.Path.{◌≡◌}
use mathlib.Core.Bool.{true}
use Rattle.std.proofs.Common.{rules}
use Rattle.printed.proofs.Telling.{passed_is}
use native.Mathlib.Omega.{arith}
use lib.ListN.{take}
use Rattle.refusal.specs.Refusals.{accepted}
use Rattle.printed.specs.Answers.{job_line}
use Rattle.text.proofs.Printing.{put_as, then_put, line}
use Rattle.shown.specs.Shown.{runs_text, map_text}
use Rattle.shown.proofs.Lines.{begun, map-accepted}
use Rattle.shown.proofs.print_map.Goals as goal

pub returns : goal.returns
returns c =
    let s = c.args in
    let w = s.wiring.now in
    let a = c.print_job-one.ensures in
    let b = c.put_runs.ensures in
    let j : accepted w.verdict ≡ true = passed_is _ (search rules) in
    let h =
    line s.out.now (map_text s.job w)
    (put_as s.out.now 0 (map-accepted s.job w j)
    (then_put s.out.now 0
    (job_line s.job w.length w.runs w.weighed)
    (runs_text (take w.runs w.entries))
    (begun s.out.now (job_line s.job w.length w.runs w.weighed) a.0.0 a.1)
    (b.value.0, b.out_after))) in
    ((h.0, omega (arith, a.0.1, b.value.1)), h.1)
