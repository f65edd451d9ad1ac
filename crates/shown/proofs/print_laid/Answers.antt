-- `shown::print_laid` meets its contract. Assumes nothing.
use Rattle.std.proofs.Common.{rules}
use Rattle.printed.proofs.Telling.{refused_is, passed_is}
use native.Mathlib.Omega.{arith}
use lib.ListN.{take}
use Rattle.printed.specs.Answers.{most_line_bytes, wired_line}
use Rattle.text.specs.Text.{text}
use Rattle.text.proofs.Printing.{put_as, put_all3, line, held}
use Rattle.shown.specs.Shown.{runs_text, legs_text, laid_text}
use Rattle.shown.proofs.Lines.{begun, laid_refused, laid_accepted}
use Rattle.shown.proofs.print_laid.Goals as goal

pub returns-then-is_err : goal.returns-then-is_err
returns-then-is_err c =
    let s = c.args in
    let j = refused_is _ (search rules) in
    held s.out.now most_line_bytes (omega arith) (laid_refused s.laid.now j) c.print_verdict.ensures

pub returns : goal.returns
returns c =
    let s = c.args in
    let w = s.laid.now.wiring in
    let a = c.print_wired-one.ensures in
    let b = c.put_runs-two.ensures in
    let d = c.put_legs.ensures in
    let j = passed_is _ (search rules) in
    let h =
    line s.out.now (laid_text s.laid.now)
    (put_as s.out.now 0 (laid_accepted s.laid.now j)
    (put_all3 s.out.now 0
    (wired_line w.length w.runs w.legs w.weighed)
    (runs_text (take w.runs w.entries))
    (legs_text (text "leg ") (take w.legs s.laid.now.list))
    (begun s.out.now (wired_line w.length w.runs w.legs w.weighed) a.0.0 a.1)
    (b.value.0, b.out_after)
    (d.value.0, d.out_after))) in
    ((h.0, omega (arith, a.0.1, b.value.1, d.value.1)), h.1)
