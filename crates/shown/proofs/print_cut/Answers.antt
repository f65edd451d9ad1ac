-- `shown::print_cut` meets its contract. Assumes nothing.
use Rattle.std.proofs.Common.{rules}
use Rattle.printed.proofs.Telling.{refused_is, passed_is}
use native.Mathlib.Omega.{arith}
use lib.ListN.{take}
use Rattle.printed.specs.Answers.{most_line_bytes, milled_line}
use Rattle.text.specs.Text.{text}
use Rattle.text.proofs.Printing.{put_as, then_put, line, held}
use Rattle.shown.specs.Shown.{legs_text, cut_text}
use Rattle.shown.proofs.Lines.{begun, cut_refused, cut_accepted}
use Rattle.shown.proofs.print_cut.Goals as goal

pub returns-then-is_err : goal.returns-then-is_err
returns-then-is_err c =
    let s = c.args in
    let j = refused_is _ (search rules) in
    held s.out.now most_line_bytes (omega arith) (cut_refused s.cut.now j) c.print_verdict.ensures

pub returns : goal.returns
returns c =
    let s = c.args in
    let n = s.cut.now.milling.segments in
    let a = c.print_milled-next.ensures in
    let b = c.put_legs.ensures in
    let j = passed_is _ (search rules) in
    let h =
    line s.out.now (cut_text s.cut.now)
    (put_as s.out.now 0 (cut_accepted s.cut.now j)
    (then_put s.out.now 0
    (milled_line n)
    (legs_text (text "segment ") (take n s.cut.now.list))
    (begun s.out.now (milled_line n) a.0.0 a.1)
    (b.value.0, b.out_after))) in
    ((h.0, omega (arith, a.0.1, b.value.1)), h.1)
