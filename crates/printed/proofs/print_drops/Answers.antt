-- `printed::print_drops` meets its contract. Assumes nothing.
use Rattle.std.proofs.Common.{rules}
use native.Mathlib.Omega.{arith}
use Rattle.text.specs.Text.{text, text_for_each}
use Rattle.text.proofs.Printing.{put_as, put_all3, line, held}
use Rattle.printed.specs.Answers.{most_line_bytes, drop_text, lost_line}
use Rattle.printed.proofs.Telling.{lost_refused, lost_accepted}
use Rattle.printed.proofs.print_drops.Goals as goal

pub returns-then-is_err : goal.returns-then-is_err
returns-then-is_err c =
    let s = c.args in
    held s.out.now most_line_bytes (omega arith) (lost_refused s.lost (search rules)) c.print_verdict.ensures

pub returns : goal.returns
returns c =
    let s = c.args in
    let a = c.put-one.ensures in
    let b = c.put_drops-two.ensures in
    let d = c.put.ensures in
    let h =
    line s.out.now (lost_line s.lost)
    (put_as s.out.now 0 (lost_accepted s.lost (search rules))
    (put_all3 s.out.now 0 (text "0") (text_for_each drop_text s.lost.drops) (text "\n") (a.value, a.out_after) (b.value.0, b.out_after) (d.value, d.out_after))) in
    ((h.0, omega (arith, a.value, b.value.1, d.value)), h.1)
