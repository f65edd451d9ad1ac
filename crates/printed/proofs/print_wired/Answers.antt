-- `printed::print_wired` meets its contract. Assumes nothing.
use native.Mathlib.Omega.{arith}
use Rattle.text.proofs.Printing.{put_all5, line}
use Rattle.text.specs.Text.{text}
use Rattle.text.specs.Digits.{field}
use Rattle.printed.specs.Answers.{wired_line}
use Rattle.printed.proofs.print_wired.Goals as goal

pub returns : goal.returns
unfolding wired_line
returns c =
    let s = c.args in
    let a = c.put_field-one.ensures in
    let b = c.put_field-two.ensures in
    let d = c.put_field-three.ensures in
    let e = c.put_field-four.ensures in
    let f = c.put.ensures in
    let h =
    line s.out.now (wired_line s.length s.runs s.legs s.weighed)
    (put_all5 s.out.now 0
    (field "0 length " s.length)
    (field " runs " s.runs)
    (field " legs " s.legs)
    (field " weighed " s.weighed)
    (text "\n") (a.value.0, a.out_after) (b.value.0, b.out_after) (d.value.0, d.out_after) (e.value.0, e.out_after) (f.value, f.out_after)) in
    ((h.0, omega (arith, a.value.1, b.value.1, d.value.1, e.value.1, f.value)), h.1)
