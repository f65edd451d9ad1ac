-- `printed::print_run` meets its contract. Assumes nothing.
use native.Mathlib.Omega.{arith}
use Rattle.text.proofs.Printing.{put_all5}
use Rattle.text.specs.Text.{text}
use Rattle.text.specs.Digits.{field}
use Rattle.printed.specs.Answers.{run_line}
use Rattle.printed.proofs.print_run.Goals as goal

pub returns : goal.returns
unfolding run_line
returns c =
    let s = c.args in
    let a = c.put_decimal-one.ensures in
    let b = c.put_field-two.ensures in
    let d = c.put-three.ensures in
    let e = c.put-four.ensures in
    let f = c.put.ensures in
    let h =
    put_all5 s.out.now s.at
    (field "" s.near)
    (field " " s.far)
    (text " ")
    s.shape.now
    (text "\n")
    (a.value.0, a.out_after)
    (b.value.0, b.out_after)
    (d.value, d.out_after)
    (e.value, e.out_after)
    (f.value, f.out_after) in
    record { value = (h.0, omega (arith, a.value.1, b.value.1, d.value, e.value, f.value)); out_after = h.1 }
