-- `printed::print_told` meets its contract. Assumes nothing.
use native.Mathlib.Omega.{arith}
use Rattle.printed.proofs.Telling.{told_zero, told_refused}
use Rattle.text.proofs.Printing.{put_as, put_all3, line}
use Rattle.text.specs.Text.{text}
use Rattle.text.specs.Digits.{field}
use Rattle.printed.specs.Answers.{carried_text, told_line}
use Rattle.printed.proofs.print_told.Goals as goal

pub returns-then-told-eq0 : goal.returns-then-told-eq0
returns-then-told-eq0 c =
    let s = c.args in
    let a = c.put.ensures in
    let h = line s.out.now (told_line s.told) (put_as s.out.now 0 (told_zero s.told c.if-told-eq0.true) (a.value, a.out_after)) in
    ((h.0, omega (arith, a.value)), h.1)

pub returns : goal.returns
returns c =
    let s = c.args in
    let a = c.put_field-one.ensures in
    let b = c.put_carried-two.ensures in
    let d = c.put-2.ensures in
    let h =
    line s.out.now (told_line s.told)
    (put_as s.out.now 0 (told_refused s.told c.if-told-eq0.false)
    (put_all3 s.out.now 0
    (field "refused " s.told.number)
    (carried_text s.told.carried)
    (text "\n")
    (a.value.0, a.out_after)
    (b.value.0, b.out_after)
    (d.value, d.out_after))) in
    ((h.0, omega (arith, a.value.1, b.value.1, d.value)), h.1)
