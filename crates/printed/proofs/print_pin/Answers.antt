-- `printed::print_pin` meets its contract. Assumes nothing.
use native.Mathlib.Omega.{arith}
use Rattle.text.proofs.Printing.{put_all5}
use Rattle.text.specs.Text.{text}
use Rattle.text.specs.Digits.{field, place_text}
use Rattle.printed.specs.Answers.{pin_line}
use Rattle.printed.proofs.print_pin.Goals as goal

pub returns : goal.returns
unfolding pin_line
returns c =
    let s = c.args in
    let a = c.put_field-one.ensures in
    let b = c.put_place-two.ensures in
    let d = c.put_field-three.ensures in
    let e = c.put_field-four.ensures in
    let f = c.put.ensures in
    let h =
    put_all5 s.out.now s.at
    (field "pin " s.pin)
    (place_text (text " ") s.place)
    (field " " s.net)
    (field " " s.part)
    (text "\n") (a.value.0, a.out_after) (b.value.0, b.out_after) (d.value.0, d.out_after) (e.value.0, e.out_after) (f.value, f.out_after) in
    record { value = (h.0, omega (arith, a.value.1, b.value.1, d.value.1, e.value.1, f.value)); out_after = h.1 }
