-- `printed::print_leg` meets its contract. Assumes nothing.
use native.Mathlib.Omega.{arith}
use Rattle.text.proofs.Printing.{put_all3}
use Rattle.text.specs.Text.{text}
use Rattle.text.specs.Digits.{place_text}
use Rattle.printed.specs.Answers.{leg_line}
use Rattle.printed.proofs.print_leg.Goals as goal

pub returns : goal.returns
unfolding leg_line
returns c =
    let s = c.args in
    let a = c.put_place-one.ensures in
    let b = c.put_place-two.ensures in
    let d = c.put.ensures in
    let h =
    put_all3 s.out.now s.at
    (place_text s.word.now s.a)
    (place_text (text " ") s.b)
    (text "\n")
    (a.value.0, a.out_after)
    (b.value.0, b.out_after)
    (d.value, d.out_after) in
    record { value = (h.0, omega (arith, a.value.1, b.value.1, d.value)); out_after = h.1 }
