-- `printed::put_drop` meets its contract. Assumes nothing.
use native.Mathlib.Omega.{arith}
use Rattle.text.specs.Text.{text}
use Rattle.text.specs.Digits.{float_text}
use Rattle.text.proofs.Printing.{then_put}
use Rattle.printed.specs.Answers.{drop_text}
use Rattle.printed.proofs.put_drop.Goals as goal

pub returns : goal.returns
unfolding drop_text
returns c =
    let s = c.args in
    let a = c.put-next.ensures in
    let b = c.put_float.ensures in
    let h = then_put s.out.now s.at (text " ") (float_text s.drop) (a.value, a.out_after) (b.value.0, b.out_after) in
    record { value = (h.0, omega (arith, a.value, b.value.1)); out_after = h.1 }
