-- `text::put_field` meets its contract. Assumes nothing.
use native.Mathlib.Omega.{arith}
use Rattle.text.proofs.Printing.{then_put}
use Rattle.text.specs.Digits.{decimal}
use Rattle.text.proofs.put.put_field.Goals as goal

pub returns : goal.returns
returns c =
    let s = c.args in
    let a = c.put-next.ensures in
    let b = c.put_decimal.ensures in
    let h = then_put s.out.now s.at s.label.now (decimal s.n) (a.value, a.out_after) (b.value.0, b.out_after) in
    record { value = (h.0, omega (arith, a.value)); out_after = h.1 }
