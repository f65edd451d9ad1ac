-- `text::put::put_integer` meets its contract. Assumes nothing.
use Rattle.std.proofs.Common.{◌∙◌, ap, ◌++◌, ℕ, arith}
use lib.IntN.{nat_abs}
use Rattle.board.proofs.Signed.{held}
use Rattle.text.proofs.Printing.{then_put, put_as, integer-below, integer_above}
use Rattle.text.specs.Text.{text}
use Rattle.text.specs.Digits.{decimal, integer}
use Rattle.text.proofs.put.put_integer.Goals as goal

pub returns-then-z-lt0 : goal.returns-then-z-lt0
returns-then-z-lt0 c =
    let s = c.args in
    let f = c.ranges.z in
    let p = c.put-next in
    let b = c.put_field.ensures in
    let z = c.unsigned_abs-from_zero.ensures.value ∙ ap nat_abs (held s.z f.sfits) in
    let h =
    then_put s.out.now s.at s.label.now (integer s.z) (p.ensures.value, p.ensures.out_after)
    (put_as p.new.out p.result
    (ap (λ (n : ℕ). text "-" ++ decimal n) z ∙ integer-below s.z f c.if-z-lt0.true)
    (b.value.0, b.out_after)) in
    record { value = (h.0, omega (arith, p.ensures.value, b.value.1)); out_after = h.1 }

pub returns : goal.returns
returns c =
    let s = c.args in
    let f = c.ranges.z in
    let p = c.put-next in
    let b = c.put_decimal.ensures in
    let z = c.unsigned_abs-from_zero.ensures.value ∙ ap nat_abs (held s.z f.sfits) in
    let h =
    then_put s.out.now s.at s.label.now (integer s.z) (p.ensures.value, p.ensures.out_after)
    (put_as p.new.out p.result (ap (λ (n : ℕ). decimal n) z ∙ integer_above s.z f c.if-z-lt0.false) (b.value.0, b.out_after)) in
    record { value = (h.0, omega (arith, p.ensures.value, b.value.1)); out_after = h.1 }
