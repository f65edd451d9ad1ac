-- `text::numbers::coordinate` meets its contract. Assumes nothing.
use Rattle.std.proofs.Common.{◌≡◌, ◌∙◌, ap, Some, pos, neg_ℤ, to_z, of_z, w32, w64, ◌-ℤ◌, arith}
use Rattle.std.proofs.lemmas.Int.{ints}
use Rattle.text.proofs.Values.{below_read, plain_read}
use Rattle.text.proofs.numbers.coordinate.Goals as goal

pub returns-in_err-number-in-Some : goal.returns-in_err-number-in-Some
returns-in_err-number-in-Some c =
    c.from_residual.ensures ∙ below_read c.args.word.now c.in-Some.ensures.cases c.number.ensures.value c.in_err-number-in-Some.was

pub returns-in_err-number-in-None : goal.returns-in_err-number-in-None
returns-in_err-number-in-None c =
    c.from_residual-in_err-number-in-None.ensures
    ∙ plain_read c.args.word.now c.in-None.ensures.cases c.number-in-None.ensures.value c.in_err-number-in-None.was

pub returns-in_ok-number-in-Some : goal.returns-in_ok-number-in-Some
returns-in_ok-number-in-Some c =
    let n = c.in_ok-number-in-Some.field-0 in
    let within = rw c.in_ok-number-in-Some.was at c.number.ensures.within in
    let e : to_z w32 (of_z w32 (to_z w64 (of_z w64 (pos 0 -ℤ to_z w64 n)))) ≡ neg_ℤ (pos n) = omega (arith, ints) in
    ap Some e ∙ below_read c.args.word.now c.in-Some.ensures.cases c.number.ensures.value c.in_ok-number-in-Some.was

pub returns-in_ok-number-in-None : goal.returns-in_ok-number-in-None
returns-in_ok-number-in-None c =
    let n = c.in_ok-number-in-None.field-0 in
    let within = rw c.in_ok-number-in-None.was at c.number-in-None.ensures.within in
    let e : to_z w32 n ≡ pos n = omega (arith, ints) in
    ap Some e ∙ plain_read c.args.word.now c.in-None.ensures.cases c.number-in-None.ensures.value c.in_ok-number-in-None.was
