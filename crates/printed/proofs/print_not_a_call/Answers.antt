-- `printed::print_not_a_call` meets its contract. Assumes nothing.
use mathlib.Core.List.{◌++◌}
use native.Mathlib.Omega.{arith}
use Rattle.text.proofs.Printing.{then_put, line}
use Rattle.text.specs.Text.{text}
use Rattle.text.specs.Digits.{field}
use Rattle.printed.specs.Answers.{not_a_call_line}
use Rattle.printed.proofs.print_not_a_call.Goals as goal

pub returns : goal.returns
unfolding not_a_call_line
returns c =
    let s = c.args in
    let a = c.put_field-next.ensures in
    let b = c.put.ensures in
    let h =
    line s.out.now (field "line " s.line ++ text ": not a call\n")
    (then_put s.out.now 0 (field "line " s.line) (text ": not a call\n") (a.value.0, a.out_after) (b.value, b.out_after)) in
    ((h.0, omega (arith, a.value.1, b.value)), h.1)
