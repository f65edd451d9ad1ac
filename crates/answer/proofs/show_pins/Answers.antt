-- `answer::show_pins` meets its contract. Assumes nothing.
use mathlib.Core.Path.{◌∙◌, ap}
use Rattle.std.proofs.Common.{rules}
use Rattle.std.specs.Prelude.{Err}
use Rattle.refusal.specs.Refusals.{accepted}
use Rattle.answer.specs.Answered.{is_not_open}
use Rattle.answer.proofs.Showing.{few_used, pins_closed, pins_refused, pins_drawn}
use Rattle.answer.proofs.show_pins.Goals as goal

pub taken_back_count-taken_back-requires : goal.taken_back_count-taken_back-requires
unfolding accepted
taken_back_count-taken_back-requires c =
    let a = c.args in
    few_used a.desk.now a.seat c.find-found.ensures c.turned_naming-verdict.ensures (ap accepted c.in-Ok.is)

pub returns-in-Err-NotOpen : goal.returns-in-Err-NotOpen
returns-in-Err-NotOpen c =
    let a = c.args in
    pins_closed a.desk.now a.seat c.find-found.ensures c.turned_naming-verdict.ensures a.out.now
    (ap is_not_open (c.in-Err-NotOpen.is ∙ ap Err (rw c.in-Err-NotOpen.is at c.in-Err-NotOpen.field-0-is))) c.print_closed.ensures

pub returns-in-Err : goal.returns-in-Err
unfolding accepted
returns-in-Err c =
    let a = c.args in
    pins_refused a.desk.now a.seat c.find-found.ensures c.turned_naming-verdict.ensures a.out.now
    (search rules) (ap accepted c.in-Err.is) c.print_verdict.ensures

pub returns-in-Ok : goal.returns-in-Ok
unfolding accepted
returns-in-Ok c =
    let a = c.args in
    pins_drawn a.desk.now a.seat c.find-found.ensures c.turned_naming-verdict.ensures a.out.now
    (ap is_not_open c.in-Ok.is) (ap accepted c.in-Ok.is)
    c.taken_back_count-taken_back.ensures c.print_drawn.ensures
