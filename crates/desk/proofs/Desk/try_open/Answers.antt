-- `desk::Desk::try_open` meets its contract, by what is found. Assumes nothing.
use mathlib.Core.Path.{refl, sym, ◌∙◌}
use native.Mathlib.Omega.{arith}
use Prim.Native.Nat.{◌<◌}
use Rattle.refusal.specs.Rows.{first_of}
use Rattle.drawing.specs.Pins.{no_pins}
use Rattle.readmap.specs.Map.{records_of, with_pins_of}
use Rattle.journal.specs.Journal.{most_seats}
use Rattle.rows.specs.Calls.{opening}
use Rattle.rows.specs.Refusals.{rows_of}
use Rattle.rows.proofs.Rows.{granted_err}
use Rattle.desk.specs.Desk.{effect}
use Rattle.desk.proofs.Found.{look_found, found_answer, open_read}
use Rattle.desk.proofs.Steps.{step-refused, step-accepted}
use Rattle.desk.proofs.Desk.try_open.Goals as goal

pub returns-in_err-pins : goal.returns-in_err-pins
returns-in_err-pins c =
    let a = c.args in
    let d = a.self.now in
    let call = opening a.seat a.job a.form a.map.now in
    let rows = rows_of (look_found d c.find.result) call in
    let l = with_pins_of a.form no_pins (records_of a.form a.map.now) in
    step-refused d call (found_answer d call c.find.ensures refl)
    (granted_err (first_of rows) l (sym c.map_read.ensures ∙ c.in_err-pins.was)) c.from_residual.ensures.1

pub offset_bounds-self-seat : goal.offset_bounds-self-seat
offset_bounds-self-seat c =
    let a = c.args in
    let r = open_read a.self.now a.seat a.job a.form a.map.now c.find.ensures (sym c.map_read.ensures ∙ c.in_ok-pins.was) in
    let low : a.seat < most_seats = r.low in
    omega (arith, low)

pub bounds-self-seat : goal.bounds-self-seat
bounds-self-seat c =
    let a = c.args in
    (open_read a.self.now a.seat a.job a.form a.map.now c.find.ensures (sym c.map_read.ensures ∙ c.in_ok-pins.was)).low

pub returns : goal.returns
unfolding effect
returns c =
    let a = c.args in
    let d = a.self.now in
    let call = opening a.seat a.job a.form a.map.now in
    let r = open_read d a.seat a.job a.form a.map.now c.find.ensures (sym c.map_read.ensures ∙ c.in_ok-pins.was) in
    step-accepted d call (found_answer d call c.find.ensures refl) r.passed (rw (c.«open».ensures, r.pins))
