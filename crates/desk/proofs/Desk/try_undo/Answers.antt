-- `desk::Desk::try_undo` meets its contract, by what is found. Assumes nothing.
use native.Mathlib.Omega.{arith}
use Prim.Native.Nat.{◌<◌}
use Rattle.journal.specs.Journal.{most_seats}
use Rattle.rows.specs.Calls.{undoing}
use Rattle.desk.specs.Desk.{effect}
use Rattle.desk.proofs.Found.{found_answer, found_low, undo_fits}
use Rattle.desk.proofs.Steps.{step-refused, step-accepted, went}
use Rattle.desk.proofs.Desk.try_undo.Goals as goal

pub returns-in_err-turned_undoing : goal.returns-in_err-turned_undoing
returns-in_err-turned_undoing c =
    let a = c.args in
    let d = a.self.now in
    step-refused d (undoing a.seat) (found_answer d (undoing a.seat) c.find.ensures c.turned_undoing.ensures)
    c.in_err-turned_undoing.was c.from_residual.ensures.1

pub offset_bounds-self-seat : goal.offset_bounds-self-seat
offset_bounds-self-seat c =
    let a = c.args in
    let low : a.seat < most_seats = found_low a.self.now (undoing a.seat) c.find.ensures c.turned_undoing.ensures (went c.in_ok-turned_undoing.was) in
    omega (arith, low)

pub bounds-self-seat : goal.bounds-self-seat
bounds-self-seat c =
    let a = c.args in
    found_low a.self.now (undoing a.seat) c.find.ensures c.turned_undoing.ensures (went c.in_ok-turned_undoing.was)

pub undo-requires : goal.undo-requires
undo-requires c = undo_fits c.args.self.now c.args.seat c.find.ensures (went c.in_ok-turned_undoing.was) c.turned_undoing.ensures

pub returns : goal.returns
unfolding effect
returns c =
    let a = c.args in
    let d = a.self.now in
    step-accepted d (undoing a.seat) (found_answer d (undoing a.seat) c.find.ensures c.turned_undoing.ensures) c.in_ok-turned_undoing.was (rw c.undo.ensures)
