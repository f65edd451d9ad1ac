-- `desk::Desk::try_redo` meets its contract, by what is found. Assumes nothing.
use native.Mathlib.Omega.{arith}
use Prim.Native.Nat.{◌<◌}
use Rattle.journal.specs.Journal.{most_seats}
use Rattle.rows.specs.Calls.{redoing}
use Rattle.desk.specs.Desk.{effect}
use Rattle.desk.proofs.Found.{found_answer, found_low, used_fits, redo_fits}
use Rattle.desk.proofs.Steps.{step-refused, step-accepted, went}
use Rattle.desk.proofs.Desk.try_redo.Goals as goal

pub returns-in_err-turned_redoing : goal.returns-in_err-turned_redoing
returns-in_err-turned_redoing c =
    let a = c.args in
    let d = a.self.now in
    step-refused d (redoing a.seat) (found_answer d (redoing a.seat) c.find.ensures c.turned_redoing.ensures)
    c.in_err-turned_redoing.was c.from_residual.ensures.1

pub turned_redoing-requires : goal.turned_redoing-requires
turned_redoing-requires c = used_fits c.args.self.now c.args.seat c.find.ensures

pub offset_bounds-self-seat : goal.offset_bounds-self-seat
offset_bounds-self-seat c =
    let a = c.args in
    let low : a.seat < most_seats = found_low a.self.now (redoing a.seat) c.find.ensures c.turned_redoing.ensures (went c.in_ok-turned_redoing.was) in
    omega (arith, low)

pub bounds-self-seat : goal.bounds-self-seat
bounds-self-seat c =
    let a = c.args in
    found_low a.self.now (redoing a.seat) c.find.ensures c.turned_redoing.ensures (went c.in_ok-turned_redoing.was)

pub redo-requires : goal.redo-requires
redo-requires c = redo_fits c.args.self.now c.args.seat c.find.ensures (went c.in_ok-turned_redoing.was) c.turned_redoing.ensures

pub returns : goal.returns
unfolding effect
returns c =
    let a = c.args in
    let d = a.self.now in
    step-accepted d (redoing a.seat) (found_answer d (redoing a.seat) c.find.ensures c.turned_redoing.ensures) c.in_ok-turned_redoing.was (rw c.redo.ensures)
