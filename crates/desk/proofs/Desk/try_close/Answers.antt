-- `desk::Desk::try_close` meets its contract, by what is found. Assumes nothing.
use native.Mathlib.Omega.{arith}
use Prim.Native.Nat.{◌<◌}
use Rattle.journal.specs.Journal.{most_seats}
use Rattle.rows.specs.Calls.{closing}
use Rattle.desk.specs.Desk.{effect}
use Rattle.desk.proofs.Sound.{used_within}
use Rattle.desk.proofs.Found.{found_answer, found_sound, found_low}
use Rattle.desk.proofs.Steps.{step-refused, step-accepted, went}
use Rattle.desk.proofs.Desk.try_close.Goals as goal

pub returns-in_err-turned_naming : goal.returns-in_err-turned_naming
returns-in_err-turned_naming c =
    let a = c.args in
    let d = a.self.now in
    step-refused d (closing a.seat) (found_answer d (closing a.seat) c.find.ensures c.turned_naming.ensures)
    c.in_err-turned_naming.was c.from_residual.ensures.1

pub compact-requires : goal.compact-requires
compact-requires c =
    let a = c.args in
    let d = a.self.now in
    used_within d (found_sound d (closing a.seat) c.find.ensures c.turned_naming.ensures (went c.in_ok-turned_naming.was))

pub offset_bounds-self-seat : goal.offset_bounds-self-seat
offset_bounds-self-seat c =
    let a = c.args in
    let low : a.seat < most_seats = found_low a.self.now (closing a.seat) c.find.ensures c.turned_naming.ensures (went c.in_ok-turned_naming.was) in
    omega (arith, low)

pub bounds-self-seat : goal.bounds-self-seat
bounds-self-seat c =
    let a = c.args in
    found_low a.self.now (closing a.seat) c.find.ensures c.turned_naming.ensures (went c.in_ok-turned_naming.was)

pub returns : goal.returns
unfolding effect
returns c =
    let a = c.args in
    let d = a.self.now in
    step-accepted d (closing a.seat) (found_answer d (closing a.seat) c.find.ensures c.turned_naming.ensures) c.in_ok-turned_naming.was
    (rw (c.compact.ensures, c.closed.ensures))
