-- `desk::Desk::try_make` meets its contract, by what is found. Assumes nothing.
use mathlib.Core.Path.{◌∙◌}
use native.Mathlib.Omega.{arith}
use Rattle.rows.specs.Calls.{making}
use Rattle.desk.specs.Desk.{effect}
use Rattle.desk.proofs.Sound.{used_within, standing_small}
use Rattle.desk.proofs.Found.{found_answer, used_fits, edit_fits, edit_low}
use Rattle.desk.proofs.Steps.{step-refused, step-accepted, edited_done, went}
use Rattle.desk.proofs.Desk.try_make.Goals as goal

pub turned_making-requires : goal.turned_making-requires
turned_making-requires c = used_fits c.args.self.now c.args.seat c.find-found.ensures

pub returns-in_err-turned_making : goal.returns-in_err-turned_making
returns-in_err-turned_making c =
    let a = c.args in
    let d = a.self.now in
    step-refused d (making a.seat a.stated) (found_answer d (making a.seat a.stated) c.find-found.ensures c.turned_making.ensures)
    c.in_err-turned_making.was c.from_residual.ensures.1

pub edit_of-edit-requires : goal.edit_of-edit-requires
edit_of-edit-requires c =
    edit_low c.args.self.now c.args.seat c.find-found.ensures (went c.in_ok-turned_making.was) c.args.stated c.turned_making.ensures

pub compact-requires : goal.compact-requires
compact-requires c =
    let d = c.args.self.now in
    let fits = edit_fits d c.args.seat c.find-found.ensures (went c.in_ok-turned_making.was) c.args.stated c.turned_making.ensures in
    used_within d fits.0

pub append-requires : goal.append-requires
append-requires c =
    let fits = edit_fits c.args.self.now c.args.seat c.find-found.ensures (went c.in_ok-turned_making.was) c.args.stated c.turned_making.ensures in
    rw c.compact.ensures fits.4

pub offset_bounds-self-seat : goal.offset_bounds-self-seat
offset_bounds-self-seat c =
    let fits = edit_fits c.args.self.now c.args.seat c.find-found.ensures (went c.in_ok-turned_making.was) c.args.stated c.turned_making.ensures in
    omega (arith, fits.1)

pub bounds-self-seat : goal.bounds-self-seat
bounds-self-seat c =
    let fits = edit_fits c.args.self.now c.args.seat c.find-found.ensures (went c.in_ok-turned_making.was) c.args.stated c.turned_making.ensures in
    fits.1

pub edit-requires : goal.edit-requires
edit-requires c =
    let d = c.args.self.now in
    let fits = edit_fits d c.args.seat c.find-found.ensures (went c.in_ok-turned_making.was) c.args.stated c.turned_making.ensures in
    standing_small d fits.0 c.args.seat fits.1 fits.3

pub returns : goal.returns
unfolding effect
returns c =
    let a = c.args in
    let d = a.self.now in
    let fits = edit_fits d a.seat c.find-found.ensures (went c.in_ok-turned_making.was) a.stated c.turned_making.ensures in
    step-accepted d (making a.seat a.stated) (found_answer d (making a.seat a.stated) c.find-found.ensures c.turned_making.ensures) c.in_ok-turned_making.was
    (edited_done d a.seat c.edit_of-edit.result fits.2 fits.4 c.compact.ensures c.append.ensures c.edit.ensures ∙ rw (c.edit_of-edit.ensures, fits.2))
