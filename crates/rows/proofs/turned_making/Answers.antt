-- `rows::turned_making` meets its contract. Assumes nothing.
use mathlib.Core.Path.{refl, sym, ◌∙◌}
use mathlib.Core.List.{◌++◌}
use Rattle.refusal.specs.Refusals.{accepted}
use Rattle.refusal.proofs.Rows.{stops, goes}
use Rattle.journal.specs.Journal.{in_use, own}
use Rattle.seats.specs.Seats.{taken_back_count}
use Rattle.pinrows.specs.PinRows.{making_rows}
use Rattle.rows.specs.Refusals.{full_row}
use Rattle.pinrows.proofs.Apart.{making_apart, handed_on}
use Rattle.rows.proofs.Rows.{naming_stops, naming_goes, naming_passed}
use Rattle.rows.proofs.turned_making.Goals as goal

pub returns-in_err-turned_naming : goal.returns-in_err-turned_naming
returns-in_err-turned_naming c =
    let f = c.args.found.now in
    let full = full_row c.args.journal.now.used (taken_back_count f.state (own f.seat (in_use c.args.journal.now))) in
    handed_on c.from_residual.result c.from_residual.ensures.1
    ∙ naming_stops f (making_rows f.state.pins c.args.making ++ full) (sym c.in_err-turned_naming.was ∙ c.turned_naming.ensures)

pub returns-in_err-turned_edit : goal.returns-in_err-turned_edit
unfolding accepted
returns-in_err-turned_edit c =
    let f = c.args.found.now in
    let rows = making_rows f.state.pins c.args.making in
    let full = full_row c.args.journal.now.used (taken_back_count f.state (own f.seat (in_use c.args.journal.now))) in
    handed_on c.from_residual-in_err-turned_edit.result c.from_residual-in_err-turned_edit.ensures.1
    ∙ naming_goes f (rows ++ full) (sym c.in_ok-turned_naming.was ∙ c.turned_naming.ensures)
    (stops rows full (making_apart f.state.pins c.args.making) (sym c.in_err-turned_edit.was ∙ c.turned_edit.ensures) refl)

pub turned_full-requires : goal.turned_full-requires
turned_full-requires c = c.requires (naming_passed c.args.found.now (sym c.in_ok-turned_naming.was ∙ c.turned_naming.ensures)).unbroken

pub returns : goal.returns
unfolding accepted
returns c =
    let f = c.args.found.now in
    let rows = making_rows f.state.pins c.args.making in
    let full = full_row c.args.journal.now.used (taken_back_count f.state (own f.seat (in_use c.args.journal.now))) in
    naming_goes f (rows ++ full) (sym c.in_ok-turned_naming.was ∙ c.turned_naming.ensures)
    (goes rows full (making_apart f.state.pins c.args.making) (sym c.in_ok-turned_edit.was ∙ c.turned_edit.ensures) refl c.turned_full.ensures)
