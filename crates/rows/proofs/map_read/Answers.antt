-- `rows::map_read` meets its contract. Assumes nothing.
use mathlib.Core.Path.{refl, sym, ◌∙◌}
use Rattle.refusal.specs.Refusals.{accepted}
use Rattle.refusal.proofs.Rows.{granted_away, granted_on}
use Rattle.drawing.specs.Pins.{no_pins}
use Rattle.readmap.specs.Map.{records_of, with_pins_of, map_rows, read_map}
use Rattle.seats.specs.Seats.{jobs_in}
use Rattle.pinrows.proofs.Apart.{handed_on}
use Rattle.rows.specs.Refusals.{taking_rows}
use Rattle.rows.proofs.Rows.{taking_apart}
use Rattle.rows.proofs.map_read.Goals as goal

pub returns : goal.returns
unfolding read_map accepted
returns c =
    let a = c.args in
    let f = a.found.now in
    let jobs = jobs_in a.seats.now in
    c.read_map.ensures
    ∙ granted_on (taking_rows f.broken f.seat f.state.opened a.job jobs) (map_rows a.form a.map.now a.job)
    (taking_apart f.broken f.seat f.state.opened a.job jobs)
    (sym c.in_ok-turned_taking.was ∙ c.turned_taking.ensures) refl (with_pins_of a.form no_pins (records_of a.form a.map.now))

pub returns-in_err-turned_taking : goal.returns-in_err-turned_taking
returns-in_err-turned_taking c =
    let a = c.args in
    let f = a.found.now in
    let jobs = jobs_in a.seats.now in
    handed_on c.from_residual.result c.from_residual.ensures.1
    ∙ granted_away (taking_rows f.broken f.seat f.state.opened a.job jobs) (map_rows a.form a.map.now a.job)
    (taking_apart f.broken f.seat f.state.opened a.job jobs)
    (sym c.in_err-turned_taking.was ∙ c.turned_taking.ensures) (with_pins_of a.form no_pins (records_of a.form a.map.now))
