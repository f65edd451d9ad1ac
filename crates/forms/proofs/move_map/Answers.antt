-- `forms::move_map` meets its contract, by what turns it away. Assumes nothing.
use mathlib.Core.Path.{ap, sym, ◌∙◌}
use Rattle.std.specs.Prelude.{Err}
use Rattle.std.proofs.lemmas.Result.{err_from_is_err_and}
use Rattle.forms.proofs.Moving.{read_away, moved_nets, form_away, form_on}
use Rattle.forms.proofs.move_map.Goals as goal

pub returns-in_err-pins : goal.returns-in_err-pins
returns-in_err-pins c =
    let a = c.args in
    let p = err_from_is_err_and c.from_residual.result c.from_residual.ensures.1 in
    let o = rw c.other_than.ensures at c.read_under.ensures in
    let m = read_away a.to a.job a.map.now a.buffer.now (sym o ∙ c.in_err-pins.was) in
    record { value = p.1 ∙ ap Err p.2 ∙ m.0; buffer_after = m.1 }

pub returns-in_err-turned_moving : goal.returns-in_err-turned_moving
returns-in_err-turned_moving c =
    let a = c.args in
    let p = err_from_is_err_and c.from_residual-in_err-turned_moving.result c.from_residual-in_err-turned_moving.ensures.1 in
    let o = rw c.other_than.ensures at c.read_under.ensures in
    let m = form_away a.to a.job a.map.now a.buffer.now (sym o ∙ c.in_ok-pins.was) c.turned_moving.ensures c.in_err-turned_moving.was in
    record { value = p.1 ∙ ap Err p.2 ∙ m.0; buffer_after = m.1 }

pub write_map-requires : goal.write_map-requires
write_map-requires c =
    let a = c.args in
    let o = rw c.other_than.ensures at c.read_under.ensures in
    moved_nets a.to a.job a.map.now a.buffer.now (sym o ∙ c.in_ok-pins.was)

pub returns : goal.returns
returns c =
    let a = c.args in
    let o = rw c.other_than.ensures at c.read_under.ensures in
    let m = form_on a.to a.job a.map.now a.buffer.now (sym o ∙ c.in_ok-pins.was) c.turned_moving.ensures c.in_ok-turned_moving.was in
    record { value = c.write_map.ensures.value ∙ m.0; buffer_after = c.write_map.ensures.buffer_after ∙ m.1 }
