-- `asking::map_written` meets its contract. Assumes nothing.
use mathlib.Core.Path.{refl, sym, ◌∙◌}
use lib.ListN.{length}
use Rattle.refusal.specs.Refusals.{accepted}
use Rattle.refusal.proofs.Rows.{granted_away, granted_on}
use Rattle.drawing.proofs.Rules.{lawful_parts}
use Rattle.pinmap.specs.declared.Form.TheVariants.{New}
use Rattle.writemap.specs.Map.{map_of, room_rows, write_map, buffer_after}
use Rattle.pinrows.proofs.Apart.{handed_on}
use Rattle.rows.specs.Found.{naming_found}
use Rattle.rows.proofs.Rows.{naming_apart, naming_passed, buffer_away, buffer_on}
use Rattle.asking.proofs.map_written.Goals as goal

pub write_map-requires : goal.write_map-requires
write_map-requires c =
    let n = naming_passed c.args.found.now (sym c.in_ok-turned_naming.was ∙ c.turned_naming.ensures) in
    (lawful_parts _ (c.requires n.unbroken n.shown)).nets

pub returns : goal.returns
unfolding buffer_after write_map accepted
returns c =
    let f = c.args.found.now in
    let b = c.args.buffer.now in
    let rows = naming_found f in
    let more = room_rows New f.state.job f.state.pins (length b) in
    let apart = naming_apart f.broken f.seat f.state.opened in
    let e = sym c.in_ok-turned_naming.was ∙ c.turned_naming.ensures in
    let map = map_of New f.state.job f.state.pins in
    record {
      value = c.write_map.ensures.value ∙ granted_on rows more apart e refl (length map);
      buffer_after = c.write_map.ensures.buffer_after ∙ buffer_on rows more apart e map b refl;
    }

pub returns-in_err-turned_naming : goal.returns-in_err-turned_naming
unfolding accepted
returns-in_err-turned_naming c =
    let f = c.args.found.now in
    let b = c.args.buffer.now in
    let rows = naming_found f in
    let more = room_rows New f.state.job f.state.pins (length b) in
    let apart = naming_apart f.broken f.seat f.state.opened in
    let e = sym c.in_err-turned_naming.was ∙ c.turned_naming.ensures in
    let map = map_of New f.state.job f.state.pins in
    record {
      value = handed_on c.from_residual.result c.from_residual.ensures.1 ∙ granted_away rows more apart e (length map);
      buffer_after = buffer_away rows more apart e map b refl;
    }
