-- `text::numbers::fill_map` meets its contract. Assumes nothing.
use Rattle.std.proofs.Common.{◌∙◌, sym}
use Rattle.text.specs.Numbers.{bytes_of, spelled}
use Rattle.text.proofs.Values.{spelled-length, form_stored, form_none}
use Rattle.text.proofs.numbers.fill_map.Goals as goal

pub fill_pairs-requires : goal.fill_pairs-requires
fill_pairs-requires c = spelled-length c.args.word.now (sym c.is_spelled.ensures ∙ c.if-is_spelled.true)

pub returns-then-is_spelled : goal.returns-then-is_spelled
unfolding spelled
returns-then-is_spelled c =
    let e = c.fill_pairs.ensures in
    let h = form_stored (bytes_of c.args.word.now) c.args.map.now (sym c.is_spelled.ensures ∙ c.if-is_spelled.true) e.value.0 e.value.1 e.map_after in
    record { value = h.0; map_after = h.1 }

pub returns-else-is_spelled : goal.returns-else-is_spelled
unfolding spelled
returns-else-is_spelled c =
    let h = form_none (bytes_of c.args.word.now) c.args.map.now (sym c.is_spelled.ensures ∙ c.if-is_spelled.false) in
    record { value = h.0; map_after = h.1 }
