-- `answer::move_map` meets its contract. Assumes nothing.
use mathlib.Core.Path.{sym}
use native.Mathlib.Omega.{arith}
use lib.Seq.{length-take-le}
use Rattle.text.specs.Numbers.{most_pairs}
use Rattle.script.specs.Said.{map_given}
use Rattle.answer.proofs.Answering.{stored_within, stored_count, stored_first}
use Rattle.answer.proofs.Telling.{lent_first}
use Rattle.answer.proofs.move_map.Goals as goal

pub slice_bounds-map-end : goal.slice_bounds-map-end
slice_bounds-map-end c =
    let g = c.given_map-bytes.ensures in
    let s = c.args in
    stored_within most_pairs 0 (map_given 3 s.line.now) g.map_after g.value.1

pub slice_bounds-move_into-end : goal.slice_bounds-move_into-end
slice_bounds-move_into-end c =
    let g = c.given_map-bytes.ensures in
    let s = c.args in
    stored_count most_pairs 0 (map_given 3 s.line.now) g.map_after g.value.1

pub slice_bounds-move_into-end-2 : goal.slice_bounds-move_into-end-2
slice_bounds-move_into-end-2 c =
    sym (length-take-le c.args.room c.lent_bytes-buffer.result (omega (arith, c.lent_bytes-buffer.type_inv)))

pub returns : goal.returns
returns c =
    let h = c.move_into.ensures in
    let g = c.given_map-bytes.ensures in
    let map = stored_first most_pairs 0 (map_given 3 c.args.line.now) g.map_after g.value.1 g.value.0 in
    rw (map, lent_first c.args.room c.lent_bytes-buffer.ensures c.requires) at h
