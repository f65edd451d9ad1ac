-- `answer::open` meets its contract. Assumes nothing.
use Rattle.rows.specs.Calls.{opening}
use Rattle.text.specs.Numbers.{most_pairs}
use Rattle.script.specs.Said.{map_given}
use Rattle.answer.proofs.Answering.{stored_within, stored_count, stored_first}
use Rattle.answer.proofs.Telling.{called}
use Rattle.answer.proofs.open.Goals as goal

pub slice_bounds-map-end : goal.slice_bounds-map-end
slice_bounds-map-end c =
    let g = c.given_map-bytes.ensures in
    let s = c.args in
    stored_within most_pairs 0 (map_given 4 s.line.now) g.map_after g.value.1

pub slice_bounds-open-end : goal.slice_bounds-open-end
slice_bounds-open-end c =
    let g = c.given_map-bytes.ensures in
    let s = c.args in
    stored_count most_pairs 0 (map_given 4 s.line.now) g.map_after g.value.1

pub returns : goal.returns
returns c =
    let g = c.given_map-bytes.ensures in
    let s = c.args in
    let map = stored_first most_pairs 0 (map_given 4 s.line.now) g.map_after g.value.1 g.value.0 in
    let h = called s.desk s.out.now (opening s.seat s.job s.form (map_given 4 s.line.now)) (rw map at c.open.ensures) (c.told.ensures.desk_value, c.told.ensures.holds) in
    record { desk_value = h.0; holds = h.1 }
