-- `writemap::write_records` meets its contract. The loop's invariant: storing the records of the pins from `number` on gives what storing the map gives.
-- Assumes nothing.
use native.Mathlib.Omega.{arith}
use Rattle.writemap.proofs.Written.{storing_start, storing_room, storing_next, storing_end, net_at}
use Rattle.writemap.proofs.write_records.Goals as goal

pub loop-number-init : goal.loop-number-init
loop-number-init c = storing_start _ _ _ _ c.requires.0

pub write_pin-at-requires : goal.write_pin-at-requires
write_pin-at-requires c =
    let A = c.args in
    let L = c.loop-number in
    (storing_room A.form A.job A.pins.now A.buffer.now L.buffer L.at L.number L.invariant (omega arith), omega arith, net_at A.pins.now L.number c.requires.1)

pub loop-number-preserved : goal.loop-number-preserved
loop-number-preserved c =
    let A = c.args in
    let L = c.loop-number in
    let e = c.write_pin-at.ensures in
    storing_next A.form A.job A.pins.now A.buffer.now L.buffer L.at L.number L.invariant (omega arith) e.value e.buffer_after

pub returns : goal.returns
returns c =
    let A = c.args in
    let L = c.loop-number in
    storing_end A.form A.job A.pins.now A.buffer.now L.buffer L.at L.number L.invariant (omega arith) c.requires.0
