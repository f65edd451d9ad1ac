-- `mill::cut_feed` meets its contract: the wiring refuses, the room is too small, or the segments are the answer. Assumes nothing.
use native.Mathlib.Omega.{arith}
use Rattle.mill.proofs.Room.{legs_fit, legs_asked, room_short, room_enough}
use Rattle.mill.proofs.cut_feed.Goals as goal

pub shared_ref_as_front-cut_legs : goal.shared_ref_as_front-cut_legs
shared_ref_as_front-cut_legs c = legs_fit _ c.told-spots c.requires.0 c.args.favour _ c.wire_feed-laid.ensures c.in_ok-laid.was

pub cut_legs-strip-requires : goal.cut_legs-strip-requires
cut_legs-strip-requires c = legs_asked _ c.told-spots c.requires.0 c.args.favour _ c.wire_feed-laid.ensures c.in_ok-laid.was

pub returns-then-room-strip-clause-err : goal.returns-then-room-strip-clause-err
returns-then-room-strip-clause-err c =
    room_short _ c.told-spots c.requires.0 c.args.favour _ c.wire_feed-laid.ensures c.in_ok-laid.was c.args.room _ c.cut_legs-strip.ensures c.if-room-strip.true

pub returns-clause-ok : goal.returns-clause-ok
returns-clause-ok c =
    room_enough _ c.told-spots c.requires.0 c.args.favour _ c.wire_feed-laid.ensures c.in_ok-laid.was c.args.room _ c.cut_legs-strip.ensures (omega arith)
