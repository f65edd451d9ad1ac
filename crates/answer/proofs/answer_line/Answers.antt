-- `answer::answer_line` meets its contract: whatever a line says, by the call that it asks for. Assumes nothing.
use mathlib.Core.Path.{refl}
use native.Mathlib.Omega.{arith}
use Rattle.edits.specs.declared.stated.Making.TheVariants.{Placing, Moving, Removing}
use Rattle.drawing.specs.Pins.{holding}
use Rattle.rows.specs.Calls.{closing, making, undoing, redoing}
use Rattle.script.proofs.Rooms.{write_room, moving_room}
use Rattle.text.proofs.Printing.{held}
use Rattle.printed.specs.Answers.{most_line_bytes, not_a_call_line}
use Rattle.answer.specs.Answered.{followed, printed}
use Rattle.answer.proofs.Telling.{called}
use Rattle.answer.proofs.Answering.{answers}
use Rattle.answer.proofs.answer_line.Goals as goal

pub write-bytes-requires : goal.write-bytes-requires
write-bytes-requires c =
    omega (arith, write_room c.args.line.now c.read_line-said.ensures c.in-Write.is)

pub move_map-bytes-requires : goal.move_map-bytes-requires
move_map-bytes-requires c =
    omega (arith, moving_room c.args.line.now c.read_line-said.ensures c.in-Moved.is)

pub returns-in-Skip : goal.returns-in-Skip
unfolding followed printed
returns-in-Skip c =
    let h = answers c.args.desk c.args.number c.args.line.now c.args.out.now c.read_line-said.ensures c.in-Skip.is
    (refl, ((refl, omega arith), refl)) in
    record { desk_value = h.0; bytes_value = h.1 }

pub returns-in-NotACall : goal.returns-in-NotACall
unfolding followed printed
returns-in-NotACall c =
    let h = answers c.args.desk c.args.number c.args.line.now c.args.out.now c.read_line-said.ensures c.in-NotACall.is
    (refl, held c.args.out.now most_line_bytes {p = not_a_call_line c.args.number} (omega arith) refl c.print_not_a_call-bytes.ensures) in
    record { desk_value = h.0; bytes_value = h.1 }

pub returns-in-Open : goal.returns-in-Open
unfolding followed printed
returns-in-Open c =
    let h = answers c.args.desk c.args.number c.args.line.now c.args.out.now c.read_line-said.ensures c.in-Open.is
    (c.open.ensures.desk_value, c.open.ensures.holds) in
    record { desk_value = h.0; bytes_value = h.1 }

pub returns-in-Close : goal.returns-in-Close
unfolding followed printed
returns-in-Close c =
    let h = answers c.args.desk c.args.number c.args.line.now c.args.out.now c.read_line-said.ensures c.in-Close.is
    (called c.args.desk c.args.out.now (closing c.in-Close.seat) c.close.ensures (c.told.ensures.desk_value, c.told.ensures.holds)) in
    record { desk_value = h.0; bytes_value = h.1 }

pub returns-in-Place : goal.returns-in-Place
unfolding followed printed
returns-in-Place c =
    let h = answers c.args.desk c.args.number c.args.line.now c.args.out.now c.read_line-said.ensures c.in-Place.is
    (called c.args.desk c.args.out.now (making c.in-Place.seat (Placing c.in-Place.pin (holding c.in-Place.at c.in-Place.net c.in-Place.part))) c.place.ensures (c.told-in-Place.ensures.desk_value, c.told-in-Place.ensures.holds)) in
    record { desk_value = h.0; bytes_value = h.1 }

pub returns-in-Move : goal.returns-in-Move
unfolding followed printed
returns-in-Move c =
    let h = answers c.args.desk c.args.number c.args.line.now c.args.out.now c.read_line-said.ensures c.in-Move.is
    (called c.args.desk c.args.out.now (making c.in-Move.seat (Moving c.in-Move.pin c.in-Move.to)) c.shift.ensures (c.told-in-Move.ensures.desk_value, c.told-in-Move.ensures.holds)) in
    record { desk_value = h.0; bytes_value = h.1 }

pub returns-in-Remove : goal.returns-in-Remove
unfolding followed printed
returns-in-Remove c =
    let h = answers c.args.desk c.args.number c.args.line.now c.args.out.now c.read_line-said.ensures c.in-Remove.is
    (called c.args.desk c.args.out.now (making c.in-Remove.seat (Removing c.in-Remove.pin)) c.remove.ensures (c.told-in-Remove.ensures.desk_value, c.told-in-Remove.ensures.holds)) in
    record { desk_value = h.0; bytes_value = h.1 }

pub returns-in-Undo : goal.returns-in-Undo
unfolding followed printed
returns-in-Undo c =
    let h = answers c.args.desk c.args.number c.args.line.now c.args.out.now c.read_line-said.ensures c.in-Undo.is
    (called c.args.desk c.args.out.now (undoing c.in-Undo.seat) c.undo.ensures (c.told-in-Undo.ensures.desk_value, c.told-in-Undo.ensures.holds)) in
    record { desk_value = h.0; bytes_value = h.1 }

pub returns-in-Redo : goal.returns-in-Redo
unfolding followed printed
returns-in-Redo c =
    let h = answers c.args.desk c.args.number c.args.line.now c.args.out.now c.read_line-said.ensures c.in-Redo.is
    (called c.args.desk c.args.out.now (redoing c.in-Redo.seat) c.redo.ensures (c.told-in-Redo.ensures.desk_value, c.told-in-Redo.ensures.holds)) in
    record { desk_value = h.0; bytes_value = h.1 }

pub returns-in-Write : goal.returns-in-Write
unfolding followed printed
returns-in-Write c =
    let h = answers c.args.desk c.args.number c.args.line.now c.args.out.now c.read_line-said.ensures c.in-Write.is
    (refl, c.write-bytes.ensures) in
    record { desk_value = h.0; bytes_value = h.1 }

pub returns-in-Wire : goal.returns-in-Wire
unfolding followed printed
returns-in-Wire c =
    let h = answers c.args.desk c.args.number c.args.line.now c.args.out.now c.read_line-said.ensures c.in-Wire.is
    (refl, c.wire-bytes.ensures) in
    record { desk_value = h.0; bytes_value = h.1 }

pub returns-in-Mill : goal.returns-in-Mill
unfolding followed printed
returns-in-Mill c =
    let h = answers c.args.desk c.args.number c.args.line.now c.args.out.now c.read_line-said.ensures c.in-Mill.is
    (refl, c.mill-bytes.ensures) in
    record { desk_value = h.0; bytes_value = h.1 }

pub returns-in-Bare : goal.returns-in-Bare
unfolding followed printed
returns-in-Bare c =
    let h = answers c.args.desk c.args.number c.args.line.now c.args.out.now c.read_line-said.ensures c.in-Bare.is
    (refl, c.wire_bare-bytes.ensures) in
    record { desk_value = h.0; bytes_value = h.1 }

pub returns-in-Drops : goal.returns-in-Drops
unfolding followed printed
returns-in-Drops c =
    let h = answers c.args.desk c.args.number c.args.line.now c.args.out.now c.read_line-said.ensures c.in-Drops.is
    (refl, c.drops-bytes.ensures) in
    record { desk_value = h.0; bytes_value = h.1 }

pub returns-in-Moved : goal.returns-in-Moved
unfolding followed printed
returns-in-Moved c =
    let h = answers c.args.desk c.args.number c.args.line.now c.args.out.now c.read_line-said.ensures c.in-Moved.is
    (refl, c.move_map-bytes.ensures) in
    record { desk_value = h.0; bytes_value = h.1 }

pub returns-in-Pins : goal.returns-in-Pins
unfolding followed printed
returns-in-Pins c =
    let h = answers c.args.desk c.args.number c.args.line.now c.args.out.now c.read_line-said.ensures c.in-Pins.is
    (refl, c.show_pins-bytes.ensures) in
    record { desk_value = h.0; bytes_value = h.1 }
