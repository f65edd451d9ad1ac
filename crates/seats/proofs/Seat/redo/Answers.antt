-- `Seat::redo` meets its contract. Assumes nothing.
use native.Mathlib.Omega.{arith}
use lib.ListN.{length-take}
use Rattle.journal.specs.Journal.{in_use, own}
use Rattle.journal.proofs.Own.{own-length}
use Rattle.seats.proofs.Found.{redo_finds}
use Rattle.seats.proofs.Seat.redo.Goals as goal

pub overflow_add-self : goal.overflow_add-self
overflow_add-self c =
    let j = c.args.journal.now in
    omega (arith, own-length c.args.seat (in_use j), length-take j.used j.records)

pub returns : goal.returns
returns c =
    rw (
      c.make.ensures,
      redo_finds c.args.self.now (own c.args.seat (in_use c.args.journal.now)) c.taken_back_count-taken_back.ensures c.requires.1 c.edit_of-edit.ensures,
    )
