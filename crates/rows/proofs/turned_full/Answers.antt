-- `rows::turned_full` meets its contract. Assumes nothing.
use native.Mathlib.Omega.{arith}
use lib.ListN.{length-take}
use Rattle.journal.specs.Journal.{in_use}
use Rattle.journal.proofs.Own.{own-length}
use Rattle.rows.proofs.turned_full.Goals as goal

pub overflow_sub-journal : goal.overflow_sub-journal
overflow_sub-journal c =
    let j = c.args.journal.now in
    omega (arith, c.taken_back_count-taken_back.ensures, own-length c.args.found.now.seat (in_use j), length-take j.used j.records)
