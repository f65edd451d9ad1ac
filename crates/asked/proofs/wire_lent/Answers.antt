-- `asked::wire_lent` meets its contract: the entries fit the list, and what is answered and filled is told by the definitions. Assumes nothing.
use lib.ListN.{length}
use Rattle.asked.proofs.Lent.{seat_fits, seat_answered, legs_lent}
use Rattle.asked.proofs.wire_lent.Goals as goal

pub fill-requires : goal.fill-requires
fill-requires c =
    let a = c.args in
    rw (c.strip_of.ensures, c.wire.ensures) (seat_fits a.desk a.seat a.net (length a.legs.now) a.favour)

pub returns-clause-value : goal.returns-clause-value
returns-clause-value c =
    let a = c.args in
    rw c.wire.ensures (seat_answered a.desk a.seat a.net a.legs.now a.favour)

pub returns-clause-legs_after : goal.returns-clause-legs_after
returns-clause-legs_after c =
    let a = c.args in
    rw (c.fill.ensures, c.strip_of.ensures, c.wire.ensures) (legs_lent a.desk a.seat a.net a.legs.now a.favour)
