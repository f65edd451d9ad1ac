-- `asked::mill_lent` meets its contract: the entries fit the list, and what is answered and filled is told by the definitions. Assumes nothing.
use lib.ListN.{length}
use Rattle.asked.proofs.Lent.{milling_fits, milling_answered, segments_lent}
use Rattle.asked.proofs.mill_lent.Goals as goal

pub fill-requires : goal.fill-requires
fill-requires c =
    let a = c.args in
    rw (c.strip_of.ensures, c.mill.ensures) (milling_fits a.desk a.seat a.net (length a.segments.now) a.favour)

pub returns-clause-value : goal.returns-clause-value
returns-clause-value c =
    let a = c.args in
    rw c.mill.ensures (milling_answered a.desk a.seat a.net a.segments.now a.favour)

pub returns-clause-segments_after : goal.returns-clause-segments_after
returns-clause-segments_after c =
    let a = c.args in
    rw (c.fill.ensures, c.strip_of.ensures, c.mill.ensures) (segments_lent a.desk a.seat a.net a.segments.now a.favour)
