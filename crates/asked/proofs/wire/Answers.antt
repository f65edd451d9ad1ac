-- `asked::wire` meets its contract, by what is found. Assumes nothing.
use Rattle.asked.proofs.Writing.{found_lawful, wire_laid}
use Rattle.asked.proofs.wire.Goals as goal

pub feed_wired-answer-requires : goal.feed_wired-answer-requires
feed_wired-answer-requires c = found_lawful c.args.desk c.args.seat c.find.ensures

pub returns : goal.returns
returns c =
    let a = c.args in
    wire_laid a.desk a.seat c.find.ensures a.net a.room a.favour c.feed_wired-answer.ensures
