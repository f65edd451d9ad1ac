-- `asked::mill` meets its contract, by what is found. Assumes nothing.
use Rattle.asked.proofs.Writing.{found_lawful, mill_cut}
use Rattle.asked.proofs.mill.Goals as goal

pub feed_milled-answer-requires : goal.feed_milled-answer-requires
feed_milled-answer-requires c = found_lawful c.args.desk c.args.seat c.find.ensures

pub returns : goal.returns
returns c =
    let a = c.args in
    mill_cut a.desk a.seat c.find.ensures a.net a.room a.favour c.feed_milled-answer.ensures
