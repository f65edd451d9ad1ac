-- `asked::drops` meets its contract, by what is found. Assumes nothing.
use Rattle.asked.proofs.Writing.{found_lawful, drops_told}
use Rattle.asked.proofs.drops.Goals as goal

pub feed_dropped-answer-requires : goal.feed_dropped-answer-requires
feed_dropped-answer-requires c = found_lawful c.args.desk c.args.seat c.find.ensures

pub returns : goal.returns
returns c =
    let a = c.args in
    drops_told a.desk a.seat c.find.ensures a.net a.loads.now a.sheet c.feed_dropped-answer.ensures
