-- `asked::write` meets its contract, by what is found. Assumes nothing.
use Rattle.asked.proofs.Writing.{found_lawful}
use Rattle.asked.proofs.write.Goals as goal

pub map_written-answer-requires : goal.map_written-answer-requires
map_written-answer-requires c =
    let a = c.args in
    found_lawful a.desk a.seat c.find.ensures
