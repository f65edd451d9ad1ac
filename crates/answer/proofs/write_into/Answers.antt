-- `answer::write_into` meets its contract. Assumes nothing.
use Rattle.answer.proofs.Telling.{written_so}
use Rattle.answer.proofs.write_into.Goals as goal

pub returns : goal.returns
returns c =
    let s = c.args in
    written_so s.desk.now s.out.now s.seat s.buffer.now c.write-written.ensures.value c.write-written.ensures.buffer_after c.print_lent.ensures
