-- `answer::print_lent` meets its contract. Assumes nothing.
use Rattle.answer.proofs.Telling.{lent_done, lent_refused}
use Rattle.answer.proofs.print_lent.Goals as goal

pub returns-in-Ok : goal.returns-in-Ok
returns-in-Ok c = rw c.in-Ok.is (lent_done c.args.out.now c.args.buffer.now c.in-Ok.bytes c.print_written.ensures)

pub returns-in-Err : goal.returns-in-Err
returns-in-Err c = rw c.in-Err.is (lent_refused c.args.out.now c.args.buffer.now c.in-Err.refusal c.print_verdict.ensures)
