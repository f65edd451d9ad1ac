-- `answer::move_into` meets its contract. Assumes nothing.
use Rattle.answer.proofs.Telling.{moved_so}
use Rattle.answer.proofs.move_into.Goals as goal

pub returns : goal.returns
returns c =
    let s = c.args in
    moved_so s.out.now s.to s.job s.map.now s.buffer.now c.move_map-moved.ensures.value c.move_map-moved.ensures.buffer_after c.print_lent.ensures
