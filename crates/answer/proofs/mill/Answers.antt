-- `answer::mill` meets its contract. Assumes nothing.
use Rattle.asked.specs.Asked.{Milled, milled_of}
use Rattle.script.specs.Said.{favour_given}
use Rattle.shown.specs.Shown.{cut_text}
use Rattle.answer.proofs.Telling.{asked}
use Rattle.answer.proofs.mill.Goals as goal

pub returns : goal.returns
returns c =
    let s = c.args in
    asked (λ (w : Milled). cut_text w.answer) (milled_of s.desk.now s.seat s.net s.room (favour_given s.line.now)) s.out.now
    (rw c.given_favour.ensures at c.mill-milled.ensures) c.print_cut.ensures
