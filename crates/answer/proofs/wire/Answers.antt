-- `answer::wire` meets its contract. Assumes nothing.
use Rattle.asked.specs.Asked.{Wired, wired_of}
use Rattle.script.specs.Said.{favour_given}
use Rattle.shown.specs.Shown.{laid_text}
use Rattle.answer.proofs.Telling.{asked}
use Rattle.answer.proofs.wire.Goals as goal

pub returns : goal.returns
returns c =
    let s = c.args in
    asked (λ (w : Wired). laid_text w.answer) (wired_of s.desk.now s.seat s.net s.room (favour_given s.line.now)) s.out.now
    (rw c.given_favour.ensures at c.wire-wired.ensures) c.print_laid.ensures
