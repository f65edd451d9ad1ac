-- `answer::drops` meets its contract. Assumes nothing.
use Rattle.asked.specs.Asked.{Dropped, dropped_of}
use Rattle.script.specs.Said.{sheet_given, loads_given}
use Rattle.printed.specs.Answers.{lost_line}
use Rattle.answer.proofs.Telling.{asked}
use Rattle.answer.proofs.drops.Goals as goal

pub returns : goal.returns
returns c =
    let s = c.args in
    asked (λ (w : Dropped). lost_line w.answer) (dropped_of s.desk.now s.seat s.net (loads_given s.line.now) (sheet_given s.line.now)) s.out.now
    (rw (c.given_loads-loads.ensures, c.given_sheet-sheet.ensures) at c.drops-dropped.ensures) c.print_drops.ensures
