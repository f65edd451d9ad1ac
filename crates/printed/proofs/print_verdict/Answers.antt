-- `printed::print_verdict` meets its contract. Assumes nothing.
use mathlib.Core.Path.{◌∙◌, ap}
use Rattle.printed.specs.Answers.{told_line}
use lib.ListN.{length}
use Rattle.text.specs.Text.{over}
use Rattle.refusal.specs.declared.Told.{Told}
use Rattle.printed.proofs.print_verdict.Goals as goal

pub returns : goal.returns
returns c =
    let t = c.tell.ensures in
    let a = c.print_told.ensures in
    ((a.0.0 ∙ ap (λ (t : Told). length (told_line t)) t, a.0.1), a.1 ∙ ap (λ (t : Told). over (told_line t) c.args.out.now) t)
