-- `answer::told` meets its contract. Assumes nothing.
use mathlib.Core.Path.{refl}
use native.Mathlib.Omega.{arith}
use Rattle.text.proofs.Printing.{held}
use Rattle.printed.specs.Answers.{most_line_bytes, verdict_line}
use Rattle.answer.proofs.told.Goals as goal

pub returns : goal.returns
returns c =
    let s = c.args in
    record { desk_value = refl; holds = held s.out.now most_line_bytes {p = verdict_line s.call.verdict} (omega arith) refl c.print_verdict-bytes.ensures }
