-- `shown::put_runs` meets its contract. Assumes nothing.
use Prim.Native.Nat.{◌≤◌, ◌+◌, ◌*◌, min}
use lib.ListN.{take}
use Rattle.text.specs.Text.{text_for_each}
use Rattle.text.proofs.Printing.{Put}
use Rattle.shown.specs.Shown.{entry_line}
use Rattle.printed.specs.Answers.{most_run_bytes}
use Rattle.tree.specs.Trees.{most_runs}
use Rattle.shown.proofs.put_runs.Given as goal

abbrev pub invariant-loop-run : goal.invariant-loop-run
invariant-loop-run l = ((l.run-index ≤ min l.count most_runs) × (l.next ≤ l.at + l.run-index * most_run_bytes)) × Put l.initial.out l.at (text_for_each entry_line (take l.run-index (take (min l.count most_runs) l.runs))) l.next l.out
