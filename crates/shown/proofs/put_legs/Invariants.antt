-- `shown::put_legs` meets its contract. Assumes nothing.
use Prim.Native.Nat.{◌≤◌, ◌+◌, ◌*◌, min}
use lib.ListN.{take}
use Rattle.text.specs.Text.{text_for_each}
use Rattle.text.proofs.Printing.{Put}
use Rattle.shown.specs.Shown.{leg_text}
use Rattle.printed.specs.Answers.{most_leg_bytes}
use Rattle.laying.specs.Entries.{most_legs}
use Rattle.shown.proofs.put_legs.Given as goal

abbrev pub invariant-loop-leg : goal.invariant-loop-leg
invariant-loop-leg l = ((l.leg-index ≤ min l.count most_legs) × (l.next ≤ l.at + l.leg-index * most_leg_bytes)) × Put l.initial.out l.at (text_for_each (leg_text l.word) (take l.leg-index (take (min l.count most_legs) l.legs))) l.next l.out
