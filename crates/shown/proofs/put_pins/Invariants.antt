-- `shown::put_pins` meets its contract. Assumes nothing.
use Prim.Native.Nat.{◌≤◌, ◌+◌, ◌*◌}
use lib.ListN.{take}
use Rattle.text.proofs.Printing.{Put}
use Rattle.shown.specs.Shown.{pins_text}
use Rattle.board.specs.Spots.{most_pins}
use Rattle.printed.specs.Answers.{most_pin_bytes}
use Rattle.shown.proofs.put_pins.Given as goal

abbrev pub invariant-loop-number : goal.invariant-loop-number
invariant-loop-number l = ((l.number ≤ most_pins) × (l.next ≤ l.at + l.number * most_pin_bytes)) × Put l.initial.out l.at (pins_text 0 (take l.number l.pins)) l.next l.out
