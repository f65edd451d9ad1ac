-- `printed::put_drops` meets its contract. Assumes nothing.
use Prim.Native.Nat.{◌≤◌, ◌+◌, ◌*◌, ◌-◌}
use lib.ListN.{take}
use Rattle.board.specs.Spots.{most_pins}
use Rattle.text.specs.Text.{text_for_each}
use Rattle.text.proofs.Printing.{Put}
use Rattle.printed.specs.Answers.{most_drop_bytes, drop_text}
use Rattle.printed.proofs.put_drops.Given as goal

abbrev pub invariant-loop-drop : goal.invariant-loop-drop
invariant-loop-drop l = ((l.drop-index ≤ most_pins) × (l.next ≤ l.at + l.drop-index * most_drop_bytes)) × Put l.initial.out l.at (text_for_each drop_text (take l.drop-index l.drops)) l.next l.out
