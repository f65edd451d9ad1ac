-- `text::put::put_hex` meets its contract. Assumes nothing.
use Rattle.std.proofs.Common.{◌≡◌, ◌+◌, ◌*◌, take}
use Rattle.std.proofs.lemmas.List.Edits.{sets}
use Rattle.text.specs.Digits.{hex}
use Rattle.text.proofs.put.put_hex.Given as goal

-- The digits of the bytes gone through are put, two for each.
abbrev pub invariant-loop-b : goal.invariant-loop-b
invariant-loop-b l = record { far : l.next ≡ l.at + l.b-index * 2; put : l.out ≡ sets l.initial.out l.at (hex (take l.b-index l.bytes)) }
