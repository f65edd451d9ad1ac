use Rattle.std.proofs.Common.{◌≡◌, map as each, take}
use Rattle.text.specs.Text.{over}
use Rattle.text.proofs.Values.{pair_byte}
use Rattle.text.proofs.numbers.fill_pairs.Given as goal

-- The bytes of the pairs gone through are stored from the start on.
abbrev pub invariant-loop-i : goal.invariant-loop-i
invariant-loop-i l = l.map ≡ over (take l.i (each pair_byte l.pairs)) l.initial.map
