use Rattle.std.proofs.Common.{◌≡◌, ◌<◌, ◌^◌, drop}
use Rattle.text.specs.Numbers.{hex_from}
use Rattle.text.proofs.numbers.bits.Given as goal

-- The value of the digits gone through is within them, and the digits left go on from it.
abbrev pub invariant-loop-b : goal.invariant-loop-b
invariant-loop-b l = record { within : l.n < 16 ^ l.b-index; left : hex_from 0 l.digits ≡ hex_from l.n (drop l.b-index l.digits) }
