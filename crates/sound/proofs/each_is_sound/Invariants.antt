-- `sound::each_is_sound` meets its contract: the seats before the next are sound. Assumes nothing.
use mathlib.Core.Path.{◌≡◌}
use mathlib.Core.Bool.{true}
use Rattle.journal.specs.Journal.{in_use}
use Rattle.sound.specs.Sound.{sound_to}
use Rattle.sound.proofs.each_is_sound.Given as goal

abbrev pub invariant-loop-number : goal.invariant-loop-number
invariant-loop-number l = sound_to l.number l.seats (in_use l.journal) ≡ true
