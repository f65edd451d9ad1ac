-- `drops::refused` meets its contract. Assumes nothing.
use mathlib.Core.Path.{refl}
use lib.Ieee.{of_bits}
use Rattle.drops.specs.Drops.{none_lost}
use Rattle.drops.proofs.refused.Goals as goal

pub returns : goal.returns
unfolding none_lost of_bits
returns c = refl
