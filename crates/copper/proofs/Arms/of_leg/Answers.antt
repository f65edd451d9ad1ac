-- `copper::Arms::of_leg` meets its contract. Assumes nothing.
use Rattle.std.proofs.Common.{arith}
use mir.Facts.{to_z-of_z}
use Rattle.board.proofs.Signed.{same_bits}
use Rattle.copper.specs.Arms.{arms_to}
use Rattle.copper.proofs.Arms.of_leg.Goals as goal

pub returns : goal.returns
unfolding arms_to
returns c = grind (arith, to_z-of_z, same_bits)
