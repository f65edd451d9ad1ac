-- `drops::run_drop` meets its contract: the distance is below 2 ^ 24, so an f32 holds it. Assumes nothing.
use Prim.Native.Nat.{◌^◌}
use native.Mathlib.Omega.{arith}
use lib.Dec.{le→leb}
use lib.Ieee.{in_float}
use Rattle.drops.proofs.run_drop.Goals as goal

pub int_to_float-steps : goal.int_to_float-steps
unfolding in_float
int_to_float-steps c = le→leb c.args.distance (2 ^ 24) (omega arith)
