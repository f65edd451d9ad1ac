-- `drawing::spots_of` meets its contract: `map` asks what stands at each number. Assumes nothing.
use native.Mathlib.Omega.{arith}
use Rattle.std.proofs.Common.{rules}
use Rattle.basics.proofs.Mapped.{map_answers}
use Rattle.drawing.specs.Pins.{spot_of, spots_of}
use Rattle.drawing.proofs.spots_of.Goals as goal

pub returns : goal.returns
unfolding spots_of
returns c = map_answers _ spot_of (λ x y q k. search rules) c.args.pins.now _ _ (omega arith) c.map.ensures.items
