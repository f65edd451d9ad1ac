-- `drawing::feed_of` meets its contract: `map` asks what the feed has at each number. Assumes nothing.
use native.Mathlib.Omega.{arith}
use Rattle.std.proofs.Common.{rules}
use Rattle.basics.proofs.Mapped.{map_answers}
use Rattle.drawing.specs.Pins.{feed_spot, feed_of}
use Rattle.drawing.proofs.feed_of.Goals as goal

pub returns : goal.returns
unfolding feed_of
returns c = map_answers _ (feed_spot c.args.net) (λ x y q k. search rules) c.args.pins.now _ _ (omega arith) c.map.ensures.items
