-- `laying::places_of` meets its contract: the place of each number is made. Assumes nothing.
use Rattle.std.proofs.Common.{rules}
use Rattle.board.specs.Place.{middle}
use Rattle.laying.specs.Reaching.{place_if_reached, places_of}
use Rattle.laying.proofs.Filling.{made_values}
use Rattle.laying.proofs.places_of.Goals as goal

pub returns : goal.returns
unfolding places_of
returns c = made_values (place_if_reached c.args.spots.now c.args.runs.now) _ middle (λ i a q k. search rules) _ _ c.from_fn.ensures.items
