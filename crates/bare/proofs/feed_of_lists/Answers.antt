-- `bare::feed_of_lists` meets its contract: the pin at each position is made. Assumes nothing.
use Rattle.std.proofs.Common.{rules}
use Rattle.std.specs.Prelude.{None}
use Rattle.laying.proofs.Filling.{made_values}
use Rattle.bare.specs.Bare.{listed_at, feed_of_lists}
use Rattle.bare.proofs.feed_of_lists.Goals as goal

pub returns : goal.returns
unfolding feed_of_lists
returns c = made_values (listed_at c.args.xs.now c.args.ys.now) _ None (λ i a q k. search rules) _ _ c.from_fn.ensures.items
