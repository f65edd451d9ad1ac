-- `tree::are_there` meets its contract: `map` asks of each pin whether it is there. Assumes nothing.
use native.Mathlib.Omega.{arith}
use Rattle.std.proofs.Common.{rules}
use Rattle.basics.proofs.Mapped.{map_answers}
use Rattle.board.specs.Spots.{present}
use Rattle.tree.proofs.are_there.Goals as goal

pub returns : goal.returns
returns c = map_answers _ present (λ x y q k. search rules) c.args.spots.now _ _ (omega arith) c.map.ensures.items
