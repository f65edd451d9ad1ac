-- `board::spots::are_within` meets its contract: `all` asks whether each is on the board. Assumes nothing.
use Rattle.std.proofs.Common.{rules}
use Rattle.std.proofs.lemmas.Iterator.{YieldsList-from_slice}
use Rattle.basics.proofs.Chains.{each_answers}
use Rattle.board.specs.Spots.{within}
use Rattle.board.proofs.spots.are_within.Goals as goal

pub returns : goal.returns
returns c = each_answers _ _ within _ (YieldsList-from_slice c.args.spots.now cc) (λ x b q k. search rules) c.all.ensures.ran
