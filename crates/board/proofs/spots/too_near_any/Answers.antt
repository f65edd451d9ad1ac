-- `board::spots::too_near_any` meets its contract: `any` asks whether one is too near. Assumes nothing.
use Rattle.std.proofs.Common.{rules}
use Rattle.std.specs.Prelude.{Some}
use Rattle.std.proofs.lemmas.Iterator.{YieldsList-from_slice}
use Rattle.basics.proofs.Chains.{any_answers}
use Rattle.board.specs.Spots.{spots_too_near}
use Rattle.board.proofs.spots.too_near_any.Goals as goal

pub returns : goal.returns
returns c = any_answers _ _ (spots_too_near (Some c.args.at)) _ (YieldsList-from_slice c.args.spots.now cc) (λ x b q k. search rules) c.any.ensures.ran
