-- `board::spots::is_crowded` meets its contract: `any` asks whether one beside the pin is too near. Assumes nothing.
use mathlib.Core.Path.{◌∙◌}
use native.Mathlib.Omega.{arith}
use Rattle.std.proofs.Common.{rules}
use Rattle.std.specs.Prelude.{None, Some}
use Rattle.std.proofs.lemmas.Iterator.{YieldsList-from_slice}
use Rattle.std.proofs.lemmas.Iterator.Consumers.{YieldsList-from_enumerate}
use Rattle.basics.specs.Tests.{both}
use Rattle.basics.proofs.Chains.{any_answers, passes_beside, others_pass}
use Rattle.board.specs.Spots.{spots_too_near, crowded, too_near_other}
use Rattle.board.proofs.Rules.{clear_absent}
use Rattle.board.proofs.spots.is_crowded.Goals as goal

pub returns : goal.returns
unfolding crowded too_near_other both
returns c =
    let a = c.args in
    let near = spots_too_near (Some a.at) in
    any_answers _ _ (passes_beside near a.pin) _ (YieldsList-from_enumerate (YieldsList-from_slice a.spots.now cc) c.enumerate.ensures.count) (λ x b q k. search rules) c.any.ensures.ran
    ∙ others_pass near None (clear_absent (Some a.at)) a.pin a.pin 0 a.spots.now (omega arith)
