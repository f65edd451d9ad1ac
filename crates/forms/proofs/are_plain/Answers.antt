-- `forms::are_plain` meets its contract: `all` asks whether each is plain. Assumes nothing.
use Rattle.std.proofs.Common.{rules}
use Rattle.std.proofs.lemmas.Iterator.{YieldsList-from_slice}
use Rattle.basics.proofs.Chains.{each_answers}
use Rattle.pinmap.specs.Map.{plain}
use Rattle.forms.proofs.are_plain.Goals as goal

pub returns : goal.returns
returns c = each_answers _ _ plain _ (YieldsList-from_slice c.args.pins.now cc) (λ x b q k. search rules) c.all.ensures.ran
