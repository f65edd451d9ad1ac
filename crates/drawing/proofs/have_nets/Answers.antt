-- `drawing::have_nets` meets its contract: `all` asks whether each has a net. Assumes nothing.
use Rattle.std.proofs.Common.{rules}
use Rattle.std.proofs.lemmas.Iterator.{YieldsList-from_slice}
use Rattle.basics.proofs.Chains.{each_answers}
use Rattle.drawing.specs.Pins.{has_net}
use Rattle.drawing.proofs.have_nets.Goals as goal

pub returns : goal.returns
returns c = each_answers _ _ has_net _ (YieldsList-from_slice c.args.pins.now cc) (λ x b q k. search rules) c.all.ensures.ran
