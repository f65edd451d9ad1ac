-- `loads::loads_fit` meets its contract: `all` asks of each pin number whether its load is in its range or no pin is there. Assumes nothing.
use Rattle.std.proofs.Common.{rules, ◌∙◌, arith}
use Rattle.std.proofs.lemmas.Iterator.{YieldsList-from_slice, YieldsList-from_zip}
use Rattle.basics.proofs.Chains.{each_answers}
use Rattle.loads.proofs.Ranges.{passes, loads_pass}
use Rattle.loads.proofs.loads_fit.Goals as goal

pub returns : goal.returns
returns c =
    each_answers c.all.new.self _ passes _ (YieldsList-from_zip (YieldsList-from_slice c.args.loads.now cc) (YieldsList-from_slice c.args.spots.now cc))
    (λ x b q k. search rules) c.all.ensures.ran
    ∙ loads_pass c.args.loads.now c.args.spots.now (omega arith)
