-- `shown::pins_there` meets its contract: the pins that are there are counted. Assumes nothing.
use mathlib.Core.Path.{◌∙◌}
use Rattle.std.proofs.Common.{rules}
use Rattle.std.proofs.lemmas.Iterator.{YieldsList-from_slice}
use Rattle.std.proofs.lemmas.Iterator.Consumers.{YieldsList-from_filter, count_from_yields_List}
use Rattle.drawing.specs.Pins.{is_there}
use Rattle.shown.proofs.Lines.{counted}
use Rattle.shown.proofs.pins_there.Goals as goal

pub returns : goal.returns
unfolding is_there
returns c =
    count_from_yields_List c.filter.result c.count.result c.count.ensures.ran
    (YieldsList-from_filter _ is_there (YieldsList-from_slice c.args.pins.now cc) c.filter.ensures.closure (λ x b q k. search rules))
    ∙ counted c.args.pins.now
