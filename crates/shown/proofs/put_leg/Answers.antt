-- `shown::put_leg` meets its contract. Assumes nothing.
use Rattle.shown.specs.Shown.{leg_text}
use Rattle.shown.proofs.put_leg.Goals as goal

pub returns : goal.returns
unfolding leg_text
returns c = c.print_leg.ensures
