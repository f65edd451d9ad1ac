-- `least::Reached::least_cost` meets its contract: it asks the first pin. Assumes nothing.
use Rattle.least.specs.Asking.{asked_pin, least_of_tree}
use Rattle.least.proofs.Whole.{askable}
use Rattle.least.proofs.Reached.least_cost.Goals as goal

pub pin_best-asked-requires : goal.pin_best-asked-requires
pin_best-asked-requires c =
    let s = c.args.self.now in
    askable _ _ s.few s.near_first

pub returns : goal.returns
unfolding asked_pin least_of_tree
returns c = rw c.pin_best-asked.ensures
