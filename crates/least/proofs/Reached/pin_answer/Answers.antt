-- `least::Reached::pin_answer` meets its contract: either shape of the run that reached the pin is weighed with the runs that lead on. Assumes nothing.
use mathlib.Core.Path.{ap}
use mathlib.Core.Bool.{not}
use Rattle.least.proofs.Collecting.{weighs, fits_two, answer_straight, answer_bent}
use Rattle.least.proofs.Reached.pin_answer.Goals as goal

pub weigh-in_lower-requires : goal.weigh-in_lower-requires
weigh-in_lower-requires c =
    let s = c.args.self.now in
    weighs _ _ _ _ s.few s.on_board _ c.requires _ _ c.first_tally-low.ensures

pub returns-then-not-is_bent_into : goal.returns-then-not-is_bent_into
returns-then-not-is_bent_into c =
    let s = c.args.self.now in
    answer_straight _ _ _ _ s.few s.on_board _ c.requires _ _ c.first_tally-low.ensures c.weigh-in_lower.ensures
    _ c.is_bent_into.ensures (ap not c.if-not-is_bent_into.true)

pub weigh-in_upper-requires : goal.weigh-in_upper-requires
weigh-in_upper-requires c =
    let s = c.args.self.now in
    weighs _ _ _ _ s.few s.on_board _ c.requires _ _ c.first_tally-up.ensures

pub overflow_add-result : goal.overflow_add-result
overflow_add-result c =
    let s = c.args.self.now in
    record {
      fits = fits_two _ _ _ _ s.few s.on_board _ c.requires _ _ c.first_tally-low.ensures c.weigh-in_lower.ensures
          _ _ c.first_tally-up.ensures c.weigh-in_upper.ensures;
    }

pub returns : goal.returns
returns c =
    let s = c.args.self.now in
    answer_bent _ _ _ _ s.few s.on_board _ c.requires _ _ c.first_tally-low.ensures c.weigh-in_lower.ensures
    _ _ c.first_tally-up.ensures c.weigh-in_upper.ensures _ c.is_bent_into.ensures (ap not c.if-not-is_bent_into.false)
