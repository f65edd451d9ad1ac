-- `least::Reached::weigh` meets its contract: what it finds is told by one step of the definition, and its sums fit by the bounds of costs.
-- Assumes nothing.
use mathlib.Core.Path.{◌∙◌, ap}
use mathlib.Core.Bool.{true, false, not}
use native.Mathlib.Omega.{arith}
use Rattle.least.proofs.Weighing.{asks_on, sum_fits, weighed_few, found_straight, found_bent}
use Rattle.least.proofs.Owning.{own_found, none_found}
use Rattle.least.proofs.Reached.+weigh.Goals as goal

pub returns-in_default : goal.returns-in_default
returns-in_default t c = c.owed_alone.ensures ∙ none_found _ _ _ _ _ _ _ c.in_default.ensures.first

pub weigh-requires : goal.weigh-requires
weigh-requires t c =
    let s = c.args.self.now in (
      omega (arith, c.decreases, c.in-Some.ensures.leads),
      asks_on _ _ _ s.few s.on_board _ _ c.requires _ _ _ c.next_tally-low.ensures,
    )

pub with_run-in_lower-requires : goal.with_run-in_lower-requires
with_run-in_lower-requires t c =
    let s = c.args.self.now in
    sum_fits _ _ _ s.few s.on_board _ _ c.requires _ c.in-Some.ensures.leads.1 _ _ _ c.weigh.ensures false false c.next_tally-low.ensures

pub returns-then-not-is_bent : goal.returns-then-not-is_bent
returns-then-not-is_bent t c =
    found_straight _ _ _ _ _ _ _ c.in-Some.ensures.leads.1 c.in-Some.ensures.leads.2 _ _ _ _ c.is_bent.ensures (ap not c.if-not-is_bent.true)
    c.next_tally-low.ensures c.weigh.ensures c.with_run-in_lower.ensures
    ∙ own_found _ _ _ _ _ _ _ _ c.in-Some.ensures.first

pub weigh-requires-2 : goal.weigh-requires-2
weigh-requires-2 t c =
    let s = c.args.self.now in (
      omega (arith, c.decreases, c.in-Some.ensures.leads),
      asks_on _ _ _ s.few s.on_board _ _ c.requires _ _ _ c.next_tally-up.ensures,
    )

pub with_run-in_upper-requires : goal.with_run-in_upper-requires
with_run-in_upper-requires t c =
    let s = c.args.self.now in
    sum_fits _ _ _ s.few s.on_board _ _ c.requires _ c.in-Some.ensures.leads.1 _ _ _ c.weigh-2.ensures true true c.next_tally-up.ensures

pub lesser_found-requires : goal.lesser_found-requires
lesser_found-requires t c =
    let s = c.args.self.now in (
      weighed_few _ _ _ s.few s.on_board _ _ c.requires _ c.in-Some.ensures.leads.1 _ _ _ c.weigh.ensures _ _ c.with_run-in_lower.ensures,
      weighed_few _ _ _ s.few s.on_board _ _ c.requires _ c.in-Some.ensures.leads.1 _ _ _ c.weigh-2.ensures _ _ c.with_run-in_upper.ensures,
    )

pub returns : goal.returns
returns t c =
    c.lesser_found.ensures
    ∙ found_bent _ _ _ _ _ _ _ c.in-Some.ensures.leads.1 c.in-Some.ensures.leads.2 _ _ _ _ _ _ _ c.is_bent.ensures (ap not c.if-not-is_bent.false)
    c.next_tally-low.ensures c.weigh.ensures c.with_run-in_lower.ensures c.next_tally-up.ensures c.weigh-2.ensures c.with_run-in_upper.ensures
    ∙ own_found _ _ _ _ _ _ _ _ c.in-Some.ensures.first
