-- `tree::next_offer` meets its contract: the earliest offer so far, and the kept pins filled in from the front. Assumes nothing.
use borrow.Author.Rules.{rules}
use native.Mathlib.Omega.{arith}
use mathlib.Core.Path.{refl, ◌≡◌}
use Rattle.std.proofs.Common.{Some}
use Rattle.basics.proofs.Lists.{overlaid_none}
use Rattle.board.specs.Spots.{place_at}
use Rattle.tree.specs.Offers.{earliest_below, earlier_offer}
use Rattle.tree.proofs.Loops.{still_kept, nears_pass, next_pass, nears_turn, next_turn, nears_end, next_end}
use Rattle.tree.proofs.next_offer.Goals as goal

pub loop-pin-init : goal.loop-pin-init
unfolding earliest_below
loop-pin-init c = (search rules, refl, overlaid_none _ _)

pub offer_of-kept-requires : goal.offer_of-kept-requires
offer_of-kept-requires c =
    let a = c.args in
    let w = c.if-not-waits-pin.false in
    let k = still_kept (place_at a.spots.now) a.waits.now a.near.now c.loop-pin.near a.latest c.loop-pin.pin c.requires.long c.loop-pin.invariant.2 (omega arith) in
    (rw k (c.requires.kept c.loop-pin.pin (omega arith) w), c.requires.waiting c.loop-pin.pin (omega arith) w)

pub loop-pin-preserved : goal.loop-pin-preserved
unfolding earlier_offer
loop-pin-preserved c =
    let a = c.args in
    let at = place_at a.spots.now in
    let earlier : Some c.map_or.result ≡ earlier_offer c.loop-pin.next (Some c.earlier-offer.result) = search rules in (
      search rules,
      next_turn at a.waits.now a.near.now c.loop-pin.near a.latest c.loop-pin.pin c.requires.long c.loop-pin.invariant.2 (omega arith) c.if-not-waits-pin.false
          c.offer_of-kept.result c.offer_of-new.result c.earlier-offer.result c.offer_of-kept.ensures c.offer_of-new.ensures
          c.earlier-offer.ensures c.loop-pin.next (Some c.map_or.result) c.loop-pin.invariant.1 earlier,
      nears_turn at a.waits.now a.near.now c.loop-pin.near a.latest c.loop-pin.pin c.requires.long c.loop-pin.invariant.2 (omega arith) c.if-not-waits-pin.false
          c.offer_of-kept.result c.offer_of-new.result c.earlier-offer.result c.offer_of-kept.ensures c.offer_of-new.ensures
          c.earlier-offer.ensures,
    )

pub loop-pin-preserved-then-not-waits-pin : goal.loop-pin-preserved-then-not-waits-pin
loop-pin-preserved-then-not-waits-pin c =
    let a = c.args in
    let at = place_at a.spots.now in (
      search rules,
      next_pass at a.waits.now a.near.now c.loop-pin.near a.latest c.loop-pin.pin c.requires.long c.loop-pin.invariant.2 (omega arith) c.if-not-waits-pin.true
          c.loop-pin.next c.loop-pin.invariant.1,
      nears_pass at a.waits.now a.near.now c.loop-pin.near a.latest c.loop-pin.pin c.requires.long c.loop-pin.invariant.2 (omega arith) c.if-not-waits-pin.true,
    )

pub returns : goal.returns
returns c =
    let a = c.args in
    let at = place_at a.spots.now in record {
      value = next_end at a.waits.now a.near.now c.loop-pin.near a.latest c.loop-pin.pin c.requires.long c.loop-pin.invariant.2 (omega arith)
          c.loop-pin.next c.loop-pin.invariant.1;
      near_after = nears_end at a.waits.now a.near.now c.loop-pin.near a.latest c.loop-pin.pin c.requires.long c.loop-pin.invariant.2 (omega arith);
    }
