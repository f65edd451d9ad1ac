-- `tree::next_offer` meets its contract: the earliest offer so far, and the kept pins filled in from the front. Assumes nothing.
use mathlib.Core.Path.{◌≡◌}
use Prim.Native.Nat.{◌≤◌}
use Rattle.basics.proofs.Lists.{overlaid}
use Rattle.board.specs.Spots.{most_pins, place_at}
use Rattle.tree.specs.Offers.{offer_at, earliest_below, next_nears}
use Rattle.tree.proofs.next_offer.Given as goal

abbrev pub invariant-loop-pin : goal.invariant-loop-pin
invariant-loop-pin l = (l.pin ≤ most_pins)
    × (l.next ≡ earliest_below (offer_at (place_at l.spots) l.waits l.initial.near l.latest) l.pin)
    × (l.near ≡ overlaid (next_nears (place_at l.spots) l.waits l.initial.near l.latest) l.initial.near l.pin)
