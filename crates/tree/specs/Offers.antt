-- How the runs are found: each pin that waits keeps one reached pin, the near pin of its earliest pair so far. No entry point's promise rests on these.
use Rattle.std.specs.Prelude.{◌≡◌, Bool, true, false, List, ℕ, zero, suc, ◌<◌, length, get_or, position, Option, Some, None}
use Rattle.basics.specs.Tests.{choose}
use Rattle.basics.specs.Lists.{values_from}
use Rattle.board.specs.declared.Place.{Place}
use Rattle.board.specs.Place.{inside}
use Rattle.board.specs.Spots.{Spot, most_pins, present}
use Rattle.tree.specs.Weight.{pair_of, comes_before}
use Rattle.tree.specs.declared.Offer.{Offer}

-- The lowest number of a pin that is there; none where none is.
abbrev pub first_pin : List Spot → Option ℕ
first_pin feed = position present feed

-- The offer of a reached pin to one that waits, where pins stand as `at` says.
unfoldable pub offer_of : (ℕ → Place) → ℕ → ℕ → Offer
offer_of at near far = record { near = near; far = far; pair = pair_of near (at near) far (at far) }

-- The earlier of two offers; the first where neither comes before.
unfoldable pub earlier_of : Offer → Offer → Offer
earlier_of o p = choose (comes_before p.pair o.pair) p o

-- The same where there may be none: an offer is earlier than none.
unfoldable pub earlier_offer : Option Offer → Option Offer → Option Offer
earlier_offer o None = o
earlier_offer None (Some p) = Some p
earlier_offer (Some o) (Some p) = Some (earlier_of o p)

-- What pin k is offered at best once the pin `latest` is reached: the earlier of the offers of the pin that it keeps and of that one.
unfoldable pub best_offer : (ℕ → Place) → List ℕ → ℕ → ℕ → Offer
best_offer at near latest k = earlier_of (offer_of at (get_or near k 0) k) (offer_of at latest k)

-- What pin k is offered then: that if it waits, and else none.
unfoldable pub offer_at : (ℕ → Place) → List Bool → List ℕ → ℕ → ℕ → Option Offer
offer_at at waits near latest k = choose (get_or waits k false) (Some (best_offer at near latest k)) None

-- The earliest of the offers to the pins below i.
unfoldable pub earliest_below : (ℕ → Option Offer) → ℕ → Option Offer
earliest_below offers zero = None
earliest_below offers (suc i) = earlier_offer (earliest_below offers i) (offers i)

-- The earliest of all offers; none where no pin waits.
unfoldable pub next_offer : (ℕ → Place) → List Bool → List ℕ → ℕ → Option Offer
next_offer at waits near latest = earliest_below (offer_at at waits near latest) most_pins

-- The pin that pin k keeps: the near pin of its offer, if it waits.
unfoldable pub near_at : (ℕ → Place) → List Bool → List ℕ → ℕ → ℕ → ℕ
near_at at waits near latest k = choose (get_or waits k false) (best_offer at near latest k).near (get_or near k 0)

-- The pins that are kept.
unfoldable pub next_nears : (ℕ → Place) → List Bool → List ℕ → ℕ → List ℕ
next_nears at waits near latest = values_from (near_at at waits near latest) 0 most_pins

-- A pin number whose place is on the board.
pub record Standing (at : ℕ → Place) (pin : ℕ) : Type 0 where
  pub low : pin < most_pins
  pub on : inside (at pin) ≡ true

-- What a turn asks: each pin that waits, the pin that it keeps, and the latest pin are such pins.
pub record Ready (at : ℕ → Place) (waits : List Bool) (near : List ℕ) (latest : ℕ) : Type 0 where
  pub long : length near ≡ most_pins
  pub last : Standing at latest
  pub waiting : (k : ℕ) → k < most_pins → get_or waits k false ≡ true → Standing at k
  pub kept : (k : ℕ) → k < most_pins → get_or waits k false ≡ true → Standing at (get_or near k 0)
