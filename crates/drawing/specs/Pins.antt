-- The pins of a drawing, the feed of each net among them, and the rules that they keep.
use Rattle.std.specs.Prelude.{Bool, true, false, List, [], ◌∷◌, map, eqb, leb, ltb, ℕ, length, replicate, get_or, Option, None, Some}
use Rattle.basics.specs.Tests.{both, choose, each_of}
use Rattle.board.specs.declared.Place.{Place}
use Rattle.board.specs.Place.{same_place, middle}
use Rattle.board.specs.Spots.{Spot, most_pins, all_within, all_apart}
use Rattle.drawing.specs.declared.Held.{Held}

-- What a drawing has at one pin number: nothing, or a pin that is there, with what it holds.
abbrev pub Pin : Type 0
Pin = Option Held

-- A pin that is absent holds nothing else.
abbrev pub absent : Pin
absent = None

-- What a drawing has at a pin number; above 31, an absent pin.
abbrev pub pin_at : List Pin → ℕ → Pin
pin_at l p = get_or l p absent

-- A drawing without pins.
abbrev pub no_pins : List Pin
no_pins = replicate most_pins absent

-- A pin that is there, with what it holds.
abbrev pub there : Held → Pin
there h = Some h

-- What a pin holds: the place where it stands, its net and its part number.
abbrev pub holding : Place → ℕ → ℕ → Held
holding at net part = record { place = at; net = net; part = part }

-- Nets go from 1 to 8.
abbrev pub most_nets : ℕ
most_nets = 8

-- A net from 1 to 8.
unfoldable pub is_net : ℕ → Bool
is_net net = both (ltb 0 net) (leb net most_nets)

-- The pin is there.
unfoldable pub is_there : Pin → Bool
is_there None = false
is_there (Some h) = true

-- The pin is there, at that place.
unfoldable pub stands_at : Pin → Place → Bool
stands_at None at = false
stands_at (Some h) at = same_place h.place at

-- What a pin holds, an absent one as if it stood in the middle of the board, of no net and with part number 0.
unfoldable pub held_by : Pin → Held
held_by None = holding middle 0 0
held_by (Some h) = h

-- Two pins hold the same: place, net and part number.
unfoldable pub same_held : Held → Held → Bool
same_held h k = both (same_place h.place k.place) (both (eqb h.net k.net) (eqb h.part k.part))

-- Two pins are both absent, or both there and hold the same.
unfoldable pub same_pin : Pin → Pin → Bool
same_pin None None = true
same_pin None (Some k) = false
same_pin (Some h) None = false
same_pin (Some h) (Some k) = same_held h k

-- Pins that are the same, number by number.
unfoldable pub same_pins : List Pin → List Pin → Bool
same_pins [] [] = true
same_pins [] (r ∷ m) = false
same_pins (q ∷ l) [] = false
same_pins (q ∷ l) (r ∷ m) = both (same_pin q r) (same_pins l m)

-- What stands at the number of this pin: where it stands, and nothing else of what it holds.
unfoldable pub spot_of : Pin → Spot
spot_of None = None
spot_of (Some h) = Some h.place

-- What stands at each pin number of a drawing.
unfoldable pub spots_of : List Pin → List Spot
spots_of l = map spot_of l

-- The pin is there, and of this net.
unfoldable pub is_of : ℕ → Pin → Bool
is_of net None = false
is_of net (Some h) = eqb h.net net

-- What the feed of a net has at the number of this pin: a pin of another net is not in it.
unfoldable pub feed_spot : ℕ → Pin → Spot
feed_spot net q = choose (is_of net q) (spot_of q) None

-- The feed of a net: its pins alone, by their own numbers.
unfoldable pub feed_of : List Pin → ℕ → List Spot
feed_of l net = map (feed_spot net) l

-- The pin, if it is there, has a net from 1 to 8.
unfoldable pub has_net : Pin → Bool
has_net None = true
has_net (Some h) = is_net h.net

-- The rules of a drawing's pins: 32 numbers, each pin that is there on the board, no two too near, whatever their nets, and each of a net from 1 to 8.
unfoldable pub lawful : List Pin → Bool
lawful l = both (eqb (length l) most_pins) (both (all_within (spots_of l)) (both (all_apart (spots_of l)) (each_of has_net l)))
