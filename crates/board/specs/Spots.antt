-- Feeds: what stands at each pin number, and the rules that the pins keep.
use Rattle.std.specs.Prelude.{Bool, true, false, List, ℕ, get_or, set, Option, None, Some}
use Rattle.basics.specs.Tests.{any_of, each_of, no_two}
use Rattle.board.specs.declared.Place.{Place}
use Rattle.board.specs.Place.{inside, middle, too_near}

-- What stands at a pin's number: nothing, or a pin at a place.
abbrev pub Spot : Type 0
Spot = Option Place

-- Pins are numbered 0 to 31.
abbrev pub most_pins : ℕ
most_pins = 32

-- A pin is there.
abbrev pub present : Spot → Bool
present None = false
present (Some p) = true

-- Where a pin stands; the middle of the board stands in for a pin that is not there.
abbrev pub place_of : Spot → Place
place_of None = middle
place_of (Some p) = p

-- What a feed has at a pin's number.
abbrev pub spot_at : List Spot → ℕ → Spot
spot_at feed i = get_or feed i None

-- Where the pin with this number stands; the middle of the board stands in for one that is not there.
abbrev pub place_at : List Spot → ℕ → Place
place_at feed i = place_of (spot_at feed i)

-- The place with this number in a list of places.
abbrev pub place_in : List Place → ℕ → Place
place_in places i = get_or places i middle

-- A pin, if it is there, is on the board.
unfoldable pub within : Spot → Bool
within None = true
within (Some p) = inside p

-- Two pins are both there, and too near each other.
unfoldable pub spots_too_near : Spot → Spot → Bool
spots_too_near None t = false
spots_too_near (Some p) None = false
spots_too_near (Some p) (Some q) = too_near p q

-- A pin is too near one of these.
abbrev pub too_near_any : Spot → List Spot → Bool
too_near_any s feed = any_of (spots_too_near s) feed

-- Were this pin p, another pin would be too near to it.
unfoldable pub too_near_other : List Spot → ℕ → Spot → Bool
too_near_other feed p s = too_near_any s (set feed p None)

-- A pin other than pin p stands too near to the place.
unfoldable pub crowded : List Spot → ℕ → Place → Bool
crowded feed p at = too_near_other feed p (Some at)

-- Every pin that is there is on the board.
abbrev pub all_within : List Spot → Bool
all_within feed = each_of within feed

-- No two pins are too near each other.
abbrev pub all_apart : List Spot → Bool
all_apart feed = no_two spots_too_near feed
