-- Edits: what one makes of each pin, what taking it back makes of it, and when one could have been made.
use Rattle.std.specs.Prelude.{Bool, true, not, List, ℕ, eqb, ltb, None, Some}
use Rattle.basics.specs.Tests.{both, choose, each_of}
use Rattle.basics.specs.Lists.{numbered}
use Rattle.board.specs.declared.Place.{Place}
use Rattle.board.specs.Place.{same_place}
use Rattle.board.specs.Spots.{most_pins}
use Rattle.drawing.specs.declared.Held.{Held}
use Rattle.edits.specs.declared.Edit.{Edit}
use Rattle.edits.specs.declared.Edit.TheVariants.{Placed, Moved, Removed}
use Rattle.drawing.specs.Pins.{Pin, absent, there, holding, is_there, stands_at, same_pin, same_pins, lawful}

-- What a pin holds, at another place: a move keeps its net and its part number.
abbrev pub held_at : Held → Place → Held
held_at h to = holding to h.net h.part

-- The pin, moved to a place; where it is absent it stays so.
unfoldable pub moved_pin : Pin → Place → Pin
moved_pin None to = absent
moved_pin (Some h) to = there (held_at h to)

-- What pin n holds with an edit made, where it held q.
unfoldable pub pin_made : Edit → ℕ → Pin → Pin
pin_made (Placed p h) n q = choose (eqb n p) (there h) q
pin_made (Moved p a b) n q = choose (eqb n p) (moved_pin q b) q
pin_made (Removed p h) n q = choose (eqb n p) absent q

-- What pin n holds with an edit taken back, where it held q.
unfoldable pub pin_unmade : Edit → ℕ → Pin → Pin
pin_unmade (Placed p h) n q = choose (eqb n p) absent q
pin_unmade (Moved p a b) n q = choose (eqb n p) (moved_pin q a) q
pin_unmade (Removed p h) n q = choose (eqb n p) (there h) q

-- The pins with an edit made.
unfoldable pub made : List Pin → Edit → List Pin
made l e = numbered (pin_made e) 0 l

-- The pins with an edit taken back.
unfoldable pub unmade : List Pin → Edit → List Pin
unmade l e = numbered (pin_unmade e) 0 l

-- Pin n, holding q, is as the edit finds it: to be placed it is absent, to be moved it stands where the move begins, to be removed it holds what the edit says.
unfoldable pub found_as : Edit → ℕ → Pin → Bool
found_as (Placed p h) n q = choose (eqb n p) (not (is_there q)) true
found_as (Moved p a b) n q = choose (eqb n p) (stands_at q a) true
found_as (Removed p h) n q = choose (eqb n p) (same_pin q (there h)) true

-- Every pin is as the edit finds it.
unfoldable pub all_found : List Pin → Edit → Bool
all_found l e = each_of (λ t. t) (numbered (found_as e) 0 l)

-- An edit names a pin from 0 to 31, and a move goes to another place.
unfoldable pub proper : Edit → Bool
proper (Placed p h) = ltb p most_pins
proper (Moved p a b) = both (ltb p most_pins) (not (same_place a b))
proper (Removed p h) = ltb p most_pins

-- An edit can be made on these pins: it is a proper one, finds every pin as it says, and leaves pins that keep the rules.
unfoldable pub makeable : List Pin → Edit → Bool
makeable l e = both (proper e) (both (all_found l e) (lawful (made l e)))

-- An edit that stands on these pins could have been made: with it taken back the pins keep the rules, the edit can be made there, and
-- making it gives these pins.
unfoldable pub takeable : List Pin → Edit → Bool
takeable l e = both (lawful (unmade l e)) (both (makeable (unmade l e) e) (same_pins (made (unmade l e) e) l))
