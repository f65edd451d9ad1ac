-- How the code takes an edit on pins that keep the rules as a change of the one pin that it names. No entry point's promise rests on this.
use Rattle.std.specs.Prelude.{Bool, not, List, ℕ}
use Rattle.basics.specs.Tests.{both}
use Rattle.board.specs.Spots.{Spot, within, too_near_other}
use Rattle.edits.specs.declared.Edit.{Edit}
use Rattle.edits.specs.declared.Edit.TheVariants.{Placed, Moved, Removed}
use Rattle.drawing.specs.Pins.{Pin, has_net, same_pin, spot_of}
use Rattle.edits.specs.Edits.{pin_made, pin_unmade, found_as, proper}

-- The number of the pin that an edit names.
abbrev pub pin_of : Edit → ℕ
pin_of (Placed p h) = p
pin_of (Moved p a b) = p
pin_of (Removed p h) = p

-- The edit that takes an edit back: a placing is taken back by removing what was placed, a move by moving back, a removal by placing what was removed.
abbrev pub reversed : Edit → Edit
reversed (Placed p h) = Removed p h
reversed (Moved p a b) = Moved p b a
reversed (Removed p h) = Placed p h

-- What stands at a pin number fits among the others as pin p: if a pin is there, it is on the board, and no other pin is too near to it.
unfoldable pub fits : List Spot → ℕ → Spot → Bool
fits spots p s = both (within s) (not (too_near_other spots p s))

-- A pin fits among the others as pin p: where it stands, and it has a net from 1 to 8.
unfoldable pub pin_fits : List Spot → ℕ → Pin → Bool
pin_fits spots p q = both (has_net q) (fits spots p (spot_of q))

-- An edit can be made where the pin that it names is q: it is a proper one, finds the pin as it says, and leaves one that fits.
unfoldable pub makeable_at : Edit → Pin → List Spot → Bool
makeable_at e q spots = both (proper e) (both (found_as e (pin_of e) q) (pin_fits spots (pin_of e) (pin_made e (pin_of e) q)))

-- An edit left q of a pin r that fits: it is a proper one, finds the pin r as it says, and makes q of it.
unfoldable pub left_by : Edit → Pin → Pin → List Spot → Bool
left_by e r q spots = both (proper e) (both (found_as e (pin_of e) r) (both (same_pin (pin_made e (pin_of e) r) q) (pin_fits spots (pin_of e) r)))

-- An edit that stands could have been made where the pin that it names is q: it left q of the pin with the edit taken back.
unfoldable pub takeable_at : Edit → Pin → List Spot → Bool
takeable_at e q spots = left_by e (pin_unmade e (pin_of e) q) q spots
