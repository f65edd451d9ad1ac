-- What is turned away by the pins of a drawing: the rows of refusals of an edit that a call states, in the order of documents 01 and 02.
use Rattle.std.specs.Prelude.{Bool, not, List, [], ◌∷◌, ℕ, leb}
use Rattle.basics.specs.Tests.{either}
use Rattle.refusal.specs.Rows.{Row, given}
use Rattle.refusal.specs.declared.Refusal.TheVariants.{NoSuchPin, PinThere, Outside, PinTooNear, NoSuchNet}
use Rattle.board.specs.Place.{inside}
use Rattle.board.specs.Spots.{most_pins, crowded}
use Rattle.drawing.specs.Pins.{Pin, is_there, is_net, spots_of, pin_at, stands_at}
use Rattle.edits.specs.declared.stated.Making.{Making}
use Rattle.edits.specs.declared.stated.Making.TheVariants.{Placing, Moving, Removing}

-- The pin is above 31, or not there.
abbrev pub not_there : List Pin → ℕ → Bool
not_there l p = either (leb most_pins p) (not (is_there (pin_at l p)))

-- 21: the net is not 1 to 8.
abbrev pub net_row : ℕ → Row
net_row net = given (not (is_net net)) NoSuchNet

-- Placing: 6, 7, 21, 8, 9. Moving: 6, 8, 9; a move to the place where the pin already stands is 9. Removing: 6.
abbrev pub making_rows : List Pin → Making → List Row
making_rows l (Placing p h) =
    given (leb most_pins p) NoSuchPin
    ∷ given (is_there (pin_at l p)) PinThere
    ∷ net_row h.net
    ∷ given (not (inside h.place)) Outside
    ∷ given (crowded (spots_of l) p h.place) PinTooNear
    ∷ []
making_rows l (Moving p to) =
    given (not_there l p) NoSuchPin
    ∷ given (not (inside to)) Outside
    ∷ given (either (stands_at (pin_at l p) to) (crowded (spots_of l) p to)) PinTooNear
    ∷ []
making_rows l (Removing p) = given (not_there l p) NoSuchPin ∷ []
