-- What stands at each pin number, told by lists of x, of y and of whether a pin is there: so drawing/proofs/Told says it. No entry point's promise rests on this.
use Rattle.std.specs.Prelude.{Bool, false, List, ℤ, pos, get_or, None, Some}
use Rattle.basics.specs.Tests.{choose}
use Rattle.basics.specs.Lists.{values_from}
use Rattle.board.specs.Place.{place}
use Rattle.board.specs.Spots.{Spot, most_pins}
use Rattle.drawing.specs.Pins.{Pin, held_by}

-- The x of a pin's place, 0 for one that is absent.
abbrev pub x_of : Pin → ℤ
x_of q = (held_by q).place.x

-- Its y.
abbrev pub y_of : Pin → ℤ
y_of q = (held_by q).place.y

-- What stands at a pin's number, told by whether a pin is there, its x and its y.
abbrev pub spot_by : Bool → ℤ → ℤ → Spot
spot_by t x y = choose t (Some (place x y)) None

-- What stands at each pin number, told by lists of x, of y and of whether a pin is there.
unfoldable pub spots_from : List ℤ → List ℤ → List Bool → List Spot
spots_from xs ys ts = values_from (λ i. spot_by (get_or ts i false) (get_or xs i (pos 0)) (get_or ys i (pos 0))) 0 most_pins
