-- The pins of the maps that opened before document 02, [6], when x and y went from -20,000 to 20,000, and before [7], when pins had no nets and no parts: a map
-- of the old form gives net 1 and part number 0. A map that opened is the map of its pins: an accepted map, written in its form before any edit, gives the
-- same bytes. So what is said of `map_of` of such pins is said of every map that opened. Wiring needs no former definition, since neither a range nor a net
-- stands in it (`wiring_of`, of what stands at the pin numbers alone).
use Rattle.std.specs.Prelude.{Bool, true, List, ℕ, eqb, ℤ, pos, neg_ℤ, length, None, Some}
use Rattle.std.specs.Int.Signed.{le_z}
use Rattle.basics.specs.Tests.{both, each_of}
use Rattle.board.specs.Spots.{Spot, most_pins, all_apart}
use Rattle.drawing.specs.Pins.{Pin, spots_of}
use Rattle.pinmap.specs.declared.Form.TheVariants.{Old}
use Rattle.pinmap.specs.Map.{holds}

-- x and y went from -20,000 to 20,000.
abbrev pub former_limit : ℕ
former_limit = 20000

-- A number of that range.
unfoldable pub formerly : ℤ → Bool
formerly z = both (le_z (neg_ℤ (pos former_limit)) z) (le_z z (pos former_limit))

-- A pin, if it is there, has its x and its y in it.
unfoldable pub formerly_within : Spot → Bool
formerly_within None = true
formerly_within (Some a) = both (formerly a.x) (formerly a.y)

-- The rules of a drawing's pins as they were: 32 numbers, each pin that is there in that range, no two too near; with net 1 and part number 0, as an old map
-- gives them.
unfoldable pub formerly_lawful : List Pin → Bool
formerly_lawful l =
    both (eqb (length l) most_pins) (both (each_of formerly_within (spots_of l)) (both (all_apart (spots_of l)) (each_of (holds Old) l)))
