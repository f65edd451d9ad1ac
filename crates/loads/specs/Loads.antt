-- Loads and the board sheet: their ranges, and what a load is in amps. Everything is f32, one rounding an operation. A finite number is told by its sign,
-- a whole number and a power of 2: `fin false 15 (pos 2)` is 15 times 2 ^ 2, and `negsuc 28` is the power -29.
use Rattle.std.specs.Prelude.{Bool, true, false, List, ℕ, pos, negsuc, get_or, Float}
use Rattle.std.specs.Float.{fin, binary32}
use Rattle.std.specs.Float.Ieee.{div, le}
use Rattle.basics.specs.Tests.{both, each_of}
use Rattle.loads.specs.declared.Sheet.{Sheet}
use Rattle.loads.specs.declared.Load.{Load}
use Rattle.loads.specs.declared.Load.TheVariants.{Amps, Watts, Spare}

-- 0.
abbrev pub nought : Float
nought = fin false 0 (pos 0)

-- 1.
abbrev pub one : Float
one = fin false 1 (pos 0)

-- 60, as 15 times 4.
abbrev pub sixty : Float
sixty = fin false 15 (pos 2)

-- 0.01, as the f32 nearest to it: 5,368,709 / 2 ^ 29.
abbrev pub hundredth : Float
hundredth = fin false 5368709 (negsuc 28)

-- 500, as 125 times 4.
abbrev pub five_hundred : Float
five_hundred = fin false 125 (pos 2)

-- 12,000, as 375 times 32.
abbrev pub twelve_thousand : Float
twelve_thousand = fin false 375 (pos 5)

-- A number is from one to another, both included. A NaN is in no range; -0 is from 0.
abbrev pub is_from : Float → Float → Float → Bool
is_from low number high = both (le low number) (le number high)

-- Supply volts are from 1 to 60, ohms per step from 0 to 0.01.
unfoldable pub sheet_fits : Sheet → Bool
sheet_fits sheet = both (is_from one sheet.volts sixty) (is_from nought sheet.ohms hundredth)

-- Amps are from 0 to 500, watts from 0 to 12,000.
unfoldable pub load_fits : Load → Bool
load_fits (Amps a) = is_from nought a five_hundred
load_fits (Watts w) = is_from nought w twelve_thousand
load_fits Spare = true

-- The load of a pin number; a list of loads has spare ones past its end.
abbrev pub load_at : List Load → ℕ → Load
load_at loads pin = get_or loads pin Spare

-- The loads of these pins are in their ranges; those of other pins are not looked at.
abbrev pub loads_fit : List Load → List ℕ → Bool
loads_fit loads pins = each_of (λ (pin : ℕ). load_fits (load_at loads pin)) pins

-- Watts become amps by one division by the supply volts; spare is 0.
unfoldable pub amps_of : Sheet → Load → Float
amps_of sheet (Amps a) = a
amps_of sheet (Watts w) = div binary32 w sheet.volts
amps_of sheet Spare = nought
