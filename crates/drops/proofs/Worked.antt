-- Volts lost on two of document 01's boards, worked by hand and computed from the definition; numbers at the ends of their ranges. Assumes nothing.
use mathlib.Core.Path.{◌≡◌, refl}
use mathlib.Core.Bool.{true, false}
use mathlib.Core.List.{List, [], ◌∷◌, map}
use lib.IntN.{pos, negsuc}
use lib.Ieee.{Float, nan, inf, fin, add, mul, div, of_int, le}
use Rattle.basics.specs.Tests.{both, choose, each_of}
use Rattle.basics.specs.Lists.{padded}
use Rattle.refusal.specs.Refusals.{accepted}
use Rattle.refusal.specs.Rows.{first_of}
use Rattle.refusal.specs.declared.Refusal.TheVariants.{OutOfRange}
use Rattle.std.specs.Prelude.{None, Some, Ok, Err}
use Rattle.board.specs.declared.Place.{Place}
use Rattle.board.specs.Boards.{W2, W3}
use Rattle.board.specs.Place.{difference, larger, distance_of}
use Rattle.board.specs.Spots.{Spot, most_pins}
use Rattle.tree.specs.Weight.{weight_of, pair_of, by_part, by_number, comes_before}
use Rattle.tree.specs.Growth.{pair_at, sooner, kept_if, pins_from, without, runs_from, runs_between, earliest, earliest_of, next_run, grown, runs_among, pins_of, runs_of}
use Rattle.loads.specs.declared.Sheet.{Sheet}
use Rattle.loads.specs.declared.Load.{Load}
use Rattle.loads.specs.declared.Load.TheVariants.{Amps, Watts, Spare}
use Rattle.drops.specs.declared.Lost.{Lost}
use Rattle.loads.specs.Loads.{nought, hundredth, five_hundred, sheet_fits, load_fits, amps_of}
use Rattle.drops.specs.Drops.{plus_leading_on, currents_of, drops_after, drops_of, none_lost, lost_of}

-- A feed of 32 spots that begins with the pins of a board.
abbrev feed : List Place → List Spot
feed board = padded most_pins None (map Some board)

-- 32 loads that begin with these.
abbrev loads : List Load → List Load
loads l = padded most_pins Spare l

-- A sheet of 12 volts and so many ohms per step.
abbrev sheet_of : Float → Sheet
sheet_of ohms = record { volts = fin false 3 (pos 2); ohms = ohms }

-- 0.001, as the f32 nearest to it.
abbrev sheet : Sheet
sheet = sheet_of (fin false 8589935 (negsuc 32))

-- 2 amps.
abbrev two : Float
two = fin false 1 (pos 1)

-- 24 watts.
abbrev lamp : Load
lamp = Watts (fin false 3 (pos 3))

-- An accepted answer: these drops, and 0 for the other pins.
abbrev lost : List Float → Lost
lost drops = record { verdict = (Ok tt); drops = padded most_pins nought drops }

-- W2, 2 amps over 100 steps, rounded down; the load of pin 2, which is absent, is a NaN and not looked at. W3, 2 amps at pin 1 and 24 watts at pin 2:
-- 4 amps over 120 steps, then 2 amps over 80 steps more.
worked : (lost_of (feed W2) (loads (Spare ∷ Amps two ∷ Amps nan ∷ [])) sheet ≡ lost (nought ∷ fin false 13421773 (negsuc 25) ∷ []))
    × (lost_of (feed W3) (loads (Spare ∷ Amps two ∷ lamp ∷ [])) sheet ≡ lost (nought ∷ fin false 1006633 (negsuc 20) ∷ fin false 10737419 (negsuc 23) ∷ []))
unfolding lost_of drops_of drops_after currents_of plus_leading_on amps_of load_fits sheet_fits add mul div of_int le accepted first_of each_of
    runs_of pins_of runs_among grown next_run earliest_of earliest runs_between runs_from without pins_from kept_if sooner pair_at comes_before by_part by_number
    pair_of weight_of distance_of difference larger both choose
worked = (refl, refl)

-- 20, where the load of the feed's own pin is a NaN: all drops are 0.
out_of_range : lost_of (feed W2) (loads (Watts nan ∷ Amps two ∷ [])) sheet ≡ none_lost (Err OutOfRange)
unfolding lost_of none_lost drops_of load_fits sheet_fits le accepted first_of each_of runs_of pins_of runs_among grown pins_from kept_if both choose
out_of_range = refl

-- The f32 next above 0.01.
abbrev above : Float
above = fin false 10737419 (negsuc 29)

-- 0.01 ohms pass, the next f32 does not; 500 amps and -0 pass, a NaN and infinite watts do not.
ends : (sheet_fits (sheet_of hundredth) ≡ true) × (sheet_fits (sheet_of above) ≡ false)
    × (map load_fits (Amps five_hundred ∷ Amps (fin true 0 (pos 0)) ∷ []) ≡ true ∷ true ∷ [])
    × (map load_fits (Amps nan ∷ Watts (inf false) ∷ []) ≡ false ∷ false ∷ [])
unfolding sheet_fits load_fits le both
ends = (refl, refl, refl, refl)
