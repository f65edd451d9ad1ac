-- The volts lost to each pin: the currents of the runs, the drops of the pins, and what a call is answered. Each run counts as a strip of its own, even where
-- copper is shared. `feed` is all that is wired, as everywhere here; what document 02, [2] calls the feed is its lowest-numbered pin, from which the runs are grown.
use Rattle.std.specs.Prelude.{not, List, [], ◌∷◌, ◌++◌, map, ℕ, eqb, pos, get_or, set, replicate, Float}
use Rattle.std.specs.Float.{nan, binary32}
use Rattle.std.specs.Float.Ieee.{add, mul, of_int}
use Rattle.basics.specs.Tests.{both, choose}
use Rattle.refusal.specs.Refusals.{Verdict, accepted}
use Rattle.refusal.specs.Rows.{Row, given, first_of}
use Rattle.refusal.specs.declared.Refusal.TheVariants.{OutOfRange}
use Rattle.board.specs.Place.{distance_of}
use Rattle.board.specs.Spots.{Spot, most_pins, place_at}
use Rattle.tree.specs.declared.Run.{Run}
use Rattle.tree.specs.Growth.{pins_of, runs_of}
use Rattle.tree.specs.Trees.{tree_rows}
use Rattle.loads.specs.declared.Sheet.{Sheet}
use Rattle.loads.specs.declared.Load.{Load}
use Rattle.drops.specs.declared.Lost.{Lost}
use Rattle.loads.specs.Loads.{nought, sheet_fits, load_at, loads_fit, amps_of}

-- The near pins of runs, in run order.
abbrev pub nears_of : List Run → List ℕ
nears_of runs = map (λ (r : Run). r.near) runs

-- A number plus the currents of those runs that lead on from a pin, added in run order: the runs are told by their near pins.
unfoldable pub plus_leading_on : ℕ → Float → List ℕ → List Float → Float
plus_leading_on pin total [] currents = total
plus_leading_on pin total (near ∷ nears) [] = total
plus_leading_on pin total (near ∷ nears) (c ∷ currents) = plus_leading_on pin (choose (eqb near pin) (add binary32 total c) total) nears currents

-- The currents of runs, in run order, with the amps of each pin given. A run's current is the load of its far pin plus the currents of the runs
-- leading on from that pin, added in run order; these all come after the run that reaches it, since runs are listed as they are taken.
unfoldable pub currents_of : (ℕ → Float) → List Run → List Float
currents_of amps [] = []
currents_of amps (r ∷ later) = plus_leading_on r.far (amps r.far) (nears_of later) (currents_of amps later) ∷ currents_of amps later

-- A run's drop is its current times ohms per step, then times its own distance.
abbrev pub run_drop : Float → Float → ℕ → Float
run_drop current ohms distance = mul binary32 (mul binary32 current ohms) (of_int binary32 (pos distance))

-- How far the ends of a run are apart.
abbrev pub distance_of_run : List Spot → Run → ℕ
distance_of_run feed r = distance_of (place_at feed r.near) (place_at feed r.far)

-- A pin's drop is its near pin's drop plus that of the run: the drops after these runs, each in its turn.
unfoldable pub drops_after : List Spot → Float → List Float → List Run → List Float → List Float
drops_after feed ohms drops [] currents = drops
drops_after feed ohms drops (r ∷ runs) [] = drops
drops_after feed ohms drops (r ∷ runs) (c ∷ currents) =
    drops_after feed ohms (set drops r.far (add binary32 (get_or drops r.near nan) (run_drop c ohms (distance_of_run feed r)))) runs currents

-- 0 for every pin.
abbrev pub no_drops : List Float
no_drops = replicate most_pins nought

-- The drops of a feed, by pin number: 0 for its lowest-numbered pin and for absent ones, to which no run leads.
unfoldable pub drops_of : List Spot → List Load → Sheet → List Float
drops_of feed loads sheet =
    drops_after feed sheet.ohms no_drops (runs_of feed) (currents_of (λ (pin : ℕ). amps_of sheet (load_at loads pin)) (runs_of feed))

-- 17 as for wiring, then 20: the sheet, or a load of a pin that is there, is out of its range.
abbrev pub drop_rows : List Spot → List Load → Sheet → List Row
drop_rows feed loads sheet = tree_rows feed ++ (given (not (both (sheet_fits sheet) (loads_fit loads (pins_of feed)))) OutOfRange ∷ [])

-- A refusal: all drops are 0.
unfoldable pub none_lost : Verdict → Lost
none_lost v = record { verdict = v; drops = no_drops }

-- The answer that these rows decide: the drops, all 0 where it is refused.
abbrev pub lost_by : List Row → List Float → Lost
lost_by rows drops = record { verdict = first_of rows; drops = choose (accepted (first_of rows)) drops no_drops }

-- The volts lost to the pins of a feed.
unfoldable pub lost_of : List Spot → List Load → Sheet → Lost
lost_of feed loads sheet = lost_by (drop_rows feed loads sheet) (drops_of feed loads sheet)
