-- What document 02, [2] says of the drops of an accepted answer: 32 by pin number, for a feed, its loads and the board sheet. Everything is f32, bit for bit.
use Rattle.std.specs.Prelude.{◌≡◌, List, ℕ, ◌≤◌, ◌<◌, length, get_or, Float}
use Rattle.std.specs.Float.{nan, binary32}
use Rattle.std.specs.Float.Ieee.{add}
use Rattle.board.specs.Spots.{Spot, most_pins}
use Rattle.tree.specs.declared.Run.{Run}
use Rattle.tree.specs.Growth.{pins_of, runs_of}
use Rattle.tree.specs.Reached.{run_at}
use Rattle.basics.specs.Lists.{Among}
use Rattle.loads.specs.declared.Sheet.{Sheet}
use Rattle.loads.specs.declared.Load.{Load}
use Rattle.loads.specs.Loads.{nought, load_at, amps_of}
use Rattle.drops.specs.Drops.{nears_of, plus_leading_on, run_drop, distance_of_run}
use Rattle.finite.specs.Bounds.{AtMost, most_drop}

-- The current of run k is the load of its far pin plus the currents of the runs leading on from that pin, added in run order; the amps of each pin are given.
abbrev pub Flows : (ℕ → Float) → List Run → List Float → ℕ → Type 0
Flows amps runs currents k = get_or currents k nan ≡ plus_leading_on (run_at runs k).far (amps (run_at runs k).far) (nears_of runs) currents

-- The drop of run k's far pin is its near pin's drop plus that of the run: its current times ohms per step, then times its own distance.
abbrev pub AddsUp : List Spot → Float → List Float → List Run → List Float → ℕ → Type 0
AddsUp feed ohms drops runs currents k =
    get_or drops (run_at runs k).far nan
    ≡ add binary32 (get_or drops (run_at runs k).near nan) (run_drop (get_or currents k nan) ohms (distance_of_run feed (run_at runs k)))

-- THE VOLTS LOST to the pins of a feed:
pub record VoltsLost (feed : List Spot) (loads : List Load) (sheet : Sheet) (drops : List Float) : Type 0 where
  -- there is a drop for each of 32 pin numbers;
  pub drops_many : length drops ≡ most_pins
  -- the lowest-numbered pin is the feed, and its drop is 0;
  pub feed_zero : (pin : ℕ) → Among pin (pins_of feed) → ((other : ℕ) → Among other (pins_of feed) → pin ≤ other) → get_or drops pin nan ≡ nought
  -- so is that of an absent pin;
  pub absent_zero : (pin : ℕ) → pin < most_pins → (Among pin (pins_of feed) → ⊥) → get_or drops pin nan ≡ nought
  -- each run of the feed has a current,
  pub currents : List Float
  pub currents_many : length currents ≡ length (runs_of feed)
  -- the load of its far pin plus the currents of the runs leading on from that pin, added in run order;
  pub flows : (k : ℕ) → k < length (runs_of feed) → Flows (λ (pin : ℕ). amps_of sheet (load_at loads pin)) (runs_of feed) currents k
  -- the drop of its far pin is its near pin's drop plus that of the run;
  pub adds_up : (k : ℕ) → k < length (runs_of feed) → AddsUp feed sheet.ohms drops (runs_of feed) currents k
  -- and every drop is finite, at most 31 * 2 ^ 62 in size.
  pub finite : (pin : ℕ) → pin < most_pins → AtMost (get_or drops pin nan) most_drop
