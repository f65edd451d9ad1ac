-- How the best shapes are found: the pins as they are reached, and the shapes that a mask holds. No entry point's promise rests on these.
use Rattle.std.specs.Prelude.{Bool, List, [], ◌∷◌, ◌++◌, ℕ, zero, suc, ◌/◌, ◌%◌, ◌≤◌, ◌<◌, eqb, length, slice_get}
use Rattle.std.specs.Option.{option_map_or}
use Rattle.basics.specs.Tests.{choose}
use Rattle.basics.specs.Lists.{padded, values_from}
use Rattle.board.specs.declared.Place.{Place}
use Rattle.board.specs.Place.{middle}
use Rattle.tree.specs.declared.Run.{Run}
use Rattle.board.specs.Spots.{Spot, most_pins, place_at}
use Rattle.tree.specs.Reached.{run_at}
use Rattle.tree.specs.Trees.{most_runs}
use Rattle.copper.specs.declared.Shape.{Shape}
use Rattle.copper.specs.declared.Leg.{Leg}
use Rattle.copper.specs.Shapes.{shape_of, legs_of}
use Rattle.least.specs.Asking.{differs, mark_at}
use Rattle.laying.specs.declared.RunEntry.{RunEntry}
use Rattle.laying.specs.declared.Strip.{Strip}
use Rattle.laying.specs.Entries.{near_end, far_end, run_entry, run_entries, leg_entries}

-- Where the pin stands that is reached as number i: the near pin of the first run, then the far pins in run order; the middle of the board where no run
-- reaches one.
unfoldable pub place_if_reached : List Spot → List Run → ℕ → Place
place_if_reached feed runs zero = option_map_or (near_end feed) (slice_get runs 0) middle
place_if_reached feed runs (suc r) = option_map_or (far_end feed) (slice_get runs r) middle

-- Where the pins stand, as they are reached.
unfoldable pub places_of : List Spot → List Run → List Place
places_of feed runs = values_from (place_if_reached feed runs) 0 most_pins

-- The number as which a pin is reached by the first k runs: that of the last of them that reaches it; 0 where none does.
unfoldable pub reached_as : List Run → ℕ → ℕ → ℕ
reached_as runs zero pin = 0
reached_as runs (suc k) pin = choose (eqb (run_at runs k).far pin) (suc k) (reached_as runs k pin)

-- The numbers as which the near pins of the runs are reached, each by the runs before its own; 0 after these.
unfoldable pub nears_of : List Run → List ℕ
nears_of runs = padded most_runs 0 (values_from (λ r. reached_as runs r (run_at runs r).near) 0 (length runs))

-- At most 31 runs between pins from 0 to 31.
pub record Numbered (runs : List Run) : Type 0 where
  pub few : length runs ≤ most_runs
  pub near : (r : ℕ) → r < length runs → (run_at runs r).near < most_pins
  pub far : (r : ℕ) → r < length runs → (run_at runs r).far < most_pins

-- The shape of run r in a mask is the other than the favoured where its mark is there.
unfoldable pub upper_in : Bool → ℕ → ℕ → Bool
upper_in favoured mask r = differs (eqb (mask / mark_at r % 2) 1) favoured

-- A run with its shape, where `upper` says how it bends if it does.
unfoldable pub shaped_run : List Spot → Run → Bool → RunEntry
shaped_run feed r upper = run_entry r.near r.far (shape_of upper (near_end feed r) (far_end feed r))

-- A run with the shape that a mask gives it.
unfoldable pub shaped_in : List Spot → Bool → ℕ → List Run → ℕ → RunEntry
shaped_in feed favoured mask runs r = shaped_run feed (run_at runs r) (upper_in favoured mask r)

-- The run entries that a mask gives.
unfoldable pub entries_in : List Spot → Bool → ℕ → List Run → List RunEntry
entries_in feed favoured mask runs = run_entries (values_from (shaped_in feed favoured mask runs) 0 (length runs))

-- The legs of a run entry.
unfoldable pub legs_of_entry : List Spot → RunEntry → List Leg
legs_of_entry feed s = legs_of s.shape (place_at feed s.near) (place_at feed s.far)

-- The legs of some run entries.
unfoldable pub legs_of_entries : List Spot → List RunEntry → List Leg
legs_of_entries feed [] = []
legs_of_entries feed (s ∷ entries) = legs_of_entry feed s ++ legs_of_entries feed entries

-- Legs with their number.
unfoldable pub strip : List Leg → Strip
strip legs = record { count = length legs; list = leg_entries legs }

-- The shapes of the runs, where `upper` says how each bends if it does.
unfoldable pub shapes_by : List Spot → (ℕ → Bool) → List Run → List Shape
shapes_by feed upper [] = []
shapes_by feed upper (r ∷ runs) = shape_of (upper 0) (near_end feed r) (far_end feed r) ∷ shapes_by feed (λ q. upper (suc q)) runs
