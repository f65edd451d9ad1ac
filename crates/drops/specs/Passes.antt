-- What the two passes over the runs go by: ends that are pin numbers, the amps of a pin, a chain of runs. No entry point's promise rests on these.
use Rattle.std.specs.Prelude.{List, ℕ, zero, suc, ◌≤◌, ◌<◌, length, get_or, Option, None, Some, IfSome, All, Float}
use Rattle.std.specs.Float.{nan, binary32}
use Rattle.std.specs.Float.Ieee.{add}
use Rattle.board.specs.Spots.{most_pins}
use Rattle.tree.specs.declared.Run.{Run}
use Rattle.tree.specs.Trees.{most_runs}
use Rattle.loads.specs.declared.Sheet.{Sheet}
use Rattle.loads.specs.declared.Load.{Load}
use Rattle.loads.specs.Loads.{load_at, amps_of}

-- The ends of runs are pin numbers, and there are no more runs than a tree can have.
pub record PinNumbers (runs : List Run) : Type 0 where
  pub few : length runs ≤ most_runs
  pub ends : All (λ r. (r.near < most_pins) × (r.far < most_pins)) runs

-- The load of a pin in amps.
abbrev pub amps_at : List Load → Sheet → ℕ → Float
amps_at loads sheet pin = amps_of sheet (load_at loads pin)

-- A chain of runs: after each run it tells the next one, of a higher number, or none.
abbrev pub Rising : List (Option ℕ) → Type 0
Rising chain = (r : ℕ) → r < most_runs → IfSome (get_or chain r None) (λ n. (r < n) × (n < most_runs))

-- A number plus the currents of the runs along a chain, from one on, added in its order: so many of them at most.
unfoldable pub plus_along : List (Option ℕ) → List Float → ℕ → Option ℕ → Float → Float
plus_along chain currents zero next total = total
plus_along chain currents (suc most) None total = total
plus_along chain currents (suc most) (Some r) total = plus_along chain currents most (get_or chain r None) (add binary32 total (get_or currents r nan))
