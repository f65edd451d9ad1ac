-- Pins by when they are reached. No entry point's promise rests on these.
use Rattle.std.specs.Prelude.{List, [], ◌∷◌, ℕ, zero, suc, eqb, get_or}
use Rattle.basics.specs.Tests.{choose}
use Rattle.board.specs.declared.Place.{Place}
use Rattle.board.specs.Spots.{Spot}
use Rattle.board.specs.Spots.{place_at}
use Rattle.tree.specs.declared.Run.{Run}
use Rattle.tree.specs.Growth.{run}

-- The run with this number.
abbrev pub run_at : List Run → ℕ → Run
run_at runs r = get_or runs r (run 0 0)

-- The pin that is reached as number i: the near pin of the first run, then the far pins in run order.
unfoldable pub reached_pin : List Run → ℕ → ℕ
reached_pin runs zero = (run_at runs 0).near
reached_pin runs (suc r) = (run_at runs r).far

-- Where it stands.
abbrev pub reached_place : List Spot → List Run → ℕ → Place
reached_place feed runs i = place_at feed (reached_pin runs i)

-- The number as which a pin is reached, among the runs from number i on; 0 where none of them reaches it.
unfoldable pub reached_from : ℕ → List Run → ℕ → ℕ
reached_from i [] pin = 0
reached_from i (r ∷ runs) pin = choose (eqb r.far pin) (suc i) (reached_from (suc i) runs pin)

-- The number as which the near pin of run r is reached.
unfoldable pub reached_near : List Run → ℕ → ℕ
reached_near runs r = reached_from 0 runs (run_at runs r).near
