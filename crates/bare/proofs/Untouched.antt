-- A refused bare wiring is its verdict and nothing else, so it leaves the list that was lent as it was. Assumes nothing.
use mathlib.Core.Path.{◌≡◌}
use mathlib.Core.Bool.{false}
use mathlib.Core.List.{List}
use Prim.Native.Nat.{ℕ}
use lib.IntN.{ℤ}
use Rattle.refusal.specs.Refusals.{accepted}
use Rattle.refusal.specs.Rows.{first_of}
use Rattle.copper.specs.declared.Favour.{Favour}
use Rattle.copper.specs.declared.Leg.{Leg}
use Rattle.wiring.specs.Answer.{wiring_of}
use Rattle.lent.specs.Lent.{strip_of, filled_with}
use Rattle.wiring.specs.Demand.{Alone, Empty}
use Rattle.lent.proofs.Untouched.{turned_by, wiring_turned, alone_empty, untouched}
use Rattle.bare.specs.Bare.{feed_of_lists, list_rows, bare_of}

-- A refused answer is its verdict and nothing else.
pub bare_turned : (xs ys : List ℤ) (room : ℕ) (favour : Favour) → Alone (bare_of xs ys room favour)
unfolding bare_of
bare_turned xs ys room favour =
    let v = first_of (list_rows xs ys) in
    turned_by (accepted v) v (wiring_of (feed_of_lists xs ys) room favour) (wiring_turned (feed_of_lists xs ys) room favour)

-- So a refused bare wiring has length, runs, legs and choices zero, and every run entry 0, 0, straight,
pub refused_bare_is_empty : (xs ys : List ℤ) (room : ℕ) (favour : Favour) → accepted (bare_of xs ys room favour).wiring.verdict ≡ false
    → Empty (bare_of xs ys room favour).wiring
refused_bare_is_empty xs ys room favour e = alone_empty (bare_of xs ys room favour) (bare_turned xs ys room favour) e

-- and leaves the list as it was.
pub bare_untouched : (xs ys : List ℤ) (room : ℕ) (lent : List Leg) (favour : Favour) → accepted (bare_of xs ys room favour).wiring.verdict ≡ false
    → filled_with (strip_of (bare_of xs ys room favour)) lent ≡ lent
bare_untouched xs ys room lent favour e = untouched (bare_of xs ys room favour) lent (bare_turned xs ys room favour) e
