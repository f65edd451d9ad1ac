-- A list that is filled in entry by entry with those of another. Assumes nothing.
use mathlib.Core.Path.{◌≡◌, ap}
use mathlib.Core.List.{List}
use Prim.Native.Nat.{ℕ}
use Rattle.basics.proofs.Lists.{overlaid}
use Rattle.copper.specs.declared.Leg.{Leg}
use Rattle.laying.specs.declared.Strip.{Strip}
use Rattle.lent.specs.Lent.{filled_with}

-- Filled in with all entries of a strip, it is the list that is promised.
pub all_filled : (strip : Strip) (lent : List Leg) {at : ℕ} → at ≡ strip.count → overlaid strip.list lent at ≡ filled_with strip lent
unfolding overlaid filled_with
all_filled strip lent e = ap (overlaid strip.list lent) e
