-- How large currents are, whatever the tree: at most 31 runs, and no load above 12,000 amps. The bounds are computed, one for each number of later
-- runs, as if every later run led on. Assumes nothing.
use mathlib.Core.Path.{◌≡◌, refl, sym, subst}
use mathlib.Core.Bool.{Bool, true, false}
use mathlib.Core.List.{List, [], ◌∷◌}
use Prim.Native.Nat.{ℕ, zero, suc, ◌+◌, ◌-◌, ◌^◌, ◌≤◌, ◌<◌}
use native.Mathlib.Nat.{le_trans, le_refl}
use native.Mathlib.Omega.{arith}
use lib.Dec.{eqb, leb}
use lib.ListN.{length}
use lib.Ieee.{Float, add, binary32}
use borrow.Author.Tests.{leb-true}
use Rattle.basics.specs.Tests.{both, choose, each_of}
use Rattle.basics.proofs.Anyone.{each_first, each_rest}
use Rattle.tree.specs.declared.Run.{Run}
use Rattle.basics.specs.Lists.{Among, first, later}
use Rattle.tree.specs.Trees.{most_runs}
use Rattle.drops.specs.Drops.{nears_of, plus_leading_on, currents_of}
use Rattle.finite.specs.Bounds.{AtMost}
use Rattle.finite.proofs.Sizes.{at_most_more}
use Rattle.finite.proofs.Room.{roomy, add_roomy}
use Rattle.finite.proofs.Loads.{most_load}

-- The most that a current is, in amps.
abbrev pub most_current : ℕ
most_current = 2 ^ 44

-- ---- the bounds
-- A bound plus others, with room for the rounding of each sum.
unfoldable plus_all : ℕ → List ℕ → ℕ
plus_all total [] = total
plus_all total (b ∷ bounds) = plus_all (roomy (total + b)) bounds

-- The bound of a run before others that have these bounds, and theirs.
abbrev on_top : List ℕ → List ℕ
on_top bounds = plus_all most_load bounds ∷ bounds

-- The bounds of so many runs, in run order.
unfoldable bounds_of : ℕ → List ℕ
bounds_of zero = []
bounds_of (suc n) = on_top (bounds_of n)

-- The bounds of so many runs are at most 2 ^ 44.
abbrev Low : ℕ → Type 0
Low n = each_of (λ (b : ℕ). leb b most_current) (bounds_of n) ≡ true

-- Those of 31 runs are,
low_all : Low most_runs
unfolding bounds_of plus_all each_of both
low_all = refl

-- those of one run fewer too,
low_fewer : (n : ℕ) → Low (suc n) → Low n
unfolding bounds_of
low_fewer n h = each_rest (λ (b : ℕ). leb b most_current) (plus_all most_load (bounds_of n)) (bounds_of n) h

-- and those of any number fewer.
low_down : (k n : ℕ) → Low (k + n) → Low n
low_down zero n h = subst Low (let z : 0 + n ≡ n = omega arith in z) h
low_down (suc k) n h = low_down k n (low_fewer (k + n) (subst Low (let z : suc k + n ≡ suc (k + n) = omega arith in z) h))

-- So those of at most 31 runs are.
low_few : (n : ℕ) → n ≤ most_runs → Low n
low_few n h = low_down (most_runs - n) n (subst Low (let z : most_runs ≡ most_runs - n + n = omega arith in z) low_all)

-- The bound of the first of some runs is at most 2 ^ 44.
top_low : (n : ℕ) → Low (suc n) → plus_all most_load (bounds_of n) ≤ most_current
unfolding bounds_of
top_low n h =
    leb-true (plus_all most_load (bounds_of n)) most_current
    (each_first (λ (b : ℕ). leb b most_current) (plus_all most_load (bounds_of n)) (bounds_of n) h)

-- A bound with room is no smaller,
room_more : (a b : ℕ) → a + b ≤ roomy (a + b)
room_more a b = omega arith

-- and with others added it is not, either.
plus_more : (total : ℕ) (bounds : List ℕ) → total ≤ plus_all total bounds
unfolding plus_all
plus_more total [] = le_refl total
plus_more total (b ∷ bounds) = le_trans (let z : total ≤ roomy (total + b) = omega arith in z) (plus_more (roomy (total + b)) bounds)

-- ---- currents under their bounds
-- Each number is at most its bound.
unfoldable EachUnder : List Float → List ℕ → Type 0
EachUnder [] bounds = Unit {0}
EachUnder (c ∷ currents) [] = ⊥
EachUnder (c ∷ currents) (b ∷ bounds) = AtMost c b × EachUnder currents bounds

-- One current more, added or not.
step_most : (t : Bool) (total c : Float) (a b : ℕ) → roomy (a + b) ≤ most_current → AtMost total a → AtMost c b
    → AtMost (choose t (add binary32 total c) total) (roomy (a + b))
unfolding choose
step_most true total c a b l g h = add_roomy total c a b (below (a + b) (le_trans (room_more a b) l)) g h
  where
    below : (n : ℕ) → n ≤ most_current → n < 2 ^ 126
    below n k = omega arith
step_most false total c a b l g h = at_most_more total a (roomy (a + b)) (let z : a ≤ roomy (a + b) = omega arith in z) g

-- A number and the currents that lead on are at most their bounds together.
leading_most : (pin : ℕ) (total : Float) (a : ℕ) (nears : List ℕ) (currents : List Float) (bounds : List ℕ) → plus_all a bounds ≤ most_current
    → AtMost total a → EachUnder currents bounds → AtMost (plus_leading_on pin total nears currents) (plus_all a bounds)
unfolding plus_leading_on plus_all EachUnder
leading_most pin total a [] currents bounds l g h = at_most_more total a (plus_all a bounds) (plus_more a bounds) g
leading_most pin total a (near ∷ nears) [] bounds l g h = at_most_more total a (plus_all a bounds) (plus_more a bounds) g
leading_most pin total a (near ∷ nears) (c ∷ currents) [] l g h = absurd h
leading_most pin total a (near ∷ nears) (c ∷ currents) (b ∷ bounds) l g h =
    leading_most pin (choose (eqb near pin) (add binary32 total c) total) (roomy (a + b)) nears currents bounds l
    (step_most (eqb near pin) total c a b (le_trans (plus_more (roomy (a + b)) bounds) l) g h.0) h.1

-- The currents of some runs are under their bounds, where the load of each far pin is at most 12,000 amps.
currents_under : (amps : ℕ → Float) (runs : List Run) → ((r : Run) → Among r runs → AtMost (amps r.far) most_load) → Low (length runs)
    → EachUnder (currents_of amps runs) (bounds_of (length runs))
unfolding currents_of bounds_of EachUnder
currents_under amps [] loads low = tt
currents_under amps (r ∷ runs) loads low =
    let rest = currents_under amps runs (λ q m. loads q (later m)) (low_fewer (length runs) low) in
    let top =
    leading_most r.far (amps r.far) most_load (nears_of runs) (currents_of amps runs) (bounds_of (length runs)) (top_low (length runs) low)
    (loads r (first refl)) rest in
    (top, rest)

-- What is under bounds of at most 2 ^ 44 is at most 2 ^ 44.
under_most : (currents : List Float) (bounds : List ℕ) → EachUnder currents bounds → each_of (λ (b : ℕ). leb b most_current) bounds ≡ true
    → (c : Float) → Among c currents → AtMost c most_current
unfolding EachUnder
under_most [] bounds h low c m = elim m [ ]
under_most (d ∷ currents) [] h low c m = absurd h
under_most (d ∷ currents) (b ∷ bounds) h low c (first e) =
    subst (λ (z : Float). AtMost z most_current) (sym e)
    (at_most_more d b most_current (leb-true b most_current (each_first (λ (n : ℕ). leb n most_current) b bounds low)) h.0)
under_most (d ∷ currents) (b ∷ bounds) h low c (later m) =
    under_most currents bounds h.1 (each_rest (λ (n : ℕ). leb n most_current) b bounds low) c m

-- EVERY CURRENT IS AT MOST 2 ^ 44 AMPS, of at most 31 runs whose loads are at most 12,000 amps.
pub currents_most : (amps : ℕ → Float) (runs : List Run) → length runs ≤ most_runs → ((r : Run) → Among r runs → AtMost (amps r.far) most_load)
    → (c : Float) → Among c (currents_of amps runs) → AtMost c most_current
currents_most amps runs few loads =
    let low = low_few (length runs) few in
    under_most (currents_of amps runs) (bounds_of (length runs)) (currents_under amps runs loads low) low
