-- Weighing a pin, one run on: what it asks for passes on, its sums fit, and what is found is as defined. From the laws of one step and the
-- bounds of costs. Assumes nothing.
use mathlib.Core.Path.{◌≡◌, sym, ap, ◌∙◌}
use mathlib.Core.Bool.{Bool, true, false, not}
use mathlib.Core.List.{List}
use Prim.Native.Nat.{ℕ, ◌+◌, ◌-◌, ◌≤◌, ◌<◌, min}
use native.Mathlib.Omega.{arith}
use borrow.Author.Tests.{not-true, not-false}
use Rattle.basics.specs.Tests.{choose}
use Rattle.board.specs.declared.Place.{Place}
use Rattle.board.specs.Place.{inside}
use Rattle.tree.specs.Trees.{most_runs}
use Rattle.copper.specs.declared.Tally.{Tally}
use Rattle.copper.specs.Least.{lesser_of, is_bent, next_tally}
use Rattle.least.specs.declared.Costs.{Costs}
use Rattle.least.specs.declared.Least.{Least}
use Rattle.least.specs.Asking.{base, kept, doubled_if, owed_alone, with_run, lesser_found, cost_kept, least_kept, KeptFits, Weighable}
use Rattle.least.proofs.Modesty.{modest_next}
use Rattle.least.proofs.Stepping.{choices_sum, choices_on, choices_past, choices_end, cost_on, cost_past, cost_end}
use Rattle.least.proofs.Bounds.{kept_most, found_few}

-- A bent run costs the lesser of its shapes ..
lesser_bent : (t : Bool) (x y : ℕ) → t ≡ true → lesser_of t x y ≡ min x y
lesser_bent t x y e = rw e

-- .. and a straight run its one shape.
lesser_straight : (t : Bool) (x y : ℕ) → t ≡ false → lesser_of t x y ≡ x
lesser_straight t x y e = rw e

-- A bent run gives two choices for one ..
pub doubled_bent : (t : Bool) → t ≡ true → doubled_if t 1 ≡ 1 + 1
unfolding doubled_if choose
doubled_bent t e = rw e

-- .. and a straight run keeps it one.
pub doubled_straight : (t : Bool) → t ≡ false → doubled_if t 1 ≡ 1
unfolding doubled_if choose
doubled_straight t e = rw e

module _ (at : ℕ → Place) (near : ℕ → ℕ) (cost : ℕ → Bool → ℕ) (n i next : ℕ) (t : Tally) where
  -- No run is left.
  pub found_end : n ≤ next → owed_alone t ≡ least_kept at near cost n i next t
  unfolding least_kept
  found_end l = rw (cost_end at near n i next cost t l, choices_end at near n i next l 1)

  -- A run that leads on from another pin is passed by.
  pub found_past : next < n → (near next ≡ i → ⊥) → least_kept at near cost n i (next + 1) t ≡ least_kept at near cost n i next t
  unfolding least_kept
  found_past l h = rw (cost_past at near n i next cost t l h, choices_past at near n i next l h 1)

  -- A run that leads on from this pin.
  module _ (l : next < n) (h : near next ≡ i) where
    -- A straight run has one shape.
    pub found_straight : (b : Bool) (f x : Least) (s : Tally) → b ≡ is_bent at near next → not b ≡ true
        → s ≡ next_tally at near t next false → f ≡ least_kept at near cost n i (next + 1) s → x ≡ with_run (cost next false) f
        → x ≡ least_kept at near cost n i next t
    unfolding least_kept
    found_straight b f x s eb off e g ex =
        rw (
          ex,
          g,
          e,
          cost_on at near n i next cost t l h,
          lesser_straight (is_bent at near next) _ _ (sym eb ∙ not-true b off),
          choices_on at near n i next l h 1,
          doubled_straight (is_bent at near next) (sym eb ∙ not-true b off),
        )

    -- A bent run has two.
    pub found_bent : (b : Bool) (f g x y : Least) (s v : Tally) → b ≡ is_bent at near next → not b ≡ false
        → s ≡ next_tally at near t next false → f ≡ least_kept at near cost n i (next + 1) s → x ≡ with_run (cost next false) f
        → v ≡ next_tally at near t next true → g ≡ least_kept at near cost n i (next + 1) v → y ≡ with_run (cost next true) g
        → lesser_found x y ≡ least_kept at near cost n i next t
    unfolding least_kept
    found_bent b f g x y s v eb on es ef ex ev eg ey =
        rw (
          ex,
          ef,
          es,
          ey,
          eg,
          ev,
          cost_on at near n i next cost t l h,
          lesser_bent (is_bent at near next) _ _ (sym eb ∙ not-false b on),
          choices_on at near n i next l h 1,
          doubled_bent (is_bent at near next) (sym eb ∙ not-false b on),
          choices_sum at near (n - (next + 1)) i (next + 1) 1 1,
        )

module _ (at : ℕ → Place) (near : ℕ → ℕ) (n : ℕ) (few : n ≤ most_runs) (on_board : (i : ℕ) → inside (at i) ≡ true)
    (asked : List Costs) (t : Tally) (w : Weighable asked t) where
  -- What is kept for the runs.
  abbrev cost : ℕ → Bool → ℕ
  cost = kept asked

  -- With a run more in either shape the later runs can be weighed.
  pub asks_on : (r : ℕ) (u : Bool) (s : Tally) → s ≡ next_tally at near t r u → Weighable asked s
  asks_on r u s e = record { fits = w.fits; modest = rw e (modest_next at near on_board t r u w.modest) }

  -- What is found of the later runs.
  module _ (r : ℕ) (l : r < n) (i : ℕ) (f : Least) (s : Tally) (g : f ≡ least_kept at near cost n i (r + 1) s) where
    -- With what is kept for the run in either shape it fits.
    pub sum_fits : (u v : Bool) → s ≡ next_tally at near t r v → cost r u + f.cost < 18446744073709551616
    unfolding least_kept KeptFits
    sum_fits u v e =
        let c : f.cost ≡ cost_kept at near cost (n - (r + 1)) i (r + 1) s = ap (λ (z : Least). z.cost) g in
        let m = kept_most at near on_board cost w.fits (n - (r + 1)) i (r + 1) s (asks_on r v s e).modest in
        omega (arith, c, m, w.fits r u, few)

    -- With the run in one shape there are as many choices as without it, at most so many.
    pub weighed_few : (c : ℕ) (x : Least) → x ≡ with_run c f → x.weighed ≤ base
    weighed_few c x e =
        let z : x.weighed ≡ f.weighed = ap (λ (y : Least). y.weighed) e in
        omega (arith, z, found_few at near cost n i (r + 1) f s few g)
