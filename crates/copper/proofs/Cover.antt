-- Covered steps of the moved grid, whose coordinates are ℕ: what a leg and a run cover, and the length as a sum over the grid.
-- Pins are numbered by when they were reached: 0 is the first, suc r the far pin of run r, `near r` the near pin of run r, `at i` the site of
-- pin i. A shape is a Bool: false is lower, true is upper. Assumes nothing.
use mathlib.Core.Path.{◌≡◌, refl, ap, ◌∙◌, fun_ext}
use mathlib.Core.Bool.{Bool, true, false, cond}
use Prim.Native.Nat.{ℕ, zero, suc, ◌+◌, ◌<◌, min, max}
use native.Mathlib.Omega.{arith}
use lib.Dec.{eqb, ltb, leb}
use Rattle.basics.specs.Tests.{both, either}
use Rattle.board.proofs.Flat.{Site}
use Rattle.basics.proofs.Sums.{one_if, sum_below, sum_same, sum-add, sum-none}

-- A unit step of the moved grid: from (x, y) to (x + 1, y), or from (x, y) to (x, y + 1).
pub data Stride : Type 0 where
  along : ℕ → ℕ → Stride
  rise : ℕ → ℕ → Stride

-- The leg from a to b covers the stride: it lies in the leg's row, or in its column, between the ends.
unfoldable pub covers : Site → Site → Stride → Bool
covers a b (along x y) = both (eqb y a.y) (both (eqb y b.y) (both (leb (min a.x b.x) x) (ltb x (max a.x b.x))))
covers a b (rise x y) = both (eqb x a.x) (both (eqb x b.x) (both (leb (min a.y b.y) y) (ltb y (max a.y b.y))))

-- The ends share x or y.
unfoldable pub straight : Site → Site → Bool
straight a b = either (eqb a.x b.x) (eqb a.y b.y)

-- Where a bent run turns.
unfoldable pub bend : Bool → Site → Site → Site
bend false a b = record { x = cond (leb a.y b.y) b.x a.x; y = min a.y b.y }
bend true a b = record { x = cond (leb a.y b.y) a.x b.x; y = max a.y b.y }

-- The run from a to b in the shape u covers the stride, by its one leg or by one of its two.
unfoldable pub run_covers : Bool → Site → Site → Stride → Bool
run_covers u a b σ = cond (straight a b) (covers a b σ) (either (covers a (bend u a b) σ) (covers (bend u a b) b σ))

-- A test holds of a number below n.
unfoldable pub some : ℕ → (ℕ → Bool) → Bool
some zero f = false
some (suc n) f = either (f n) (some n f)

-- The sum of f over the strides of the grid from (0, 0) up to (m, m).
unfoldable pub over : ℕ → (Stride → ℕ) → ℕ
over m f = sum_below m (λ x. sum_below m (λ y. f (along x y) + f (rise x y)))

-- Sums over the grid of what is the same at each stride are the same,
pub over-same : (m : ℕ) (f g : Stride → ℕ) → ((s : Stride) → f s ≡ g s) → over m f ≡ over m g
over-same m f g h = ap (over m) (fun_ext h)

-- the sum of two added is both sums added,
pub over_add : (m : ℕ) (f g : Stride → ℕ) → over m (λ s. f s + g s) ≡ over m f + over m g
unfolding over
over_add m f g =
    sum_same m (λ x. sum_below m (λ y. f (along x y) + g (along x y) + (f (rise x y) + g (rise x y))))
    (λ x. sum_below m (λ y. f (along x y) + f (rise x y)) + sum_below m (λ y. g (along x y) + g (rise x y)))
    (λ x k.
    sum_same m (λ y. f (along x y) + g (along x y) + (f (rise x y) + g (rise x y))) (λ y. f (along x y) + f (rise x y) + (g (along x y) + g (rise x y)))
    (λ y j. omega arith)
    ∙ sum-add m (λ y. f (along x y) + f (rise x y)) (λ y. g (along x y) + g (rise x y)))
    ∙ sum-add m (λ x. sum_below m (λ y. f (along x y) + f (rise x y))) (λ x. sum_below m (λ y. g (along x y) + g (rise x y)))

-- the sum of nothing is nothing,
pub over_none : (m : ℕ) → over m (λ s. 0) ≡ 0
unfolding over
over_none m = sum-none m (λ x. sum_below m (λ y. 0 + 0)) (λ x k. sum-none m (λ y. 0 + 0) (λ y j. refl))

-- and sums can be taken in either order.
pub over-sum : (m k : ℕ) (f : ℕ → Stride → ℕ) → over m (λ s. sum_below k (λ i. f i s)) ≡ sum_below k (λ i. over m (f i))
unfolding sum_below
over-sum m zero f = over_none m
over-sum m (suc k) f = over_add m (f k) (λ s. sum_below k (λ i. f i s)) ∙ ap (λ (z : ℕ). over m (f k) + z) (over-sum m k f)

-- The site is on the grid up to (m, m).
pub record Within (m : ℕ) (p : Site) : Type 0 where
  pub x_in : p.x < m
  pub y_in : p.y < m

module _ (at : ℕ → Site) (near : ℕ → ℕ) where
  -- Run r in the shape u covers the stride.
  unfoldable pub covers_of : ℕ → Bool → Stride → Bool
  covers_of r u = run_covers u (at (near r)) (at (suc r))

  -- One of the n runs, in the shapes s, covers the stride.
  unfoldable pub covered : ℕ → (ℕ → Bool) → Stride → Bool
  covered n s σ = some n (λ r. covers_of r (s r) σ)

  -- How many strides of the grid up to (m, m) the n runs cover.
  unfoldable pub grid_length : ℕ → ℕ → (ℕ → Bool) → ℕ
  grid_length m n s = over m (λ σ. one_if (covered n s σ))
