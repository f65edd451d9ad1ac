-- What pins show, told by their places: it is what they show told by their sites, and it is bounded as their arms are.
-- Assumes that places are held by i32.
use mathlib.Core.Path.{◌≡◌, refl, sym, ap, ◌∙◌}
use mathlib.Core.Bool.{Bool, true, false, not, cond}
use Prim.Native.Nat.{ℕ, suc, ◌-◌, ◌*◌, ◌≤◌, ◌<◌}
use native.Mathlib.Omega.{arith}
use lib.IntN.{ℤ}
use lib.Signed.{le_z}
use lib.Dec.{eqb, leb}
use borrow.Author.Tests.{leb-true, leb-false}
use Rattle.basics.specs.Tests.{choose}
use Rattle.board.specs.declared.Place.{Place}
use Rattle.board.specs.Place.{difference}
use Rattle.board.proofs.Signed.{off, I32, le_z_off, difference_off}
use Rattle.board.proofs.Flat.{span, site, PlaceI32, distance_span}
use Rattle.copper.specs.declared.Arms.{Arms}
use Rattle.copper.specs.declared.Tally.{Tally}
use Rattle.copper.specs.Shapes.{corner_of, shape_of}
use Rattle.copper.specs.Arms.{steps_beyond, reach, arms_to, longest, paid_for, no_tally, reached_by, leading_on, owed, Short, Bounded}
use Rattle.copper.specs.Least.{best, is_bent, first_tally, next_tally}
use Rattle.copper.proofs.Cover.{straight}
use Rattle.least.proofs.Sharing.{near_tip, far_tip}
use Rattle.least.proofs.Star.{arm_to}
use Rattle.least.proofs.Choices.{best_same, May}
use Rattle.least.proofs.Laid.{start_arms, add_arms, is_bent_run, straight_length}
use Rattle.least.proofs.Cost.{spread-longest, paid_within, paid_at, start_tally, add_tally, least_cost}
use Rattle.copper.proofs.Measured.{same_x, same_y}
use Rattle.least.proofs.Moved.{straight_site, corner_held, near_site, far_site, far_held}

-- How far b lies beyond a, moved.
beyond_by : (t : Bool) (a b : ℤ) → I32 a → I32 b → leb (off a) (off b) ≡ t → choose t (difference a b) 0 ≡ off b - off a
unfolding choose
beyond_by true a b p q e = omega (arith, leb-true (off a) (off b) e, difference_off a b p q)
beyond_by false a b p q e = omega (arith, leb-false (off a) (off b) e)

-- How far a leg reaches in a direction, moved.
reach_by : (t : Bool) (a b : ℤ) → I32 a → I32 b → reach t a b ≡ cond t (off b - off a) 0
unfolding reach steps_beyond choose
reach_by true a b p q = beyond_by (le_z a b) a b p q (sym (le_z_off a b p q))
reach_by false a b p q = refl

-- The arms of a leg, moved.
pub arms_site : (a b : Place) → PlaceI32 a → PlaceI32 b → arms_to a b ≡ arm_to (site a) (site b)
unfolding arms_to arm_to
arms_site a b p q =
    rw (same_x b a q p, same_y b a q p)
    (four (reach_by (eqb (off b.y) (off a.y)) a.x b.x p.x q.x) (reach_by (eqb (off b.y) (off a.y)) b.x a.x q.x p.x)
    (reach_by (eqb (off b.x) (off a.x)) a.y b.y p.y q.y) (reach_by (eqb (off b.x) (off a.x)) b.y a.y q.y p.y))
  where
    four : {e e' w w' n n' s s' : ℕ} → e ≡ e' → w ≡ w' → n ≡ n' → s ≡ s'
        → ◌≡◌ {A = Arms} (record { east = e; west = w; north = n; south = s }) (record { east = e'; west = w'; north = n'; south = s' })
    four h i j k = rw (h, i, j, k)

-- An arm is as long as its ends are apart, or nothing: it is no longer than B where they are at most B apart.
arm_most : (t : Bool) (h k B : ℕ) → k - h ≤ B → cond t (k - h) 0 ≤ B
arm_most true h k B l = l
arm_most false h k B l = omega arith

-- Arms between places at most so far apart, across and up, are as short.
pub arms_short : (most : ℕ) (a b : Place) → PlaceI32 a → PlaceI32 b
    → off b.x - off a.x ≤ most → off a.x - off b.x ≤ most → off b.y - off a.y ≤ most → off a.y - off b.y ≤ most
    → Short most (arms_to a b)
arms_short most a b p q e w n s = rw (arms_site a b p q) go
  where
    go : Short most (arm_to (site a) (site b))
    go =
        unfold arm_to in
        record {
          east = arm_most (eqb (off b.y) (off a.y)) (off a.x) (off b.x) most e;
          west = arm_most (eqb (off b.y) (off a.y)) (off b.x) (off a.x) most w;
          north = arm_most (eqb (off b.x) (off a.x)) (off a.y) (off b.y) most n;
          south = arm_most (eqb (off b.x) (off a.x)) (off b.y) (off a.y) most s;
        }

-- The longest of short arms are short.
longest_short : (most : ℕ) (a b : Arms) → Short most a → Short most b → Short most (longest a b)
unfolding longest
longest_short most a b p q =
    record {
      east = omega (arith, p.east, q.east);
      west = omega (arith, p.west, q.west);
      north = omega (arith, p.north, q.north);
      south = omega (arith, p.south, q.south);
    }

-- A run from a, the near place, to b, the far one.
module _ (u : Bool) (a b : Place) (p : PlaceI32 a) (q : PlaceI32 b) where
  -- What the far pin has paid, told by the sites,
  paid_site : paid_for a b ≡ cond (straight (site a) (site b)) (span (site a) (site b)) 0
  unfolding paid_for
  paid_site = rw (straight_site a b p q, distance_span p q) (go (straight (site a) (site b)))
    where
      go : (t : Bool) → choose t (span (site a) (site b)) 0 ≡ cond t (span (site a) (site b)) 0
      go true = unfold choose in refl
      go false = unfold choose in refl

  -- the arm by which it was reached,
  far_arms : arms_to b (corner_of (shape_of u a b) b a) ≡ arm_to (site b) (far_tip u (site a) (site b))
  far_arms = arms_site b (corner_of (shape_of u a b) b a) q (far_held a b p q u) ∙ ap (arm_to (site b)) (far_site a b p q u)

  -- and the arm of the near pin.
  near_arms : arms_to a (corner_of (shape_of u a b) a b) ≡ arm_to (site a) (near_tip u (site a) (site b))
  near_arms = arms_site a (corner_of (shape_of u a b) a b) p (corner_held a b p q u) ∙ ap (arm_to (site a)) (near_site a b p q u)

  -- What the far pin shows before any run leads on.
  pub reached_site : reached_by u a b
      ≡ record { arms = arm_to (site b) (far_tip u (site a) (site b)); paid = cond (straight (site a) (site b)) (span (site a) (site b)) 0 }
  unfolding reached_by
  reached_site = rw (far_arms, paid_site)

  -- What the near pin shows when the run leads on.
  pub leading_site : (t : Tally) → leading_on t u a b ≡ record { arms = longest t.arms (arm_to (site a) (near_tip u (site a) (site b))); paid = t.paid }
  unfolding leading_on
  leading_site t = rw near_arms

  -- What the far pin shows at first is bounded as its arms are,
  pub bounded_reached : (most : ℕ) → Short most (arms_to b (corner_of (shape_of u a b) b a)) → Bounded most (reached_by u a b)
  unfolding reached_by
  bounded_reached most s = record { short = s; paid = rw (far_arms, paid_site) (paid_within u (site a) (site b)) }

  -- and so is what the near pin shows when the run leads on.
  pub bounded_leading : (most : ℕ) (t : Tally) → Bounded most t → Short most (arms_to a (corner_of (shape_of u a b) a b)) → Bounded most (leading_on t u a b)
  unfolding leading_on
  bounded_leading most t f s =
      let m : Arms = arms_to a (corner_of (shape_of u a b) a b) in
      record { short = longest_short most t.arms m f.short s; paid = omega (arith, f.paid, spread-longest t.arms m) }

-- What pins show, the pins numbered by when they were reached: 0 is the first, suc r the far pin of run r, near r the near pin of run r.
module _ (at : ℕ → Place) (near : ℕ → ℕ) where
  -- The least cost, asked pin by pin: B for each unit of length, and what each run costs for itself.
  unfoldable pub least_of : ℕ → (ℕ → Bool → ℕ) → ℕ → ℕ
  least_of B own n = best Tally (first_tally at near) (next_tally at near) (λ t. owed t * B) near (is_bent at near) own n 0 0 no_tally

  module _ (n : ℕ) (held : (i : ℕ) → i < suc n → PlaceI32 (at i)) (grown : (r : ℕ) → r < n → near r ≤ r) where
    -- The near place of a run is held by i32,
    near_held : (r : ℕ) → r < n → PlaceI32 (at (near r))
    near_held r l = held (near r) (omega (arith, grown r l))

    -- and so is its far place.
    far_end_lem : (r : ℕ) → r < n → PlaceI32 (at (suc r))
    far_end_lem r l = held (suc r) (omega arith)

    -- A run is bent where it is so between the sites,
    bent_site : (r : ℕ) → r < n → is_bent at near r ≡ is_bent_run (λ i. site (at i)) near r
    unfolding is_bent
    bent_site r l = ap not (straight_site (at (near r)) (at (suc r)) (near_held r l) (far_end_lem r l))

    -- what a pin shows at first is told by them,
    start_site : (r : ℕ) → r < n → (u : Bool) → first_tally at near (suc r) u ≡ start_tally (λ i. site (at i)) near (suc r) u
    unfolding first_tally start_tally start_arms paid_at straight_length
    start_site r l u = reached_site u (at (near r)) (at (suc r)) (near_held r l) (far_end_lem r l)

    -- and what a run adds.
    add_site : (t : Tally) (r : ℕ) → r < n → (u : Bool) → next_tally at near t r u ≡ add_tally (λ i. site (at i)) near t r u
    unfolding next_tally add_tally add_arms
    add_site t r l u = leading_site u (at (near r)) (at (suc r)) (near_held r l) (far_end_lem r l) t

    -- The least cost is the one told by the sites.
    pub least_site : (B : ℕ) (own : ℕ → Bool → ℕ) → least_of B own n ≡ least_cost (λ i. site (at i)) near B own n
    unfolding least_of least_cost start_tally start_arms paid_at
    least_site B own =
        best_same Tally (first_tally at near) (start_tally (λ i. site (at i)) near) (next_tally at near) (add_tally (λ i. site (at i)) near) (λ t. owed t * B)
        near near (is_bent at near) (is_bent_run (λ i. site (at i)) near) own n
        start_site add_site (λ r l. refl) bent_site n 0 0 no_tally (omega arith)

    -- A run that may have a shape may have it told by the sites,
    pub may_site : (r : ℕ) → r < n → (u : Bool) → May (is_bent at near r) u → May (is_bent_run (λ i. site (at i)) near r) u
    may_site r l u h e = h (bent_site r l ∙ e)

    -- and the other way round.
    pub may_place : (r : ℕ) → r < n → (u : Bool) → May (is_bent_run (λ i. site (at i)) near r) u → May (is_bent at near r) u
    may_place r l u h e = h (sym (bent_site r l) ∙ e)
