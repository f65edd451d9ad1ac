-- The length of the legs of a tree's runs: it is a sum over the pins, it is what is made least pin by pin, and the first of the shortest is found.
-- Pins are numbered by when they were reached: 0 is the first, suc r the far pin of run r, `near r` the near pin of run r,
-- `at i` the place of pin i; s gives each run its shape, false for lower and true for upper.
-- Assumes that the places are held by i32 and that the tree is laid as `Spaced` says.
use mathlib.Core.Path.{◌≡◌, refl, sym, ap, ap₂, ◌∙◌}
use mathlib.Core.Bool.{Bool, true, false, cond}
use mathlib.Core.List.{List, [], ◌++◌, append_assoc, append-nil}
use mathlib.Core.Logic.{◌⊎◌}
use Prim.Native.Nat.{ℕ, zero, suc, ◌+◌, ◌*◌, ◌≤◌, ◌<◌}
use native.Mathlib.Omega.{arith}
use Rattle.basics.proofs.Anyone.{any_append, any_end}
use Rattle.basics.specs.Tests.{either, choose, any_of}
use Rattle.basics.proofs.Tests.{either-none, either_swap}
use Rattle.board.specs.declared.Place.{Place}
use Rattle.board.proofs.Signed.{off_max}
use Rattle.board.proofs.Flat.{Site, site, PlaceI32}
use Rattle.copper.specs.declared.Shape.{Shape}
use Rattle.copper.specs.declared.Shape.TheVariants.{Straight, Lower, Upper}
use Rattle.copper.specs.declared.Leg.{Leg}
use Rattle.copper.specs.declared.Tally.{Tally}
use Rattle.copper.specs.Shapes.{lower_corner, upper_corner, shape_of, legs_of}
use Rattle.copper.specs.Length.{length_of}
use Rattle.copper.specs.Arms.{spread, owed}
use Rattle.copper.specs.Least.{is_bent}
use Rattle.basics.proofs.Sums.{one_if, sum_below}
use Rattle.least.proofs.Choices.{May, best_least, best_reached}
use Rattle.copper.proofs.Cover.{Stride, covers, straight, bend, run_covers, some, covers_of, covered, grid_length}
use Rattle.copper.proofs.Cover.{over-same, Within}
use Rattle.least.proofs.Laid.{Spaced, arms_at, straight_length, grid_length_lem, is_bent_run}
use Rattle.least.proofs.Cost.{lexical, start_tally, add_tally, cost_of, least_cost, cost_is}
use Rattle.least.proofs.Tallies.{least_of, least_site, may_site, may_place}
use Rattle.least.proofs.Moved.{straight_site, lower_site, upper_site, lower_held, upper_held}
use Rattle.copper.proofs.Measured.{HeldLeg, HeldLegs, no_legs, more_legs, held_join, any_leg, length-counted}

-- The run from a to b.
module _ (a b : Place) (p : PlaceI32 a) (q : PlaceI32 b) where
  -- The legs of a run cover what the run does.
  run_any : (u : Bool) (σ : Stride) → any_leg (legs_of (shape_of u a b) a b) σ ≡ run_covers u (site a) (site b) σ
  unfolding shape_of run_covers
  run_any u σ = rw (straight_site a b p q) (go (straight (site a) (site b)) u)
    where
      two : (c : Place) → either (covers (site a) (site c) σ) (either (covers (site c) (site b) σ) false)
          ≡ either (covers (site a) (site c) σ) (covers (site c) (site b) σ)
      two c = ap (λ (z : Bool). either (covers (site a) (site c) σ) z) (either-none (covers (site c) (site b) σ))

      go : (t v : Bool) → any_leg (legs_of (choose t Straight (choose v Upper Lower)) a b) σ
          ≡ cond t (covers (site a) (site b) σ) (either (covers (site a) (bend v (site a) (site b)) σ) (covers (bend v (site a) (site b)) (site b) σ))
      go true v = unfold choose legs_of any_of in either-none (covers (site a) (site b) σ)
      go false true =
          unfold choose legs_of any_of in
          (two (upper_corner a b) ∙ ap (λ (z : Site). either (covers (site a) z σ) (covers z (site b) σ)) (upper_site a b p q))
      go false false =
          unfold choose legs_of any_of in
          (two (lower_corner a b) ∙ ap (λ (z : Site). either (covers (site a) z σ) (covers z (site b) σ)) (lower_site a b p q))

-- A grid that holds all that i32 holds.
module _ (m : ℕ) (big : 4294967296 ≤ m) where
  -- A place that i32 holds is on it,
  held_in : (a : Place) → PlaceI32 a → Within m (site a)
  held_in a p = record { x_in = omega (arith, off_max a.x p.x); y_in = omega (arith, off_max a.y p.y) }

  -- and so is a leg between two such places,
  held_leg : (a b : Place) → PlaceI32 a → PlaceI32 b → HeldLeg m (record { from = a; to = b })
  held_leg a b p q = record { from_held = p; to_held = q; from_in = held_in a p; to_in = held_in b q }

  -- and each leg of a run between them.
  run_held : (shape : Shape) (a b : Place) → PlaceI32 a → PlaceI32 b → HeldLegs m (legs_of shape a b)
  unfolding legs_of
  run_held Straight a b p q = more_legs (held_leg a b p q) no_legs
  run_held Lower a b p q =
      let c = lower_held a b p q in
      more_legs (held_leg a (lower_corner a b) p c) (more_legs (held_leg (lower_corner a b) b c q) no_legs)
  run_held Upper a b p q =
      let c = upper_held a b p q in
      more_legs (held_leg a (upper_corner a b) p c) (more_legs (held_leg (upper_corner a b) b c q) no_legs)

-- The legs of runs 0 to n - 1, run after run.
unfoldable pub join_below : (ℕ → List Leg) → ℕ → List Leg
join_below legs zero = []
join_below legs (suc n) = join_below legs n ++ legs n

-- They begin with those of the first run.
pub join_first : (legs : ℕ → List Leg) (n : ℕ) → join_below legs (suc n) ≡ legs 0 ++ join_below (λ r. legs (suc r)) n
unfolding join_below
join_first legs zero = sym (append-nil (legs 0))
join_first legs (suc n) =
    ap (λ (l : List Leg). l ++ legs (suc n)) (join_first legs n) ∙ append_assoc (legs 0) (join_below (λ r. legs (suc r)) n) (legs (suc n))

-- The legs of the first n runs, in run order: run r goes from the place of pin `near r` to that of pin suc r, and bends as `upper r` says.
unfoldable pub legs_of_runs : (ℕ → Place) → (ℕ → ℕ) → (ℕ → Bool) → ℕ → List Leg
legs_of_runs at near upper zero = []
legs_of_runs at near upper (suc n) =
    legs_of_runs at near upper n
    ++ legs_of (shape_of (upper n) (at (near n)) (at (suc n))) (at (near n)) (at (suc n))

module _ (at : ℕ → Place) (near : ℕ → ℕ) where
  -- The legs of the runs, one run after the other.
  pub runs_joined : (s : ℕ → Bool) (n : ℕ)
      → legs_of_runs at near s n ≡ join_below (λ r. legs_of (shape_of (s r) (at (near r)) (at (suc r))) (at (near r)) (at (suc r))) n
  unfolding legs_of_runs join_below
  runs_joined s zero = refl
  runs_joined s (suc n) = ap (λ (l : List Leg). l ++ legs_of (shape_of (s n) (at (near n)) (at (suc n))) (at (near n)) (at (suc n))) (runs_joined s n)

  -- The pins' sites.
  abbrev pub sites : ℕ → Site
  sites i = site (at i)

  -- The legs of the runs are on such a grid.
  runs_held : (m : ℕ) → 4294967296 ≤ m → (s : ℕ → Bool) (n : ℕ) → ((r : ℕ) → r < n → near r ≤ r) → ((i : ℕ) → i < suc n → PlaceI32 (at i))
      → HeldLegs m (legs_of_runs at near s n)
  unfolding legs_of_runs
  runs_held m big s zero g h = no_legs
  runs_held m big s (suc n) g h =
      held_join (runs_held m big s n (λ r l. g r (omega arith)) (λ i l. h i (omega arith)))
      (run_held m big (shape_of (s n) (at (near n)) (at (suc n))) (at (near n)) (at (suc n)) (h (near n) (omega (arith, g n (omega arith)))) (h (suc n) (omega arith)))

  -- The legs of the runs cover what the runs do.
  runs_any : (s : ℕ → Bool) (n : ℕ) → ((r : ℕ) → r < n → near r ≤ r) → ((i : ℕ) → i < suc n → PlaceI32 (at i)) → (σ : Stride)
      → any_leg (legs_of_runs at near s n) σ ≡ covered sites near n s σ
  unfolding legs_of_runs covered some
  runs_any s zero g h σ = any_end refl (λ (l : Leg). covers (site l.from) (site l.to) σ)
  runs_any s (suc n) g h σ =
      let a : Place = at (near n) in
      let b : Place = at (suc n) in
      any_append (λ (l : Leg). covers (site l.from) (site l.to) σ) (legs_of_runs at near s n) (legs_of (shape_of (s n) a b) a b)
      ∙ ap₂ either (runs_any s n (λ r l. g r (omega arith)) (λ i l. h i (omega arith)) σ) (one σ)
      ∙ either_swap (covered sites near n s σ) (covers_of sites near n (s n) σ)
    where
      one : (σ : Stride) → any_leg (legs_of (shape_of (s n) (at (near n)) (at (suc n))) (at (near n)) (at (suc n))) σ ≡ covers_of sites near n (s n) σ
      one σ = unfold covers_of in run_any (at (near n)) (at (suc n)) (h (near n) (omega (arith, g n (omega arith)))) (h (suc n) (omega arith)) (s n) σ

  -- So their length is that of the runs on the grid.
  grid_by : (m : ℕ) → 4294967296 ≤ m → (s : ℕ → Bool) (n : ℕ) → ((r : ℕ) → r < n → near r ≤ r) → ((i : ℕ) → i < suc n → PlaceI32 (at i))
      → length_of (legs_of_runs at near s n) ≡ grid_length sites near m n s
  unfolding grid_length
  grid_by m big s n g h =
      length-counted (runs_held m big s n g h)
      ∙ over-same m (λ σ. one_if (any_leg (legs_of_runs at near s n) σ)) (λ σ. one_if (covered sites near n s σ)) (λ σ. ap one_if (runs_any s n g h σ))

  module _ (n : ℕ) (held : (i : ℕ) → i < suc n → PlaceI32 (at i)) (laid : Spaced sites near n) where
    -- The sites of the pins are on such a grid.
    on_grid : (m : ℕ) → 4294967296 ≤ m → (i : ℕ) → i < suc n → Within m (sites i)
    on_grid m big i l = held_in m big (at i) (held i l)

    -- The length with the distances of the straight runs is the sum of the arms, by any such grid,
    length_sum_by : (m : ℕ) → 4294967296 ≤ m → (s : ℕ → Bool)
        → length_of (legs_of_runs at near s n) + sum_below n (straight_length sites near) ≡ sum_below (suc n) (λ i. spread (arms_at sites near n s i))
    length_sum_by m big s = omega (arith, grid_by m big s n laid.grown held, grid_length_lem sites near n laid s m (on_grid m big))

    -- so it is the sum over the pins of their four longest arms.
    pub length-sum : (s : ℕ → Bool)
        → length_of (legs_of_runs at near s n) + sum_below n (straight_length sites near) ≡ sum_below (suc n) (λ i. spread (arms_at sites near n s i))
    length-sum = length_sum_by 4294967296 (omega arith)

    -- The same of the cost, on any such grid.
    cost_length_by : (m : ℕ) → 4294967296 ≤ m → (B : ℕ) (own : ℕ → Bool → ℕ) (s : ℕ → Bool)
        → cost_of sites near B own n s ≡ sum_below n (λ r. own r (s r)) + length_of (legs_of_runs at near s n) * B
    cost_length_by m big B own s =
        cost_is sites near n laid m (on_grid m big) B own s
        ∙ ap (λ (z : ℕ). sum_below n (λ r. own r (s r)) + z * B) (sym (grid_by m big s n laid.grown held))

    -- The cost of a choice of shapes is its length, times B, with what the runs cost for themselves.
    pub cost_length : (B : ℕ) (own : ℕ → Bool → ℕ) (s : ℕ → Bool)
        → cost_of sites near B own n s ≡ sum_below n (λ r. own r (s r)) + length_of (legs_of_runs at near s n) * B
    cost_length = cost_length_by 4294967296 (omega arith)

    -- What is found pin by pin is at most what any choice of shapes costs ..
    pub least_cost_lem : (B : ℕ) (own : ℕ → Bool → ℕ) (s : ℕ → Bool) → ((r : ℕ) → r < n → May (is_bent at near r) (s r))
        → least_of at near B own n ≤ sum_below n (λ r. own r (s r)) + length_of (legs_of_runs at near s n) * B
    unfolding least_cost cost_of
    least_cost_lem B own s may =
        omega (
          arith,
          best_least Tally (start_tally sites near) (add_tally sites near) (λ a. owed a * B) near (is_bent_run sites near) own n laid.grown s
              (λ r l. may_site at near n held laid.grown r l (s r) (may r l)),
          least_site at near n held laid.grown B own,
          cost_length B own s,
        )

    -- .. and some choice costs just that.
    pub cost_reached : (B : ℕ) (own : ℕ → Bool → ℕ)
        → (s : ℕ → Bool) × ((r : ℕ) → r < n → May (is_bent at near r) (s r))
        × (least_of at near B own n ≡ sum_below n (λ r. own r (s r)) + length_of (legs_of_runs at near s n) * B)
    unfolding least_cost cost_of
    cost_reached B own =
        let z = best_reached Tally (start_tally sites near) (add_tally sites near) (λ a. owed a * B) near (is_bent_run sites near) own n laid.grown in (
          z.0,
          λ r l. may_place at near n held laid.grown r l (z.0 r) (z.1 r l),
          least_site at near n held laid.grown B own ∙ z.2 ∙ cost_length B own z.0,
        )

    -- The first of the shortest: where a mask of the shapes, below B, is what the runs cost for themselves, the shapes found are of least
    -- length, and among those of least mask.
    pub first_shortest : (B : ℕ) (own : ℕ → Bool → ℕ) → ((s : ℕ → Bool) → sum_below n (λ r. own r (s r)) < B)
        → (s : ℕ → Bool) × ((r : ℕ) → r < n → May (is_bent at near r) (s r))
        × (least_of at near B own n ≡ sum_below n (λ r. own r (s r)) + length_of (legs_of_runs at near s n) * B)
        × ((t : ℕ → Bool) → ((r : ℕ) → r < n → May (is_bent at near r) (t r))
        → (length_of (legs_of_runs at near s n) < length_of (legs_of_runs at near t n))
        ⊎ ((length_of (legs_of_runs at near s n) ≡ length_of (legs_of_runs at near t n))
        × (sum_below n (λ r. own r (s r)) ≤ sum_below n (λ r. own r (t r)))))
    first_shortest B own small =
        let z = cost_reached B own in (
          z.0,
          z.1,
          z.2,
          λ t may.
              lexical (length_of (legs_of_runs at near z.0 n)) (length_of (legs_of_runs at near t n)) (sum_below n (λ r. own r (z.0 r))) (sum_below n (λ r. own r (t r))) B
              (small z.0) (small t)
              (omega (arith, z.2, least_cost_lem B own t may)),
        )
