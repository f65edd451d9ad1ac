-- The length as a cost that is asked pin by pin: a pin shows its four longest arms and what the straight run that reached it has paid, and
-- its cost is the difference. Assumes of the tree what `Spaced` says.
use mathlib.Core.Path.{◌≡◌, refl, ap, ap₂, ◌∙◌}
use mathlib.Core.Bool.{Bool, true, false, cond}
use mathlib.Core.Logic.{◌⊎◌, inl, inr}
use Prim.Native.Nat.{ℕ, zero, suc, ◌+◌, ◌-◌, ◌*◌, ◌≤◌, ◌<◌}
use native.Mathlib.Nat.{suc-mul, mul-le-mul_right}
use native.Mathlib.Omega.{arith}
use lib.Dec.{eqb}
use Rattle.board.proofs.Flat.{order, Site, span, span_swap}
use Rattle.copper.specs.declared.Arms.{Arms}
use Rattle.copper.specs.declared.Tally.{Tally}
use Rattle.copper.specs.Arms.{longest, spread, owed}
use Rattle.copper.specs.Least.{best}
use Rattle.basics.proofs.Sums.{sum_below, sum_same, sum_less, sum-times}
use Rattle.least.proofs.Choices.{entered, shown, total}
use Rattle.copper.proofs.Cover.{straight, grid_length}
use Rattle.least.proofs.Sharing.{near_tip, far_tip, far_straight, straight_true, shared_turned}
use Rattle.least.proofs.Star.{arm_to, spread_arm}
use Rattle.copper.proofs.Cover.{Within}
use Rattle.least.proofs.Laid.{Spaced, start_arms, add_arms, arms_at, straight_length, grid_length_lem, is_bent_run}

-- Longer arms reach no less.
pub spread-longest : (a b : Arms) → spread a ≤ spread (longest a b)
unfolding spread longest
spread-longest a b = omega arith

-- Two numbers as one: the first decides, and where it is the same the second.
pub lexical : (a c b d B : ℕ) → b < B → d < B → b + a * B ≤ d + c * B → (a < c) ⊎ ((a ≡ c) × (b ≤ d))
lexical a c b d B l k h = go (order a c) (order c a)
  where
    go : (a ≤ c) ⊎ (c < a) → (c ≤ a) ⊎ (a < c) → (a < c) ⊎ ((a ≡ c) × (b ≤ d))
    go (inr p) q = absurd (omega (arith, mul-le-mul_right {m = suc c} {n = a} B p, suc-mul c B))
    go (inl p) (inr q) = inl q
    go (inl p) (inl q) = let e : a ≡ c = omega arith in inr (e, omega (arith, ap (λ (z : ℕ). z * B) e))

-- The leg that leaves the far end of a straight run is the run, so it reaches as far as the run is long.
pub paid_within : (u : Bool) (a b : Site) → cond (straight a b) (span a b) 0 ≤ spread (arm_to b (far_tip u a b))
paid_within u a b = go (straight a b) refl
  where
    go : (t : Bool) → straight a b ≡ t → cond t (span a b) 0 ≤ spread (arm_to b (far_tip u a b))
    go true e = rw (far_straight u a b e) (omega (arith, spread_arm b a (shared_turned a b (straight_true a b e)), span_swap a b))
    go false e = omega arith

module _ (at : ℕ → Site) (near : ℕ → ℕ) where
  -- What pin i has paid: the length of the straight run that reached it, which its near pin counts.
  unfoldable pub paid_at : ℕ → ℕ
  paid_at zero = 0
  paid_at (suc r) = straight_length at near r

  -- What a pin shows at first,
  unfoldable pub start_tally : ℕ → Bool → Tally
  start_tally i u = record { arms = start_arms at near i u; paid = paid_at i }

  -- and when a run leads on.
  unfoldable pub add_tally : Tally → ℕ → Bool → Tally
  add_tally a r u = record { arms = add_arms at near a.arms r u; paid = a.paid }

  -- The cost of a choice of shapes: B for each unit of length, and what each run costs for itself (its part of the mask of shapes, or nothing).
  unfoldable pub cost_of : ℕ → (ℕ → Bool → ℕ) → ℕ → (ℕ → Bool) → ℕ
  cost_of B w n s = total Tally start_tally add_tally (λ a. owed a * B) near (is_bent_run at near) w n s

  -- The least cost, asked pin by pin.
  unfoldable pub least_cost : ℕ → (ℕ → Bool → ℕ) → ℕ → ℕ
  least_cost B w n = best Tally start_tally add_tally (λ a. owed a * B) near (is_bent_run at near) w n 0 0 (start_tally 0 false)

  module _ (B : ℕ) (w : ℕ → Bool → ℕ) where
    -- What a pin shows when the runs before m have the shapes s.
    abbrev tally : ℕ → (ℕ → Bool) → ℕ → Tally
    tally m s i = shown Tally start_tally add_tally (λ a. owed a * B) near (is_bent_run at near) w m s i

    -- What a pin shows is its longest arms and what it has paid.
    tally_is : (m : ℕ) (s : ℕ → Bool) (i : ℕ) → ((tally m s i).arms ≡ arms_at at near m s i) × ((tally m s i).paid ≡ paid_at i)
    unfolding shown start_tally add_tally arms_at
    tally_is zero s i = (refl, refl)
    tally_is (suc m) s i = go (eqb (near m) i) (tally_is m s i)
      where
        X : Tally
        X = tally m s i

        Y : Arms
        Y = arms_at at near m s i

        go : (t : Bool) → (X.arms ≡ Y) × (X.paid ≡ paid_at i)
            → ((cond t (add_tally X m (s m)) X).arms ≡ cond t (add_arms at near Y m (s m)) Y) × ((cond t (add_tally X m (s m)) X).paid ≡ paid_at i)
        go true e = (ap (λ (z : Arms). add_arms at near z m (s m)) e.0, e.1)
        go false e = e

  -- A pin never has less than its first arms ..
  more_arms : (m : ℕ) (s : ℕ → Bool) (i : ℕ) → spread (start_arms at near i (entered s i)) ≤ spread (arms_at at near m s i)
  unfolding arms_at shown add_arms
  more_arms zero s i = omega arith
  more_arms (suc m) s i = go (eqb (near m) i) (more_arms m s i)
    where
      A : Arms
      A = arm_to (at (near m)) (near_tip (s m) (at (near m)) (at (suc m)))

      go : (t : Bool) → spread (start_arms at near i (entered s i)) ≤ spread (arms_at at near m s i)
          → spread (start_arms at near i (entered s i)) ≤ spread (cond t (longest (arms_at at near m s i) A) (arms_at at near m s i))
      go true h = omega (arith, spread-longest (arms_at at near m s i) A)
      go false h = h

  -- .. which reach at least as far as what it has paid.
  paid_start : (i : ℕ) (s : ℕ → Bool) → paid_at i ≤ spread (start_arms at near i (entered s i))
  unfolding paid_at start_arms straight_length
  paid_start zero s = omega arith
  paid_start (suc r) s = paid_within (s r) (at (near r)) (at (suc r))

  -- All that is paid is the length of the straight runs.
  paid_sum : (n : ℕ) → sum_below (suc n) paid_at ≡ sum_below n (straight_length at near)
  unfolding sum_below paid_at
  paid_sum zero = refl
  paid_sum (suc n) = ap (λ (z : ℕ). straight_length at near n + z) (paid_sum n)

  module _ (n : ℕ) (laid : Spaced at near n) (m : ℕ) (inside : (i : ℕ) → i < suc n → Within m (at i)) where
    -- The cost is the length, times B, with what the runs cost for themselves.
    pub cost_is : (B : ℕ) (w : ℕ → Bool → ℕ) (s : ℕ → Bool) → cost_of B w n s ≡ sum_below n (λ r. w r (s r)) + grid_length at near m n s * B
    unfolding cost_of total owed
    cost_is B w s =
        let F : ℕ → ℕ = λ i. spread (arms_at at near n s i) - paid_at i in
        let e1 : sum_below (suc n) (λ i. (spread (tally B w n s i).arms - (tally B w n s i).paid) * B) ≡ sum_below (suc n) (λ i. F i * B) =
        sum_same (suc n) (λ i. (spread (tally B w n s i).arms - (tally B w n s i).paid) * B) (λ i. F i * B)
        (λ i l. ap₂ (λ (z : Arms) (p : ℕ). (spread z - p) * B) (tally_is B w n s i).0 (tally_is B w n s i).1) in
        let e2 = sum_less (suc n) (λ i. spread (arms_at at near n s i)) paid_at (λ i l. omega (arith, paid_start i s, more_arms n s i)) in
        let e3 : sum_below (suc n) F ≡ grid_length at near m n s = omega (arith, e2, paid_sum n, grid_length_lem at near n laid s m inside) in
        ap (λ (z : ℕ). sum_below n (λ r. w r (s r)) + z) (e1 ∙ sum-times (suc n) B F ∙ ap (λ (z : ℕ). z * B) e3)
