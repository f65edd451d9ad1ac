-- Costs and counts of choices fit their numbers: a cost is little for each run below a pin, and there are at most 31 of these.
-- Assumes that the places are on the board.
use mathlib.Core.Path.{◌≡◌, sym, ap, ◌∙◌}
use mathlib.Core.Bool.{Bool, true, false}
use Prim.Native.Nat.{ℕ, zero, suc, ◌+◌, ◌-◌, ◌*◌, ◌^◌, ◌≤◌}
use native.Mathlib.Nat.{pow-suc, suc-mul, mul_assoc}
use native.Mathlib.Omega.{arith}
use lib.Dec.{eqb}
use lib.Pow.{pow_mono}
use Rattle.basics.specs.Tests.{choose}
use Rattle.board.specs.declared.Place.{Place}
use Rattle.board.specs.Place.{limit, inside}
use Rattle.tree.specs.Trees.{most_runs}
use Rattle.copper.specs.declared.Tally.{Tally}
use Rattle.copper.specs.Least.{lesser_of, best, is_bent, first_tally, next_tally}
use Rattle.least.specs.declared.Least.{Least}
use Rattle.least.specs.Asking.{base, mark_at, mark_of, doubled_if, pin_cost, choices_from, weighed_from, cost_kept, least_kept, size_from, Modest, most_kept}
use Rattle.least.proofs.Reading.{mark_small}
use Rattle.least.proofs.Modesty.{modest_first, modest_next, modest_owed}
use Rattle.least.proofs.Stepping.{doubled_none, choices_sum, weighed_split}

-- The most that a pin owes, as a cost.
abbrev pub most : ℕ
most = 8 * limit * base

-- The same with the largest mark, that of the first run.
abbrev pub each : ℕ
each = most + mark_at 0

-- The lesser of two shapes is no more than the lower.
pub lesser_low : (t : Bool) (x y : ℕ) → lesser_of t x y ≤ x
lesser_low true x y = omega arith
lesser_low false x y = omega arith

module _ (at : ℕ → Place) (near : ℕ → ℕ) (favoured : Bool) (on_board : (i : ℕ) → inside (at i) ≡ true) where
  -- A pin costs at most so much for each run below it, and what it owes itself.
  pub cost_most : (k i next : ℕ) (t : Tally) → Modest t → pin_cost at near favoured k i next t ≤ size_from near k i next * each + most
  unfolding pin_cost best size_from
  cost_most zero i next t m = omega (arith, modest_owed m)
  cost_most (suc k) i next t m =
      go (eqb (near next) i) (size_from near k (suc next) (suc next)) (size_from near k i (suc next))
      (cost_most k (suc next) (suc next) (first_tally at near (suc next) false) (modest_first at near on_board (suc next) false))
      (cost_most k i (suc next) (next_tally at near t next false) (modest_next at near on_board t next false m))
      (cost_most k i (suc next) t m)
    where
      b : Bool
      b = is_bent at near next

      u : ℕ
      u =
          mark_of favoured next true + pin_cost at near favoured k (suc next) (suc next) (first_tally at near (suc next) true)
          + pin_cost at near favoured k i (suc next) (next_tally at near t next true)

      go : (h : Bool) (p q : ℕ) {x y z : ℕ} → x ≤ p * each + most → y ≤ q * each + most → z ≤ q * each + most
          → choose h (lesser_of b (mark_of favoured next false + x + y) u) z ≤ choose h (1 + p + q) q * each + most
      go true p q {x = x} {y = y} e f g =
          unfold choose in omega (arith, mark_small favoured false next, lesser_low b (mark_of favoured next false + x + y) u)
      go false p q e f g = unfold choose in g

-- Where no more than so much is kept for a run, a pin costs at most so much for each run to come, and what it owes itself.
module _ (at : ℕ → Place) (near : ℕ → ℕ) (on_board : (i : ℕ) → inside (at i) ≡ true) (cost : ℕ → Bool → ℕ) (fits : (r : ℕ) (u : Bool) → cost r u ≤ most_kept) where
  pub kept_most : (k i next : ℕ) (t : Tally) → Modest t → cost_kept at near cost k i next t ≤ k * most_kept + most
  unfolding cost_kept
  kept_most zero i next t m = omega (arith, modest_owed m)
  kept_most (suc k) i next t m =
      go (eqb (near next) i)
      (kept_most k i (suc next) (next_tally at near t next false) (modest_next at near on_board t next false m))
      (kept_most k i (suc next) t m)
    where
      b : Bool
      b = is_bent at near next

      u : ℕ
      u = cost next true + cost_kept at near cost k i (suc next) (next_tally at near t next true)

      go : (h : Bool) {x y : ℕ} → x ≤ k * most_kept + most → y ≤ k * most_kept + most → choose h (lesser_of b (cost next false + x) u) y ≤ suc k * most_kept + most
      go true {x = x} e f = unfold choose in omega (arith, fits next false, lesser_low b (cost next false + x) u)
      go false e f = unfold choose in omega arith

module _ (at : ℕ → Place) (near : ℕ → ℕ) where
  -- A bent run at most doubles the choices.
  pub doubled_choices : (t : Bool) (k i next : ℕ) → choices_from at near k i next (doubled_if t 1) ≤ choices_from at near k i next 1 + choices_from at near k i next 1
  unfolding doubled_if choose
  doubled_choices true k i next = omega (arith, choices_sum at near k i next 1 1)
  doubled_choices false k i next = omega arith

  -- Each run to come at most doubles the choices at a pin.
  pub choices_most : (k i next : ℕ) → choices_from at near k i next 1 ≤ 2 ^ k
  unfolding choices_from
  choices_most zero i next = omega arith
  choices_most (suc k) i next = go (eqb (near next) i) (choices_most k i (suc next)) (doubled_choices (is_bent at near next) k i (suc next))
    where
      go : (h : Bool) {x y : ℕ} → x ≤ 2 ^ k → y ≤ x + x → choose h y x ≤ 2 ^ suc k
      go true p q = unfold choose in omega (arith, pow-suc 2 k)
      go false p q = unfold choose in omega (arith, pow-suc 2 k)

  -- At most as many choices as there are masks were weighed for what is found.
  pub found_few : (cost : ℕ → Bool → ℕ) (n i next : ℕ) (f : Least) (t : Tally) → n ≤ most_runs → f ≡ least_kept at near cost n i next t → f.weighed ≤ base
  unfolding least_kept
  found_few cost n i next f t few e =
      let c : f.weighed ≡ choices_from at near (n - next) i next 1 = ap (λ (z : Least). z.weighed) e in
      let p : 2 ^ (n - next) ≤ 2 ^ most_runs = pow_mono (let k : n - next ≤ most_runs = omega arith in k) in
      omega (arith, c, choices_most (n - next) i next, p)

  -- How the bound of the choices below a pin grows with one run more.
  below_next : (k : ℕ) → suc k * 2 ^ suc k ≡ k * 2 ^ k + k * 2 ^ k + (2 ^ k + 2 ^ k)
  below_next k =
      let a : suc k * 2 ^ suc k ≡ k * 2 ^ suc k + 2 ^ suc k = suc-mul k (2 ^ suc k) in
      let b : k * 2 ^ suc k ≡ k * 2 ^ k * 2 = ap (λ (z : ℕ). k * z) (pow-suc 2 k) ∙ sym (mul_assoc k (2 ^ k) 2) in
      omega (arith, a, b, pow-suc 2 k)

  -- The choices weighed below a pin are at most those of each run to come.
  pub below_most : (k i next : ℕ) → weighed_from at near k i next 0 ≤ k * 2 ^ k
  unfolding weighed_from
  below_most zero i next = omega arith
  below_most (suc k) i next =
      let t : Bool = is_bent at near next in
      go (eqb (near next) i) (below_most k (suc next) (suc next)) (below_most k i (suc next)) (choices_most k (suc next) (suc next))
      (doubled_choices t k (suc next) (suc next)) (weighed_split at near k (suc next) (suc next) (doubled_if t 1))
      (ap (weighed_from at near k i (suc next)) (doubled_none t))
    where
      go : (h : Bool) {x y z v w u : ℕ} → x ≤ k * 2 ^ k → y ≤ k * 2 ^ k → z ≤ 2 ^ k → v ≤ z + z → w ≡ v + x → u ≡ y
          → choose h (w + u) y ≤ suc k * 2 ^ suc k
      go true p q r s e f = unfold choose in omega (arith, below_next k)
      go false p q r s e f = unfold choose in omega (arith, below_next k)
