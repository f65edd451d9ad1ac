-- Trees that are told alike cost the same: only the near pins of the runs, and where the ends of the runs stand, matter. Assumes nothing.
use mathlib.Core.Path.{◌≡◌, refl}
use mathlib.Core.Bool.{Bool, false}
use Prim.Native.Nat.{ℕ, zero, suc, ◌+◌, ◌*◌, ◌≤◌, ◌<◌}
use native.Mathlib.Nat.{sub-zero}
use native.Mathlib.Omega.{arith}
use Rattle.board.specs.declared.Place.{Place}
use Rattle.copper.specs.declared.Tally.{Tally}
use Rattle.copper.specs.Arms.{owed}
use Rattle.copper.specs.Least.{is_bent, first_tally, next_tally}
use Rattle.least.proofs.Choices.{best_same}
use Rattle.least.specs.Asking.{base, mark_of, doubled_if, is_bent_into, pin_cost, pin_best, weighed_from, weighed_below, least_of_tree}

-- Two trees of n runs are told alike.
pub record Alike (at bt : ℕ → Place) (near neat : ℕ → ℕ) (n : ℕ) : Type 0 where
  pub nears : (r : ℕ) → r < n → near r ≡ neat r
  pub near_ends : (r : ℕ) → r < n → at (near r) ≡ bt (neat r)
  pub far_ends : (r : ℕ) → r < n → at (suc r) ≡ bt (suc r)

module _ (at bt : ℕ → Place) (near neat : ℕ → ℕ) (n : ℕ) (alike : Alike at bt near neat n) where
  -- Their runs are bent alike ..
  bent_alike : (r : ℕ) → r < n → is_bent at near r ≡ is_bent bt neat r
  unfolding is_bent
  bent_alike r l = rw (alike.near_ends r l, alike.far_ends r l)

  -- .. their pins show the same before a run leads on ..
  first_alike : (r : ℕ) → r < n → (u : Bool) → first_tally at near (suc r) u ≡ first_tally bt neat (suc r) u
  unfolding first_tally
  first_alike r l u = rw (alike.near_ends r l, alike.far_ends r l)

  -- .. and when one does ..
  next_alike : (t : Tally) (r : ℕ) → r < n → (u : Bool) → next_tally at near t r u ≡ next_tally bt neat t r u
  unfolding next_tally
  next_alike t r l u = rw (alike.near_ends r l, alike.far_ends r l)

  -- .. so that each pin costs the same ..
  cost_alike : (favoured : Bool) (k i next : ℕ) (t : Tally) → k + next ≤ n → pin_cost at near favoured k i next t ≡ pin_cost bt neat favoured k i next t
  unfolding pin_cost
  cost_alike favoured =
      best_same Tally (first_tally at near) (first_tally bt neat) (next_tally at near) (next_tally bt neat) (λ t. owed t * base) near neat
      (is_bent at near) (is_bent bt neat) (mark_of favoured) n first_alike next_alike alike.nears bent_alike

  -- .. and as many choices are weighed.
  weighed_alike : (k i next c : ℕ) → k + next ≤ n → weighed_from at near k i next c ≡ weighed_from bt neat k i next c
  unfolding weighed_from
  weighed_alike zero i next c h = refl
  weighed_alike (suc k) i next c h =
      let l : next < n = omega arith in
      rw (
        alike.nears next l,
        bent_alike next l,
        weighed_alike k (suc next) (suc next) (doubled_if (is_bent bt neat next) 1) (omega arith),
        weighed_alike k i (suc next) (doubled_if (is_bent bt neat next) c) (omega arith),
        weighed_alike k i (suc next) c (omega arith),
      )

  -- What is found for them is the same.
  pub found_alike : (favoured : Bool) → least_of_tree at near favoured n ≡ least_of_tree bt neat favoured n
  unfolding least_of_tree pin_best weighed_below first_tally is_bent_into
  found_alike favoured =
      let z : n + 0 ≤ n = omega arith in
      rw (sub-zero n)
      (rw (cost_alike favoured n 0 0 (first_tally bt neat 0 false) z, weighed_alike n 0 0 (doubled_if false 1) z))
