-- One run on: what pins cost, the choices weighed and the number of runs below a pin, as the runs from `next` on are gone through.
-- Assumes nothing.
use mathlib.Core.Path.{◌≡◌, refl, ◌∙◌}
use mathlib.Core.Bool.{Bool, true, false}
use Prim.Native.Nat.{ℕ, zero, suc, ◌+◌, ◌-◌, ◌*◌, ◌≤◌, ◌<◌}
use native.Mathlib.Numerals.{add-one}
use native.Mathlib.Omega.{arith}
use lib.Dec.{eqb}
use borrow.Author.Tests.{eqb-true, eq-eqb, ne_eqb}
use Rattle.basics.specs.Tests.{choose}
use Rattle.board.specs.declared.Place.{Place}
use Rattle.copper.specs.declared.Tally.{Tally}
use Rattle.copper.specs.Arms.{owed}
use Rattle.copper.specs.Least.{lesser_of, best, is_bent, first_tally, next_tally}
use Rattle.least.specs.Asking.{base, mark_of, doubled_if, is_bent_into, pin_cost, pin_best, run_best, choices_from, weighed_from, weighed_below, cost_kept, size_from}

-- With one more run to come.
pub more : (n next : ℕ) → next < n → n - next ≡ suc (n - (next + 1))
more n next l = omega arith

-- With none to come.
pub no_more : (n next : ℕ) → n ≤ next → n - next ≡ 0
no_more n next l = omega arith

-- Twice a sum.
doubled_sum : (t : Bool) (c d : ℕ) → doubled_if t (c + d) ≡ doubled_if t c + doubled_if t d
unfolding doubled_if choose
doubled_sum true c d = omega arith
doubled_sum false c d = refl

-- Twice nothing is nothing.
pub doubled_none : (t : Bool) → doubled_if t 0 ≡ 0
unfolding doubled_if choose
doubled_none true = refl
doubled_none false = refl

module _ (at : ℕ → Place) (near : ℕ → ℕ) where
  -- The choices for two counts are those for each.
  pub choices_sum : (k i next c d : ℕ) → choices_from at near k i next (c + d) ≡ choices_from at near k i next c + choices_from at near k i next d
  unfolding choices_from
  choices_sum zero i next c d = refl
  choices_sum (suc k) i next c d =
      go (eqb (near next) i) (choices_sum k i (suc next) (doubled_if (is_bent at near next) c) (doubled_if (is_bent at near next) d)) (choices_sum k i (suc next) c d)
    where
      t : Bool
      t = is_bent at near next

      go : (h : Bool)
          → choices_from at near k i (suc next) (doubled_if t c + doubled_if t d)
          ≡ choices_from at near k i (suc next) (doubled_if t c) + choices_from at near k i (suc next) (doubled_if t d)
          → choices_from at near k i (suc next) (c + d) ≡ choices_from at near k i (suc next) c + choices_from at near k i (suc next) d
          → choose h (choices_from at near k i (suc next) (doubled_if t (c + d))) (choices_from at near k i (suc next) (c + d))
          ≡ choose h (choices_from at near k i (suc next) (doubled_if t c)) (choices_from at near k i (suc next) c)
          + choose h (choices_from at near k i (suc next) (doubled_if t d)) (choices_from at near k i (suc next) d)
      go true p q = unfold choose in rw (doubled_sum t c d) p
      go false p q = unfold choose in q

  -- The choices weighed at a pin and below it: those at the pin, and those below.
  pub weighed_split : (k i next c : ℕ) → weighed_from at near k i next c ≡ choices_from at near k i next c + weighed_from at near k i next 0
  unfolding weighed_from choices_from
  weighed_split zero i next c = omega arith
  weighed_split (suc k) i next c = go (eqb (near next) i) (weighed_split k i (suc next) (doubled_if (is_bent at near next) c)) (weighed_split k i (suc next) c)
    where
      t : Bool
      t = is_bent at near next

      w : ℕ
      w = weighed_from at near k (suc next) (suc next) (doubled_if t 1)

      go : (h : Bool)
          → weighed_from at near k i (suc next) (doubled_if t c) ≡ choices_from at near k i (suc next) (doubled_if t c) + weighed_from at near k i (suc next) 0
          → weighed_from at near k i (suc next) c ≡ choices_from at near k i (suc next) c + weighed_from at near k i (suc next) 0
          → choose h (w + weighed_from at near k i (suc next) (doubled_if t c)) (weighed_from at near k i (suc next) c)
          ≡ choose h (choices_from at near k i (suc next) (doubled_if t c)) (choices_from at near k i (suc next) c)
          + choose h (w + weighed_from at near k i (suc next) (doubled_if t 0)) (weighed_from at near k i (suc next) 0)
      go true p q = unfold choose in rw (doubled_none t) (omega arith)
      go false p q = unfold choose in q

  -- Of n runs.
  module _ (n i next : ℕ) where
    module _ (l : next < n) (h : near next ≡ i) where
      -- A run that leads on from the pin, where it is bent, doubles the choices there ..
      pub choices_on : (c : ℕ) → choices_from at near (n - next) i next c ≡ choices_from at near (n - (next + 1)) i (next + 1) (doubled_if (is_bent at near next) c)
      unfolding choices_from choose
      choices_on c = rw (more n next l, eq-eqb (near next) i h, add-one next)

      -- .. adds those weighed at its far pin and below ..
      pub weighed_on : weighed_from at near (n - next) i next 0 ≡ weighed_below at near n (next + 1) + weighed_from at near (n - (next + 1)) i (next + 1) 0
      unfolding weighed_from weighed_below is_bent_into choose
      weighed_on = rw (more n next l, eq-eqb (near next) i h, add-one next, doubled_none (is_bent at near next))

      -- .. and counts with the runs below its far pin.
      pub size_on : size_from near (n - next) i next ≡ 1 + size_from near (n - (next + 1)) (next + 1) (next + 1) + size_from near (n - (next + 1)) i (next + 1)
      unfolding size_from choose
      size_on = rw (more n next l, eq-eqb (near next) i h, add-one next)

    module _ (l : next < n) (h : near next ≡ i → ⊥) where
      -- A run of another pin changes neither the choices at this pin ..
      pub choices_past : (c : ℕ) → choices_from at near (n - next) i next c ≡ choices_from at near (n - (next + 1)) i (next + 1) c
      unfolding choices_from choose
      choices_past c = rw (more n next l, ne_eqb (near next) i h, add-one next)

      -- .. nor those below it ..
      pub weighed_past : weighed_from at near (n - next) i next 0 ≡ weighed_from at near (n - (next + 1)) i (next + 1) 0
      unfolding weighed_from choose
      weighed_past = rw (more n next l, ne_eqb (near next) i h, add-one next)

      -- .. nor the number of its runs.
      pub size_past : size_from near (n - next) i next ≡ size_from near (n - (next + 1)) i (next + 1)
      unfolding size_from choose
      size_past = rw (more n next l, ne_eqb (near next) i h, add-one next)

    module _ (l : n ≤ next) where
      -- After the last run the choices are as many as came to the pin ..
      pub choices_end : (c : ℕ) → choices_from at near (n - next) i next c ≡ c
      unfolding choices_from
      choices_end c = rw (no_more n next l)

      -- .. and there are none below it.
      pub weighed_end : weighed_from at near (n - next) i next 0 ≡ 0
      unfolding weighed_from
      weighed_end = rw (no_more n next l)

    module _ (cost : ℕ → Bool → ℕ) (t : Tally) where
      -- With a run that leads on, the pin costs the lesser of what its shapes come to, each with the runs after it.
      pub cost_on : next < n → near next ≡ i
          → cost_kept at near cost (n - next) i next t
          ≡ lesser_of (is_bent at near next)
          (cost next false + cost_kept at near cost (n - (next + 1)) i (next + 1) (next_tally at near t next false))
          (cost next true + cost_kept at near cost (n - (next + 1)) i (next + 1) (next_tally at near t next true))
      unfolding cost_kept choose
      cost_on l h = rw (more n next l, eq-eqb (near next) i h, add-one next)

      -- A run of another pin costs it nothing.
      pub cost_past : next < n → (near next ≡ i → ⊥) → cost_kept at near cost (n - next) i next t ≡ cost_kept at near cost (n - (next + 1)) i (next + 1) t
      unfolding cost_kept choose
      cost_past l h = rw (more n next l, ne_eqb (near next) i h, add-one next)

      -- After the last run it costs what its arms owe.
      pub cost_end : n ≤ next → cost_kept at near cost (n - next) i next t ≡ owed t * base
      unfolding cost_kept
      cost_end l = rw (no_more n next l)

  -- Where what is kept for the runs that lead on from a pin is what they cost at least, the pin costs so much at least.
  module _ (favoured : Bool) (n i : ℕ) (cost : ℕ → Bool → ℕ) where
    pub kept_best : (k next : ℕ) (t : Tally) → n - next ≡ k
        → ((r : ℕ) → next ≤ r → r < n → near r ≡ i → (u : Bool) → cost r u ≡ run_best at near favoured n r u)
        → cost_kept at near cost k i next t ≡ pin_cost at near favoured k i next t
    unfolding cost_kept pin_cost best
    kept_best zero next t e known = refl
    kept_best (suc k) next t e known =
        go (eqb (near next) i) refl
        (kept_best k (suc next) t (omega arith) later)
        (kept_best k (suc next) (next_tally at near t next false) (omega arith) later)
        (kept_best k (suc next) (next_tally at near t next true) (omega arith) later)
      where
        later : (r : ℕ) → suc next ≤ r → r < n → near r ≡ i → (u : Bool) → cost r u ≡ run_best at near favoured n r u
        later r l = known r (omega arith)

        far : (u : Bool) → run_best at near favoured n next u ≡ mark_of favoured next u + pin_cost at near favoured k (suc next) (suc next) (first_tally at near (suc next) u)
        far u =
            unfold run_best pin_best in
            rw (let z : n - (next + 1) ≡ k = omega arith in z, add-one next)

        go : (h : Bool) → eqb (near next) i ≡ h
            → cost_kept at near cost k i (suc next) t ≡ pin_cost at near favoured k i (suc next) t
            → cost_kept at near cost k i (suc next) (next_tally at near t next false) ≡ pin_cost at near favoured k i (suc next) (next_tally at near t next false)
            → cost_kept at near cost k i (suc next) (next_tally at near t next true) ≡ pin_cost at near favoured k i (suc next) (next_tally at near t next true)
            → choose h
            (lesser_of (is_bent at near next)
            (cost next false + cost_kept at near cost k i (suc next) (next_tally at near t next false))
            (cost next true + cost_kept at near cost k i (suc next) (next_tally at near t next true)))
            (cost_kept at near cost k i (suc next) t)
            ≡ choose h
            (lesser_of (is_bent at near next)
            (mark_of favoured next false + pin_cost at near favoured k (suc next) (suc next) (first_tally at near (suc next) false)
            + pin_cost at near favoured k i (suc next) (next_tally at near t next false))
            (mark_of favoured next true + pin_cost at near favoured k (suc next) (suc next) (first_tally at near (suc next) true)
            + pin_cost at near favoured k i (suc next) (next_tally at near t next true)))
            (pin_cost at near favoured k i (suc next) t)
        go true q past low up =
            let lead : near next ≡ i = eqb-true (near next) i q in
            let l : next < n = omega arith in
            let cost-of : (u : Bool) → cost next u ≡ mark_of favoured next u + pin_cost at near favoured k (suc next) (suc next) (first_tally at near (suc next) u) =
            λ u. known next (omega arith) l lead u ∙ far u in
            rw (cost-of false, cost-of true, low, up, past)
        go false q past low up = unfold choose in past
