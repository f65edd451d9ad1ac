-- A whole tree: no more runs are below its first pin than it has, its cost is the least cost of the laws of copper, and the choices weighed are a sum
-- over its pins. From the law of least choices. Assumes that near pins are reached first.
use mathlib.Core.Path.{◌≡◌, refl, ap}
use mathlib.Core.Bool.{Bool, true, false, cond}
use mathlib.Core.List.{List}
use Prim.Native.Nat.{ℕ, zero, suc, ◌+◌, ◌-◌, ◌≤◌, ◌<◌}
use native.Mathlib.Nat.{sub-zero}
use native.Mathlib.Omega.{arith}
use lib.Dec.{eqb}
use Rattle.basics.specs.Tests.{choose}
use Rattle.board.specs.declared.Place.{Place}
use Rattle.tree.specs.Trees.{most_runs}
use Rattle.copper.specs.Least.{best, is_bent, first_tally}
use Rattle.basics.proofs.Sums.{sum_below, sum_same, sum-none}
use Rattle.least.proofs.Choices.{shown, total, best_least, best_reached}
use Rattle.least.proofs.Tallies.{least_of}
use Rattle.least.specs.Asking.{base, near_pin, mark_of, doubled_if, is_bent_into, pin_cost, pin_best, weighed_from, weighed_below, size_from, Askable}

-- As many ones as runs.
sum_ones : (n : ℕ) → sum_below n (λ r. 1) ≡ n
unfolding sum_below
sum_ones zero = refl
sum_ones (suc n) = omega (arith, sum_ones n)

module _ (near : ℕ → ℕ) where
  -- The number of runs below a pin, as a least cost: each run costs 1, and there is no choice.
  size_is : (k i next : ℕ) → size_from near k i next ≡ best ℕ (λ j u. 0) (λ a r u. a) (λ a. 0) near (λ r. false) (λ r u. 1) k i next 0
  unfolding size_from best
  size_is zero i next = refl
  size_is (suc k) i next = rw (size_is k (suc next) (suc next), size_is k i (suc next))

  -- A tree has no more runs below its first pin than it has.
  size_most : (n : ℕ) → ((r : ℕ) → r < n → near r ≤ r) → size_from near n 0 0 ≤ n
  unfolding total
  size_most n grown =
      let l = best_least ℕ (λ j u. 0) (λ a r u. a) (λ a. 0) near (λ r. false) (λ r u. 1) n grown (λ r. false) (λ r k e. refl) in
      omega (arith, size_is n 0 0, l, sum_ones n, sum-none (suc n) (λ i. 0) (λ i k. refl))

-- So the first pin can be asked.
pub askable : (nears : List ℕ) (n : ℕ) → n ≤ most_runs → ((r : ℕ) → r < n → near_pin nears r ≤ r) → Askable nears n 0
askable nears n few near_first =
    let z : size_from (near_pin nears) n 0 0 ≤ most_runs = omega (arith, size_most (near_pin nears) n near_first) in
    record { upto = omega arith; small = rw (sub-zero n) z }

module _ (at : ℕ → Place) (near : ℕ → ℕ) where
  -- What the first pin costs is the least cost, asked pin by pin: base for each unit of length, and the marks of the shapes.
  pub tree_cost : (favoured : Bool) (n : ℕ) → pin_best at near favoured n 0 false ≡ least_of at near base (mark_of favoured) n
  unfolding pin_best pin_cost least_of first_tally
  tree_cost favoured n = rw (sub-zero n)

  -- The choices weighed at pin i of m runs: one, doubled for each bent run that reaches it or leads on from it.
  unfoldable pub weighed_at : ℕ → ℕ → ℕ
  weighed_at zero i = doubled_if (is_bent_into at near i) 1
  weighed_at (suc m) i = cond (eqb (near m) i) (doubled_if (is_bent at near m) (weighed_at m i)) (weighed_at m i)

  -- The choices at a pin before any run leads on ..
  abbrev first_count : ℕ → Bool → ℕ
  first_count i u = doubled_if (is_bent_into at near i) 1

  -- .. and when run r does: twice as many if it is bent.
  abbrev next_count : ℕ → ℕ → Bool → ℕ
  next_count a r u = doubled_if (is_bent at near r) a

  -- The choices weighed, as a least cost: each pin costs its choices, and no shape costs anything.
  weighed_is : (k i next c : ℕ) → weighed_from at near k i next c ≡ best ℕ first_count next_count (λ a. a) near (λ r. false) (λ r u. 0) k i next c
  unfolding weighed_from best is_bent_into
  weighed_is zero i next c = refl
  weighed_is (suc k) i next c =
      rw (weighed_is k (suc next) (suc next) (first_count (suc next) false), weighed_is k i (suc next) (next_count c next false), weighed_is k i (suc next) c)
      (same (eqb (near next) i) _ _ _)
    where
      same : (h : Bool) (x y z : ℕ) → choose h (x + y) z ≡ choose h (0 + x + y) z
      same true x y z = unfold choose in omega arith
      same false x y z = unfold choose in refl

  -- What a pin shows is then its choices.
  shown_is : (m : ℕ) (s : ℕ → Bool) (i : ℕ) → shown ℕ first_count next_count (λ a. a) near (λ r. false) (λ r u. 0) m s i ≡ weighed_at m i
  unfolding shown weighed_at
  shown_is zero s i = refl
  shown_is (suc m) s i = rw (shown_is m s i)

  -- Choices weighed is a sum over pins.
  pub tree_weighed : (n : ℕ) → ((r : ℕ) → r < n → near r ≤ r) → weighed_below at near n 0 ≡ sum_below (suc n) (weighed_at n)
  unfolding weighed_below total
  tree_weighed n grown =
      let z = best_reached ℕ first_count next_count (λ a. a) near (λ r. false) (λ r u. 0) n grown in
      let e : weighed_from at near (n - 0) 0 0 (first_count 0 false) ≡ weighed_from at near n 0 0 (first_count 0 false) =
      ap (λ (k : ℕ). weighed_from at near k 0 0 (first_count 0 false)) (sub-zero n) in
      omega (
        arith,
        e,
        weighed_is n 0 0 (first_count 0 false),
        z.2,
        sum-none n (λ r. 0) (λ r l. refl),
        sum_same (suc n) (λ i. shown ℕ first_count next_count (λ a. a) near (λ r. false) (λ r u. 0) n z.0 i) (weighed_at n) (λ i l. shown_is n z.0 i),
      )
