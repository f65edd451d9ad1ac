-- Sums over the numbers below a bound: what changes one term, sums of sums, of differences and of multiples. Assumes nothing.
use mathlib.Core.Path.{◌≡◌, refl, sym, ap, ap₂, ◌∙◌}
use mathlib.Core.Bool.{Bool, true, false, cond}
use Prim.Native.Nat.{ℕ, zero, suc, ◌+◌, ◌-◌, ◌*◌, ◌≤◌, ◌<◌}
use native.Mathlib.Nat.{zero-mul, add-mul}
use native.Mathlib.Omega.{arith}
use lib.Dec.{eqb}
use borrow.Author.Tests.{eq-eqb, ne_eqb, eqb-true, eqb-false}
pub use Rattle.basics.specs.Sums.{one_if}

-- The sum of f over the numbers below n.
unfoldable pub sum_below : ℕ → (ℕ → ℕ) → ℕ
sum_below zero f = 0
sum_below (suc n) f = f n + sum_below n f

-- Equal terms have equal sums.
pub sum_same : (n : ℕ) (f g : ℕ → ℕ) → ((i : ℕ) → i < n → f i ≡ g i) → sum_below n f ≡ sum_below n g
unfolding sum_below
sum_same zero f g h = refl
sum_same (suc n) f g h = ap₂ ◌+◌ (h n (omega arith)) (sum_same n f g (λ i l. h i (omega arith)))

-- Two sums whose terms differ at one number only.
pub sum_but_one : (n j : ℕ) (f g : ℕ → ℕ) → j < n → ((i : ℕ) → i < n → (i ≡ j → ⊥) → f i ≡ g i)
    → sum_below n f + g j ≡ sum_below n g + f j
unfolding sum_below
sum_but_one zero j f g l h = absurd (omega arith)
sum_but_one (suc n) j f g l h = go (eqb n j) refl (λ k. sum_but_one n j f g k (λ i m ne. h i (omega arith) ne))
  where
    go : (t : Bool) → eqb n j ≡ t → (j < n → sum_below n f + g j ≡ sum_below n g + f j)
        → f n + sum_below n f + g j ≡ g n + sum_below n g + f j
    go true e rest =
        let same : sum_below n f ≡ sum_below n g =
        sum_same n f g (λ i m. h i (omega arith) (λ z. omega (arith, eqb-true n j e))) in
        let fj : f n ≡ f j = ap f (eqb-true n j e) in
        let gj : g n ≡ g j = ap g (eqb-true n j e) in
        omega arith
    go false e rest =
        let ne : n ≡ j → ⊥ = eqb-false n j e in
        let k : j < n = omega (arith, ne) in
        omega (arith, rest k, h n (omega arith) ne)

-- The sum of sums.
pub sum-add : (n : ℕ) (f g : ℕ → ℕ) → sum_below n (λ i. f i + g i) ≡ sum_below n f + sum_below n g
unfolding sum_below
sum-add zero f g = refl
sum-add (suc n) f g = omega (arith, sum-add n f g)

-- Terms that are all 0 sum to 0.
pub sum-none : (n : ℕ) (f : ℕ → ℕ) → ((i : ℕ) → i < n → f i ≡ 0) → sum_below n f ≡ 0
unfolding sum_below
sum-none zero f h = refl
sum-none (suc n) f h = omega (arith, h n (omega arith), sum-none n f (λ i l. h i (omega arith)))

-- A sum with one term that is not 0.
pub sum-only : (n q : ℕ) (f : ℕ → ℕ) → q < n → ((i : ℕ) → i < n → (i ≡ q → ⊥) → f i ≡ 0) → sum_below n f ≡ f q
sum-only n q f l h = omega (arith, sum_but_one n q f (λ i. 0) l (λ i k u. h i k u), sum-none n (λ i. 0) (λ i k. refl))

-- A sum with two terms that are not 0.
pub sum_pair : (n p q : ℕ) (f : ℕ → ℕ) → p < n → q < n → (p ≡ q → ⊥) → ((i : ℕ) → i < n → (i ≡ p → ⊥) → (i ≡ q → ⊥) → f i ≡ 0)
    → sum_below n f ≡ f p + f q
sum_pair n p q f l k ne h =
    let g : ℕ → ℕ = λ i. cond (eqb i q) 0 (f i) in
    let gp : g p ≡ f p = rw (ne_eqb p q ne) in
    let gq : g q ≡ 0 = rw (eq-eqb q q refl) in
    omega (arith, sum_but_one n q f g k (λ i j u. rw (ne_eqb i q u)), sum-only n p g l (λ i j u. go i j u (eqb i q) refl), gp, gq)
  where
    go : (i : ℕ) → i < n → (i ≡ p → ⊥) → (t : Bool) → eqb i q ≡ t → cond t 0 (f i) ≡ 0
    go i j u true e = refl
    go i j u false e = h i j u (eqb-false i q e)

-- The sum of differences.
pub sum_less : (n : ℕ) (f g : ℕ → ℕ) → ((i : ℕ) → i < n → g i ≤ f i) → sum_below n (λ i. f i - g i) + sum_below n g ≡ sum_below n f
unfolding sum_below
sum_less zero f g h = refl
sum_less (suc n) f g h = omega (arith, h n (omega arith), sum_less n f g (λ i l. h i (omega arith)))

-- The sum of multiples.
pub sum-times : (n B : ℕ) (f : ℕ → ℕ) → sum_below n (λ i. f i * B) ≡ sum_below n f * B
unfolding sum_below
sum-times zero B f = sym (zero-mul B)
sum-times (suc n) B f = ap (λ (z : ℕ). f n * B + z) (sum-times n B f) ∙ sym (add-mul (f n) (sum_below n f) B)
