-- Pins by when they are reached: each run goes from a pin that is reached before to the next, and no pin is reached twice.
-- Assumes that the runs are rooted at the lowest pin, as those of a feed are.
use mathlib.Core.Path.{◌≡◌, refl, sym, ◌∙◌}
use mathlib.Core.List.{List, [], ◌∷◌}
use mathlib.Core.Logic.{◌⊎◌, inl, inr, ⊎_elim}
use Prim.Native.Nat.{ℕ, zero, suc, ◌+◌, ◌≤◌, ◌<◌}
use native.Mathlib.Omega.{arith}
use lib.ListN.{length}
use borrow.Author.Tests.{eq-eqb, ne_eqb}
use Rattle.basics.specs.Tests.{choose}
use Rattle.board.proofs.Flat.{order}
use Rattle.tree.specs.declared.Run.{Run}
use Rattle.tree.specs.Reached.{run_at, reached_pin, reached_from, reached_near}
use Rattle.tree.proofs.Membership.{Among, first, later}
use Rattle.tree.proofs.Listing.{Rooted}

-- The search for the run that reaches a pin.
search_hit : (i : ℕ) (runs : List Run) (pin q : ℕ) → q < length runs → (run_at runs q).far ≡ pin → ((p : ℕ) → p < q → (run_at runs p).far ≡ pin → ⊥)
    → reached_from i runs pin ≡ suc (i + q)
unfolding reached_from choose
search_hit i [] pin q l e h = absurd (omega arith)
search_hit i (r ∷ runs) pin zero l e h = rw (eq-eqb r.far pin e) (let z : suc i ≡ suc (i + 0) = omega arith in z)
search_hit i (r ∷ runs) pin (suc q) l e h =
    rw (ne_eqb r.far pin (h 0 (omega arith)))
    (search_hit (suc i) runs pin q (omega arith) e (λ p k. h (suc p) (omega arith)) ∙ (let z : suc (suc i + q) ≡ suc (i + suc q) = omega arith in z))

-- It finds none where no run does.
search_miss : (i : ℕ) (runs : List Run) (pin : ℕ) → ((p : ℕ) → p < length runs → (run_at runs p).far ≡ pin → ⊥) → reached_from i runs pin ≡ 0
unfolding reached_from choose
search_miss i [] pin h = refl
search_miss i (r ∷ runs) pin h = rw (ne_eqb r.far pin (h 0 (omega arith))) (search_miss (suc i) runs pin (λ p k. h (suc p) (omega arith)))

module _ (f : ℕ) (left : List ℕ) (runs : List Run) (root : Rooted f left runs) where
  abbrev n : ℕ
  n = length runs

  -- The near pin of the first run is the first pin.
  first_near : 0 < n → (run_at runs 0).near ≡ f
  first_near l = ⊎_elim (λ e. e) (λ z. absurd (omega (arith, z.1))) (root.near_reached 0 l)

  -- The near pin of run r is reached before the run, as number `reached_near`.
  near_cases : (r : ℕ) → r < n → (reached_near runs r ≤ r) × (reached_pin runs (reached_near runs r) ≡ (run_at runs r).near)
  unfolding reached_near reached_pin
  near_cases r l = ⊎_elim at_first at_later (root.near_reached r l)
    where
      at_first : (run_at runs r).near ≡ f → (reached_from 0 runs (run_at runs r).near ≤ r) × (reached_pin runs (reached_from 0 runs (run_at runs r).near) ≡ (run_at runs r).near)
      at_first e =
          let z : reached_from 0 runs (run_at runs r).near ≡ 0 = search_miss 0 runs (run_at runs r).near (λ p k q. root.far_new p k (q ∙ e)) in
          rw z (omega arith, unfold reached_pin in (first_near (omega arith) ∙ sym e))

      at_later : (q : ℕ) × (q < r) × ((run_at runs r).near ≡ (run_at runs q).far)
          → (reached_from 0 runs (run_at runs r).near ≤ r) × (reached_pin runs (reached_from 0 runs (run_at runs r).near) ≡ (run_at runs r).near)
      at_later w =
          let q : ℕ = w.0 in
          let z : reached_from 0 runs (run_at runs r).near ≡ suc (0 + q) =
          search_hit 0 runs (run_at runs r).near q (omega (arith, w.1)) (sym w.2) (λ p k x. root.far_once p q k (omega (arith, w.1)) (x ∙ w.2)) in
          let y : suc (0 + q) ≡ suc q = omega arith in
          rw (z ∙ y) (omega (arith, w.1), unfold reached_pin in sym w.2)

  -- Near pins are reached first ..
  pub near_before : (r : ℕ) → r < n → reached_near runs r ≤ r
  near_before r l = (near_cases r l).0

  -- .. and are those of the runs.
  pub near_pin_lem : (r : ℕ) → r < n → reached_pin runs (reached_near runs r) ≡ (run_at runs r).near
  near_pin_lem r l = (near_cases r l).1

  -- Run r reaches its far pin as number r + 1.
  pub far_pin : (r : ℕ) → reached_pin runs (suc r) ≡ (run_at runs r).far
  unfolding reached_pin
  far_pin r = refl

  -- The first pin is reached first.
  pub first_pin_lem : 0 < n → reached_pin runs 0 ≡ f
  unfolding reached_pin
  first_pin_lem l = first_near l

  -- Every pin reached is there.
  pub pin_there : (i : ℕ) → 0 < n → i < suc n → Among (reached_pin runs i) (f ∷ left)
  pin_there zero l k = first (first_pin_lem l)
  pin_there (suc r) l k = unfold reached_pin in later (root.far_there r (omega arith))

  -- No pin is reached twice.
  once_by : (i j : ℕ) → i < j → j < suc n → reached_pin runs i ≡ reached_pin runs j → ⊥
  once_by i zero l k e = omega arith
  once_by zero (suc r) l k e = root.far_new r (omega arith) (unfold reached_pin in (sym (far_pin r) ∙ sym e ∙ first_pin_lem (omega arith)))
  once_by (suc q) (suc r) l k e = root.far_once q r (omega arith) (omega arith) (sym (far_pin q) ∙ e ∙ far_pin r)

  -- So a pin tells the number as which it is reached.
  pub reached_once : (i j : ℕ) → i < suc n → j < suc n → reached_pin runs i ≡ reached_pin runs j → i ≡ j
  reached_once i j l k e = go (order j i) (order i j)
    where
      go : (j ≤ i) ⊎ (i < j) → (i ≤ j) ⊎ (j < i) → i ≡ j
      go (inr o) p = absurd (once_by i j o k e)
      go (inl o) (inr p) = absurd (once_by j i p l (sym e))
      go (inl o) (inl p) = omega arith
