-- The words of the definitions as the small functions work them out. Assumes nothing.
use mathlib.Core.Path.{◌≡◌, refl, ap, ◌∙◌}
use mathlib.Core.Bool.{Bool, true, false, beq}
use Prim.Native.Nat.{ℕ, zero, suc, ◌-◌, ◌*◌, ◌%◌, ◌^◌, ◌≤◌}
use native.Mathlib.Nat.{mod-eq_of_lt, one-mul}
use native.Mathlib.Omega.{arith}
use lib.Pow.{pow_mono}
use Rattle.basics.specs.Tests.{choose}
use Rattle.board.specs.declared.Place.{Place}
use Rattle.copper.specs.Arms.{no_tally, reached_by}
use Rattle.copper.specs.Least.{is_bent, first_tally}
use Rattle.least.specs.declared.Ends.{Ends}
use Rattle.least.specs.Asking.{differs, mark_at, mark_of, ends_of, is_bent_into}

-- One mark of the mask, as a shifted 1, and its bound.
pub bit : (r : ℕ) → ((1 * mark_at r) % 18446744073709551616 ≡ mark_at r) × (mark_at r ≤ 1073741824)
bit r =
    let low : 30 - r ≤ 30 = omega arith in
    let top : mark_at r ≤ 2 ^ 30 = pow_mono low in
    (mod-eq_of_lt (omega arith) ∙ one-mul (mark_at r), top)

-- The favoured shape has no mark ..
pub mark_none : (favoured upper : Bool) (r : ℕ) → beq upper favoured ≡ true → 0 ≡ mark_of favoured r upper
unfolding mark_of choose
mark_none true true r e = refl
mark_none false false r e = refl
mark_none true false r e = absurd (let z : ◌≡◌ {A = ℕ} 0 1 = cc in omega arith)
mark_none false true r e = absurd (let z : ◌≡◌ {A = ℕ} 0 1 = cc in omega arith)

-- .. the other one has the run's ..
pub mark_one : (favoured upper : Bool) (r : ℕ) → beq upper favoured ≡ false → (1 * mark_at r) % 18446744073709551616 ≡ mark_of favoured r upper
unfolding mark_of choose
mark_one true true r e = absurd (let z : ◌≡◌ {A = ℕ} 0 1 = cc in omega arith)
mark_one false false r e = absurd (let z : ◌≡◌ {A = ℕ} 0 1 = cc in omega arith)
mark_one true false r e = (bit r).0
mark_one false true r e = (bit r).0

-- .. and either is at most the mark of the first run.
pub mark_small : (favoured upper : Bool) (r : ℕ) → mark_of favoured r upper ≤ 1073741824
unfolding mark_of
mark_small favoured upper r = go (differs upper favoured)
  where
    go : (t : Bool) → choose t (mark_at r) 0 ≤ 1073741824
    go true = unfold choose in (bit r).1
    go false = unfold choose in omega arith

module _ (at : ℕ → Place) (near : ℕ → ℕ) where
  -- No run reached the first pin, so that none into it is bent ..
  pub into_first : (i : ℕ) → i ≡ 0 → false ≡ is_bent_into at near i
  unfolding is_bent_into
  into_first zero e = refl
  into_first (suc r) e = absurd (omega arith)

  -- .. and any other pin was reached by the run before it in number.
  pub into_later : (i : ℕ) → (i ≡ 0 → ⊥) → is_bent at near (i - 1) ≡ is_bent_into at near i
  unfolding is_bent_into
  into_later zero n = absurd (n refl)
  into_later (suc r) n = ap (is_bent at near) (let z : suc r - 1 ≡ r = omega arith in z)

  -- The first pin shows nothing before a run leads on ..
  pub tally_first : (i : ℕ) (u : Bool) → i ≡ 0 → no_tally ≡ first_tally at near i u
  unfolding first_tally
  tally_first zero u e = refl
  tally_first (suc r) u e = absurd (omega arith)

  -- .. and any other shows the run that reached it.
  pub tally_later : (i : ℕ) (u : Bool) {e : Ends} → (i ≡ 0 → ⊥) → e ≡ ends_of at near (i - 1) → reached_by u e.near e.far ≡ first_tally at near i u
  unfolding first_tally
  tally_later zero u n p = absurd (n refl)
  tally_later (suc r) u n p = rw (p, (let z : suc r - 1 ≡ r = omega arith in z))
