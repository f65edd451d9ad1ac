-- How many different steps there are among steps of a grid is the sum over the grid of 1 for each step that is among them.
-- Assumes that the steps, moved by 2 ^ 31, are on the grid.
use mathlib.Core.Path.{◌≡◌, refl, sym, ap, ap₂, ◌∙◌}
use mathlib.Core.Bool.{Bool, true, false}
use mathlib.Core.List.{List, [], ◌∷◌, ◌++◌}
use Prim.Native.Nat.{ℕ, suc, ◌+◌, ◌<◌}
use native.Mathlib.Omega.{arith}
use lib.Dec.{eqb}
use borrow.Author.Tests.{eq-eqb, ne_eqb, eqb-true}
use Rattle.basics.specs.Tests.{both, either, choose, any_of}
use Rattle.basics.proofs.Tests.{opposite, both_left, both_right}
use Rattle.board.proofs.Signed.{off}
use Rattle.basics.specs.Sums.{different}
use Rattle.copper.specs.Length.{Step, across, up, same_step, among}
use Rattle.copper.proofs.Numbers.{Low, back, back_off, same_back}
use Rattle.basics.proofs.Sums.{one_if, sum_below, sum_same, sum-none, sum-only}
use Rattle.copper.proofs.Cover.{Stride, along, rise, over}
use Rattle.copper.proofs.Cover.{over-same, over_add, over_none}

-- A step, moved,
unfoldable pub stride_of : Step → Stride
stride_of (across x y) = along (off x) (off y)
stride_of (up x y) = rise (off x) (off y)

-- and a stride, moved back.
unfoldable pub step_at : Stride → Step
step_at (along x y) = across (back x) (back y)
step_at (rise x y) = up (back x) (back y)

-- No number of the step is below -2 ^ 31.
abbrev pub LowStep : Step → Type 0
LowStep (across x y) = Low x × Low y
LowStep (up x y) = Low x × Low y

-- The stride is on the grid up to (m, m).
abbrev pub OnGrid : ℕ → Stride → Type 0
OnGrid m (along x y) = (x < m) × (y < m)
OnGrid m (rise x y) = (x < m) × (y < m)

-- A step moved and moved back is the step.
pub round_step : (t : Step) → LowStep t → step_at (stride_of t) ≡ t
unfolding stride_of step_at
round_step (across x y) h = ap₂ across (back_off x h.0) (back_off y h.1)
round_step (up x y) h = ap₂ up (back_off x h.0) (back_off y h.1)

-- Two strides are the same.
unfoldable same_stride : Stride → Stride → Bool
same_stride (along x y) (along v w) = both (eqb x v) (eqb y w)
same_stride (along x y) (rise v w) = false
same_stride (rise x y) (along v w) = false
same_stride (rise x y) (rise v w) = both (eqb x v) (eqb y w)

-- Strides that the test calls the same are one.
same_stride_lem : (σ τ : Stride) → same_stride σ τ ≡ true → σ ≡ τ
unfolding same_stride
same_stride_lem (along x y) (along v w) e =
    ap₂ along (eqb-true x v (both_left (eqb x v) (eqb y w) e)) (eqb-true y w (both_right (eqb x v) (eqb y w) e))
same_stride_lem (along x y) (rise v w) e = absurd (opposite e refl)
same_stride_lem (rise x y) (along v w) e = absurd (opposite e refl)
same_stride_lem (rise x y) (rise v w) e =
    ap₂ rise (eqb-true x v (both_left (eqb x v) (eqb y w) e)) (eqb-true y w (both_right (eqb x v) (eqb y w) e))

-- Two steps are the same where their strides are.
same_step_lem : (σ : Stride) (t : Step) → LowStep t → same_step (step_at σ) t ≡ same_stride σ (stride_of t)
unfolding same_step step_at same_stride stride_of
same_step_lem (along x y) (across v w) h = ap₂ both (same_back x v h.0) (same_back y w h.1)
same_step_lem (along x y) (up v w) h = refl
same_step_lem (rise x y) (across v w) h = refl
same_step_lem (rise x y) (up v w) h = ap₂ both (same_back x v h.0) (same_back y w h.1)

-- One site of the grid.
one_site : (m v w : ℕ) → v < m → w < m → sum_below m (λ x. sum_below m (λ y. one_if (both (eqb x v) (eqb y w)))) ≡ 1
unfolding both
one_site m v w p q =
    sum-only m v (λ x. sum_below m (λ y. one_if (both (eqb x v) (eqb y w)))) p
    (λ i l ne. sum-none m (λ y. one_if (both (eqb i v) (eqb y w))) (λ y k. rw (ne_eqb i v ne)))
    ∙ rw (eq-eqb v v refl)
    (sum-only m w (λ y. one_if (eqb y w)) q (λ i l ne. rw (ne_eqb i w ne)) ∙ rw (eq-eqb w w refl))

-- A sum over the grid of what is 1 there and 0 elsewhere.
plain : (m v w : ℕ) (f : ℕ → ℕ → ℕ) → ((x y : ℕ) → f x y ≡ one_if (both (eqb x v) (eqb y w))) → v < m → w < m
    → sum_below m (λ x. sum_below m (λ y. f x y)) ≡ 1
plain m v w f h p q =
    sum_same m (λ x. sum_below m (λ y. f x y)) (λ x. sum_below m (λ y. one_if (both (eqb x v) (eqb y w))))
    (λ x l. sum_same m (λ y. f x y) (λ y. one_if (both (eqb x v) (eqb y w))) (λ y k. h x y))
    ∙ one_site m v w p q

-- A stride of the grid counts once.
one_stride : (m : ℕ) (τ : Stride) → OnGrid m τ → over m (λ σ. one_if (same_stride σ τ)) ≡ 1
unfolding over same_stride
one_stride m (along v w) h = plain m v w (λ x y. one_if (both (eqb x v) (eqb y w)) + 0) (λ x y. omega arith) h.0 h.1
one_stride m (rise v w) h = plain m v w (λ x y. 0 + one_if (both (eqb x v) (eqb y w))) (λ x y. omega arith) h.0 h.1

-- Steps that are on the grid up to (m, m) when they are moved.
pub data Each (m : ℕ) : List Step → Type 0 where
  none : Each m []
  more : {t : Step} {ts : List Step} → LowStep t → OnGrid m (stride_of t) → Each m ts → Each m (t ∷ ts)

-- Two lists of such steps, joined, are such steps.
pub each_join : {m : ℕ} {ss ts : List Step} → Each m ss → Each m ts → Each m (ss ++ ts)
each_join none k = k
each_join (more p q h) k = more p q (each_join h k)

-- One step more: it counts where it is not among the others.
module _ (m : ℕ) (f : Stride → Bool) (τ : Stride) where
  -- One that is among them changes nothing,
  again : f τ ≡ true → over m (λ σ. one_if (either (same_stride σ τ) (f σ))) ≡ over m (λ σ. one_if (f σ))
  unfolding either
  again e = over-same m (λ σ. one_if (either (same_stride σ τ) (f σ))) (λ σ. one_if (f σ)) (λ σ. ap one_if (go σ (same_stride σ τ) refl))
    where
      go : (σ : Stride) (t : Bool) → same_stride σ τ ≡ t → either t (f σ) ≡ f σ
      go σ true q = sym (ap f (same_stride_lem σ τ q) ∙ e)
      go σ false q = refl

  -- and one that is not adds 1.
  anew : f τ ≡ false → OnGrid m τ → over m (λ σ. one_if (either (same_stride σ τ) (f σ))) ≡ suc (over m (λ σ. one_if (f σ)))
  unfolding either
  anew e h =
      over-same m (λ σ. one_if (either (same_stride σ τ) (f σ))) (λ σ. one_if (same_stride σ τ) + one_if (f σ)) (λ σ. go σ (same_stride σ τ) refl)
      ∙ over_add m (λ σ. one_if (same_stride σ τ)) (λ σ. one_if (f σ))
      ∙ (let z = one_stride m τ h in omega (arith, z))
    where
      go : (σ : Stride) (t : Bool) → same_stride σ τ ≡ t → one_if (either t (f σ)) ≡ one_if t + one_if (f σ)
      go σ true q = rw (ap f (same_stride_lem σ τ q) ∙ e)
      go σ false q = omega arith

-- The count of different steps is the sum over the grid.
pub counted : {m : ℕ} {ts : List Step} → Each m ts → different same_step ts ≡ over m (λ σ. one_if (among (step_at σ) ts))
unfolding different any_of choose
counted {m} none = sym (over_none m)
counted {m} (more {t = t} {ts = ts} p q h) = go (among t ts) refl (counted h)
  where
    f : Stride → Bool
    f σ = among (step_at σ) ts

    there : f (stride_of t) ≡ among t ts
    there = ap (λ (z : Step). among z ts) (round_step t p)

    one_more : over m (λ σ. one_if (among (step_at σ) (t ∷ ts))) ≡ over m (λ σ. one_if (either (same_stride σ (stride_of t)) (f σ)))
    one_more =
        over-same m (λ σ. one_if (among (step_at σ) (t ∷ ts))) (λ σ. one_if (either (same_stride σ (stride_of t)) (f σ)))
        (λ σ. ap one_if (ap (λ (z : Bool). either z (f σ)) (same_step_lem σ t p)))

    go : (b : Bool) → among t ts ≡ b → different same_step ts ≡ over m (λ σ. one_if (f σ))
        → choose b (different same_step ts) (suc (different same_step ts)) ≡ over m (λ σ. one_if (among (step_at σ) (t ∷ ts)))
    go true e ih = ih ∙ sym (again m f (stride_of t) (there ∙ e)) ∙ sym one_more
    go false e ih = ap suc ih ∙ sym (anew m f (stride_of t) (there ∙ e) q) ∙ sym one_more
