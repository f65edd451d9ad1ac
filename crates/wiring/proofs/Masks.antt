-- A mask of shapes: as a sum over the runs, and as the number from which each run's shape is read again. Assumes at most 31 runs.
use mathlib.Core.Path.{◌≡◌, refl, sym, ap, ap₂, ◌∙◌}
use mathlib.Core.Bool.{Bool, true, false}
use mathlib.Core.List.{List, [], ◌∷◌}
use Prim.Native.Nat.{ℕ, zero, suc, ◌+◌, ◌-◌, ◌*◌, ◌/◌, ◌%◌, ◌^◌, ◌≤◌, ◌<◌}
use native.Mathlib.Nat.{pow-suc, add-mul-div_right, add-mul-mod_self_right, div-eq_of_lt, mul_assoc}
use native.Mathlib.Omega.{arith}
use lib.Dec.{eqb}
use lib.ListN.{length}
use lib.Pow.{pow_pos, pow-add}
use Rattle.basics.specs.Tests.{choose}
use Rattle.tree.specs.Trees.{most_runs}
use Rattle.copper.specs.declared.Shape.{Shape}
use Rattle.copper.specs.declared.Shape.TheVariants.{Straight, Lower, Upper}
use Rattle.basics.proofs.Sums.{one_if, sum_below, sum_same}
use Rattle.least.specs.Asking.{differs, mark_at, mark_of}
use Rattle.laying.specs.Reaching.{upper_in}

-- A shape bends upwards.
abbrev pub is_upper : Shape → Bool
is_upper Straight = false
is_upper Lower = false
is_upper Upper = true

-- Whether run r of a choice bends upwards.
abbrev pub bends : List Shape → ℕ → Bool
bends [] r = false
bends (s ∷ c) zero = is_upper s
bends (s ∷ c) (suc r) = bends c r

-- The mask of a choice, whose first run has number j.
unfoldable pub mask_from : Bool → ℕ → List Shape → ℕ
mask_from favoured j [] = 0
mask_from favoured j (s ∷ c) = mark_of favoured j (is_upper s) + mask_from favoured (suc j) c

-- The mask of k runs, of which the first has number j.
unfoldable pub mask_by : Bool → ℕ → ℕ → (ℕ → Bool) → ℕ
mask_by favoured j zero upper = 0
mask_by favoured j (suc k) upper = mark_of favoured j (upper 0) + mask_by favoured (suc j) k (λ q. upper (suc q))

-- A sum from its front.
pub sum_front : (n : ℕ) (f : ℕ → ℕ) → sum_below (suc n) f ≡ f 0 + sum_below n (λ r. f (suc r))
unfolding sum_below
sum_front zero f = refl
sum_front (suc n) f = omega (arith, sum_front n f)

-- The marks from run j on together are the mask from it on.
mask_sum_by : (favoured : Bool) (j n : ℕ) (upper : ℕ → Bool) → sum_below n (λ r. mark_of favoured (j + r) (upper r)) ≡ mask_by favoured j n upper
unfolding mask_by
mask_sum_by favoured j zero upper = unfold sum_below in refl
mask_sum_by favoured j (suc n) upper =
    let z : j + 0 ≡ j = omega arith in
    sum_front n (λ r. mark_of favoured (j + r) (upper r))
    ∙ ap₂ ◌+◌ (ap (λ (i : ℕ). mark_of favoured i (upper 0)) z)
    (sum_same n (λ r. mark_of favoured (j + suc r) (upper (suc r))) (λ r. mark_of favoured (suc j + r) (upper (suc r)))
    (λ r l. ap (λ (i : ℕ). mark_of favoured i (upper (suc r))) (let y : j + suc r ≡ suc j + r = omega arith in y))
    ∙ mask_sum_by favoured (suc j) n (λ q. upper (suc q)))

-- The marks of the runs together are the mask.
pub mask_sum : (favoured : Bool) (n : ℕ) (upper : ℕ → Bool) → sum_below n (λ r. mark_of favoured r (upper r)) ≡ mask_by favoured 0 n upper
mask_sum favoured n upper =
    sum_same n (λ r. mark_of favoured r (upper r)) (λ r. mark_of favoured (0 + r) (upper r))
    (λ r l. ap (λ (i : ℕ). mark_of favoured i (upper r)) (let z : r ≡ 0 + r = omega arith in z))
    ∙ mask_sum_by favoured 0 n upper

-- The mask of a choice is that of how its runs bend.
pub mask_choice : (favoured : Bool) (j : ℕ) (c : List Shape) → mask_from favoured j c ≡ mask_by favoured j (length c) (bends c)
unfolding mask_from mask_by
mask_choice favoured j [] = refl
mask_choice favoured j (s ∷ c) = ap (λ (z : ℕ). mark_of favoured j (is_upper s) + z) (mask_choice favoured (suc j) c)

-- The mark of a run is there or not.
mark_is : (favoured upper : Bool) (j : ℕ) → mark_of favoured j upper ≡ one_if (differs upper favoured) * mark_at j
unfolding mark_of
mark_is favoured upper j = go (differs upper favoured)
  where
    go : (t : Bool) → choose t (mark_at j) 0 ≡ one_if t * mark_at j
    go true = unfold choose in omega arith
    go false = unfold choose in omega arith

-- A digit is 0 or 1.
bit_small : (t : Bool) → one_if t ≤ 1
bit_small true = omega arith
bit_small false = omega arith

-- What bounds the marks from run j on is twice its mark ..
mark_twice : (j : ℕ) → j < most_runs → 2 ^ (most_runs - j) ≡ mark_at j * 2
mark_twice j h = ap (λ (z : ℕ). 2 ^ z) (let e : most_runs - j ≡ suc (most_runs - 1 - j) = omega arith in e) ∙ pow-suc 2 (most_runs - 1 - j)

-- .. and what bounds those after it is its mark.
pub mark_next : (j : ℕ) → 2 ^ (most_runs - suc j) ≡ mark_at j
mark_next j = ap (λ (z : ℕ). 2 ^ z) (let e : most_runs - suc j ≡ most_runs - 1 - j = omega arith in e)

-- The marks from run j on stay below that bound.
pub mask_less : (favoured : Bool) (j k : ℕ) (upper : ℕ → Bool) → j + k ≤ most_runs → mask_by favoured j k upper < 2 ^ (most_runs - j)
unfolding mask_by
mask_less favoured j zero upper h = pow_pos (most_runs - j)
mask_less favoured j (suc k) upper h =
    omega (
      arith,
      mask_less favoured (suc j) k (λ i. upper (suc i)) (omega arith),
      mark_within (differs (upper 0) favoured),
      mark_is favoured (upper 0) j,
      mark_twice j (omega arith),
      mark_next j,
    )
  where
    mark_within : (t : Bool) → one_if t * mark_at j ≤ mark_at j
    mark_within true = omega arith
    mark_within false = omega arith

-- The same of a choice.
pub mask_most : (favoured : Bool) (j : ℕ) (c : List Shape) → j + length c ≤ most_runs → mask_from favoured j c < 2 ^ (most_runs - j)
mask_most favoured j c h = rw (mask_choice favoured j c) (mask_less favoured j (length c) (bends c) h)

-- The topmost digit is read whatever stands below it.
digit_here : (b P rest : ℕ) → 0 < P → rest < P → b ≤ 1 → (b * P + rest) / P % 2 ≡ b
digit_here b P rest p l s =
    let z : b * P + rest ≡ rest + b * P = omega arith in
    let q : (rest + b * P) / P ≡ rest / P + b = add-mul-div_right rest b p in
    let o : rest / P ≡ 0 = div-eq_of_lt l in
    rw (z, q, o) (let y : (0 + b) % 2 ≡ b = omega arith in y)

-- What stands above a digit does not change it.
digit_above : (x y P : ℕ) → 0 < P → (x + y * 2 * P) / P % 2 ≡ x / P % 2
digit_above x y P p = rw (add-mul-div_right x (y * 2) p) (add-mul-mod_self_right (x / P) y 2)

-- The digit of a run in a mask says whether it bends otherwise than favoured.
digit_is : (favoured : Bool) (j k : ℕ) (upper : ℕ → Bool) (r : ℕ) → j + k ≤ most_runs → r < k
    → mask_by favoured j k upper / mark_at (j + r) % 2 ≡ one_if (differs (upper r) favoured)
unfolding mask_by
digit_is favoured j zero upper r h l = absurd (omega arith)
digit_is favoured j (suc k) upper zero h l =
    let e : j + 0 ≡ j = omega arith in
    rw (e, mark_is favoured (upper 0) j)
    (digit_here (one_if (differs (upper 0) favoured)) (mark_at j) (mask_by favoured (suc j) k (λ i. upper (suc i))) (pow_pos (most_runs - 1 - j))
    (omega (arith, mask_less favoured (suc j) k (λ i. upper (suc i)) (omega arith), mark_next j)) (bit_small (differs (upper 0) favoured)))
digit_is favoured j (suc k) upper (suc r) h l =
    let P : ℕ = mark_at (j + suc r) in
    let b : ℕ = one_if (differs (upper 0) favoured) in
    let rest : ℕ = mask_by favoured (suc j) k (λ i. upper (suc i)) in
    let e : most_runs - 1 - j ≡ suc r + (most_runs - 1 - (j + suc r)) = omega arith in
    let f : suc j + r ≡ j + suc r = omega arith in
    let w : mark_at j ≡ 2 ^ r * 2 * P = ap (λ (z : ℕ). 2 ^ z) e ∙ pow-add 2 (suc r) (most_runs - 1 - (j + suc r)) ∙ ap (λ (z : ℕ). z * P) (pow-suc 2 r) in
    let g : b * mark_at j ≡ b * 2 ^ r * 2 * P =
    ap (λ (z : ℕ). b * z) w ∙ sym (mul_assoc b (2 ^ r * 2) P) ∙ ap (λ (z : ℕ). z * P) (sym (mul_assoc b (2 ^ r) 2)) in
    let m : mark_of favoured j (upper 0) + rest ≡ rest + b * 2 ^ r * 2 * P = omega (arith, mark_is favoured (upper 0) j, g) in
    let ih : rest / mark_at (suc j + r) % 2 ≡ one_if (differs (upper (suc r)) favoured) = digit_is favoured (suc j) k (λ i. upper (suc i)) r (omega arith) (omega arith) in
    rw m (digit_above rest (b * 2 ^ r) P (pow_pos (most_runs - 1 - (j + suc r))) ∙ (rw f at ih))

-- So the digit tells its shape.
read_again : (favoured upper : Bool) → differs (eqb (one_if (differs upper favoured)) 1) favoured ≡ upper
read_again true true = refl
read_again true false = refl
read_again false true = refl
read_again false false = refl

-- The shape of each run is read from the mask again.
pub mask_read : (favoured : Bool) (n : ℕ) (upper : ℕ → Bool) (r : ℕ) → n ≤ most_runs → r < n → upper_in favoured (mask_by favoured 0 n upper) r ≡ upper r
unfolding upper_in
mask_read favoured n upper r h l =
    let z : 0 + r ≡ r = omega arith in
    let d : mask_by favoured 0 n upper / mark_at (0 + r) % 2 ≡ one_if (differs (upper r) favoured) = digit_is favoured 0 n upper r (omega arith) l in
    rw (rw z at d) (read_again favoured (upper r))
