-- Rounding does not go past a bound that the format holds, so that the bound of a result wants no room for the rounding. Assumes nothing.
use mathlib.Core.Path.{◌≡◌, sym, ap, ◌∙◌, subst}
use mathlib.Core.Logic.{◌⊎◌, inl, inr}
use mathlib.Core.Bool.{Bool, true, false, ◌&&◌, ◌||◌, cond, true≢false}
use Prim.Native.Nat.{ℕ, suc, ◌+◌, ◌*◌, ◌^◌, ◌≤◌, ◌<◌}
use native.Mathlib.Nat.{le_trans, le_of_eq, le_of_lt, lt_of_lt_of_le, mul-one, mul_assoc, mul-lt-mul_of_pos_right, add_comm, zero-lt-suc}
use native.Mathlib.Omega.{arith}
use lib.Dec.{T, ltb, eqb, eqb→eq, ltb→lt}
use lib.Pow.{pow-add, pow_pos, pow_mono, shl_lt}
use lib.Ieee.{Float, nan, inf, fin, Format, binary32, prec, emax, low, up, down, odd, units, round, le}
use lib.Ieee.Fits.{down_pos, round_is, and_l}
use lib.Ieee.Exact.{HasValue, odd_sign, units_val, round_exact}
use lib.Ieee.Order.{drop, kept, transfer, round_mono}
use lib.Ieee.Scale.{finite, grid, overflow, round_under, round_val}
use Rattle.finite.specs.Bounds.{AtMost}
use Rattle.finite.proofs.Sizes.{value_at_most}

-- ---- a bound that the format holds
-- The format holds q * 2 ^ j: q has no more digits than the format keeps, and the whole is below what is too large for it.
pub record Holds (f : Format) (q j : ℕ) : Type 0 where
  pub short : q < 2 ^ prec f
  pub low_enough : q * 2 ^ j < 2 ^ suc (emax f)

-- An f32 holds q * 2 ^ j for q below 2 ^ 24 and j up to 104.
pub holds : (q j : ℕ) → q < 2 ^ 24 → j ≤ 104 → Holds binary32 q j
holds q j h l = record { short = h; low_enough = lt_of_lt_of_le (shl_lt 24 j h) (pow_mono more) }
  where
    more : 24 + j ≤ 128
    more = omega arith

-- Rounding does not change it.
held_value : (f : Format) (q j : ℕ) → Holds f q j → HasValue (round f false (q * 2 ^ j) 1) false (q * 2 ^ j) 1
held_value f q j h =
    round_exact f false (q * 2 ^ j) 1 q (j + low f) (zero-lt-suc 0) h.short fine (e ∙ sym (mul-one (q * 2 ^ (j + low f))))
  where
    e : q * 2 ^ j * 2 ^ low f ≡ q * 2 ^ (j + low f)
    e = mul_assoc q (2 ^ j) (2 ^ low f) ∙ ap (λ (z : ℕ). q * z) (sym (pow-add 2 j (low f)))

    top : 2 ^ suc (emax f) * 2 ^ low f ≡ 2 ^ (low f + suc (emax f))
    top = sym (pow-add 2 (suc (emax f)) (low f)) ∙ ap (λ (z : ℕ). 2 ^ z) (add_comm (suc (emax f)) (low f))

    fine : q * 2 ^ (j + low f) < 2 ^ (low f + suc (emax f))
    fine =
        subst (λ (z : ℕ). z < 2 ^ (low f + suc (emax f))) e
        (subst (λ (z : ℕ). q * 2 ^ j * 2 ^ low f < z) top (mul-lt-mul_of_pos_right h.low_enough (pow_pos (low f))))

-- ---- what is at most a finite number, and is not below 0, is finite
-- What has a value is finite.
value_finite : (x : Float) (s : Bool) (a c : ℕ) → HasValue x s a c → T (finite x)
value_finite nan s a c v = absurd v
value_finite (inf t) s a c v = absurd v
value_finite (fin t m e) s a c v = tt

-- No finite number is at least infinite.
none_over : (y : Float) → T (finite y) → T (le (inf false) y) → ⊥
unfolding le
none_over nan p h = p
none_over (inf s) p h = p
none_over (fin t n d) p h = h

-- So many of the format's smallest values, at most a finite number, are finite,
units_finite : (f : Format) (q k : ℕ) (y : Float) → T (finite y) → T (le (units f false q k) y) → T (finite (units f false q k))
unfolding units
units_finite f q k y p = go (ltb (q * 2 ^ k) (2 ^ (low f + suc (emax f))))
  where
    whole : Float
    whole = odd (suc (prec f)) false q k (low f)

    go : (b : Bool) → T (le (cond b whole (inf false)) y) → T (finite (cond b whole (inf false)))
    go true h = value_finite whole false (q * 2 ^ k) (2 ^ low f) (odd_sign (suc (prec f)) false q k (low f))
    go false h = absurd (none_over y p h)

-- and so is a fraction that is rounded.
round_finite : (f : Format) (a c : ℕ) (y : Float) → T (finite y) → T (le (round f false a c) y) → T (finite (round f false a c))
round_finite f a c y p h =
    let n = a * 2 ^ low f in
    let e = round_is f false a c in
    subst (λ (z : Float). T (finite z)) (sym e)
    (units_finite f (kept (prec f) n c) (drop (prec f) n c) y p (subst (λ (z : Float). T (le z y)) e h))

-- ---- the order of two numbers that are not below 0, as that of fractions
-- One of two tests that are joined holds.
one_holds : (a b : Bool) → T (a || b) → T a ⊎ T b
one_holds true b t = inl tt
one_holds false b t = inr t

-- Less, or equal with one more test, is at most.
pub less_or_same : (a b : ℕ) (t : Bool) → T (ltb a b || (eqb a b && t)) → a ≤ b
less_or_same a b t h =
    elim (one_holds (ltb a b) (eqb a b && t) h) [ inl u ↦ le_of_lt (ltb→lt a b u) | inr u ↦ le_of_eq (eqb→eq a b (and_l (eqb a b) t u)) ]

-- Numbers in order have values in order.
values_in_order : (x y : Float) (a c b d : ℕ) → HasValue x false a c → HasValue y false b d → T (le x y) → a * d ≤ b * c
unfolding le
values_in_order nan y a c b d p q h = absurd p
values_in_order (inf s) y a c b d p q h = absurd p
values_in_order (fin true m e) y a c b d p q h = absurd (true≢false p.0)
values_in_order (fin false m e) nan a c b d p q h = absurd q
values_in_order (fin false m e) (inf t) a c b d p q h = absurd q
values_in_order (fin false m e) (fin true n k) a c b d p q h = absurd (true≢false q.0)
values_in_order (fin false m e) (fin false n k) a c b d p q h =
    transfer a b c d (m * up e) (n * up k) (down e) (down k) (down_pos e) (down_pos k) (sym p.1) (sym q.1)
    (less_or_same (m * up e * down k) (n * up k * down e) true h)

-- ---- rounding
-- A fraction that is not too large, rounded, has its sign and its value on the format's grid.
signed_value : (f : Format) (s : Bool) (a c : ℕ) → grid f a c < overflow f → HasValue (round f s a c) s (grid f a c) (2 ^ low f)
signed_value f s a c h =
    let n = a * 2 ^ low f in
    subst (λ (z : Float). HasValue z s (grid f a c) (2 ^ low f)) (sym (round_is f s a c)) (units_val f s (kept (prec f) n c) (drop (prec f) n c) h)

-- A FRACTION THAT IS AT MOST WHAT THE FORMAT HOLDS IS AT MOST THAT WHEN IT IS ROUNDED.
pub round_at_most : (f : Format) (s : Bool) (a c q j : ℕ) → 0 < c → Holds f q j → a ≤ q * 2 ^ j * c → AtMost (round f s a c) (q * 2 ^ j)
round_at_most f s a c q j C H h =
    let y = round f false (q * 2 ^ j) 1 in
    let v = held_value f q j H in
    let in_order : T (le (round f false a c) y) = round_mono f a c (q * 2 ^ j) 1 C (zero-lt-suc 0) (le_trans (le_of_eq (mul-one a)) h) in
    let below : grid f a c < overflow f = round_under f a c (round_finite f a c y (value_finite y false (q * 2 ^ j) 1 v) in_order) in
    let small : grid f a c * 1 ≤ q * 2 ^ j * 2 ^ low f =
    values_in_order (round f false a c) y (grid f a c) (2 ^ low f) (q * 2 ^ j) 1 (round_val f a c below) v in_order in
    value_at_most (round f s a c) s (grid f a c) (2 ^ low f) (q * 2 ^ j) (pow_pos (low f)) (signed_value f s a c below)
    (le_trans (le_of_eq (sym (mul-one (grid f a c)))) small)
