-- What a range says of the numbers in it, where its low end is not below 0: a NaN and the infinities are in no range, and -0 is from 0. Assumes nothing.
use mathlib.Core.Path.{◌≡◌, refl, sym, ◌∙◌, subst}
use mathlib.Core.Bool.{Bool, true, false, ◌&&◌}
use Prim.Native.Nat.{ℕ, zero, suc, ◌*◌, ◌≤◌, ◌<◌, zero-le}
use native.Mathlib.Nat.{le_trans, le_of_eq, lt_of_lt_of_le, lt_irrefl, mul_right_comm, mul-le-mul_right, le_of_mul-le-mul_right, mul-pos, zero-lt-suc}
use lib.IntN.{ℤ}
use lib.Dec.{T, eqb, eqb→eq}
use lib.Ieee.{Float, nan, inf, fin, up, down, le}
use lib.Ieee.Fits.{down_pos, and_l, and_r}
use Rattle.basics.proofs.Tests.{both_left, both_right}
use Rattle.loads.specs.Loads.{is_from}
use Rattle.finite.specs.Bounds.{AtMost}
use Rattle.finite.proofs.Rounding.{less_or_same}
use Rattle.finite.proofs.Operations.{AtLeast}

-- A test that holds, as the laws of f32 have it.
passed : {b : Bool} → b ≡ true → T b
passed e = subst T (sym e) tt

-- Only 0 times a number above 0 is 0.
zero_of : (k c : ℕ) → 0 < c → k * c ≡ 0 → k ≡ 0
zero_of zero c P e = refl
zero_of (suc k) c P e = absurd (lt_irrefl 0 (subst (λ (z : ℕ). 0 < z) e (mul-pos (zero-lt-suc k) P)))

-- Two equal numbers, the first of them 0: so is the second.
both_zero : (a b : ℕ) → T (eqb a b && eqb a 0) → b ≡ 0
both_zero a b h = sym (eqb→eq a b (and_l (eqb a b) (eqb a 0) h)) ∙ eqb→eq a 0 (and_r (eqb a b) (eqb a 0) h)

-- The range from a * 2 ^ x to n * 2 ^ d.
module _ (a : ℕ) (x : ℤ) (n : ℕ) (d : ℤ) where
  -- A number from its low end on and up to its high end is at most what the high end is,
  up_to : (v : Float) (B : ℕ) → T (le (fin false a x) v) → T (le v (fin false n d)) → n * up d ≤ B * down d → AtMost v B
  unfolding le
  up_to nan B g h l = absurd g
  up_to (inf true) B g h l = absurd g
  up_to (inf false) B g h l = absurd h
  up_to (fin false m e) B g h l =
      le_of_mul-le-mul_right
      (le_trans (less_or_same (m * up e * down d) (n * up d * down e) true h)
      (le_trans (mul-le-mul_right (down e) l) (le_of_eq (mul_right_comm B (down d) (down e)))))
      (down_pos d)
  up_to (fin true m e) B g h l =
      le_trans (le_of_eq (zero_of (m * up e) (down x) (down_pos x) (both_zero (a * up x * down e) (m * up e * down x) g))) zero-le

  -- and at least what the low end is, if that is above 0.
  from_on : (v : Float) (C : ℕ) → 0 < C → T (le (fin false a x) v) → T (le v (fin false n d)) → C * down x ≤ a * up x → AtLeast v C
  unfolding le
  from_on nan C P g h l = absurd g
  from_on (inf true) C P g h l = absurd g
  from_on (inf false) C P g h l = absurd h
  from_on (fin false m e) C P g h l =
      le_of_mul-le-mul_right
      (le_trans (le_of_eq (mul_right_comm C (down e) (down x)))
      (le_trans (mul-le-mul_right (down e) l) (less_or_same (a * up x * down e) (m * up e * down x) true g)))
      (down_pos x)
  from_on (fin true m e) C P g h l =
      absurd
      (lt_irrefl 0
      (subst (λ (k : ℕ). 0 < k) (eqb→eq (a * up x * down e) 0 (and_r (eqb (a * up x * down e) (m * up e * down x)) (eqb (a * up x * down e) 0) g))
      (mul-pos (lt_of_lt_of_le (mul-pos P (down_pos x)) l) (down_pos e))))

  module _ (v : Float) (h : is_from (fin false a x) v (fin false n d) ≡ true) where
    -- So a number in the range is at most its high end,
    pub range_most : (B : ℕ) → n * up d ≤ B * down d → AtMost v B
    range_most B l = up_to v B (passed (both_left _ _ h)) (passed (both_right _ _ h)) l

    -- and at least its low end.
    pub range_least : (C : ℕ) → 0 < C → C * down x ≤ a * up x → AtLeast v C
    range_least C P l = from_on v C P (passed (both_left _ _ h)) (passed (both_right _ _ h)) l
