-- How large sums, products, quotients and whole numbers are, each rounded once. Assumes nothing.
use mathlib.Core.Path.{◌≡◌, sym, ap, ◌∙◌, subst}
use mathlib.Core.Bool.{Bool, true, false, ◌&&◌, cond, beq}
use Prim.Native.Nat.{ℕ, ◌+◌, ◌-◌, ◌*◌, ◌^◌, ◌≤◌, ◌<◌}
use native.Mathlib.Nat.{le_trans, le_of_eq, lt_of_lt_of_le, lt_irrefl, mul-one, mul_comm, mul_assoc, mul_left_comm, mul-le-mul_right, mul-le-mul, mul-pos, zero-lt-suc, add-mul}
use native.Mathlib.Omega.{arith}
use lib.IntN.{pos}
use lib.Dec.{T, ltb, eqb, eqb→eq}
use lib.Ieee.{Float, nan, inf, fin, Format, prec, up, down, round, sum, add, mul, div, unlike, of_int}
use lib.Ieee.Fits.{down_pos}
use lib.Ieee.Back.{round_whole}
use Rattle.finite.specs.Bounds.{AtMost}
use Rattle.finite.proofs.Sizes.{value_at_most}
use Rattle.finite.proofs.Rounding.{Holds, round_at_most}

-- A whole number that the format holds is as large as it is.
pub whole_at_most : (f : Format) (n : ℕ) → n ≤ 2 ^ prec f → AtMost (of_int f (pos n)) n
unfolding of_int
whole_at_most f n h = value_at_most (round f false n 1) false n 1 n (zero-lt-suc 0) (round_whole f false n h) (le_of_eq (sym (mul-one n)))

-- At least so much in size.
abbrev pub AtLeast : Float → ℕ → Type 0
AtLeast nan C = ⊥
AtLeast (inf s) C = ⊥
AtLeast (fin s m e) C = C * down e ≤ m * up e

-- A bound q * 2 ^ j that the format holds.
module _ (f : Format) (q j : ℕ) (H : Holds f q j) where
  -- Two fractions added.
  sum_at_most : (s : Bool) (a : ℕ) (t : Bool) (b c : ℕ) → 0 < c → a + b ≤ q * 2 ^ j * c → AtMost (sum f s a t b c) (q * 2 ^ j)
  unfolding sum
  sum_at_most s a t b c C h = go (beq s t) (ltb a b)
    where
      back : b - a ≤ a + b
      back = omega arith

      forth : a - b ≤ a + b
      forth = omega arith

      go : (x y : Bool) → AtMost (cond x (round f s (a + b) c) (cond y (round f t (b - a) c) (round f (s && ltb b a) (a - b) c))) (q * 2 ^ j)
      go true y = round_at_most f s (a + b) c q j C H h
      go false true = round_at_most f t (b - a) c q j C H (le_trans back h)
      go false false = round_at_most f (s && ltb b a) (a - b) c q j C H (le_trans forth h)

  -- A sum is at most what the bounds of its parts come to together;
  pub add_at_most : (x y : Float) (A B : ℕ) → A + B ≤ q * 2 ^ j → AtMost x A → AtMost y B → AtMost (add f x y) (q * 2 ^ j)
  unfolding add
  add_at_most nan y A B l g h = absurd g
  add_at_most (inf s) y A B l g h = absurd g
  add_at_most (fin s m e) nan A B l g h = absurd h
  add_at_most (fin s m e) (inf t) A B l g h = absurd h
  add_at_most (fin s m e) (fin t n d) A B l g h =
      sum_at_most s (m * up e * down d) t (n * up d * down e) (down e * down d) (mul-pos (down_pos e) (down_pos d))
      (le_trans (together left right) (le_trans (le_of_eq (sym (add-mul A B (down e * down d)))) (mul-le-mul_right (down e * down d) l)))
    where
      together : {a b c d : ℕ} → a ≤ c → b ≤ d → a + b ≤ c + d
      together p r = omega arith

      left : m * up e * down d ≤ A * (down e * down d)
      left = le_trans (mul-le-mul_right (down d) g) (le_of_eq (mul_assoc A (down e) (down d)))

      right : n * up d * down e ≤ B * (down e * down d)
      right =
          le_trans (mul-le-mul_right (down e) h)
          (le_of_eq (mul_assoc B (down d) (down e) ∙ ap (λ (z : ℕ). B * z) (mul_comm (down d) (down e))))

  -- a product is at most the product of its parts' bounds;
  pub mul_at_most : (x y : Float) (A B : ℕ) → A * B ≤ q * 2 ^ j → AtMost x A → AtMost y B → AtMost (mul f x y) (q * 2 ^ j)
  unfolding mul
  mul_at_most nan y A B l g h = absurd g
  mul_at_most (inf s) y A B l g h = absurd g
  mul_at_most (fin s m e) nan A B l g h = absurd h
  mul_at_most (fin s m e) (inf t) A B l g h = absurd h
  mul_at_most (fin s m e) (fin t n d) A B l g h =
      round_at_most f (unlike s t) (m * up e * (n * up d)) (down e * down d) q j (mul-pos (down_pos e) (down_pos d)) H
      (le_trans (mul-le-mul g h) (le_trans (le_of_eq (simp (mul_assoc, mul_left_comm))) (mul-le-mul_right (down e * down d) l)))

  -- a quotient by what is at least C, above 0, is at most a C-th of its bound.
  pub div_at_most : (x y : Float) (A C : ℕ) → 0 < C → A ≤ q * 2 ^ j * C → AtMost x A → AtLeast y C → AtMost (div f x y) (q * 2 ^ j)
  unfolding div
  div_at_most nan y A C P l g h = absurd g
  div_at_most (inf s) y A C P l g h = absurd g
  div_at_most (fin s m e) nan A C P l g h = absurd h
  div_at_most (fin s m e) (inf t) A C P l g h = absurd h
  div_at_most (fin s m e) (fin t n d) A C P l g h = go (eqb n 0) (eqb→eq n 0)
    where
      some : 0 < n * up d
      some = lt_of_lt_of_le (mul-pos P (down_pos d)) h

      within : m * up e * down d ≤ q * 2 ^ j * (n * up d * down e)
      within =
          le_trans (mul-le-mul_right (down d) (le_trans g (mul-le-mul_right (down e) l)))
          (le_trans (le_of_eq (simp (mul_assoc, mul_comm, mul_left_comm)))
          (le_trans (mul-le-mul_right (q * 2 ^ j * down e) h) (le_of_eq (simp (mul_assoc, mul_comm, mul_left_comm)))))

      zero-times : (k : ℕ) → 0 * k ≡ 0
      zero-times k = omega arith

      go : (b : Bool) → (T b → n ≡ 0)
          → AtMost (cond b (cond (eqb m 0) nan (inf (unlike s t))) (round f (unlike s t) (m * up e * down d) (n * up d * down e))) (q * 2 ^ j)
      go true z = absurd (lt_irrefl 0 (subst (λ (k : ℕ). 0 < k) (ap (λ (k : ℕ). k * up d) (z tt) ∙ zero-times (up d)) some))
      go false z = round_at_most f (unlike s t) (m * up e * down d) (n * up d * down e) q j (mul-pos some (down_pos e)) H within
