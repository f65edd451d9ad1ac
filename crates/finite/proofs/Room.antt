-- A bound with room for one rounding: a sum of two numbers is at most what their bounds come to, and a little more. Assumes nothing.
use mathlib.Core.Path.{◌≡◌, refl, sym, ap, ◌∙◌}
use Prim.Native.Nat.{ℕ, zero, suc, ◌+◌, ◌-◌, ◌*◌, ◌/◌, ◌^◌, ◌≤◌, ◌<◌}
use native.Mathlib.Nat.{le_trans, le_of_eq, le_of_lt, lt_of_lt_of_le, one-mul, add-mul, div-lt_iff_lt-mul, le-div_iff_mul-le, lt-div-mul-add, div-mul-le_self}
use native.Mathlib.Omega.{arith}
use lib.Pow.{pow-add, pow_pos, pow_mono}
use lib.Ieee.{Float, binary32, size, add}
use lib.Ieee.Digits.{size-lt, size-le, size_reaches}
use Rattle.finite.specs.Bounds.{AtMost}
use Rattle.finite.proofs.Sizes.{at_most_more}
use Rattle.finite.proofs.Rounding.{Holds, holds}
use Rattle.finite.proofs.Operations.{add_at_most}

-- A bound with room for one rounding.
abbrev pub roomy : ℕ → ℕ
roomy N = N + (N / 2 ^ 22 + 1)

-- A bound that an f32 holds, from N to N with room.
record Above (N : ℕ) : Type 0 where
  q : ℕ
  j : ℕ
  held : Holds binary32 q j
  over : N ≤ q * 2 ^ j
  near : q * 2 ^ j ≤ roomy N

-- One more of something.
more_of : (n u : ℕ) → (n + 1) * u ≡ n * u + u
more_of n u = add-mul n 1 u ∙ ap (λ (z : ℕ). n * u + z) (one-mul u)

-- There is one: the first 23 binary digits of N, and one more.
above : (N : ℕ) → N < 2 ^ 126 → Above N
above N h =
    record {
      q = N / 2 ^ k + 1;
      j = k;
      held = holds (N / 2 ^ k + 1) k (short (N / 2 ^ k) top) (few (size N) small);
      over = over_it;
      near = near_it k refl;
    }
  where
    k : ℕ
    k = size N - 23

    short : (x : ℕ) → x < 2 ^ 23 → x + 1 < 2 ^ 24
    short x l = omega arith

    few : (z : ℕ) → z ≤ 126 → z - 23 ≤ 104
    few z l = omega arith

    small : size N ≤ 126
    small = size-le N 126 h

    join : (z : ℕ) → z ≤ 23 + (z - 23)
    join z = omega arith

    top : N / 2 ^ k < 2 ^ 23
    top = (div-lt_iff_lt-mul (pow_pos k)).1 (lt_of_lt_of_le (size-lt N) (le_trans (pow_mono (join (size N))) (le_of_eq (pow-add 2 23 k))))

    over_it : N ≤ (N / 2 ^ k + 1) * 2 ^ k
    over_it = le_of_lt (lt_of_lt_of_le (lt-div-mul-add (pow_pos k)) (le_of_eq (sym (more_of (N / 2 ^ k) (2 ^ k)))))

    unit : (j : ℕ) → j ≡ size N - 23 → 2 ^ j ≤ N / 2 ^ 22 + 1
    unit zero e = omega arith
    unit (suc j) e =
        le_trans
        ((le-div_iff_mul-le (pow_pos 22)).1
        (le_trans (le_of_eq (sym (pow-add 2 (suc j) 22))) (size_reaches N (suc j + 22) (omega (arith, e)))))
        (omega arith)

    together : (a b c d : ℕ) → a ≤ c → b ≤ d → a + b ≤ c + d
    together a b c d x y = omega arith

    near_it : (j : ℕ) → j ≡ size N - 23 → (N / 2 ^ j + 1) * 2 ^ j ≤ roomy N
    near_it j e =
        le_trans (le_of_eq (more_of (N / 2 ^ j) (2 ^ j)))
        (together (N / 2 ^ j * 2 ^ j) (2 ^ j) N (N / 2 ^ 22 + 1) (div-mul-le_self N (2 ^ j)) (unit j e))

-- A sum is at most what the bounds of its parts come to, with room.
pub add_roomy : (x y : Float) (A B : ℕ) → A + B < 2 ^ 126 → AtMost x A → AtMost y B → AtMost (add binary32 x y) (roomy (A + B))
add_roomy x y A B l g h =
    let a = above (A + B) l in
    at_most_more (add binary32 x y) (a.q * 2 ^ a.j) (roomy (A + B)) a.near (add_at_most binary32 a.q a.j a.held x y A B a.over g h)
