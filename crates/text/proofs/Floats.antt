-- Hex digits read one by one come to the bits of an f32, and the bytes of those bits. Assumes nothing.
use mathlib.Core.Path.{◌≡◌, sym, ◌∙◌, ap}
use mathlib.Core.List.{List, [], ◌∷◌}
use Prim.Native.Nat.{ℕ, suc, ◌+◌, ◌*◌, ◌/◌, ◌^◌, ◌%◌, ◌≤◌, ◌<◌}
use native.Mathlib.Nat.{pow-suc, pow-le-pow_right}
use native.Mathlib.Omega.{arith}
use lib.Dec.{lit<}
use lib.ListN.{length, drop, get_or, drop_of_length-le}
use mir.Syntax.{w32}
use Rattle.std.specs.Int.{to_be_bytes}
use Rattle.text.specs.Digits.{four_bytes}
use Rattle.text.specs.Numbers.{float_digits, hex_value, hex_from}
use Rattle.text.proofs.Steps.{front}

-- One digit more after fewer than eight: the value stays within its digits, and so within 32 bits.
pub digit_more : (n i d : ℕ) → i < float_digits → n < 16 ^ i → d ≤ 15 → (n * 16 + d < 16 ^ (i + 1)) × (n * 16 + d < 4294967296)
digit_more n i d h k m =
    let a : suc i ≡ i + 1 = omega arith in
    let e : 16 ^ (i + 1) ≡ 16 ^ i * 16 = ap (λ (j : ℕ). 16 ^ j) (sym a) ∙ pow-suc 16 i in
    let f : 16 ^ (i + 1) ≤ 16 ^ 8 = pow-le-pow_right (lit< tt) {i = i + 1} {j = 8} (omega arith) in
    let g : n * 16 + d < 16 ^ (i + 1) = omega (arith, e) in
    (g, omega (arith, f, g))

module _ (w : List ℕ) (i v : ℕ) where
  -- One hex digit more: the value so far times sixteen, and the digit.
  pub hex-next : i < length w → hex_from v (drop i w) ≡ hex_from (v * 16 + hex_value (get_or w i 0)) (drop (i + 1) w)
  unfolding hex_from
  hex-next h = rw (front 0 w i h)

  -- At the end of the word the value so far is what its digits come to.
  pub hex_end : length w ≤ i → v ≡ hex_from v (drop i w)
  unfolding hex_from
  hex_end h = rw (drop_of_length-le w h)

-- The bytes of 32 bits, high byte first.
pub bytes_four : (n : ℕ) → n < 4294967296 → to_be_bytes w32 n ≡ four_bytes n
bytes_four n h =
    let high : n / 16777216 % 256 ≡ n / 16777216 = omega arith in
    ap (λ (b : ℕ). b ∷ n / 65536 % 256 ∷ n / 256 % 256 ∷ n % 256 ∷ []) high
