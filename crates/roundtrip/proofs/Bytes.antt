-- Four bytes and their number: reading what was written gives the number, writing what was read gives the bytes. Assumes nothing.
use mathlib.Core.Path.{◌≡◌, ap, ◌∙◌}
use mathlib.Core.List.{List}
use Prim.Native.Nat.{ℕ, ◌+◌, ◌<◌, ◌≤◌}
use native.Mathlib.Omega.{arith}
use lib.IntN.{ℤ}
use lib.ListN.{length, get_or, set, length-set}
use lib.Seq.{get_or-set_same, get_or-set_other, set-get_or}
use mir.Syntax.{w32}
use mir.Val.{to_z, Fits, SFits}
use mir.Facts.{to_z-of_z, of_z-to_z}
use Rattle.pinmap.specs.Number.{joined, bits_at, number_at, first_byte, second_byte, third_byte, fourth_byte, bits_of, put_at}
use Rattle.pinmap.specs.Map.{Bytes}

-- The four bytes of a number, joined, are the number,
pub join_split : (n : ℕ) → joined (first_byte n) (second_byte n) (third_byte n) (fourth_byte n) ≡ n
unfolding first_byte second_byte third_byte fourth_byte
join_split n = omega arith

-- in two's complement too: for every i32.
pub number_split : (z : ℤ) → SFits w32 z
    → to_z w32 (joined (first_byte (bits_of z)) (second_byte (bits_of z)) (third_byte (bits_of z)) (fourth_byte (bits_of z))) ≡ z
number_split z h = ap (to_z w32) (join_split (bits_of z)) ∙ to_z-of_z h

-- The bytes of the number that four bytes make are those bytes: for every four bytes.
pub split_join : (a b c d : ℕ) → a < 256 → b < 256 → c < 256 → d < 256
    → let n : ℕ = joined a b c d in (first_byte n ≡ a) × (second_byte n ≡ b) × (third_byte n ≡ c) × (fourth_byte n ≡ d)
unfolding first_byte second_byte third_byte fourth_byte
split_join a b c d ha hb hc hd = omega arith

-- The first byte of a number of 32 bits is below 256,
pub first_byte_lem : (n : ℕ) → n < 4294967296 → first_byte n < 256
unfolding first_byte
first_byte_lem n h = omega arith

-- and so are the second,
pub second_byte_lem : (n : ℕ) → second_byte n < 256
unfolding second_byte
second_byte_lem n = omega arith

-- and the third,
pub third_byte_lem : (n : ℕ) → third_byte n < 256
unfolding third_byte
third_byte_lem n = omega arith

-- and the fourth.
pub fourth_byte_lem : (n : ℕ) → fourth_byte n < 256
unfolding fourth_byte
fourth_byte_lem n = omega arith

-- What stands at each of four places in a row after they were set.
module _ (l : List ℕ) (k a b c d : ℕ) (h : k + 4 ≤ length l) where
  abbrev l1 : List ℕ
  l1 = set l k a

  abbrev l2 : List ℕ
  l2 = set l1 (k + 1) b

  abbrev l3 : List ℕ
  l3 = set l2 (k + 2) c

  abbrev four : List ℕ
  four = set l3 (k + 3) d

  -- The last of the four,
  pub four_3 : get_or four (k + 3) 0 ≡ d
  four_3 = get_or-set_same l3 (k + 3) d 0 (simp length-set (omega arith))

  -- the one before it,
  pub four_2 : get_or four (k + 2) 0 ≡ c
  four_2 = get_or-set_other l3 (k + 3) (k + 2) d 0 (λ e. omega arith) ∙ get_or-set_same l2 (k + 2) c 0 (simp length-set (omega arith))

  -- the second,
  pub four_1 : get_or four (k + 1) 0 ≡ b
  four_1 =
      get_or-set_other l3 (k + 3) (k + 1) d 0 (λ e. omega arith) ∙ get_or-set_other l2 (k + 2) (k + 1) c 0 (λ e. omega arith)
      ∙ get_or-set_same l1 (k + 1) b 0 (simp length-set (omega arith))

  -- and the first.
  pub four_0 : get_or four k 0 ≡ a
  four_0 =
      get_or-set_other l3 (k + 3) k d 0 (λ e. omega arith) ∙ get_or-set_other l2 (k + 2) k c 0 (λ e. omega arith)
      ∙ get_or-set_other l1 (k + 1) k b 0 (λ e. omega arith) ∙ get_or-set_same l k a 0 (omega arith)

-- The number read where a number was written is that number.
pub read_written : (l : List ℕ) (k n : ℕ) → k + 4 ≤ length l → bits_at (put_at l k n) k ≡ n
unfolding bits_at put_at
read_written l k n h =
    omega (
      arith,
      join_split n,
      four_0 l k (first_byte n) (second_byte n) (third_byte n) (fourth_byte n) h,
      four_1 l k (first_byte n) (second_byte n) (third_byte n) (fourth_byte n) h,
      four_2 l k (first_byte n) (second_byte n) (third_byte n) (fourth_byte n) h,
      four_3 l k (first_byte n) (second_byte n) (third_byte n) (fourth_byte n) h,
    )

module _ (l : List ℕ) (k : ℕ) (bytes : Bytes l) where
  -- The number that four bytes make has 32 bits,
  pub bits_fit : bits_at l k < 4294967296
  unfolding bits_at
  bits_fit = omega (arith, bytes k, bytes (k + 1), bytes (k + 2), bytes (k + 3))

  -- and they are those of the number that it is in two's complement.
  pub bits_number : bits_of (number_at l k) ≡ bits_at l k
  unfolding number_at
  bits_number = let f : Fits w32 (bits_at l k) = record { fits = bits_fit } in of_z-to_z f

  -- Writing the number that was read leaves the bytes as they were.
  pub written_read : k + 4 ≤ length l → put_at l k (bits_at l k) ≡ l
  unfolding put_at bits_at
  written_read h =
      let s : _ = split_join (get_or l k 0) (get_or l (k + 1) 0) (get_or l (k + 2) 0) (get_or l (k + 3) 0)
      (bytes k) (bytes (k + 1)) (bytes (k + 2)) (bytes (k + 3)) in
      rw (s.0, s.1, s.2, s.3) (simp set-get_or)
