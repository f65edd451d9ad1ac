-- `pinmap::numbers::write_bits` meets its contract: a copy of four bytes is four stores. Assumes nothing.
use mathlib.Core.Path.{◌≡◌, sym, ap, ◌∙◌}
use mathlib.Core.List.{List, [], ◌∷◌, ◌++◌, append_assoc}
use Prim.Native.Nat.{ℕ, suc, ◌+◌, ◌-◌, ◌≤◌, ◌<◌, ◌/◌, ◌%◌, ◌^◌}
use native.Mathlib.Omega.{arith}
use Rattle.std.proofs.Common.{rules}
use lib.ListN.{length, take, drop}
use lib.Seq.{sets-eq, drop-drop}
use borrow.Rule.Slice.PartMut.{put_mid}
use Rattle.std.specs.Int.{w32, to_be_bytes}
use Rattle.pinmap.specs.Number.{put_at, first_byte, second_byte, third_byte, fourth_byte, four_bytes}
use Rattle.pinmap.proofs.numbers.write_bits.Goals as goal

-- A number's bytes, high byte first, are those that the library gives.
bytes_alike : (n : ℕ) → n < 2 ^ 32 → to_be_bytes w32 n ≡ four_bytes n
unfolding four_bytes first_byte second_byte third_byte fourth_byte
bytes_alike n h =
    let e : n / 16777216 % 256 ≡ n / 16777216 = omega arith in
    ap (λ (k : ℕ). k ∷ n / 65536 % 256 ∷ n / 256 % 256 ∷ n % 256 ∷ []) e

-- Copied into their part of a buffer, four bytes are stored there.
copied : (b : List ℕ) (at n : ℕ) (l : List ℕ) → l ≡ four_bytes n → at + 4 ≤ length b → put_mid at (at + 4 - at) b l ≡ put_at b at n
unfolding put_at four_bytes
copied b at n l e h =
    let k : at + 4 - at ≡ 4 = omega arith in
    let one : at + 1 ≡ suc at = omega arith in
    let two : at + 2 ≡ suc (suc at) = omega arith in
    let three : at + 3 ≡ suc (suc (suc at)) = omega arith in
    rw (e, k, one, two, three)
    (sym
    (sets-eq (four_bytes n) b at (omega arith) ∙ append_assoc (take at b) (four_bytes n) (drop (at + 4) b)
    ∙ ap (λ (l : List ℕ). take at b ++ (four_bytes n ++ l)) (sym (drop-drop 4 at b))))

pub returns : goal.returns
returns c =
    let e = bytes_alike c.args.n (search rules) in
    copied c.args.bytes.now c.args.at c.args.n _ (cc) c.requires
