-- Words read byte by byte come to the numbers and bytes that the definitions give. Assumes nothing.
use mathlib.Core.Path.{◌≡◌, refl, sym, ◌∙◌, ap}
use mathlib.Core.Bool.{Bool, true, false, cond, ◌&&◌, ◌||◌}
use mathlib.Core.List.{List, [], ◌∷◌, map}
use Prim.Native.Nat.{ℕ, zero, suc, ◌+◌, ◌-◌, ◌*◌, ◌/◌, ◌%◌, ◌≤◌, min, zero-le}
use native.Mathlib.Omega.{arith}
use lib.Dec.{leb, ltb, eqb}
use lib.ListN.{length, take, drop, get_or}
use borrow.Author.Tests.{leb-true}
use Rattle.std.specs.Int.{is_in_range}
use Rattle.std.specs.Char.{is_ascii_digit, is_ascii_hexdigit}
use Rattle.std.specs.List.{fold}
use Rattle.std.specs.Prelude.{Option, Some, None, option_map, is_some, unwrap_or}
use Rattle.basics.specs.Tests.{both, either, choose, each_of}
use Rattle.basics.proofs.Tests.{both_left, both_right, choose_yes}
use Rattle.text.specs.Numbers.{most_number, most_pairs, between, is_digit, all_digits, value_from, value_of, is_number, number_of, is_hex, hex_value, all_hex, all_pairs, is_spelled, float_digits, is_bits, is_map, is_row, is_list, none_word, most_below, most_above, has_minus, is_coordinate, signed, coordinate_of, bytes_of}
use Rattle.std.specs.Simd.{first_chunks}
use Rattle.text.specs.Words.{minus}
use Rattle.text.specs.Text.{over}
use Rattle.text.proofs.Library.{both_and, choose_cond, equal_same, with_true}
use lib.Pointwise.{pointwise}
use lib.IntN.{ℤ, pos, neg_ℤ}

-- A byte in a range is between its ends,
range_between : (low high b : ℕ) → is_in_range low high b ≡ between low high b
unfolding between
range_between low high b = both_and (leb low b) (leb b high)

-- and a digit the library's digit.
pub digit_same : (b : ℕ) → is_ascii_digit b ≡ is_digit b
digit_same b = range_between 48 57 b

-- A byte in one of three ranges,
one_of_three : (a b c : Bool) → ((a || b) || c) ≡ either a (either c b)
unfolding either
one_of_three true b c = refl
one_of_three false true true = refl
one_of_three false true false = refl
one_of_three false false true = refl
one_of_three false false false = refl

-- and so a hex digit is the library's.
pub hex_same : (b : ℕ) → is_ascii_hexdigit b ≡ is_hex b
unfolding is_hex
hex_same b =
    one_of_three (is_in_range 48 57 b) (is_in_range 65 70 b) (is_in_range 97 102 b)
    ∙ rw (range_between 48 57 b, range_between 65 70 b, range_between 97 102 b)

-- The value of a hex digit, by the library's tests;
pub hex_value_is : (b : ℕ)
    → hex_value b ≡ cond (is_in_range 48 57 b) (b - 48) (cond (is_in_range 97 102 b) (b - 87) (cond (is_in_range 65 70 b) (b - 55) 0))
unfolding hex_value
hex_value_is b =
    rw (← (range_between 48 57 b), ← (range_between 97 102 b), ← (range_between 65 70 b))
    (sym
    (choose_cond (is_in_range 48 57 b) _ _
    ∙ ap (choose (is_in_range 48 57 b) (b - 48))
    (choose_cond (is_in_range 97 102 b) _ _ ∙ ap (choose (is_in_range 97 102 b) (b - 87)) (choose_cond (is_in_range 65 70 b) _ _))))

-- a word read as a number;
pub number_is : (top : ℕ) (w : List ℕ)
    → number_of top w ≡ cond (ltb 0 (length w) && (all_digits w && leb (value_of w) top)) (Some (value_of w)) None
unfolding number_of is_number
number_is top w =
    rw (← (both_and (all_digits w) (leb (value_of w) top)), ← (both_and (ltb 0 (length w)) (all_digits w && leb (value_of w) top)))
    (sym (choose_cond (ltb 0 (length w) && (all_digits w && leb (value_of w) top)) _ _))

-- a word that spells the bits of an f32.
pub bits_is : (w : List ℕ) → is_bits w ≡ (eqb (length w) float_digits && all_hex w)
unfolding is_bits
bits_is w = sym (both_and (eqb (length w) float_digits) (all_hex w))

-- ---- numbers
-- One digit more, after a value that is cut at the number beyond all ranges.
abbrev pub longer : ℕ → ℕ → ℕ
longer v b = min v (most_number + 1) * 10 + (b - 48)

-- A value that is cut at that number on the way is cut there in the end.
pub value_cut : (w : List ℕ) (u v : ℕ) → min u (most_number + 1) ≡ min v (most_number + 1)
    → min (fold longer u w) (most_number + 1) ≡ min (value_from v w) (most_number + 1)
unfolding value_from
value_cut [] u v h = h
value_cut (b ∷ rest) u v h = value_cut rest (longer u b) (v * 10 + (b - 48)) (omega (arith, h))

-- A number is in its range.
pub number_top : (top : ℕ) (w : List ℕ) → is_number top w ≡ true → value_of w ≤ top
unfolding is_number
number_top top w h = leb-true (value_of w) top (both_right _ _ (both_right _ _ h))

-- ---- pairs of hex digits
pair_and : (a b e h : Bool) → both (both a b) (e && h) ≡ (e && both a (both b h))
unfolding both
pair_and true true e h = refl
pair_and true false true h = refl
pair_and true false false h = refl
pair_and false b true h = refl
pair_and false b false h = refl

-- A word is pairs of hex digits where their number is even and each byte is one.
pub pairs_is : (w : List ℕ) → all_pairs w ≡ (eqb (length w % 2) 0 && all_hex w)
unfolding all_pairs each_of
pairs_is [] = refl
pairs_is (a ∷ []) = refl
pairs_is (a ∷ b ∷ rest) =
    let even : length (a ∷ b ∷ rest) % 2 ≡ length rest % 2 = omega arith in
    rw (pairs_is rest, even) (pair_and (is_hex a) (is_hex b) (eqb (length rest % 2) 0) (all_hex rest))

-- A word that spells a map, by the library's tests;
pub spelled_is : (w : List ℕ) → is_spelled w ≡ (ltb 0 (length w) && (leb (length w) (most_pairs * 2) && (eqb (length w % 2) 0 && all_hex w)))
unfolding is_spelled
spelled_is w =
    rw (pairs_is w) (sym
    (both_and (ltb 0 (length w)) _ ∙ ap (both (ltb 0 (length w))) (both_and (leb (length w) (most_pairs * 2)) (eqb (length w % 2) 0 && all_hex w))))

pub either_or : (a b : Bool) → (a || b) ≡ either a b
unfolding either
either_or true b = refl
either_or false b = refl

-- a word that is a map, or none;
pub map_is : (w : List ℕ) → is_map w ≡ (pointwise eqb w none_word || is_spelled w)
unfolding is_map
map_is w = rw (← (equal_same w none_word)) (sym (either_or (pointwise eqb w none_word) (is_spelled w)))

-- and one that is a list, or none.
pub list_is : (w : List ℕ) → is_list w ≡ (pointwise eqb w none_word || is_row w)
unfolding is_list
list_is w = rw (← (equal_same w none_word)) (sym (either_or (pointwise eqb w none_word) (is_row w)))

-- ---- x and y
-- A minus stands before a word that begins with one.
minus_same : (w : List ℕ) → pointwise eqb (take 1 w) (minus ∷ []) ≡ has_minus w
unfolding has_minus
minus_same [] = refl
minus_same (b ∷ rest) = with_true (eqb b minus)

chosen_map : (f : ℕ → ℤ) (t : Bool) (n : ℕ) → choose t (Some (f n)) None ≡ option_map f (choose t (Some n) None)
unfolding choose
chosen_map f true n = refl
chosen_map f false n = refl

-- What was chosen is something where the test holds.
pub chosen_some : {A : Type 0} (t : Bool) (a : A) → is_some (choose t (Some a) None) ≡ t
unfolding choose
chosen_some true a = refl
chosen_some false a = refl

module _ (w : List ℕ) where
  -- A word with a minus is the negative of the number after it,
  below_is : pointwise eqb (take 1 w) (minus ∷ []) ≡ true → coordinate_of w ≡ option_map (λ n. neg_ℤ (pos n)) (number_of most_below (drop 1 w))
  unfolding coordinate_of is_coordinate signed number_of choose
  below_is h = rw (sym (minus_same w) ∙ h) (chosen_map (λ n. neg_ℤ (pos n)) (is_number most_below (drop 1 w)) (value_of (drop 1 w)))

  -- and any other is the number that it is.
  plain_is : pointwise eqb (take 1 w) (minus ∷ []) ≡ false → coordinate_of w ≡ option_map (λ n. pos n) (number_of most_above w)
  unfolding coordinate_of is_coordinate signed number_of choose
  plain_is h = rw (sym (minus_same w) ∙ h) (chosen_map (λ n. pos n) (is_number most_above w) (value_of w))

  -- as it is read from the number after the minus,
  pub below_read : {d : List ℕ} {r s : Option ℕ} → (pointwise eqb (take 1 w) (minus ∷ []) ≡ true) × (d ≡ drop 1 w) × (length d + 1 ≡ length w)
      → r ≡ number_of most_below d → r ≡ s → option_map (λ n. neg_ℤ (pos n)) s ≡ coordinate_of w
  below_read {d} {r} {s} c e f =
      ap (option_map (λ (n : ℕ). neg_ℤ (pos n))) (sym f ∙ e ∙ ap (number_of most_below) c.1) ∙ sym (below_is c.0)

  -- and from the word itself.
  pub plain_read : {r s : Option ℕ} → pointwise eqb (take 1 w) (minus ∷ []) ≡ false → r ≡ number_of most_above w → r ≡ s
      → option_map (λ n. pos n) s ≡ coordinate_of w
  plain_read {r} {s} c e f = ap (option_map (λ (n : ℕ). pos n)) (sym f ∙ e) ∙ sym (plain_is c)

  -- A word is read as x or y where it is one;
  pub some_coordinate : is_some (coordinate_of w) ≡ is_coordinate w
  unfolding coordinate_of
  some_coordinate = chosen_some (is_coordinate w) (signed w)

-- The number of a word that is x or y, and else 0.
abbrev pub number_in : List ℕ → ℤ
number_in w = unwrap_or (coordinate_of w) (pos 0)

number_signed : (w : List ℕ) → is_coordinate w ≡ true → number_in w ≡ signed w
unfolding coordinate_of
number_signed w h = rw (choose_yes (Some (signed w)) None h)

-- What words that are all x or y come to.
pub numbers_signed : (ws : List (List ℕ)) → each_of is_coordinate ws ≡ true → map number_in ws ≡ map signed ws
unfolding each_of
numbers_signed [] h = refl
numbers_signed (w ∷ ws) h =
    ap (λ (z : ℤ). z ∷ map number_in ws) (number_signed w (both_left _ _ h)) ∙ ap (λ (l : List ℤ). signed w ∷ l) (numbers_signed ws (both_right _ _ h))

-- What a word holds that has the form asked for is stored,
pub form_stored : {A : Type 0} {t : Bool} (new old : List A) {n most : ℕ} {last : List A} → t ≡ true
    → n ≡ length new → n ≤ most → last ≡ over new old
    → ((n ≡ length (choose t new [])) × (n ≤ most)) × (last ≡ over (choose t new []) old)
unfolding choose
form_stored new old h e k f = rw h ((e, k), f)

-- and any other word leaves the buffer as it is.
pub form_none : {A : Type 0} {t : Bool} (new old : List A) {most : ℕ} → t ≡ false
    → ((0 ≡ length (choose t new [])) × (0 ≤ most)) × (old ≡ over (choose t new []) old)
unfolding choose
form_none new old h = rw h ((refl, zero-le), refl)

-- A word that spells a map has no more than 8,400 bytes.
pub spelled-length : (w : List ℕ) → is_spelled w ≡ true → length w ≤ most_pairs * 2
unfolding is_spelled
spelled-length w h = leb-true (length w) (most_pairs * 2) (both_left _ _ (both_right _ _ h))

-- ---- the bytes of a map
-- The byte that a pair of hex digits spells.
abbrev pub pair_byte : List ℕ → ℕ
pair_byte p = hex_value (get_or p 0 0) * 16 + hex_value (get_or p 1 0)

-- The bytes that pairs of hex digits spell, pair by pair.
pub bytes_pairs : (w : List ℕ) (k : ℕ) → length w / 2 ≡ k → map pair_byte (first_chunks 2 k w) ≡ bytes_of w
unfolding bytes_of
bytes_pairs [] k e = rw (← e)
bytes_pairs (a ∷ []) k e = rw (← e)
bytes_pairs (a ∷ b ∷ rest) zero e = absurd (omega arith)
bytes_pairs (a ∷ b ∷ rest) (suc k) e = ap (λ (l : List ℕ). (hex_value a * 16 + hex_value b) ∷ l) (bytes_pairs rest k (omega arith))
