-- Numbers, lists of numbers, bytes and an f32 as they are written in a line.
use Rattle.std.specs.Prelude.{Bool, true, false, Option, Some, None, List, [], ◌∷◌, map, ℕ, ◌+◌, ◌-◌, ◌*◌, ℤ, pos, neg_ℤ, leb, ltb, eqb, length, take, drop, get_or, Float}
use Rattle.std.specs.Float.Ieee.{of_bits}
use Rattle.std.specs.Float.{binary32}
use Rattle.basics.specs.Tests.{both, either, choose, each_of}
use Rattle.text.specs.Text.{text, same}
use Rattle.text.specs.Words.{minus, comma, pieces}

-- Seats and pins go to 4,294,967,295.
abbrev pub most_number : ℕ
most_number = 4294967295

-- Jobs go to 65,535.
abbrev pub most_job : ℕ
most_job = 65535

-- x and y go up to 2,147,483,647.
abbrev pub most_above : ℕ
most_above = 2147483647

-- x and y go down to -2,147,483,648.
abbrev pub most_below : ℕ
most_below = 2147483648

-- A map has up to 4,200 pairs of hex digits, a byte each.
abbrev pub most_pairs : ℕ
most_pairs = 4200

-- A list has up to 40 numbers.
abbrev pub most_numbers : ℕ
most_numbers = 40

-- A byte from one to another.
unfoldable pub between : ℕ → ℕ → ℕ → Bool
between low high b = both (leb low b) (leb b high)

-- The digits 0 to 9.
abbrev pub is_digit : ℕ → Bool
is_digit b = between 48 57 b

-- Every byte of a word is a digit.
abbrev pub all_digits : List ℕ → Bool
all_digits w = each_of is_digit w

-- What digits come to, after a value that stands before them; leading zeros allowed.
unfoldable pub value_from : ℕ → List ℕ → ℕ
value_from v [] = v
value_from v (b ∷ rest) = value_from (v * 10 + (b - 48)) rest

-- What the digits of a word come to.
abbrev pub value_of : List ℕ → ℕ
value_of w = value_from 0 w

-- A number is one or more digits, and in its range.
unfoldable pub is_number : ℕ → List ℕ → Bool
is_number top w = both (ltb 0 (length w)) (both (all_digits w) (leb (value_of w) top))

-- A word read as a number, where it is one.
unfoldable pub number_of : ℕ → List ℕ → Option ℕ
number_of top w = choose (is_number top w) (Some (value_of w)) None

-- One minus stands before the word.
unfoldable pub has_minus : List ℕ → Bool
has_minus w = eqb (get_or w 0 0) minus

-- x and y are numbers with one minus before them or none.
unfoldable pub is_coordinate : List ℕ → Bool
is_coordinate w = choose (has_minus w) (is_number most_below (drop 1 w)) (is_number most_above w)

-- What a word with one minus before it or none comes to.
unfoldable pub signed : List ℕ → ℤ
signed w = choose (has_minus w) (neg_ℤ (pos (value_of (drop 1 w)))) (pos (value_of w))

-- A word read as x or y, where it is one.
unfoldable pub coordinate_of : List ℕ → Option ℤ
coordinate_of w = choose (is_coordinate w) (Some (signed w)) None

-- Nothing, as a map or as a list: a single minus.
abbrev pub none_word : List ℕ
none_word = text "-"

-- A row: words of one form separated by single commas, up to so many.
unfoldable pub is_row_of : (List ℕ → Bool) → ℕ → List ℕ → Bool
is_row_of form most w = both (each_of form (pieces comma w)) (leb (length (pieces comma w)) most)

-- Numbers separated by single commas, up to 40.
abbrev pub is_row : List ℕ → Bool
is_row w = is_row_of is_coordinate most_numbers w

-- A list: such numbers, or - for none.
unfoldable pub is_list : List ℕ → Bool
is_list w = either (same w none_word) (is_row w)

-- The numbers that a list holds; none where it is a single minus or no list.
unfoldable pub listed : List ℕ → List ℤ
listed w = choose (is_row w) (map signed (pieces comma w)) []

-- A small letter from a to f.
abbrev pub is_small : ℕ → Bool
is_small b = between 97 102 b

-- A capital letter from A to F.
abbrev pub is_capital : ℕ → Bool
is_capital b = between 65 70 b

-- A hex digit, small or capital.
unfoldable pub is_hex : ℕ → Bool
is_hex b = either (is_digit b) (either (is_small b) (is_capital b))

-- The value of a hex digit.
unfoldable pub hex_value : ℕ → ℕ
hex_value b = choose (is_digit b) (b - 48) (choose (is_small b) (b - 87) (choose (is_capital b) (b - 55) 0))

-- Bytes that are pairs of hex digits.
unfoldable pub all_pairs : List ℕ → Bool
all_pairs [] = true
all_pairs (a ∷ []) = false
all_pairs (a ∷ b ∷ rest) = both (both (is_hex a) (is_hex b)) (all_pairs rest)

-- The bytes that pairs of hex digits spell.
unfoldable pub bytes_of : List ℕ → List ℕ
bytes_of [] = []
bytes_of (a ∷ []) = []
bytes_of (a ∷ b ∷ rest) = (hex_value a * 16 + hex_value b) ∷ bytes_of rest

-- One to 4,200 pairs of hex digits.
unfoldable pub is_spelled : List ℕ → Bool
is_spelled w = both (ltb 0 (length w)) (both (leb (length w) (most_pairs * 2)) (all_pairs w))

-- A map: such pairs, or - for an empty one.
unfoldable pub is_map : List ℕ → Bool
is_map w = either (same w none_word) (is_spelled w)

-- The bytes that a map spells; none where it is a single minus or no map.
unfoldable pub spelled : List ℕ → List ℕ
spelled w = choose (is_spelled w) (bytes_of w) []

-- The bits of an f32 are spelled by eight hex digits.
abbrev pub float_digits : ℕ
float_digits = 8

-- Every byte of a word is a hex digit.
abbrev pub all_hex : List ℕ → Bool
all_hex w = each_of is_hex w

-- A word that spells the bits of an f32.
unfoldable pub is_bits : List ℕ → Bool
is_bits w = both (eqb (length w) float_digits) (all_hex w)

-- What hex digits come to, after a value that stands before them: the high digit comes first.
unfoldable pub hex_from : ℕ → List ℕ → ℕ
hex_from v [] = v
hex_from v (b ∷ rest) = hex_from (v * 16 + hex_value b) rest

-- What the hex digits of a word come to, of which no more than eight are looked at.
abbrev pub bits_of : List ℕ → ℕ
bits_of w = hex_from 0 (take float_digits w)

-- The f32 whose bits a word spells; all bits of a NaN are a NaN.
unfoldable pub float_of : List ℕ → Float
float_of w = of_bits binary32 (bits_of w)
