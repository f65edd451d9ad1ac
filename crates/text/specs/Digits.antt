-- How numbers, places, bytes and an f32 are printed.
use Rattle.std.specs.Prelude.{List, [], ◌∷◌, ◌++◌, ℕ, zero, suc, ◌+◌, ◌/◌, ◌%◌, ℤ, pos, nat_abs, Float, ltb}
use Prim.Native.String.{String}
use Rattle.std.specs.Float.Ieee.{to_bits}
use Rattle.std.specs.Float.{binary32}
use Rattle.std.specs.Int.Signed.{lt_z}
use Rattle.basics.specs.Tests.{choose}
use Rattle.board.specs.declared.Place.{Place}
use Rattle.text.specs.Text.{text}

-- The decimal digits of a number of at most so many digits.
unfoldable pub digits : ℕ → ℕ → List ℕ
digits zero n = []
digits (suc k) n = choose (ltb n 10) ((48 + n) ∷ []) (digits k (n / 10) ++ ((48 + n % 10) ∷ []))

-- A number of 64 bits has at most so many decimal digits.
abbrev pub most_decimal_bytes : ℕ
most_decimal_bytes = 20

-- The decimal digits of a number of 64 bits.
abbrev pub decimal : ℕ → List ℕ
decimal n = digits most_decimal_bytes n

-- A number with its sign has at most so many bytes.
abbrev pub most_integer_bytes : ℕ
most_integer_bytes = 21

-- A number with its sign.
unfoldable pub integer : ℤ → List ℕ
integer z = choose (lt_z z (pos 0)) (text "-" ++ decimal (nat_abs z)) (decimal (nat_abs z))

-- A label and a number after it.
abbrev pub field : String → ℕ → List ℕ
field label n = text label ++ decimal n

-- A place has at most so many bytes: x, a space, y.
abbrev pub most_place_bytes : ℕ
most_place_bytes = 43

-- A label and a place after it: x, a space, y.
unfoldable pub place_text : List ℕ → Place → List ℕ
place_text label p = (label ++ integer p.x) ++ (text " " ++ integer p.y)

-- A hex digit, in small letters.
unfoldable pub hex_digit : ℕ → ℕ
hex_digit d = choose (ltb d 10) (48 + d) (87 + d)

-- Two hex digits for each byte.
unfoldable pub hex : List ℕ → List ℕ
hex [] = []
hex (b ∷ rest) = hex_digit (b / 16) ∷ hex_digit (b % 16) ∷ hex rest

-- The four bytes of a number of 32 bits, high byte first.
abbrev pub four_bytes : ℕ → List ℕ
four_bytes n = n / 16777216 ∷ n / 65536 % 256 ∷ n / 256 % 256 ∷ n % 256 ∷ []

-- The bits of an f32 as eight hex digits, in small letters; those of a NaN are 7fc00000.
unfoldable pub float_text : Float → List ℕ
float_text x = hex (four_bytes (to_bits binary32 x))
