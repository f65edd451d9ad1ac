-- Loads as they are written in a line, and the load that a word gives to each pin number.
use Rattle.std.specs.Prelude.{Bool, false, List, [], ◌∷◌, map, ℕ, eqb, drop, replicate}
use Rattle.basics.specs.Tests.{either, choose}
use Rattle.board.specs.Spots.{most_pins}
use Rattle.loads.specs.declared.Load.{Load}
use Rattle.loads.specs.declared.Load.TheVariants.{Amps, Watts, Spare}
use Rattle.text.specs.Text.{text, same, over}
use Rattle.text.specs.Words.{comma, pieces}
use Rattle.text.specs.Numbers.{none_word, is_row_of, is_bits, float_of}

-- The byte of the letter before amps, `a`,
abbrev pub amps_letter : ℕ
amps_letter = 97

-- and of the one before watts, `w`.
abbrev pub watts_letter : ℕ
watts_letter = 119

-- A word begins with a letter.
unfoldable pub begins_with : ℕ → List ℕ → Bool
begins_with letter [] = false
begins_with letter (b ∷ rest) = eqb b letter

-- A load: `a` or `w` and the bits of an f32, or `s`.
unfoldable pub is_load : List ℕ → Bool
is_load w = choose (either (begins_with amps_letter w) (begins_with watts_letter w)) (is_bits (drop 1 w)) (same w (text "s"))

-- The load that is so written: amps, watts, or else spare.
unfoldable pub load_of : List ℕ → Load
load_of w = choose (begins_with amps_letter w) (Amps (float_of (drop 1 w))) (choose (begins_with watts_letter w) (Watts (float_of (drop 1 w))) Spare)

-- Loads separated by single commas, up to 32.
abbrev pub is_load_row : List ℕ → Bool
is_load_row w = is_row_of is_load most_pins w

-- LOADS: such loads, or - for none.
unfoldable pub is_loads : List ℕ → Bool
is_loads w = either (same w none_word) (is_load_row w)

-- The loads that a word lists; none where it is a single minus or no such row.
unfoldable pub loads_listed : List ℕ → List Load
loads_listed w = choose (is_load_row w) (map load_of (pieces comma w)) []

-- Spare for each of the 32 pin numbers.
unfoldable pub all_spare : List Load
all_spare = replicate most_pins Spare

-- The loads of the 32 pin numbers: those listed, and spare for the pins after the last.
unfoldable pub loads_in : List ℕ → List Load
loads_in w = over (loads_listed w) all_spare
