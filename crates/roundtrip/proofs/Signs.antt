-- Worked cases of numbers and their bytes, around zero and at the ends of i32, each computed. Assumes nothing.
use mathlib.Core.Path.{◌≡◌, refl}
use mathlib.Core.List.{[], ◌∷◌}
use lib.IntN.{pos, negsuc}
use Rattle.pinmap.specs.Number.{bits_at, number_at, bits_of, put_at, first_byte, second_byte, third_byte, fourth_byte}

-- FF FF FF FF is -1.
bytes_minus_one : number_at (255 ∷ 255 ∷ 255 ∷ 255 ∷ []) 0 ≡ negsuc 0
unfolding number_at bits_at
bytes_minus_one = refl

-- 7F FF FF FF is the largest.
bytes_largest : number_at (127 ∷ 255 ∷ 255 ∷ 255 ∷ []) 0 ≡ pos 2147483647
unfolding number_at bits_at
bytes_largest = refl

-- 80 00 00 00 is the smallest.
bytes_smallest : number_at (128 ∷ 0 ∷ 0 ∷ 0 ∷ []) 0 ≡ negsuc 2147483647
unfolding number_at bits_at
bytes_smallest = refl

-- 20 as D3 writes it.
written_twenty : put_at (9 ∷ 9 ∷ 9 ∷ 9 ∷ 9 ∷ []) 0 (bits_of (pos 20)) ≡ (0 ∷ 0 ∷ 0 ∷ 20 ∷ 9 ∷ [])
unfolding put_at first_byte second_byte third_byte fourth_byte
written_twenty = refl

-- -20 as D3 writes it.
written_minus_twenty : put_at (9 ∷ 9 ∷ 9 ∷ 9 ∷ 9 ∷ []) 0 (bits_of (negsuc 19)) ≡ (255 ∷ 255 ∷ 255 ∷ 236 ∷ 9 ∷ [])
unfolding put_at first_byte second_byte third_byte fourth_byte
written_minus_twenty = refl

-- FF FF FF FF is the largest part number.
largest_part : bits_at (255 ∷ 255 ∷ 255 ∷ 255 ∷ []) 0 ≡ 4294967295
unfolding bits_at
largest_part = refl

-- The high byte of a part number comes first.
written_part : put_at (9 ∷ 9 ∷ 9 ∷ 9 ∷ 9 ∷ []) 0 16909060 ≡ (1 ∷ 2 ∷ 3 ∷ 4 ∷ 9 ∷ [])
unfolding put_at first_byte second_byte third_byte fourth_byte
written_part = refl
