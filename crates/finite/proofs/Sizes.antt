-- What is at most so much: it is finite, it is at most more, and it is told by its value. Assumes nothing.
use Prim.Native.Nat.{ℕ, ◌*◌, ◌≤◌, ◌<◌}
use native.Mathlib.Nat.{le_trans, le_of_eq, mul_right_comm, mul-le-mul_right, le_of_mul-le-mul_right}
use mathlib.Core.Bool.{Bool}
use lib.Dec.{T}
use lib.Ieee.{Float, nan, inf, fin, down}
use lib.Ieee.Exact.{HasValue}
use lib.Ieee.Scale.{finite}
use Rattle.finite.specs.Bounds.{AtMost}

-- WHAT IS AT MOST SO MUCH IS FINITE: neither a NaN nor an infinity.
pub at_most_finite : (x : Float) (B : ℕ) → AtMost x B → T (finite x)
at_most_finite nan B h = absurd h
at_most_finite (inf s) B h = absurd h
at_most_finite (fin s m e) B h = tt

-- It is at most more, too.
pub at_most_more : (x : Float) (A B : ℕ) → A ≤ B → AtMost x A → AtMost x B
at_most_more nan A B l h = absurd h
at_most_more (inf s) A B l h = absurd h
at_most_more (fin s m e) A B l h = le_trans h (mul-le-mul_right (down e) l)

-- A number of the value a / c is at most B where a / c is.
pub value_at_most : (x : Float) (s : Bool) (a c B : ℕ) → 0 < c → HasValue x s a c → a ≤ B * c → AtMost x B
value_at_most nan s a c B C v h = absurd v
value_at_most (inf t) s a c B C v h = absurd v
value_at_most (fin t m e) s a c B C v h =
    le_of_mul-le-mul_right
    (le_trans (le_of_eq v.1) (le_trans (mul-le-mul_right (down e) h) (le_of_eq (mul_right_comm B c (down e))))) C
