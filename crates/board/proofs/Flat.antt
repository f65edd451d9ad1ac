-- Geometry in ℕ: a place of the grid moved up by 2 ^ 31 on both axes, differences and distances there. Assumes nothing.
use mathlib.Core.Path.{◌≡◌, refl}
use mathlib.Core.Bool.{Bool, true, false}
use mathlib.Core.Logic.{◌⊎◌, inl, inr}
use Prim.Native.Nat.{ℕ, ◌+◌, ◌-◌, ◌<◌, ◌≤◌}
use native.Mathlib.Omega.{arith}
use lib.Dec.{ltb, eqb}
use lib.IntN.{ℤ}
use borrow.Author.Tests.{ltb-true, ltb-false, eqb-true, eqb-false}
use Rattle.basics.proofs.Tests.{both_left, both_right}
use Rattle.board.specs.declared.Place.{Place}
use Rattle.board.specs.Place.{inside, difference}
use Rattle.board.specs.Place.{distance_of}
use Rattle.board.proofs.Signed.{off, I32, difference_off}
use Rattle.board.proofs.Board.{number_held}

-- How far two natural numbers are apart. It stays shut: its laws are below.
unfoldable pub gap : ℕ → ℕ → ℕ
gap a b = (a - b) + (b - a)

module _ (a b : ℕ) where
  -- From the smaller number up by the gap to the larger,
  pub gap_up : a ≤ b → gap a b + a ≡ b
  unfolding gap
  gap_up h = omega arith

  -- whichever of the two it is;
  pub gap_down : b ≤ a → gap a b + b ≡ a
  unfolding gap
  gap_down h = omega arith

  -- the gap is the same both ways.
  pub gap_swap : gap a b ≡ gap b a
  unfolding gap
  gap_swap = omega arith

  -- A bound that holds whichever is larger.
  pub gap_below : (m : ℕ) → a < m → b < m → gap a b < m
  unfolding gap
  gap_below m h k = omega arith

-- There is no gap between a number and itself.
pub gap_self : (a : ℕ) → gap a a ≡ 0
unfolding gap
gap_self a = omega arith

-- By way of a third number it is no shorter.
pub gap_through : (a b c : ℕ) → gap a c ≤ gap a b + gap b c
unfolding gap
gap_through a b c = omega arith

-- Two numbers in order, by the test.
order_by : (t : Bool) (a b : ℕ) → ltb b a ≡ t → (a ≤ b) ⊎ (b < a)
order_by true a b e = inr (ltb-true b a e)
order_by false a b e = inl (ltb-false b a e)

-- The first of two numbers is at most the second, or the second is less.
pub order : (a b : ℕ) → (a ≤ b) ⊎ (b < a)
order a b = order_by (ltb b a) a b refl

-- Two numbers the same or not, by the test.
same_by : (t : Bool) (a b : ℕ) → eqb a b ≡ t → (a ≡ b) ⊎ (a ≡ b → ⊥)
same_by true a b e = inl (eqb-true a b e)
same_by false a b e = inr (eqb-false a b e)

-- Two numbers are the same or they are not.
pub same_or_not : (a b : ℕ) → (a ≡ b) ⊎ (a ≡ b → ⊥)
same_or_not a b = same_by (eqb a b) a b refl

-- A place in ℕ.
pub record Site : Type 0 where
  pub x : ℕ
  pub y : ℕ

-- The distance of two places in ℕ.
unfoldable pub span : Site → Site → ℕ
span a b = gap a.x b.x + gap a.y b.y

-- It is the same both ways.
pub span_swap : (a b : Site) → span a b ≡ span b a
unfolding span
span_swap a b = omega (arith, gap_swap a.x b.x, gap_swap a.y b.y)

-- A place, moved up.
abbrev pub site : Place → Site
site a = record { x = off a.x; y = off a.y }

-- The numbers of a place are those of an i32, as the code's always are.
pub record PlaceI32 (a : Place) : Type 0 where
  pub x : I32 a.x
  pub y : I32 a.y

-- So are those of a place of the board.
pub place_held : (a : Place) → inside a ≡ true → PlaceI32 a
unfolding inside
place_held a e = record { x = number_held a.x (both_left _ _ e); y = number_held a.y (both_right _ _ e) }

-- How far two numbers are apart is the gap between them, moved.
pub difference_gap : (a b : ℤ) → I32 a → I32 b → difference a b ≡ gap (off a) (off b)
unfolding gap
difference_gap = difference_off

-- The distance of two places is that of their sites.
pub distance_span : {a b : Place} → PlaceI32 a → PlaceI32 b → distance_of a b ≡ span (site a) (site b)
unfolding distance_of span
distance_span {a} {b} p q =
    omega (arith, difference_gap a.x b.x p.x q.x, difference_gap a.y b.y p.y q.y)
