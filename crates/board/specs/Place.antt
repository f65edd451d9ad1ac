-- The board: its range, the places on it, how far numbers are apart, and when two places are too near, the same, or the ends of a straight run.
use Rattle.std.specs.Prelude.{Bool, ℕ, ◌+◌, ℤ, pos, neg_ℤ, nat_abs, ◌-ℤ◌, ltb, eqb}
use Rattle.std.specs.Int.Signed.{lt_z, le_z}
use Rattle.basics.specs.Tests.{both, either, choose}
use Rattle.board.specs.declared.Place.{Place}

-- A place, x before y.
abbrev pub place : ℤ → ℤ → Place
place x y = record { x = x; y = y }

-- x and y go from -60,000 to 60,000.
abbrev pub limit : ℕ
limit = 60000

-- Two pins are too near when both their x and their y differ by less than 20 steps.
abbrev pub least_gap : ℕ
least_gap = 20

-- A number from minus the limit to the limit.
unfoldable pub on_board : ℤ → Bool
on_board z = both (le_z (neg_ℤ (pos limit)) z) (le_z z (pos limit))

-- A place on the board.
unfoldable pub inside : Place → Bool
inside a = both (on_board a.x) (on_board a.y)

-- The middle of the board; it stands in where there is no pin.
abbrev pub middle : Place
middle = place (pos 0) (pos 0)

-- How far two numbers are apart.
unfoldable pub difference : ℤ → ℤ → ℕ
difference a b = nat_abs (a -ℤ b)

-- Two numbers differ by less than the least gap.
unfoldable pub closer : ℤ → ℤ → Bool
closer a b = ltb (difference a b) least_gap

-- Two pins are too near when both their x and their y differ by less than the least gap.
unfoldable pub too_near : Place → Place → Bool
too_near a b = both (closer a.x b.x) (closer a.y b.y)

-- Two numbers do not differ.
unfoldable pub same_number : ℤ → ℤ → Bool
same_number a b = eqb (difference a b) 0

-- Two places are the same.
unfoldable pub same_place : Place → Place → Bool
same_place a b = both (same_number a.x b.x) (same_number a.y b.y)

-- A run whose ends share x or y is straight.
unfoldable pub is_straight : Place → Place → Bool
is_straight a b = either (same_number a.x b.x) (same_number a.y b.y)

-- The larger of two numbers.
unfoldable pub larger : ℤ → ℤ → ℤ
larger a b = choose (lt_z a b) b a

-- The smaller of two numbers.
unfoldable pub smaller : ℤ → ℤ → ℤ
smaller a b = choose (le_z a b) a b

-- Distance is |dx| + |dy|.
unfoldable pub distance_of : Place → Place → ℕ
distance_of a b = difference a.x b.x + difference a.y b.y
