-- Numbers of two places of the board: what the weight of a pair is worked out of, and that all of it fits. Assumes nothing.
use Rattle.std.proofs.Common.{◌≡◌, ℕ, ◌+◌, ◌*◌, ◌≤◌, true, to_z, of_z, w32, ◌+ℤ◌, ℤ, pos, neg_ℤ, ◌-ℤ◌, ◌≤ℤ◌, arith}
use Rattle.std.proofs.lemmas.Int.{ints}
use Rattle.std.specs.Int.{int_max}
use Rattle.basics.specs.Tests.{both, choose}
use Rattle.basics.proofs.Tests.{both_left, both_right}
use Rattle.board.specs.declared.Place.{Place}
use Rattle.board.specs.Place.{limit, on_board, inside, difference, larger, distance_of}
use Rattle.tree.specs.Weight.{weight_of}

-- A number of the board.
pub record Near (z : ℤ) : Type 0 where
  pub low : neg_ℤ (pos limit) ≤ℤ z
  pub high : z ≤ℤ pos limit

near : (z : ℤ) → on_board z ≡ true → Near z
unfolding on_board both
near z e = record { low = grind (arith, ints); high = grind (arith, ints) }

-- The numbers of two places of the board.
pub record AllNear (a b : Place) : Type 0 where
  pub ax : Near a.x
  pub ay : Near a.y
  pub bx : Near b.x
  pub by : Near b.y

pub all_near : (a b : Place) → (inside a ≡ true) × (inside b ≡ true) → AllNear a b
unfolding inside
all_near a b e =
    record {
      ax = near a.x (both_left _ _ e.0);
      ay = near a.y (both_right (on_board a.x) _ e.0);
      bx = near b.x (both_left _ _ e.1);
      by = near b.y (both_right (on_board b.x) _ e.1);
    }

-- Two numbers of the board are at most twice the limit apart.
pub apart_near : (a b : ℤ) → Near a → Near b → difference a b ≤ 2 * limit
unfolding difference
apart_near a b p q = omega (arith, ints)

-- The larger of two numbers is what the library has as the larger.
pub larger_is : (a b : ℤ) → int_max a b ≡ larger a b
unfolding larger choose
larger_is a b = grind (arith, ints)

-- Such a distance, negated, fits, and so do the sum of two of them and the larger of two numbers, negated.
module _ (m n : ℕ) (p : m ≤ 2 * limit) (q : n ≤ 2 * limit) where
  sum_is : to_z w32 (of_z w32 (to_z w32 (of_z w32 (pos m)) +ℤ to_z w32 (of_z w32 (pos n)))) ≡ pos (m + n)
  sum_is = omega (arith, ints)

minus_is : (z : ℤ) → neg_ℤ (pos (2 * limit)) ≤ℤ z → z ≤ℤ pos (2 * limit) → to_z w32 (of_z w32 (pos 0 -ℤ to_z w32 (of_z w32 z))) ≡ neg_ℤ z
minus_is z p q = omega (arith, ints)

larger_near : (a b : ℤ) → Near a → Near b → Near (larger a b)
unfolding larger choose
larger_near a b p q = record { low = grind (arith, ints); high = grind (arith, ints) }

-- So the parts that are worked out of two places of the board are those of their weight.
pub weight_told : {a b : Place} {dx dy right : ℤ} → AllNear a b → dx ≡ pos (difference a.x b.x) → dy ≡ pos (difference a.y b.y) → right ≡ larger a.x b.x
    → record { distance = to_z w32 (of_z w32 (to_z w32 (of_z w32 dx) +ℤ to_z w32 (of_z w32 dy))); rise = to_z w32 (of_z w32 (pos 0 -ℤ to_z w32 (of_z w32 dy))); right = to_z w32 (of_z w32 (pos 0 -ℤ to_z w32 (of_z w32 right))) }
    ≡ weight_of a b
unfolding weight_of distance_of
weight_told {a} {b} near dx dy right =
    let x = apart_near a.x b.x near.ax near.bx in
    let y = apart_near a.y b.y near.ay near.by in
    let r = larger_near a.x b.x near.ax near.bx in
    rw (
      dx,
      dy,
      right,
      sum_is _ _ x y,
      minus_is (pos (difference a.y b.y)) (omega (arith, ints)) (omega (arith, ints)),
      minus_is (larger a.x b.x) (omega (arith, ints)) (omega (arith, ints)),
    )
