-- The weight of a pair of pins, and which of two pairs comes first.
use Rattle.std.specs.Prelude.{Bool, true, false, ℕ, min, max, ℤ, pos, neg_ℤ, ltb}
use Rattle.std.specs.Int.Signed.{lt_z}
use Rattle.basics.specs.Tests.{choose}
use Rattle.board.specs.declared.Place.{Place}
use Rattle.tree.specs.declared.Weight.{Weight}
use Rattle.tree.specs.declared.Pair.{Pair}
use Rattle.board.specs.Place.{difference, larger, distance_of}

-- A pair of pins has the weight (distance, minus the difference in y, minus the larger x).
unfoldable pub weight_of : Place → Place → Weight
weight_of a b =
    record {
      distance = pos (distance_of a b);
      rise = neg_ℤ (pos (difference a.y b.y));
      right = neg_ℤ (larger a.x b.x);
    }

-- The pair of pin i at a and pin j at b: its weight, its smaller and its larger pin number.
unfoldable pub pair_of : ℕ → Place → ℕ → Place → Pair
pair_of i a j b = record { weight = weight_of a b; low = min i j; high = max i j }

-- Compared by one part, the smaller first; where it is equal, by the rest.
unfoldable pub by_part : ℤ → ℤ → Bool → Bool
by_part a b rest = choose (lt_z a b) true (choose (lt_z b a) false rest)

-- Compared by a pin number, the lower first; where it is equal, by the rest.
unfoldable pub by_number : ℕ → ℕ → Bool → Bool
by_number a b rest = choose (ltb a b) true (choose (ltb b a) false rest)

-- Pairs are compared part by part; where all three parts are equal, the pair with the lower smaller pin number comes first,
-- then the lower larger number.
unfoldable pub comes_before : Pair → Pair → Bool
comes_before p q =
    by_part p.weight.distance q.weight.distance
    (by_part p.weight.rise q.weight.rise
    (by_part p.weight.right q.weight.right
    (by_number p.low q.low (ltb p.high q.high))))
