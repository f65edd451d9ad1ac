-- What a clean list of segments is, with no word of how it is made. A segment is a leg, which has two ends.
use Rattle.std.specs.Prelude.{◌≡◌, Bool, true, false, not, List, [], ◌∷◌, map, ℕ, ℤ}
use Rattle.std.specs.Int.Signed.{lt_z}
use Rattle.basics.specs.Tests.{both, either, choose}
use Rattle.basics.specs.Lists.{Among}
use Rattle.basics.specs.Sums.{sum}
use Rattle.board.specs.Place.{same_number, same_place, distance_of}
use Rattle.copper.specs.declared.Leg.{Leg}
use Rattle.copper.specs.Length.{Step, steps_of, steps_of_all}

-- A segment lies along a row or along a column, goes from its smaller x or y, and is at least one step long.
pub data Segment (s : Leg) : Type 0 where
  in_row : s.from.y ≡ s.to.y → lt_z s.from.x s.to.x ≡ true → Segment s
  in_column : s.from.x ≡ s.to.x → lt_z s.from.y s.to.y ≡ true → Segment s

-- A segment is horizontal; any other is vertical.
abbrev pub horizontal : Leg → Bool
horizontal s = same_number s.from.y s.to.y

-- Two numbers rise to two others: by the first, and where that is the same by the second.
unfoldable pub rises : ℤ → ℤ → ℤ → ℤ → Bool
rises a b v w = either (lt_z a v) (both (same_number a v) (lt_z b w))

-- Horizontal ones by rising y and then x, then vertical ones by rising x and then y.
unfoldable pub comes_first : Leg → Leg → Bool
comes_first s t =
    choose (horizontal s)
    (choose (horizontal t) (rises s.from.y s.from.x t.from.y t.from.x) true)
    (choose (horizontal t) false (rises s.from.x s.from.y t.from.x t.from.y))

-- Both are horizontal, or both vertical, and the second begins where the first ends: they could be joined.
unfoldable pub joinable : Leg → Leg → Bool
joinable s t = both (same_place s.to t.from) (choose (horizontal s) (horizontal t) (not (horizontal t)))

-- A segment stands in the list before another: it comes first, they share no step, and they could not be joined.
pub record StandsBefore (s t : Leg) : Type 0 where
  pub ordered : comes_first s t ≡ true
  pub unshared : (step : Step) → Among step (steps_of s) → Among step (steps_of t) → ⊥
  pub unjoined : joinable s t ≡ false

-- A CLEAN LIST: of segments, each standing before all later ones.
pub data CleanList : List Leg → Type 0 where
  none : CleanList []
  one : {s : Leg} {l : List Leg} → Segment s → ((t : Leg) → Among t l → StandsBefore s t) → CleanList l → CleanList (s ∷ l)

-- Two lists of legs or segments cover exactly the same steps.
pub record SameSteps (l m : List Leg) : Type 0 where
  pub there : (step : Step) → Among step (steps_of_all l) → Among step (steps_of_all m)
  pub back : (step : Step) → Among step (steps_of_all m) → Among step (steps_of_all l)

-- How long a segment is: as far as its ends are apart.
abbrev pub long_of : Leg → ℕ
long_of s = distance_of s.from s.to

-- The segment lengths added up.
unfoldable pub total_length : List Leg → ℕ
total_length l = sum (map long_of l)
