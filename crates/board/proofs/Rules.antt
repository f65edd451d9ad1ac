-- The rules of a feed: what the tests say of each pin, and which pin can take another's number. Assumes nothing.
use mathlib.Core.Path.{◌≡◌, refl}
use mathlib.Core.Bool.{true, false}
use mathlib.Core.List.{List}
use Prim.Native.Nat.{ℕ, ◌<◌}
use lib.ListN.{set}
use Rattle.basics.specs.Tests.{both}
use Rattle.basics.proofs.Anyone.{none_ever, none-set, each_at, two_at, two_set, two_other}
use Rattle.board.specs.Place.{inside, on_board}
use Rattle.board.specs.Spots.{Spot}
use Rattle.std.specs.Prelude.{None, Some}
use Rattle.board.specs.Spots.{place_of, spot_at, within, spots_too_near, too_near_any, too_near_other, all_within, all_apart, place_at}
use Rattle.board.proofs.Near.{near_turned}

-- ---- pins that are too near

-- Two pins are too near each other, not one to the other.
pub spots_turned : (s t : Spot) → spots_too_near s t ≡ spots_too_near t s
unfolding spots_too_near
spots_turned None None = refl
spots_turned None (Some q) = refl
spots_turned (Some p) None = refl
spots_turned (Some p) (Some q) = near_turned p q

-- A pin that is absent is near none.
pub absent_clear : (feed : List Spot) → too_near_any None feed ≡ false
unfolding spots_too_near
absent_clear feed = none_ever (spots_too_near None) (λ t. refl) feed

-- No pin is near one that is absent.
pub clear_absent : (s : Spot) → spots_too_near s None ≡ false
unfolding spots_too_near
clear_absent s = spots_turned s None

-- A pin that is near none of a feed is near no other, whatever its number.
pub clear_other : (s : Spot) (feed : List Spot) (p : ℕ) → too_near_any s feed ≡ false → too_near_other feed p s ≡ false
unfolding too_near_other
clear_other s feed p e = none-set (spots_too_near s) feed p None e (clear_absent s)

-- Pin p can be changed to one that no other is too near to.
pub apart_set : (s : Spot) (feed : List Spot) (p : ℕ) → all_apart feed ≡ true → too_near_other feed p s ≡ false → all_apart (set feed p s) ≡ true
unfolding too_near_other
apart_set s feed p a e = two_set spots_too_near spots_turned None feed p s a e

-- Of pins apart from each other none is too near to another.
pub apart_at : (feed : List Spot) (p : ℕ) → all_apart feed ≡ true → too_near_other feed p (spot_at feed p) ≡ false
unfolding too_near_other
apart_at feed p a = two_other spots_too_near spots_turned None clear_absent feed p a

-- Nor are the pins of two numbers.
pub apart_pair : (feed : List Spot) (i j : ℕ) → all_apart feed ≡ true → i < j → spots_too_near (spot_at feed i) (spot_at feed j) ≡ false
apart_pair feed i j a h = two_at spots_too_near None feed i j a h (λ k. clear_absent)

-- ---- pins on the board

-- Every pin of a feed on the board is on the board.
pub within_at : (feed : List Spot) (p : ℕ) → all_within feed ≡ true → within (spot_at feed p) ≡ true
unfolding within
within_at feed p w = each_at within None feed p w (λ k. refl)

-- Where a pin on the board stands is on the board; the middle of the board is, too.
pub within-inside : (s : Spot) → within s ≡ true → inside (place_of s) ≡ true
unfolding within inside on_board both
within-inside None e = refl
within-inside (Some p) e = e

-- So the place of every number is on the board.
pub inside_at : (feed : List Spot) → all_within feed ≡ true → (p : ℕ) → inside (place_at feed p) ≡ true
inside_at feed w p = within-inside (spot_at feed p) (within_at feed p w)
