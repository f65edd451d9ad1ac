-- The feed of a net of a drawing that keeps the rules keeps them too: as many numbers, each pin on the board, no two too near. Assumes nothing.
use mathlib.Core.Path.{◌≡◌, refl, ap, ◌∙◌}
use mathlib.Core.Bool.{Bool, true, false, not}
use mathlib.Core.List.{List, [], ◌∷◌, map}
use Prim.Native.Nat.{ℕ}
use borrow.Author.Tests.{not-true}
use lib.ListN.{length, length-map}
use Rattle.basics.specs.Tests.{choose, any_of, each_of, no_two}
use Rattle.basics.proofs.Tests.{both_left, both_right, both_of, either-false, either_no}
use Rattle.std.specs.Prelude.{None}
use Rattle.board.specs.Spots.{Spot, most_pins, within, spots_too_near, too_near_any, all_within, all_apart}
use Rattle.board.proofs.Rules.{absent_clear, clear_absent}
use Rattle.drawing.specs.Pins.{Pin, is_of, spot_of, spots_of, feed_spot, feed_of, lawful}
use Rattle.drawing.proofs.Rules.{lawful_parts}

-- ---- one pin, which is in the feed or not

-- A pin on the board stays on it,
within_fed : (t : Bool) (s : Spot) → within s ≡ true → within (choose t s None) ≡ true
unfolding choose within
within_fed true s e = e
within_fed false s e = refl

-- one that another is not too near to stays so,
clear_fed : (s : Spot) (t : Bool) (r : Spot) → spots_too_near s r ≡ false → spots_too_near s (choose t r None) ≡ false
unfolding choose
clear_fed s true r e = e
clear_fed s false r e = clear_absent s

-- and so does one that is near none.
none_fed : (t : Bool) (s : Spot) (feed : List Spot) → too_near_any s feed ≡ false → too_near_any (choose t s None) feed ≡ false
unfolding choose
none_fed true s feed e = e
none_fed false s feed e = absent_clear feed

-- ---- all pins

module _ (net : ℕ) where
  -- The pins of the feed are on the board where all pins are.
  fed_within : (l : List Pin) → all_within (map spot_of l) ≡ true → all_within (map (feed_spot net) l) ≡ true
  unfolding each_of feed_spot
  fed_within [] e = refl
  fed_within (q ∷ l) e = both_of (within_fed (is_of net q) (spot_of q) (both_left _ _ e)) (fed_within l (both_right _ _ e))

  -- A pin that is near none of all pins is near none of the feed.
  fed_clear : (s : Spot) (l : List Pin) → too_near_any s (map spot_of l) ≡ false → too_near_any s (map (feed_spot net) l) ≡ false
  unfolding any_of feed_spot
  fed_clear s [] e = refl
  fed_clear s (q ∷ l) e =
      let h = either-false _ _ e in either_no (clear_fed s (is_of net q) (spot_of q) h.0) (fed_clear s l h.1)

  -- No two pins of the feed are too near where no two of all pins are.
  fed_apart : (l : List Pin) → all_apart (map spot_of l) ≡ true → all_apart (map (feed_spot net) l) ≡ true
  unfolding no_two feed_spot
  fed_apart [] e = refl
  fed_apart (q ∷ l) e =
      both_of (ap not (none_fed (is_of net q) (spot_of q) (map (feed_spot net) l) (fed_clear (spot_of q) l (not-true _ (both_left _ _ e)))))
      (fed_apart l (both_right _ _ e))

-- ---- the feed of a net of a drawing that keeps the rules

module _ (l : List Pin) (net : ℕ) (e : lawful l ≡ true) where
  -- It has as many numbers as the drawing,
  pub feed_long : length (feed_of l net) ≡ most_pins
  unfolding feed_of
  feed_long = length-map l (feed_spot net) ∙ (lawful_parts l e).long

  -- its pins are on the board,
  pub feed_within : all_within (feed_of l net) ≡ true
  unfolding feed_of spots_of
  feed_within = fed_within net l (lawful_parts l e).board

  -- and no two of them are too near.
  pub feed_apart : all_apart (feed_of l net) ≡ true
  unfolding feed_of spots_of
  feed_apart = fed_apart net l (lawful_parts l e).apart
