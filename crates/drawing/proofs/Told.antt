-- What stands at each pin number of a drawing, and of the feed of a net, told by lists of x, of y and of whether a pin is there. The clause of
-- `drawing::feed_of`, which proofs/feed_of shows, says that the code's answer is `feed_of`: with `feed_told` it tells each spot of that answer, by whether
-- the pin is of the net, its x and its y. So too the clause of `drawing::spots_of`, which proofs/spots_of shows, with `spots_told`. Assumes nothing.
use mathlib.Core.Path.{◌≡◌, refl, sym, ap, ◌∙◌}
use mathlib.Core.Bool.{Bool, false}
use mathlib.Core.List.{List, map}
use Prim.Native.Nat.{ℕ, ◌<◌}
use native.Mathlib.Omega.{arith}
use lib.IntN.{ℤ, pos}
use lib.ListN.{length, get_or, length-map, get_or-map}
use lib.Seq.{ext_get_or}
use Rattle.std.specs.Prelude.{None, Some}
use Rattle.basics.specs.Tests.{choose}
use Rattle.basics.proofs.Lists.{values_long, value_at}
use Rattle.board.specs.Spots.{Spot, most_pins, spot_at}
use Rattle.drawing.specs.Pins.{Pin, absent, is_there, is_of, spot_of, spots_of, feed_spot, feed_of, held_by}
use Rattle.drawing.specs.Lists.{x_of, y_of, spot_by, spots_from}

module _ (xs ys : List ℤ) (ts : List Bool) where
  -- The lists tell as many spots as there are pin numbers,
  told_many : length (spots_from xs ys ts) ≡ most_pins
  unfolding spots_from
  told_many = values_long _ 0 most_pins

  -- and at each number what they say there.
  told_at : (i : ℕ) → i < most_pins → spot_at (spots_from xs ys ts) i ≡ spot_by (get_or ts i false) (get_or xs i (pos 0)) (get_or ys i (pos 0))
  unfolding spots_from
  told_at i h = value_at _ most_pins i None h

  -- Spots that are at each number what the lists say are those that the lists tell.
  pub spots_are : (feed : List Spot) → length feed ≡ most_pins
      → ((i : ℕ) → i < most_pins → spot_at feed i ≡ spot_by (get_or ts i false) (get_or xs i (pos 0)) (get_or ys i (pos 0))) → feed ≡ spots_from xs ys ts
  spots_are feed e f =
      ext_get_or None feed (spots_from xs ys ts) (omega (arith, told_many))
      (λ i h. f i (omega arith) ∙ sym (told_at i (omega arith)))

-- What is read off each pin is told by the lists of all pins' x and y and of what a test says of each, where the test of the pin, its x and its y tell it,
-- and nothing is read off an absent pin, which does not pass.
pub told_by : (f : Pin → Spot) (test : Pin → Bool) → f absent ≡ None → test absent ≡ false → ((q : Pin) → f q ≡ spot_by (test q) (x_of q) (y_of q))
    → (l : List Pin) → length l ≡ most_pins → map f l ≡ spots_from (map x_of l) (map y_of l) (map test l)
unfolding held_by
told_by f test a t each l e =
    spots_are (map x_of l) (map y_of l) (map test l) (map f l) (length-map l f ∙ e)
    (λ i h.
    let b : get_or (map test l) i false ≡ test (get_or l i absent) = ap (get_or (map test l) i) (sym t) ∙ get_or-map test l i absent in
    ap (get_or (map f l) i) (sym a) ∙ get_or-map f l i absent ∙ each (get_or l i absent)
    ∙ sym (rw (b, get_or-map x_of l i absent, get_or-map y_of l i absent)))

-- What stands at the number of a pin is told by whether it is there, its x and its y,
pin_told : (q : Pin) → spot_of q ≡ spot_by (is_there q) (x_of q) (y_of q)
unfolding spot_of is_there held_by choose
pin_told None = refl
pin_told (Some h) = refl

-- and what the feed of a net has there by whether the pin is of the net, its x and its y.
pin_fed : (net : ℕ) (q : Pin) → feed_spot net q ≡ spot_by (is_of net q) (x_of q) (y_of q)
unfolding feed_spot is_of spot_of held_by choose
pin_fed net None = refl
pin_fed net (Some h) = refl

module _ (l : List Pin) where
  -- What stands at each pin number is told by the lists of all pins' x and y and of which pins are there,
  pub spots_told : length l ≡ most_pins → spots_of l ≡ spots_from (map x_of l) (map y_of l) (map is_there l)
  unfolding spots_of spot_of is_there
  spots_told = told_by spot_of is_there refl refl pin_told l

  module _ (net : ℕ) where
    -- and the feed of a net by the same lists of x and y and that of which pins are of the net.
    pub feed_told : length l ≡ most_pins → feed_of l net ≡ spots_from (map x_of l) (map y_of l) (map (is_of net) l)
    unfolding feed_of feed_spot is_of choose
    feed_told = told_by (feed_spot net) (is_of net) refl refl (pin_fed net) l

    -- A list that is taken off the pins, each with what the feed of a net has at its number, is the feed.
    pub feed_listed : {m : List Spot} → m ≡ map (feed_spot net) l → feed_of l net ≡ m
    unfolding feed_of
    feed_listed e = sym e
