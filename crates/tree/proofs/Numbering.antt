-- One number for each pair of pins of a feed, its key: `comes_before` is the order of keys. From pins that stand on the board.
use mathlib.Core.Path.{◌≡◌}
use mathlib.Core.Bool.{true}
use mathlib.Core.List.{List}
use Prim.Native.Nat.{ℕ, ◌<◌}
use native.Mathlib.Omega.{arith}
use Rattle.board.specs.Spots.{Spot}
use Rattle.board.proofs.Flat.{Site, site, place_held}
use Rattle.tree.proofs.Keys.{OnBoard, on_board_lem, Fits, key, key_swap, key_one, before_key}
use Rattle.tree.proofs.Order.{Pin, pin_fits_lem}
use Rattle.board.specs.Spots.{most_pins, place_at, all_within}
use Rattle.tree.specs.Growth.{pair_at}
use Rattle.board.proofs.Rules.{inside_at}
use Rattle.tree.proofs.Earliest.{Keyed}

-- Where a pin of a feed stands, in ℕ.
abbrev pub site_at : List Spot → ℕ → Site
site_at feed a = site (place_at feed a)

-- The key of two pins of a feed.
unfoldable pub key_at : List Spot → ℕ → ℕ → ℕ
key_at feed a b = key (site_at feed a) a (site_at feed b) b

module _ (feed : List Spot) (ok : all_within feed ≡ true) where
  -- Every pin's place is one of the board.
  pub stands : (a : ℕ) → OnBoard (place_at feed a)
  stands a = on_board_lem (place_held (place_at feed a) (inside_at feed ok a)) (inside_at feed ok a)

  -- A pin of the feed, as one that has a key.
  pin : (a : ℕ) → a < most_pins → Pin
  pin a h = record { number = a; place = place_at feed a; few = h; on = stands a }

  -- The site and the number of a pin fit the digits of a key.
  pub fits : (a : ℕ) → a < most_pins → Fits (site_at feed a) a
  unfolding pin
  fits a h = pin_fits_lem (pin a h)

  -- These keys order the pairs of the feed's pins.
  pub keyed : Keyed feed (key_at feed)
  unfolding key_at pair_at
  keyed =
      record {
        swap = λ a b. key_swap (site_at feed a) a (site_at feed b) b;
        order = λ a b c d ha hb hc hd. before_key a b c d (stands a) (stands b) (stands c) (stands d) (omega arith) (omega arith) (omega arith) (omega arith);
        told = λ a b c d ha hb hc hd e.
            key_one (site_at feed a) a (site_at feed b) b (site_at feed c) c (site_at feed d) d (fits a ha) (fits b hb) (fits c hc) (fits d hd) e;
      }
