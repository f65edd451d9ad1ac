-- The runs of a feed, by when their pins are reached, are laid as the length asks. From pins that stand on the board, no two of them too near.
use mathlib.Core.Path.{◌≡◌, refl, sym, ap, ◌∙◌}
use mathlib.Core.Bool.{Bool, true, false}
use mathlib.Core.List.{List, ◌∷◌}
use mathlib.Core.Logic.{◌⊎◌, inl, inr}
use Prim.Native.Nat.{ℕ, zero, suc, ◌+◌, ◌≤◌, ◌<◌}
use native.Mathlib.Omega.{arith}
use lib.IntN.{ℤ}
use lib.Dec.{eqb}
use lib.ListN.{length, get_or}
use borrow.Author.Tests.{eq-eqb, eqb-true, eqb-false, lt-ltb}
use Rattle.basics.specs.Tests.{choose}
use Rattle.basics.proofs.Tests.{opposite, both_of, both_left, both_right, choose_yes, choose_no}
use Rattle.board.specs.declared.Place.{Place}
use Rattle.board.specs.Spots.{Spot}
use Rattle.std.specs.Prelude.{None, Some}
use Rattle.board.specs.Place.{least_gap, difference, same_number, closer, too_near, same_place}
use Rattle.board.proofs.Signed.{I32, difference_off}
use Rattle.board.proofs.Flat.{Site, site, PlaceI32, order}
use Rattle.tree.specs.declared.Run.{Run}
use Rattle.board.specs.Spots.{most_pins, present, place_of, spot_at, place_at, spots_too_near, all_within, all_apart}
use Rattle.board.proofs.Rules.{apart_pair}
use Rattle.tree.specs.Growth.{pins_of, runs_of}
use Rattle.tree.specs.Reached.{run_at, reached_pin, reached_near, reached_place}
use Rattle.tree.proofs.Membership.{Among, pins_there_lem}
use Rattle.tree.proofs.Listing.{Rooted, pins_low, runs_rooted}
use Rattle.spanning.proofs.Positions.{near_before, near_pin_lem, far_pin, pin_there, reached_once}
use Rattle.tree.proofs.Numbering.{stands}
use Rattle.least.proofs.Laid.{Spaced}
use Rattle.least.proofs.Planted.{planted}
use Rattle.laying.specs.Reaching.{reached_as}

-- Two numbers that are the same differ by less than the least gap.
same-closer : (a b : ℤ) → same_number a b ≡ true → closer a b ≡ true
unfolding same_number closer
same-closer a b e = lt-ltb (difference a b) least_gap (let z : difference a b < least_gap = omega (arith, eqb-true (difference a b) 0 e) in z)

-- Two places that are the same are too near.
same_near : (p q : Place) → same_place p q ≡ true → too_near p q ≡ true
unfolding too_near same_place
same_near p q e = both_of (same-closer p.x q.x (both_left _ _ e)) (same-closer p.y q.y (both_right _ _ e))

-- Two pins that are there at one place are too near.
same_spots : (s t : Spot) → present s ≡ true → present t ≡ true → same_place (place_of s) (place_of t) ≡ true → spots_too_near s t ≡ true
unfolding spots_too_near
same_spots None t a b e = absurd (opposite a refl)
same_spots (Some p) None a b e = absurd (opposite b refl)
same_spots (Some p) (Some q) a b e = same_near p q e

-- Numbers that are the same are so in either order ..
turned : (a b : ℤ) → I32 a → I32 b → same_number a b ≡ true → same_number b a ≡ true
unfolding same_number
turned a b p q e =
    eq-eqb (difference b a) 0 (let z : difference b a ≡ 0 = omega (arith, eqb-true (difference a b) 0 e, difference_off a b p q, difference_off b a q p) in z)

-- .. and so are places.
place_turned : (a b : Place) → PlaceI32 a → PlaceI32 b → same_place a b ≡ true → same_place b a ≡ true
unfolding same_place
place_turned a b p q e =
    both_of (turned a.x b.x p.x q.x (both_left (same_number a.x b.x) (same_number a.y b.y) e))
    (turned a.y b.y p.y q.y (both_right (same_number a.x b.x) (same_number a.y b.y) e))

module _ (feed : List Spot) (full : length feed ≡ most_pins) (ok : all_within feed ≡ true) (f : ℕ) (left : List ℕ) (e : pins_of feed ≡ f ∷ left) where
  abbrev runs : List Run
  runs = runs_of feed

  abbrev n : ℕ
  n = length runs

  abbrev at : ℕ → Place
  at = reached_place feed runs

  abbrev near : ℕ → ℕ
  near = reached_near runs

  abbrev sites : ℕ → Site
  sites i = site (at i)

  abbrev root : Rooted f left runs
  root = runs_rooted feed full ok f left e

  -- Where the near pin of a run stands ..
  pub near_place : (r : ℕ) → r < n → at (near r) ≡ place_at feed (run_at runs r).near
  near_place r l = ap (place_at feed) (near_pin_lem f left runs root r l)

  -- .. and where its far pin does.
  pub far_place : (r : ℕ) → at (suc r) ≡ place_at feed (run_at runs r).far
  far_place r = ap (place_at feed) (far_pin f left runs root r)

  -- Near pins are reached first.
  pub grown : (r : ℕ) → r < n → near r ≤ r
  grown = near_before f left runs root

  -- The pins that are reached are numbered from 0 to 31,
  low : (i : ℕ) → 0 < n → i < suc n → reached_pin runs i < most_pins
  low i l h = pins_low feed full ok f left e (reached_pin runs i) (pin_there f left runs root i l h)

  -- and so are near pins
  pub near_low : (r : ℕ) → r < n → (run_at runs r).near < most_pins
  near_low r l = rw (sym (near_pin_lem f left runs root r l)) (low (near r) (omega arith) (omega (arith, grown r l)))

  -- and far pins.
  pub far_low : (r : ℕ) → r < n → (run_at runs r).far < most_pins
  far_low r l = rw (sym (far_pin f left runs root r)) (low (suc r) (omega arith) (omega arith))

  module _ (r : ℕ) (l : r < n) where
    abbrev pin : ℕ
    pin = (run_at runs r).near

    -- A run before run r that reaches its near pin reaches it as its number.
    hit : (k : ℕ) → k < r → (run_at runs k).far ≡ pin → suc k ≡ near r
    hit k h q =
        reached_once f left runs root (suc k) (near r) (omega arith) (omega (arith, grown r l))
        (far_pin f left runs root k ∙ q ∙ sym (near_pin_lem f left runs root r l))

    -- The first k runs tell that number once they reach the pin, and 0 before.
    told_by : (k : ℕ) → k ≤ r → (near r ≤ k → reached_as runs k pin ≡ near r) × (k < near r → reached_as runs k pin ≡ 0)
    unfolding reached_as
    told_by zero h = (λ m. omega arith, λ m. refl)
    told_by (suc k) h = go (eqb (run_at runs k).far pin) refl (told_by k (omega arith))
      where
        past : ((run_at runs k).far ≡ pin → ⊥) → near r ≡ suc k → ⊥
        past q s = q (sym (far_pin f left runs root k) ∙ ap (reached_pin runs) (sym s) ∙ near_pin_lem f left runs root r l)

        go : (b : Bool) → eqb (run_at runs k).far pin ≡ b → (near r ≤ k → reached_as runs k pin ≡ near r) × (k < near r → reached_as runs k pin ≡ 0)
            → (near r ≤ suc k → choose b (suc k) (reached_as runs k pin) ≡ near r) × (suc k < near r → choose b (suc k) (reached_as runs k pin) ≡ 0)
        go true q before =
            let s : suc k ≡ near r = hit k (omega arith) (eqb-true (run_at runs k).far pin q) in
            (λ m. choose_yes (suc k) (reached_as runs k pin) refl ∙ s, λ m. absurd (omega arith))
        go false q before =
            let ne : near r ≡ suc k → ⊥ = past (eqb-false (run_at runs k).far pin q) in
            let none = choose_no (suc k) (reached_as runs k pin) refl in
            (λ m. none ∙ before.0 (omega (arith, ne)), λ m. none ∙ before.1 (omega arith))

    -- So the runs before run r tell the number as which its near pin is reached.
    pub near_told : reached_as runs r pin ≡ near r
    near_told = (told_by r (omega arith)).0 (grown r l)

  module _ (free : all_apart feed ≡ true) where
    -- The pins that are listed are there.
    there : (a : ℕ) → Among a (f ∷ left) → present (spot_at feed a) ≡ true
    unfolding pins_of
    there a m =
        let z = pins_there_lem 0 feed (rw (sym e) at m) in
        let q : 0 + z.0 ≡ z.0 = omega arith in
        ap (λ (p : ℕ). present (get_or feed p None)) (z.1 ∙ q) ∙ z.3

    -- No two pins stand at one place.
    apart : (a b : ℕ) → a < b → b < most_pins → Among a (f ∷ left) → Among b (f ∷ left) → same_place (place_at feed a) (place_at feed b) ≡ true → ⊥
    apart a b l k m o h =
        opposite (same_spots (spot_at feed a) (spot_at feed b) (there a m) (there b o) h) (apart_pair feed a b free l)

    -- Pins at one place are one pin.
    distinct : (a b : ℕ) → Among a (f ∷ left) → Among b (f ∷ left) → same_place (place_at feed a) (place_at feed b) ≡ true → a ≡ b
    distinct a b m o h = go (order a b) (order b a)
      where
        go : (a ≤ b) ⊎ (b < a) → (b ≤ a) ⊎ (a < b) → a ≡ b
        go (inl p) (inl q) = omega arith
        go (inl p) (inr q) = absurd (apart a b q (pins_low feed full ok f left e b o) m o h)
        go (inr p) q =
            absurd
            (apart b a p (pins_low feed full ok f left e a m) o m
            (place_turned (place_at feed a) (place_at feed b) (stands feed ok a).held (stands feed ok b).held h))

    -- The runs are laid as the length asks.
    pub laid : Spaced sites near n
    laid = planted feed full ok f left e distinct
