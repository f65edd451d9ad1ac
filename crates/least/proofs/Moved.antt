-- The words of the definitions, moved by 2 ^ 31: whether a run is straight, and where its corners are. Assumes that places are held by i32.
use mathlib.Core.Path.{◌≡◌, refl, ap, ap₂, ◌∙◌}
use mathlib.Core.Bool.{Bool, true, false, cond}
use Prim.Native.Nat.{ℕ, min, max}
use native.Mathlib.Omega.{arith}
use lib.Signed.{le_z}
use lib.Dec.{leb}
use borrow.Author.Tests.{leb-true, leb-false}
use Rattle.basics.specs.Tests.{either, choose}
use Rattle.board.specs.declared.Place.{Place}
use Rattle.board.specs.Place.{is_straight}
use Rattle.board.proofs.Signed.{off, le_z_off}
use Rattle.board.proofs.Flat.{Site, site, PlaceI32}
use Rattle.copper.specs.declared.Shape.TheVariants.{Straight, Lower, Upper}
use Rattle.copper.specs.Shapes.{crossing, lower_corner, upper_corner, corner_of, shape_of}
use Rattle.copper.proofs.Cover.{straight, bend}
use Rattle.least.proofs.Sharing.{near_tip, far_tip, straight_false}
use Rattle.copper.proofs.Measured.{same_x, same_y}

-- Two heights that differ are in one order only.
ordered : (s t : Bool) (h k v w : ℕ) → (h ≡ k → ⊥) → leb h k ≡ s → leb k h ≡ t → cond t v w ≡ cond s w v
ordered true true h k v w n e f = absurd (n (omega (arith, leb-true h k e, leb-true k h f)))
ordered true false h k v w n e f = refl
ordered false true h k v w n e f = refl
ordered false false h k v w n e f = absurd (omega (arith, leb-false h k e, leb-false k h f))

-- The bend is the same seen from either end.
pub bend_turned : (u : Bool) (a b : Site) → (a.y ≡ b.y → ⊥) → bend u b a ≡ bend u a b
unfolding bend
bend_turned false a b n =
    ap₂ (λ (v w : ℕ). record { x = v; y = w }) (ordered (leb a.y b.y) (leb b.y a.y) a.y b.y a.x b.x n refl refl)
    (let z : min b.y a.y ≡ min a.y b.y = omega arith in z)
bend_turned true a b n =
    ap₂ (λ (v w : ℕ). record { x = v; y = w }) (ordered (leb a.y b.y) (leb b.y a.y) a.y b.y b.x a.x n refl refl)
    (let z : max b.y a.y ≡ max a.y b.y = omega arith in z)

-- The run from a to b.
module _ (a b : Place) (p : PlaceI32 a) (q : PlaceI32 b) where
  -- It is straight where it is so between their sites.
  pub straight_site : is_straight a b ≡ straight (site a) (site b)
  unfolding is_straight straight
  straight_site = ap₂ either (same_x a b p q) (same_y a b p q)

  -- Which end is higher does not change.
  height : le_z a.y b.y ≡ leb (off a.y) (off b.y)
  height = le_z_off a.y b.y p.y q.y

  -- Where the lower corner is, by which end is higher,
  lower_by : (t : Bool) → leb (off a.y) (off b.y) ≡ t
      → site (choose t (crossing b a) (crossing a b)) ≡ record { x = cond t (off b.x) (off a.x); y = min (off a.y) (off b.y) }
  unfolding choose
  lower_by true e =
      let h : off a.y ≡ min (off a.y) (off b.y) = omega (arith, leb-true (off a.y) (off b.y) e) in
      ap (λ (z : ℕ). record { x = off b.x; y = z }) h
  lower_by false e =
      let h : off b.y ≡ min (off a.y) (off b.y) = omega (arith, leb-false (off a.y) (off b.y) e) in
      ap (λ (z : ℕ). record { x = off a.x; y = z }) h

  -- and the upper.
  upper_by : (t : Bool) → leb (off a.y) (off b.y) ≡ t
      → site (choose t (crossing a b) (crossing b a)) ≡ record { x = cond t (off a.x) (off b.x); y = max (off a.y) (off b.y) }
  unfolding choose
  upper_by true e =
      let h : off b.y ≡ max (off a.y) (off b.y) = omega (arith, leb-true (off a.y) (off b.y) e) in
      ap (λ (z : ℕ). record { x = off a.x; y = z }) h
  upper_by false e =
      let h : off a.y ≡ max (off a.y) (off b.y) = omega (arith, leb-false (off a.y) (off b.y) e) in
      ap (λ (z : ℕ). record { x = off b.x; y = z }) h

  -- Its lower corner, moved, is the lower bend,
  pub lower_site : site (lower_corner a b) ≡ bend false (site a) (site b)
  unfolding lower_corner bend
  lower_site = rw height (lower_by (leb (off a.y) (off b.y)) refl)

  -- and its upper corner the upper one.
  pub upper_site : site (upper_corner a b) ≡ bend true (site a) (site b)
  unfolding upper_corner bend
  upper_site = rw height (upper_by (leb (off a.y) (off b.y)) refl)

  -- Both crossings of two places are held by i32,
  crossing_held : PlaceI32 (crossing a b) × PlaceI32 (crossing b a)
  crossing_held = (record { x = p.x; y = q.y }, record { x = q.x; y = p.y })

  -- and so is either of two places that are.
  choose_held : (t : Bool) (c d : Place) → PlaceI32 c → PlaceI32 d → PlaceI32 (choose t c d)
  unfolding choose
  choose_held true c d h k = h
  choose_held false c d h k = k

  -- An i32 holds the lower corner,
  pub lower_held : PlaceI32 (lower_corner a b)
  unfolding lower_corner
  lower_held = choose_held (le_z a.y b.y) (crossing b a) (crossing a b) crossing_held.1 crossing_held.0

  -- and the upper one.
  pub upper_held : PlaceI32 (upper_corner a b)
  unfolding upper_corner
  upper_held = choose_held (le_z a.y b.y) (crossing a b) (crossing b a) crossing_held.0 crossing_held.1

module _ (a b : Place) (p : PlaceI32 a) (q : PlaceI32 b) where
  -- An i32 holds the end of the leg that leaves the near end.
  pub corner_held : (u : Bool) → PlaceI32 (corner_of (shape_of u a b) a b)
  unfolding shape_of
  corner_held u = go (is_straight a b) u
    where
      go : (t v : Bool) → PlaceI32 (corner_of (choose t Straight (choose v Upper Lower)) a b)
      go true v = unfold choose in q
      go false true = unfold choose in upper_held a b p q
      go false false = unfold choose in lower_held a b p q

  -- The leg that leaves the near end ends at its tip ..
  pub near_site : (u : Bool) → site (corner_of (shape_of u a b) a b) ≡ near_tip u (site a) (site b)
  unfolding shape_of near_tip
  near_site u = rw (straight_site a b p q) (go (straight (site a) (site b)) u)
    where
      go : (t v : Bool) → site (corner_of (choose t Straight (choose v Upper Lower)) a b) ≡ cond t (site b) (bend v (site a) (site b))
      go true v = unfold choose in refl
      go false true = unfold choose in upper_site a b p q
      go false false = unfold choose in lower_site a b p q

  -- .. and the one that leaves the far end at its own.
  pub far_site : (u : Bool) → site (corner_of (shape_of u a b) b a) ≡ far_tip u (site a) (site b)
  unfolding shape_of far_tip
  far_site u = rw (straight_site a b p q) (go (straight (site a) (site b)) refl u)
    where
      go : (t : Bool) → straight (site a) (site b) ≡ t → (v : Bool)
          → site (corner_of (choose t Straight (choose v Upper Lower)) b a) ≡ cond t (site a) (bend v (site a) (site b))
      go true e v = unfold choose in refl
      go false e true = unfold choose in (upper_site b a q p ∙ bend_turned true (site a) (site b) (straight_false (site a) (site b) e).1)
      go false e false = unfold choose in (lower_site b a q p ∙ bend_turned false (site a) (site b) (straight_false (site a) (site b) e).1)

  -- An i32 holds that, too.
  pub far_held : (u : Bool) → PlaceI32 (corner_of (shape_of u a b) b a)
  unfolding shape_of
  far_held u = go (is_straight a b) u
    where
      go : (t v : Bool) → PlaceI32 (corner_of (choose t Straight (choose v Upper Lower)) b a)
      go true v = unfold choose in p
      go false true = unfold choose in upper_held b a q p
      go false false = unfold choose in lower_held b a q p
