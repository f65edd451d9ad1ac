-- Two boxes share a point just where the test says so. From places whose numbers an i32 holds.
use mathlib.Core.Path.{◌≡◌, sym, ◌∙◌}
use mathlib.Core.Bool.{Bool, true, false, not}
use mathlib.Core.Logic.{◌⊎◌, inl, inr}
use Prim.Native.Nat.{ℕ, ◌<◌, ◌≤◌, min, max}
use native.Mathlib.Omega.{arith}
use native.Mathlib.Nat.{max-le}
use lib.IntN.{ℤ}
use lib.Signed.{lt_z}
use borrow.Author.Tests.{ltb-true, ltb-false, not-false, not-true}
use Rattle.basics.specs.Tests.{both}
use Rattle.basics.proofs.Tests.{decide, both_false, both_left, both_right, both_of}
use Rattle.board.specs.declared.Place.{Place}
use Rattle.board.proofs.Signed.{off, I32, lt_z_off}
use Rattle.board.proofs.Flat.{Site, site, PlaceI32}
use Rattle.tree.specs.Boxes.{below_both, under, overlap, boxes_share}
use Rattle.spanning.proofs.FourPins.{InBox}

-- Both of two numbers are less than both of two others: in ℕ.
under_yes : (a b c d : ℤ) → I32 a → I32 b → I32 c → I32 d → under a b c d ≡ true → max (off a) (off b) < min (off c) (off d)
unfolding under below_both
under_yes a b c d ha hb hc hd e =
    let p = both_left (both (lt_z a c) (lt_z a d)) (both (lt_z b c) (lt_z b d)) e in
    let q = both_right (both (lt_z a c) (lt_z a d)) (both (lt_z b c) (lt_z b d)) e in
    let ac = ltb-true (off a) (off c) (sym (lt_z_off a c ha hc) ∙ both_left (lt_z a c) (lt_z a d) p) in
    let ad = ltb-true (off a) (off d) (sym (lt_z_off a d ha hd) ∙ both_right (lt_z a c) (lt_z a d) p) in
    let bc = ltb-true (off b) (off c) (sym (lt_z_off b c hb hc) ∙ both_left (lt_z b c) (lt_z b d) q) in
    let bd = ltb-true (off b) (off d) (sym (lt_z_off b d hb hd) ∙ both_right (lt_z b c) (lt_z b d) q) in
    omega arith

-- A number that is not less than another: in ℕ.
not_less : (a b : ℤ) → I32 a → I32 b → lt_z a b ≡ false → off b ≤ off a
not_less a b ha hb e = ltb-false (off a) (off b) (sym (lt_z_off a b ha hb) ∙ e)

-- Where not both are less, the stretches reach each other from this side.
under_no : (a b c d : ℤ) → I32 a → I32 b → I32 c → I32 d → under a b c d ≡ false → min (off c) (off d) ≤ max (off a) (off b)
unfolding under below_both
under_no a b c d ha hb hc hd e = go (both_false (both (lt_z a c) (lt_z a d)) (both (lt_z b c) (lt_z b d)) e)
  where
    a_not : (lt_z a c ≡ false) ⊎ (lt_z a d ≡ false) → min (off c) (off d) ≤ max (off a) (off b)
    a_not (inl f) = omega (arith, not_less a c ha hc f)
    a_not (inr f) = omega (arith, not_less a d ha hd f)

    b_not : (lt_z b c ≡ false) ⊎ (lt_z b d ≡ false) → min (off c) (off d) ≤ max (off a) (off b)
    b_not (inl f) = omega (arith, not_less b c hb hc f)
    b_not (inr f) = omega (arith, not_less b d hb hd f)

    go : (both (lt_z a c) (lt_z a d) ≡ false) ⊎ (both (lt_z b c) (lt_z b d) ≡ false) → min (off c) (off d) ≤ max (off a) (off b)
    go (inl f) = a_not (both_false (lt_z a c) (lt_z a d) f)
    go (inr f) = b_not (both_false (lt_z b c) (lt_z b d) f)

-- A number in both stretches.
record Common (a b c d n : ℕ) : Type 0 where
  low : min a b ≤ n
  high : n ≤ max a b
  low' : min c d ≤ n
  high' : n ≤ max c d

-- Two stretches that reach each other have the larger of their lower ends in common.
larger_low : (a b c d : ℕ) → min c d ≤ max a b → min a b ≤ max c d → Common a b c d (max (min a b) (min c d))
larger_low a b c d h k =
    record {
      low = omega arith;
      high = max-le (omega arith) h;
      low' = omega arith;
      high' = max-le k (omega arith);
    }

module _ (a b c d : ℤ) (ha : I32 a) (hb : I32 b) (hc : I32 c) (hd : I32 d) where
  -- Stretches that overlap have a number in common,
  overlap_yes : overlap a b c d ≡ true → Common (off a) (off b) (off c) (off d) (max (min (off a) (off b)) (min (off c) (off d)))
  unfolding overlap
  overlap_yes e =
      larger_low (off a) (off b) (off c) (off d)
      (under_no a b c d ha hb hc hd (not-true (under a b c d) (both_left (not (under a b c d)) (not (under c d a b)) e)))
      (under_no c d a b hc hd ha hb (not-true (under c d a b) (both_right (not (under a b c d)) (not (under c d a b)) e)))

  -- and stretches with a common number overlap.
  overlap_no : (n : ℕ) → Common (off a) (off b) (off c) (off d) n → overlap a b c d ≡ false → ⊥
  unfolding overlap
  overlap_no n h e = go (both_false (not (under a b c d)) (not (under c d a b)) e)
    where
      apart : (l m r s : ℕ) → l < r → r ≤ n → n ≤ l → ⊥
      apart l m r s p q t = omega arith

      go : (not (under a b c d) ≡ false) ⊎ (not (under c d a b) ≡ false) → ⊥
      go (inl f) =
          apart (max (off a) (off b)) 0 (min (off c) (off d)) 0 (under_yes a b c d ha hb hc hd (not-false (under a b c d) f)) h.low' h.high
      go (inr f) =
          apart (max (off c) (off d)) 0 (min (off a) (off b)) 0 (under_yes c d a b hc hd ha hb (not-false (under c d a b) f)) h.low h.high'

-- A point in both boxes.
pub record Shared (a b c d : Site) : Type 0 where
  pub point : Site
  pub in_first : InBox a b point
  pub in_second : InBox c d point

module _ (a b c d : Place) (ha : PlaceI32 a) (hb : PlaceI32 b) (hc : PlaceI32 c) (hd : PlaceI32 d) where
  -- THE TEST FINDS A POINT in both boxes,
  pub shared_point : boxes_share a b c d ≡ true → Shared (site a) (site b) (site c) (site d)
  unfolding boxes_share
  shared_point e =
      let x = overlap_yes a.x b.x c.x d.x ha.x hb.x hc.x hd.x (both_left _ (overlap a.y b.y c.y d.y) e) in
      let y = overlap_yes a.y b.y c.y d.y ha.y hb.y hc.y hd.y (both_right (overlap a.x b.x c.x d.x) _ e) in
      record {
        point =
            record {
              x = max (min (off a.x) (off b.x)) (min (off c.x) (off d.x));
              y = max (min (off a.y) (off b.y)) (min (off c.y) (off d.y));
            };
        in_first = record { left = x.low; right = x.high; bottom = y.low; top = y.high };
        in_second = record { left = x.low'; right = x.high'; bottom = y.low'; top = y.high' };
      }

  -- and where there is one it says so.
  pub point_shared : Shared (site a) (site b) (site c) (site d) → boxes_share a b c d ≡ true
  unfolding boxes_share
  point_shared s = both_of (yes' (decide (overlap a.x b.x c.x d.x)) across) (yes' (decide (overlap a.y b.y c.y d.y)) upward)
    where
      yes' : {t : Bool} → (t ≡ true) ⊎ (t ≡ false) → (t ≡ false → ⊥) → t ≡ true
      yes' (inl e) n = e
      yes' (inr e) n = absurd (n e)

      across : overlap a.x b.x c.x d.x ≡ false → ⊥
      across =
          overlap_no a.x b.x c.x d.x ha.x hb.x hc.x hd.x s.point.x
          (record { low = s.in_first.left; high = s.in_first.right; low' = s.in_second.left; high' = s.in_second.right })

      upward : overlap a.y b.y c.y d.y ≡ false → ⊥
      upward =
          overlap_no a.y b.y c.y d.y ha.y hb.y hc.y hd.y s.point.y
          (record { low = s.in_first.bottom; high = s.in_first.top; low' = s.in_second.bottom; high' = s.in_second.top })
