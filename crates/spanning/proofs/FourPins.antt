-- Four pins: where the pair of i and j comes before that of k and j, and the pair of k and l before that of i and l, the boxes of the two pairs share no
-- point. Places are taken as sites, in ℕ. Nothing else is asked of the pins.
use mathlib.Core.Path.{◌≡◌, sym}
use mathlib.Core.Logic.{◌⊎◌, inl, inr}
use Prim.Native.Nat.{ℕ, ◌+◌, ◌<◌, ◌≤◌, min, max}
use native.Mathlib.Omega.{arith}
use Rattle.board.proofs.Flat.{gap, gap_up, gap_down, gap_through, gap_below, order, Site, span}
use Rattle.tree.proofs.Keys.{lex_le, lex_lt, down, key, Fits, low}

-- A number between two others cuts their gap in two.
gap_at : (a b p : ℕ) → min a b ≤ p → p ≤ max a b → gap a b ≡ gap a p + gap p b
gap_at a b p h k = go (order a b)
  where
    go : (a ≤ b) ⊎ (b < a) → gap a b ≡ gap a p + gap p b
    go (inl o) = omega (arith, gap_up a b o, gap_up a p (omega arith), gap_up p b (omega arith))
    go (inr o) = omega (arith, gap_down a b (omega arith), gap_down a p (omega arith), gap_down p b (omega arith))

-- a below p and b above it, as far, with p between b and u, and the larger of a and u no smaller: both are at p.
over : (a b u p : ℕ) → a ≤ p → p ≤ b → gap a p ≡ gap b p → gap b u ≡ gap b p + gap p u → max b u ≤ max a u → a ≡ b
over a b u p h k e f m = go (order b p)
  where
    go : (b ≤ p) ⊎ (p < b) → a ≡ b
    go (inl o) = omega (arith, gap_up a p h, gap_down b p k)
    go (inr o) = absurd (omega (arith, gap_up b u (omega arith), gap_down b p k, gap_up p u (omega arith)))

-- Two numbers as far from p, with p between each and the other's partner, neither with the smaller larger end: they are one.
level : (a b u v p : ℕ) → gap a p ≡ gap b p → gap b u ≡ gap b p + gap p u → gap a v ≡ gap a p + gap p v
    → max a v ≤ max b v → max b u ≤ max a u → a ≡ b
level a b u v p e f g m n = go (order a p) (order b p)
  where
    go : (a ≤ p) ⊎ (p < a) → (b ≤ p) ⊎ (p < b) → a ≡ b
    go (inl o) (inl o') = omega (arith, gap_up a p o, gap_up b p o')
    go (inl o) (inr o') = over a b u p o (omega arith) e f n
    go (inr o) (inl o') = sym (over b a v p o' (omega arith) (sym e) g m)
    go (inr o) (inr o') = omega (arith, gap_down a p (omega arith), gap_down b p (omega arith))

-- Two pairs of numbers with one in common are in the order of the others.
number_less : (a b c : ℕ) → min a c ≤ min b c → (min a c ≡ min b c → max a c < max b c) → a < b
number_less a b c h k = go (order b a)
  where
    go : (b ≤ a) ⊎ (a < b) → a < b
    go (inl o) = absurd (omega (arith, k (omega arith)))
    go (inr o) = o

-- The pair of pin i at p and pin j at q comes before that of k at r and l at s, part by part.
pub record Before (p : Site) (i : ℕ) (q : Site) (j : ℕ) (r : Site) (k : ℕ) (s : Site) (l : ℕ) : Type 0 where
  pub distance : span p q ≤ span r s
  pub rise : span p q ≡ span r s → gap r.y s.y ≤ gap p.y q.y
  pub right : span p q ≡ span r s → gap p.y q.y ≡ gap r.y s.y → max r.x s.x ≤ max p.x q.x
  pub lower : span p q ≡ span r s → gap p.y q.y ≡ gap r.y s.y → max p.x q.x ≡ max r.x s.x → min i j ≤ min k l
  pub higher : span p q ≡ span r s → gap p.y q.y ≡ gap r.y s.y → max p.x q.x ≡ max r.x s.x → min i j ≡ min k l
      → max i j < max k l

-- A smaller key comes before.
pub key_before : (p : Site) (i : ℕ) (q : Site) (j : ℕ) (r : Site) (k : ℕ) (s : Site) (l : ℕ) → Fits p i → Fits q j → Fits r k → Fits s l
    → key p i q j < key r k s l → Before p i q j r k s l
unfolding key
key_before p i q j r k s l fp fq fr fs h =
    let s5 = lex_lt _ (max i j) _ (max k l) (omega (arith, fr.number, fs.number)) h in
    let s4 = lex_le _ (min i j) _ (min k l) (omega (arith, fr.number)) s5.0 in
    let s3 = lex_le _ (down (max p.x q.x)) _ (down (max r.x s.x)) (low (max r.x s.x)) s4.0 in
    let s2 = lex_le (span p q) (down (gap p.y q.y)) (span r s) (down (gap r.y s.y)) (low (gap r.y s.y)) s3.0 in
    record {
      distance = s2.0;
      rise = λ a. omega (arith, s2.1 a, gap_below r.y s.y 17179869184 fr.y fs.y);
      right = λ a b. omega (arith, s3.1 (rw (a, b)), fr.x, fs.x);
      lower = λ a b c. s4.1 (rw (a, b, c));
      higher = λ a b c d. s5.1 (rw (a, b, c, d));
    }

-- A key that is not larger is of a pair that is not farther.
pub key_span : (p : Site) (i : ℕ) (q : Site) (j : ℕ) (r : Site) (k : ℕ) (s : Site) (l : ℕ) → Fits r k → Fits s l → key p i q j ≤ key r k s l → span p q ≤ span r s
unfolding key
key_span p i q j r k s l fr fs h =
    let s5 = lex_le _ (max i j) _ (max k l) (omega (arith, fr.number, fs.number)) h in
    let s4 = lex_le _ (min i j) _ (min k l) (omega (arith, fr.number)) s5.0 in
    let s3 = lex_le _ (down (max p.x q.x)) _ (down (max r.x s.x)) (low (max r.x s.x)) s4.0 in
    (lex_le (span p q) (down (gap p.y q.y)) (span r s) (down (gap r.y s.y)) (low (gap r.y s.y)) s3.0).0

-- A point lies in the box of two sites.
pub record InBox (a b p : Site) : Type 0 where
  pub left : min a.x b.x ≤ p.x
  pub right : p.x ≤ max a.x b.x
  pub bottom : min a.y b.y ≤ p.y
  pub top : p.y ≤ max a.y b.y

module _ (a : Site) (i : ℕ) (b : Site) (j : ℕ) (c : Site) (k : ℕ) (d : Site) (l : ℕ)
    (cd : Before c k d l a i d l) (ab : Before a i b j c k b j) (p : Site) (in-ab : InBox a b p) (in-cd : InBox c d p) where
  -- p lies between a and b in x,
  x_ab : gap a.x b.x ≡ gap a.x p.x + gap p.x b.x
  x_ab = gap_at a.x b.x p.x in-ab.left in-ab.right

  -- and in y,
  y_ab : gap a.y b.y ≡ gap a.y p.y + gap p.y b.y
  y_ab = gap_at a.y b.y p.y in-ab.bottom in-ab.top

  -- and between c and d in x,
  x_cd : gap c.x d.x ≡ gap c.x p.x + gap p.x d.x
  x_cd = gap_at c.x d.x p.x in-cd.left in-cd.right

  -- and in y.
  y_cd : gap c.y d.y ≡ gap c.y p.y + gap p.y d.y
  y_cd = gap_at c.y d.y p.y in-cd.bottom in-cd.top

  -- Through p the crossed pairs are no farther in sum; so all the distances agree, and p lies between the crossed pairs too.
  record Even : Type 0 where
    span_cd : span c d ≡ span a d
    span_ab : span a b ≡ span c b
    x_ad : gap a.x d.x ≡ gap a.x p.x + gap p.x d.x
    y_ad : gap a.y d.y ≡ gap a.y p.y + gap p.y d.y
    x_cb : gap c.x b.x ≡ gap c.x p.x + gap p.x b.x
    y_cb : gap c.y b.y ≡ gap c.y p.y + gap p.y b.y
    sum : gap a.x p.x + gap a.y p.y ≡ gap c.x p.x + gap c.y p.y

  -- So it is.
  even : Even
  unfolding span
  even =
      let h1 = x_ab in
      let h2 = y_ab in
      let h3 = x_cd in
      let h4 = y_cd in
      let t1 = gap_through a.x p.x d.x in
      let t2 = gap_through a.y p.y d.y in
      let t3 = gap_through c.x p.x b.x in
      let t4 = gap_through c.y p.y b.y in
      let f1 = ab.distance in
      let f2 = cd.distance in
      omega arith

  -- Each of the differences in y is at least the other, so a and c are as far from p in y,
  far_y : gap a.y p.y ≡ gap c.y p.y
  far_y = omega (arith, y_ab, y_cd, even.y_ad, even.y_cb, ab.rise even.span_ab, cd.rise even.span_cd)

  -- and in x.
  far_x : gap a.x p.x ≡ gap c.x p.x
  far_x = omega (arith, far_y, even.sum)

  -- So the differences in y of the pairs with d are the same,
  rise_cd : gap c.y d.y ≡ gap a.y d.y
  rise_cd = omega (arith, far_y, y_cd, even.y_ad)

  -- and of those with b.
  rise_ab : gap a.y b.y ≡ gap c.y b.y
  rise_ab = omega (arith, far_y, y_ab, even.y_cb)

  -- The larger x then puts a and c at one x.
  same_x : a.x ≡ c.x
  same_x =
      level a.x c.x b.x d.x p.x far_x even.x_cb even.x_ad (cd.right even.span_cd rise_cd) (ab.right even.span_ab rise_ab)

  -- So the larger x of the pairs with d is the same,
  right_cd : max c.x d.x ≡ max a.x d.x
  right_cd = rw same_x

  -- and of those with b.
  right_ab : max a.x b.x ≡ max c.x b.x
  right_ab = rw same_x

  -- And the pin numbers would be in both orders.
  pub no_point : ⊥
  no_point =
      let m = number_less k i l (cd.lower even.span_cd rise_cd right_cd) (cd.higher even.span_cd rise_cd right_cd) in
      let n = number_less i k j (ab.lower even.span_ab rise_ab right_ab) (ab.higher even.span_ab rise_ab right_ab) in
      omega arith
