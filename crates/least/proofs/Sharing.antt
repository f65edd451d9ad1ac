-- Legs of runs that leave one pin: which of them can cover the same stride. The neighbours of a pin are assumed to be at least as far from
-- each other as from the pin, and for `tips` the ends of a run not to be one site; nothing else is.
use mathlib.Core.Path.{◌≡◌, refl, sym, ◌∙◌}
use mathlib.Core.Bool.{Bool, true, false, cond}
use mathlib.Core.Logic.{◌⊎◌, inl, inr}
use Prim.Native.Nat.{ℕ, ◌≤◌, ◌<◌, min, max}
use native.Mathlib.Omega.{arith}
use lib.Dec.{eqb, ltb, leb}
use borrow.Author.Tests.{eq-eqb, eqb-true, eqb-false, ltb-true, lt-ltb, leb-true, leb-false, le-leb}
use Rattle.basics.specs.Tests.{both, either}
use Rattle.basics.proofs.Tests.{both_left, both_right, both_of, either_which, either_left, either_second, either-false}
use Rattle.spanning.proofs.FourPins.{InBox}
use Rattle.board.proofs.Flat.{order, gap, gap_up, gap_down, Site, span}
use Rattle.copper.proofs.Cover.{Stride, along, rise, covers, straight, bend, run_covers}

-- What it says that a leg covers a stride.
pub data On (a b : Site) : Stride → Type 0 where
  in_row : {x y : ℕ} → y ≡ a.y → y ≡ b.y → min a.x b.x ≤ x → x < max a.x b.x → On a b (along x y)
  in_column_lem : {x y : ℕ} → x ≡ a.x → x ≡ b.x → min a.y b.y ≤ y → y < max a.y b.y → On a b (rise x y)

-- The four parts of what a leg says, taken apart,
four_of : (p q k v lo hi : ℕ) → both (eqb p q) (both (eqb p k) (both (leb lo v) (ltb v hi))) ≡ true → (p ≡ q) × (p ≡ k) × (lo ≤ v) × (v < hi)
four_of p q k v lo hi e =
    let e1 = both_right (eqb p q) (both (eqb p k) (both (leb lo v) (ltb v hi))) e in
    let e2 = both_right (eqb p k) (both (leb lo v) (ltb v hi)) e1 in (
      eqb-true p q (both_left (eqb p q) (both (eqb p k) (both (leb lo v) (ltb v hi))) e),
      eqb-true p k (both_left (eqb p k) (both (leb lo v) (ltb v hi)) e1),
      leb-true lo v (both_left (leb lo v) (ltb v hi) e2),
      ltb-true v hi (both_right (leb lo v) (ltb v hi) e2),
    )

-- and put together.
four_hold : (p q k v lo hi : ℕ) → p ≡ q → p ≡ k → lo ≤ v → v < hi → both (eqb p q) (both (eqb p k) (both (leb lo v) (ltb v hi))) ≡ true
four_hold p q k v lo hi e f l h =
    both_of (eq-eqb p q e) (both_of (eq-eqb p k f) (both_of (le-leb lo v l) (lt-ltb v hi h)))

-- Where the test holds, the leg covers the stride,
pub on_of : (a b : Site) (s : Stride) → covers a b s ≡ true → On a b s
unfolding covers
on_of a b (along x y) e = let z = four_of y a.y b.y x (min a.x b.x) (max a.x b.x) e in in_row z.0 z.1 z.2 z.3
on_of a b (rise x y) e = let z = four_of x a.x b.x y (min a.y b.y) (max a.y b.y) e in in_column_lem z.0 z.1 z.2 z.3

-- and the other way round.
pub on_covers : (a b : Site) {s : Stride} → On a b s → covers a b s ≡ true
unfolding covers
on_covers a b (in_row {x = x} {y = y} e f l h) = four_hold y a.y b.y x (min a.x b.x) (max a.x b.x) e f l h
on_covers a b (in_column_lem {x = x} {y = y} e f l h) = four_hold x a.x b.x y (min a.y b.y) (max a.y b.y) e f l h

-- A leg covers the same both ways.
pub on_turned : (a b : Site) {s : Stride} → On a b s → On b a s
on_turned a b (in_row {x = x} {y = y} e f l h) = in_row {x = x} {y = y} f e (omega arith) (omega arith)
on_turned a b (in_column_lem {x = x} {y = y} e f l h) = in_column_lem {x = x} {y = y} f e (omega arith) (omega arith)

-- The first leg from i towards j ends at t, and is not empty.
pub data Tip (i j t : Site) : Type 0 where
  row_first : t.x ≡ j.x → t.y ≡ i.y → (i.x ≡ j.x → ⊥) → Tip i j t
  column_first : t.x ≡ i.x → t.y ≡ j.y → (i.y ≡ j.y → ⊥) → Tip i j t

-- The second leg of a run and the first leg of another from the same pin share no stride.
pub second_first : (i j t t' : Site) {s : Stride} → Tip i j t → On t j s → On i t' s → ⊥
second_first i j t t' (row_first p q n) (in_row e f l h) (in_row e' f' l' h') = omega arith
second_first i j t t' (row_first p q n) (in_column_lem e f l h) (in_column_lem e' f' l' h') = n (omega arith)
second_first i j t t' (column_first p q n) (in_row e f l h) (in_row e' f' l' h') = n (omega arith)
second_first i j t t' (column_first p q n) (in_column_lem e f l h) (in_column_lem e' f' l' h') = omega arith

-- There is no gap between a number and itself.
pub gap_same : (a b : ℕ) → a ≡ b → gap a b ≡ 0
gap_same a b e = omega (arith, gap_up a b (omega arith))

-- A stride at v between a and b: b lies on its side of a.
beyond : (a b v : ℕ) → a ≤ v → min a b ≤ v → v < max a b → v < b
beyond a b v o l h = omega arith

-- And on the other side.
before : (a b v : ℕ) → v < a → min a b ≤ v → v < max a b → b ≤ v
before a b v o l h = omega arith

-- Where b and c lie on one side of a, one of them is nearer to the other than to a.
side_clash : (a b c v : ℕ) → min a b ≤ v → v < max a b → min a c ≤ v → v < max a c → gap a b ≤ gap b c → gap a c ≤ gap b c → ⊥
side_clash a b c v l h l' h' d d' = go (order a v) (order b c)
  where
    go : (a ≤ v) ⊎ (v < a) → (b ≤ c) ⊎ (c < b) → ⊥
    go (inl o) (inl q) =
        let k = beyond a b v o l h in
        let k' = beyond a c v o l' h' in
        omega (arith, gap_up a b (omega arith), gap_up a c (omega arith), gap_up b c q)
    go (inl o) (inr q) =
        let k = beyond a b v o l h in
        let k' = beyond a c v o l' h' in
        omega (arith, gap_up a b (omega arith), gap_up a c (omega arith), gap_down b c (omega arith))
    go (inr o) (inl q) =
        let k = before a b v o l h in
        let k' = before a c v o l' h' in
        omega (arith, gap_down a b (omega arith), gap_down a c (omega arith), gap_up b c q)
    go (inr o) (inr q) =
        let k = before a b v o l h in
        let k' = before a c v o l' h' in
        omega (arith, gap_down a b (omega arith), gap_down a c (omega arith), gap_down b c (omega arith))

module _ (i j k : Site) (dj : span i j ≤ span j k) (dk : span i k ≤ span j k) where
  -- So in one row j and k do not lie on one side of i ..
  row_clash : (a b c v : ℕ) → a ≡ i.x → b ≡ j.x → c ≡ k.x → j.y ≡ k.y → min a b ≤ v → v < max a b → min a c ≤ v → v < max a c → ⊥
  unfolding span
  row_clash a b c v e f g r l h l' h' =
      let z = gap_same j.y k.y r in
      let u1 : gap a b ≡ gap i.x j.x = rw (e, f) in
      let u2 : gap a c ≡ gap i.x k.x = rw (e, g) in
      let u3 : gap b c ≡ gap j.x k.x = rw (f, g) in
      side_clash a b c v l h l' h' (omega arith) (omega arith)

  -- .. nor in one column.
  column_clash : (a b c v : ℕ) → a ≡ i.y → b ≡ j.y → c ≡ k.y → j.x ≡ k.x → min a b ≤ v → v < max a b → min a c ≤ v → v < max a c → ⊥
  unfolding span
  column_clash a b c v e f g r l h l' h' =
      let z = gap_same j.x k.x r in
      let u1 : gap a b ≡ gap i.y j.y = rw (e, f) in
      let u2 : gap a c ≡ gap i.y k.y = rw (e, g) in
      let u3 : gap b c ≡ gap j.y k.y = rw (f, g) in
      side_clash a b c v l h l' h' (omega arith) (omega arith)

  -- The second legs of two runs from one pin share no stride.
  pub second_second : (t t' : Site) {s : Stride} → Tip i j t → Tip i k t' → On t j s → On t' k s → ⊥
  second_second t t' (row_first p q n) (row_first p' q' n') (in_row e f l h) (in_row e' f' l' h') = omega arith
  second_second t t' (row_first p q n) (row_first p' q' n') (in_column_lem {y = v} e f l h) (in_column_lem e' f' l' h') =
      column_clash i.y j.y k.y v refl refl refl (omega arith) (rw q at l) (rw q at h) (rw q' at l') (rw q' at h')
  second_second t t' (row_first p q n) (column_first p' q' n') (in_row e f l h) (in_row e' f' l' h') = omega arith
  second_second t t' (row_first p q n) (column_first p' q' n') (in_column_lem e f l h) (in_column_lem e' f' l' h') = omega arith
  second_second t t' (column_first p q n) (row_first p' q' n') (in_row e f l h) (in_row e' f' l' h') = omega arith
  second_second t t' (column_first p q n) (row_first p' q' n') (in_column_lem e f l h) (in_column_lem e' f' l' h') = omega arith
  second_second t t' (column_first p q n) (column_first p' q' n') (in_row {x = v} e f l h) (in_row e' f' l' h') =
      row_clash i.x j.x k.x v refl refl refl (omega arith) (rw p at l) (rw p at h) (rw p' at l') (rw p' at h')
  second_second t t' (column_first p q n) (column_first p' q' n') (in_column_lem e f l h) (in_column_lem e' f' l' h') = omega arith

  -- Two straight runs from one pin share no stride.
  pub straights : {s : Stride} → On i j s → On i k s → ⊥
  straights (in_row {x = v} e f l h) (in_row e' f' l' h') = row_clash i.x j.x k.x v refl refl refl (omega arith) l h l' h'
  straights (in_column_lem {y = v} e f l h) (in_column_lem e' f' l' h') = column_clash i.y j.y k.y v refl refl refl (omega arith) l h l' h'

-- Where the leg that leaves a ends: at the other end of a straight run, else at the bend ..
unfoldable pub near_tip : Bool → Site → Site → Site
near_tip u a b = cond (straight a b) b (bend u a b)

-- .. and where the one that leaves b ends.
unfoldable pub far_tip : Bool → Site → Site → Site
far_tip u a b = cond (straight a b) a (bend u a b)

-- The site from which a stride starts.
unfoldable pub origin : Stride → Site
origin (along x y) = record { x = x; y = y }
origin (rise x y) = record { x = x; y = y }

-- Two sites are the same.
unfoldable pub Same : Site → Site → Type 0
Same a b = (a.x ≡ b.x) × (a.y ≡ b.y)

-- The ends of a straight run share x or y;
pub straight_true : (a b : Site) → straight a b ≡ true → (a.x ≡ b.x) ⊎ (a.y ≡ b.y)
unfolding straight
straight_true a b e = go (either_which (eqb a.x b.x) (eqb a.y b.y) e)
  where
    go : (eqb a.x b.x ≡ true) ⊎ (eqb a.y b.y ≡ true) → (a.x ≡ b.x) ⊎ (a.y ≡ b.y)
    go (inl h) = inl (eqb-true a.x b.x h)
    go (inr h) = inr (eqb-true a.y b.y h)

-- seen from the other end they share it too;
pub shared_turned : (a b : Site) → (a.x ≡ b.x) ⊎ (a.y ≡ b.y) → (b.x ≡ a.x) ⊎ (b.y ≡ a.y)
shared_turned a b (inl e) = inl (sym e)
shared_turned a b (inr e) = inr (sym e)

-- those of any other share neither.
pub straight_false : (a b : Site) → straight a b ≡ false → (a.x ≡ b.x → ⊥) × (a.y ≡ b.y → ⊥)
unfolding straight
straight_false a b e =
    let z = either-false (eqb a.x b.x) (eqb a.y b.y) e in
    (eqb-false a.x b.x z.0, eqb-false a.y b.y z.1)

-- The bend is in the column of one end and in the row of the other.
bend_is : (u : Bool) (a b : Site) → (((bend u a b).x ≡ b.x) × ((bend u a b).y ≡ a.y)) ⊎ (((bend u a b).x ≡ a.x) × ((bend u a b).y ≡ b.y))
unfolding bend
bend_is false a b = go (leb a.y b.y) refl
  where
    go : (t : Bool) → leb a.y b.y ≡ t → ((cond t b.x a.x ≡ b.x) × (min a.y b.y ≡ a.y)) ⊎ ((cond t b.x a.x ≡ a.x) × (min a.y b.y ≡ b.y))
    go true e = inl (refl, omega (arith, leb-true a.y b.y e))
    go false e = inr (refl, omega (arith, leb-false a.y b.y e))
bend_is true a b = go (leb a.y b.y) refl
  where
    go : (t : Bool) → leb a.y b.y ≡ t → ((cond t a.x b.x ≡ b.x) × (max a.y b.y ≡ a.y)) ⊎ ((cond t a.x b.x ≡ a.x) × (max a.y b.y ≡ b.y))
    go true e = inr (refl, omega (arith, leb-true a.y b.y e))
    go false e = inl (refl, omega (arith, leb-false a.y b.y e))

module _ (u : Bool) (a b : Site) where
  -- The leg that leaves a ends at b where the run is straight,
  pub near_straight : straight a b ≡ true → near_tip u a b ≡ b
  unfolding near_tip
  near_straight e = rw e

  -- and at the bend where it is bent;
  pub near_bent : straight a b ≡ false → near_tip u a b ≡ bend u a b
  unfolding near_tip
  near_bent e = rw e

  -- the leg that leaves b ends at a,
  pub far_straight : straight a b ≡ true → far_tip u a b ≡ a
  unfolding far_tip
  far_straight e = rw e

  -- or at the bend.
  pub far_bent : straight a b ≡ false → far_tip u a b ≡ bend u a b
  unfolding far_tip
  far_bent e = rw e

  -- The other end of a straight run is a tip,
  tip_straight : (i j : Site) → (Same i j → ⊥) → (i.x ≡ j.x) ⊎ (i.y ≡ j.y) → Tip i j j
  unfolding Same
  tip_straight i j n (inl e) = column_first (sym e) refl (λ z. n (e, z))
  tip_straight i j n (inr e) = row_first refl (sym e) (λ z. n (z, e))

  -- and so is the bend, from either end.
  tip_bend : (c : Site) → (a.x ≡ b.x → ⊥) → (a.y ≡ b.y → ⊥) → ((c.x ≡ b.x) × (c.y ≡ a.y)) ⊎ ((c.x ≡ a.x) × (c.y ≡ b.y)) → Tip a b c × Tip b a c
  tip_bend c n m (inl e) = (row_first e.0 e.1 n, column_first e.0 e.1 (λ z. m (sym z)))
  tip_bend c n m (inr e) = (column_first e.0 e.1 m, row_first e.0 e.1 (λ z. n (sym z)))

  -- Seen from either end the first leg ends at a tip.
  pub tips : (Same a b → ⊥) → Tip a b (near_tip u a b) × Tip b a (far_tip u a b)
  unfolding Same
  tips n = go (straight a b) refl
    where
      go : (t : Bool) → straight a b ≡ t → Tip a b (near_tip u a b) × Tip b a (far_tip u a b)
      go true e = (
        rw (near_straight e) (tip_straight a b n (straight_true a b e)),
        rw (far_straight e) (tip_straight b a (λ z. n (sym z.0, sym z.1)) (shared_turned a b (straight_true a b e))),
      )
      go false e =
          let z = straight_false a b e in
          let w = tip_bend (bend u a b) z.0 z.1 (bend_is u a b) in
          (rw (near_bent e) w.0, rw (far_bent e) w.1)

  -- A straight run covers what its leg does,
  pub run_straight : (σ : Stride) → straight a b ≡ true → run_covers u a b σ ≡ covers a b σ
  unfolding run_covers
  run_straight σ e = rw e

  -- and a bent one what its two legs do.
  run-bent : (σ : Stride) → straight a b ≡ false → run_covers u a b σ ≡ either (covers a (bend u a b) σ) (covers (bend u a b) b σ)
  unfolding run_covers
  run-bent σ e = rw e

  -- A stride of a straight run lies on it,
  straight_on_lem : {σ : Stride} → straight a b ≡ true → run_covers u a b σ ≡ true → On a b σ
  straight_on_lem {σ} e h = on_of a b σ (sym (run_straight σ e) ∙ h)

  -- and one of a bent run on one of its legs.
  bent_on : {σ : Stride} → straight a b ≡ false → run_covers u a b σ ≡ true → On a (bend u a b) σ ⊎ On (bend u a b) b σ
  bent_on {σ} e h = go (either_which (covers a (bend u a b) σ) (covers (bend u a b) b σ) (sym (run-bent σ e) ∙ h))
    where
      go : (covers a (bend u a b) σ ≡ true) ⊎ (covers (bend u a b) b σ ≡ true) → On a (bend u a b) σ ⊎ On (bend u a b) b σ
      go (inl z) = inl (on_of a (bend u a b) σ z)
      go (inr z) = inr (on_of (bend u a b) b σ z)

  -- What a run covers, its first leg covers or its second, seen from the near end,
  pub view_near : {s : Stride} → run_covers u a b s ≡ true → On a (near_tip u a b) s ⊎ On (near_tip u a b) b s
  view_near {s} h = go (straight a b) refl
    where
      go : (t : Bool) → straight a b ≡ t → On a (near_tip u a b) s ⊎ On (near_tip u a b) b s
      go true e = rw (near_straight e) (inl (straight_on_lem e h))
      go false e = rw (near_bent e) (bent_on e h)

  -- and seen from the far end ..
  pub view_far : {s : Stride} → run_covers u a b s ≡ true → On b (far_tip u a b) s ⊎ On (far_tip u a b) a s
  view_far {s} h = go (straight a b) refl
    where
      by : On a (bend u a b) s ⊎ On (bend u a b) b s → On b (bend u a b) s ⊎ On (bend u a b) a s
      by (inl z) = inr (on_turned a (bend u a b) z)
      by (inr z) = inl (on_turned (bend u a b) b z)

      go : (t : Bool) → straight a b ≡ t → On b (far_tip u a b) s ⊎ On (far_tip u a b) a s
      go true e = rw (far_straight e) (inl (on_turned a b (straight_on_lem e h)))
      go false e = rw (far_bent e) (by (bent_on e h))

  -- .. so the leg that leaves one of the ends covers it.
  pub an_arm : {s : Stride} → run_covers u a b s ≡ true → On a (near_tip u a b) s ⊎ On b (far_tip u a b) s
  an_arm {s} h = go (straight a b) refl
    where
      by : On a (bend u a b) s ⊎ On (bend u a b) b s → On a (bend u a b) s ⊎ On b (bend u a b) s
      by (inl z) = inl z
      by (inr z) = inr (on_turned (bend u a b) b z)

      go : (t : Bool) → straight a b ≡ t → On a (near_tip u a b) s ⊎ On b (far_tip u a b) s
      go true e = rw (near_straight e) (inl (straight_on_lem e h))
      go false e = rw (near_bent e, far_bent e) (by (bent_on e h))

  -- What the leg that leaves the near end covers, the run covers,
  pub near_covers : {s : Stride} → On a (near_tip u a b) s → run_covers u a b s ≡ true
  near_covers {s} h = go (straight a b) refl
    where
      go : (t : Bool) → straight a b ≡ t → run_covers u a b s ≡ true
      go true e = run_straight s e ∙ on_covers a b (rw (near_straight e) at h)
      go false e =
          run-bent s e ∙ either_left (covers (bend u a b) b s) (on_covers a (bend u a b) (rw (near_bent e) at h))

  -- and what the leg that leaves the far end covers.
  pub far_covers : {s : Stride} → On b (far_tip u a b) s → run_covers u a b s ≡ true
  far_covers {s} h = go (straight a b) refl
    where
      go : (t : Bool) → straight a b ≡ t → run_covers u a b s ≡ true
      go true e = run_straight s e ∙ on_covers a b (on_turned b a (rw (far_straight e) at h))
      go false e =
          run-bent s e
          ∙ either_second (covers a (bend u a b) s)
          (on_covers (bend u a b) b (on_turned b (bend u a b) (rw (far_bent e) at h)))

  -- The legs that leave the two ends of a bent run share no stride ..
  pub one_arm : {s : Stride} → straight a b ≡ false → On a (near_tip u a b) s → On b (far_tip u a b) s → ⊥
  one_arm {s} e h k = go (straight_false a b e) (bend_is u a b) (rw (near_bent e) at h) (rw (far_bent e) at k)
    where
      go : {c : Site} {σ : Stride} → (a.x ≡ b.x → ⊥) × (a.y ≡ b.y → ⊥) → ((c.x ≡ b.x) × (c.y ≡ a.y)) ⊎ ((c.x ≡ a.x) × (c.y ≡ b.y)) → On a c σ → On b c σ → ⊥
      go n (inl z) (in_row p q l h) (in_row p' q' l' h') = n.1 (omega arith)
      go n (inl z) (in_column_lem p q l h) (in_column_lem p' q' l' h') = n.0 (omega arith)
      go n (inr z) (in_row p q l h) (in_row p' q' l' h') = n.1 (omega arith)
      go n (inr z) (in_column_lem p q l h) (in_column_lem p' q' l' h') = n.0 (omega arith)

  -- .. and those of a straight run are the run.
  pub both_arms : {s : Stride} → straight a b ≡ true → run_covers u a b s ≡ true → On a (near_tip u a b) s × On b (far_tip u a b) s
  both_arms e h = (rw (near_straight e) (straight_on_lem e h), rw (far_straight e) (on_turned a b (straight_on_lem e h)))

  -- A stride of one of the two legs starts in the box of the run,
  box_leg : (c : Site) → ((c.x ≡ b.x) × (c.y ≡ a.y)) ⊎ ((c.x ≡ a.x) × (c.y ≡ b.y)) → {s : Stride} → On a c s ⊎ On c b s → InBox a b (origin s)
  unfolding origin
  box_leg c (inl z) (inl (in_row e f l h)) = record { left = rw z.0 at l; right = omega arith; bottom = omega arith; top = omega arith }
  box_leg c (inl z) (inl (in_column_lem e f l h)) = absurd (omega arith)
  box_leg c (inl z) (inr (in_row e f l h)) = absurd (omega arith)
  box_leg c (inl z) (inr (in_column_lem e f l h)) = record { left = omega arith; right = omega arith; bottom = rw z.1 at l; top = omega arith }
  box_leg c (inr z) (inl (in_row e f l h)) = absurd (omega arith)
  box_leg c (inr z) (inl (in_column_lem e f l h)) = record { left = omega arith; right = omega arith; bottom = rw z.1 at l; top = omega arith }
  box_leg c (inr z) (inr (in_row e f l h)) = record { left = rw z.0 at l; right = omega arith; bottom = omega arith; top = omega arith }
  box_leg c (inr z) (inr (in_column_lem e f l h)) = absurd (omega arith)

  -- and so does one of a straight run.
  box_straight : {s : Stride} → On a b s → InBox a b (origin s)
  unfolding origin
  box_straight (in_row e f l h) = record { left = l; right = omega arith; bottom = omega arith; top = omega arith }
  box_straight (in_column_lem e f l h) = record { left = omega arith; right = omega arith; bottom = l; top = omega arith }

  -- A stride that a run covers starts in the box of the run.
  pub in_box : (s : Stride) → run_covers u a b s ≡ true → InBox a b (origin s)
  in_box s h = go (straight a b) refl
    where
      go : (t : Bool) → straight a b ≡ t → InBox a b (origin s)
      go true e = box_straight (straight_on_lem e h)
      go false e = box_leg (bend u a b) (bend_is u a b) (bent_on e h)

  -- What the leg that leaves the near end of a straight run covers, the run covers,
  pub straight_tip : {s : Stride} → straight a b ≡ true → On a (near_tip u a b) s → On a b s
  straight_tip e h = rw (near_straight e) at h

  -- and the other way round;
  pub straight_tip_is : {s : Stride} → straight a b ≡ true → On a b s → On a (near_tip u a b) s
  straight_tip_is e h = rw (near_straight e) h

  -- the leg that leaves the far end is the run turned round.
  pub straight_back : {s : Stride} → straight a b ≡ true → On b (far_tip u a b) s → On b a s
  straight_back e h = rw (far_straight e) at h
