-- The star of a pin: what the legs that leave it cover, told by how far they reach in the four directions. Assumes nothing.
use mathlib.Core.Path.{◌≡◌, refl, sym, ap₂, ◌∙◌}
use mathlib.Core.Bool.{Bool, true, false, cond}
use mathlib.Core.Logic.{◌⊎◌, inl, inr}
use Prim.Native.Nat.{ℕ, zero, suc, ◌+◌, ◌-◌, ◌≤◌, ◌<◌, min, max}
use native.Mathlib.Omega.{arith}
use lib.Dec.{eqb, ltb, leb}
use borrow.Author.Tests.{eq-eqb, ne_eqb, eqb-true, ltb-true, ltb-false, lt-ltb, leb-true, leb-false, le-leb}
use Rattle.basics.specs.Tests.{both, either}
use Rattle.basics.proofs.Tests.{opposite, both_left, both_right, both_of, either_which, either_left, either_second, same_test}
use Rattle.board.proofs.Flat.{order, Site, gap, span}
use Rattle.copper.specs.declared.Arms.{Arms}
use Rattle.copper.specs.Arms.{no_arms, longest, spread}
use Rattle.basics.proofs.Sums.{one_if, sum_below, sum_same, sum-add, sum-none, sum-only}
use Rattle.copper.proofs.Cover.{Stride, along, rise, covers, over, Within}
use Rattle.least.proofs.Sharing.{On, in_row, in_column_lem, on_of, on_covers, gap_same}

-- The leg from p to t reaches in one direction only.
unfoldable pub arm_to : Site → Site → Arms
arm_to p t =
    record {
      east = cond (eqb t.y p.y) (t.x - p.x) 0;
      west = cond (eqb t.y p.y) (p.x - t.x) 0;
      north = cond (eqb t.x p.x) (t.y - p.y) 0;
      south = cond (eqb t.x p.x) (p.y - t.y) 0;
    }

-- What the arms that leave p cover: a stretch of its row and a stretch of its column.
unfoldable pub star : Site → Arms → Stride → Bool
star p a (along x y) = both (eqb y p.y) (both (leb p.x (x + a.west)) (ltb x (p.x + a.east)))
star p a (rise x y) = both (eqb x p.x) (both (leb p.y (y + a.south)) (ltb y (p.y + a.north)))

-- What it says that the arms cover a stride.
data Star (p : Site) (a : Arms) : Stride → Type 0 where
  row_star : {x y : ℕ} → y ≡ p.y → p.x ≤ x + a.west → x < p.x + a.east → Star p a (along x y)
  column_star : {x y : ℕ} → x ≡ p.x → p.y ≤ y + a.south → y < p.y + a.north → Star p a (rise x y)

-- The three parts of what a star says, taken apart,
three_of : (p q a b c d : ℕ) → both (eqb p q) (both (leb a b) (ltb c d)) ≡ true → (p ≡ q) × (a ≤ b) × (c < d)
three_of p q a b c d e =
    let e1 = both_right (eqb p q) (both (leb a b) (ltb c d)) e in
    (eqb-true p q (both_left (eqb p q) (both (leb a b) (ltb c d)) e), leb-true a b (both_left (leb a b) (ltb c d) e1), ltb-true c d (both_right (leb a b) (ltb c d) e1))

-- and put together.
three_hold : (p q a b c d : ℕ) → p ≡ q → a ≤ b → c < d → both (eqb p q) (both (leb a b) (ltb c d)) ≡ true
three_hold p q a b c d e f g =
    both_of (eq-eqb p q e) (both_of (le-leb a b f) (lt-ltb c d g))

-- Where the test holds, the arms cover the stride,
star_of : (p : Site) (a : Arms) (s : Stride) → star p a s ≡ true → Star p a s
unfolding star
star_of p a (along x y) e = let z = three_of y p.y p.x (x + a.west) x (p.x + a.east) e in row_star z.0 z.1 z.2
star_of p a (rise x y) e = let z = three_of x p.x p.y (y + a.south) y (p.y + a.north) e in column_star z.0 z.1 z.2

-- and the other way round.
star_holds : (p : Site) (a : Arms) {s : Stride} → Star p a s → star p a s ≡ true
unfolding star
star_holds p a (row_star {x = x} {y = y} e f g) = three_hold y p.y p.x (x + a.west) x (p.x + a.east) e f g
star_holds p a (column_star {x = x} {y = y} e f g) = three_hold x p.x p.y (y + a.south) y (p.y + a.north) e f g

-- One leg by itself: where its arm reaches, the leg does.
arm_line : (p t x : ℕ) (b : Bool) → p ≤ x + cond b (p - t) 0 → x < p + cond b (t - p) 0 → (b ≡ true) × (min p t ≤ x) × (x < max p t)
arm_line p t x true l h = (refl, omega arith, omega arith)
arm_line p t x false l h = absurd (omega arith)

-- And where the leg reaches, its arm does.
line_arm : (p t x : ℕ) (b : Bool) → b ≡ true → min p t ≤ x → x < max p t → (p ≤ x + cond b (p - t) 0) × (x < p + cond b (t - p) 0)
line_arm p t x true e l h = (omega arith, omega arith)
line_arm p t x false e l h = absurd (opposite e refl)

-- What the arm of a leg covers, the leg covers,
star_arm : (p t : Site) {s : Stride} → Star p (arm_to p t) s → On p t s
unfolding arm_to
star_arm p t (row_star {x = x} {y = y} e f g) =
    let z = arm_line p.x t.x x (eqb t.y p.y) f g in
    in_row {x = x} {y = y} e (e ∙ sym (eqb-true t.y p.y z.0)) z.1 z.2
star_arm p t (column_star {x = x} {y = y} e f g) =
    let z = arm_line p.y t.y y (eqb t.x p.x) f g in
    in_column_lem {x = x} {y = y} e (e ∙ sym (eqb-true t.x p.x z.0)) z.1 z.2

-- and what the leg covers, its arm covers.
arm_star : (p t : Site) {s : Stride} → On p t s → Star p (arm_to p t) s
unfolding arm_to
arm_star p t (in_row {x = x} {y = y} e f l h) =
    let z = line_arm p.x t.x x (eqb t.y p.y) (eq-eqb t.y p.y (sym f ∙ e)) l h in
    row_star {x = x} {y = y} e z.0 z.1
arm_star p t (in_column_lem {x = x} {y = y} e f l h) =
    let z = line_arm p.y t.y y (eqb t.x p.x) (eq-eqb t.x p.x (sym f ∙ e)) l h in
    column_star {x = x} {y = y} e z.0 z.1

-- The arms of one leg cover what the leg does.
pub star_arm_is : (p t : Site) (s : Stride) → star p (arm_to p t) s ≡ covers p t s
star_arm_is p t s =
    same_test (star p (arm_to p t) s) (covers p t s) (λ e. on_covers p t (star_arm p t (star_of p (arm_to p t) s e)))
    (λ e. star_holds p (arm_to p t) (arm_star p t (on_of p t s e)))

-- In one line: what the longest arms cover, the one or the other covers.
line_or : (p x w e w' e' : ℕ) → p ≤ x + max w w' → x < p + max e e' → ((p ≤ x + w) × (x < p + e)) ⊎ ((p ≤ x + w') × (x < p + e'))
line_or p x w e w' e' l h = go (order p x) (order e e') (order w w')
  where
    go : (p ≤ x) ⊎ (x < p) → (e ≤ e') ⊎ (e' < e) → (w ≤ w') ⊎ (w' < w) → ((p ≤ x + w) × (x < p + e)) ⊎ ((p ≤ x + w') × (x < p + e'))
    go (inl o) (inl q) r = inr (omega arith, omega arith)
    go (inl o) (inr q) r = inl (omega arith, omega arith)
    go (inr o) q (inl r) = inr (omega arith, omega arith)
    go (inr o) q (inr r) = inl (omega arith, omega arith)

module _ (p : Site) (a b : Arms) where
  -- What the longest arms cover, the one or the other covers,
  longest_or : {s : Stride} → Star p (longest a b) s → Star p a s ⊎ Star p b s
  unfolding longest
  longest_or (row_star {x = x} {y = y} e f g) = go (line_or p.x x a.west a.east b.west b.east f g)
    where
      go : ((p.x ≤ x + a.west) × (x < p.x + a.east)) ⊎ ((p.x ≤ x + b.west) × (x < p.x + b.east)) → Star p a (along x y) ⊎ Star p b (along x y)
      go (inl z) = inl (row_star e z.0 z.1)
      go (inr z) = inr (row_star e z.0 z.1)
  longest_or (column_star {x = x} {y = y} e f g) = go (line_or p.y y a.south a.north b.south b.north f g)
    where
      go : ((p.y ≤ y + a.south) × (y < p.y + a.north)) ⊎ ((p.y ≤ y + b.south) × (y < p.y + b.north)) → Star p a (rise x y) ⊎ Star p b (rise x y)
      go (inl z) = inl (column_star e z.0 z.1)
      go (inr z) = inr (column_star e z.0 z.1)

  -- what the one covers, the longest cover,
  longest-left : {s : Stride} → Star p a s → Star p (longest a b) s
  unfolding longest
  longest-left (row_star {x = x} {y = y} e f g) = row_star {x = x} {y = y} e (omega arith) (omega arith)
  longest-left (column_star {x = x} {y = y} e f g) = column_star {x = x} {y = y} e (omega arith) (omega arith)

  -- and what the other covers.
  longest_right : {s : Stride} → Star p b s → Star p (longest a b) s
  unfolding longest
  longest_right (row_star {x = x} {y = y} e f g) = row_star {x = x} {y = y} e (omega arith) (omega arith)
  longest_right (column_star {x = x} {y = y} e f g) = column_star {x = x} {y = y} e (omega arith) (omega arith)

  -- The longest of two arms cover what the one or the other covers.
  pub star_longest : (s : Stride) → star p (longest a b) s ≡ either (star p a s) (star p b s)
  star_longest s = same_test (star p (longest a b) s) (either (star p a s) (star p b s)) (λ e. go (longest_or (star_of p (longest a b) s e)))
      (λ e. back (either_which (star p a s) (star p b s) e))
    where
      go : Star p a s ⊎ Star p b s → either (star p a s) (star p b s) ≡ true
      go (inl z) = either_left (star p b s) (star_holds p a z)
      go (inr z) = either_second (star p a s) (star_holds p b z)

      back : (star p a s ≡ true) ⊎ (star p b s ≡ true) → star p (longest a b) s ≡ true
      back (inl z) = star_holds p (longest a b) (longest-left (star_of p a s z))
      back (inr z) = star_holds p (longest a b) (longest_right (star_of p b s z))

-- Arms of no length cover nothing.
pub star_none : (p : Site) (s : Stride) → star p no_arms s ≡ true → ⊥
star_none p s e = go (star_of p no_arms s e)
  where
    go : {σ : Stride} → Star p no_arms σ → ⊥
    go (row_star e f g) = omega arith
    go (column_star e f g) = omega arith

-- How long a stretch is.
stretch : (m p w e : ℕ) → sum_below m (λ x. one_if (both (leb p (x + w)) (ltb x (p + e)))) ≡ min m (p + e) - (p - w)
unfolding sum_below both
stretch zero p w e = omega arith
stretch (suc m) p w e = go (leb p (m + w)) (ltb m (p + e)) refl refl (stretch m p w e)
  where
    go : (s t : Bool) → leb p (m + w) ≡ s → ltb m (p + e) ≡ t → sum_below m (λ x. one_if (both (leb p (x + w)) (ltb x (p + e)))) ≡ min m (p + e) - (p - w)
        → one_if (both s t) + sum_below m (λ x. one_if (both (leb p (x + w)) (ltb x (p + e)))) ≡ min (suc m) (p + e) - (p - w)
    go true true a b ih = omega (arith, leb-true p (m + w) a, ltb-true m (p + e) b)
    go true false a b ih = omega (arith, ltb-false m (p + e) b)
    go false t a b ih = omega (arith, leb-false p (m + w) a)

-- A count over one row of the grid,
one_row : (m q : ℕ) (c : ℕ → Bool) → q < m → sum_below m (λ x. sum_below m (λ y. one_if (both (eqb y q) (c x)))) ≡ sum_below m (λ x. one_if (c x))
unfolding both
one_row m q c l =
    sum_same m (λ x. sum_below m (λ y. one_if (both (eqb y q) (c x)))) (λ x. one_if (c x))
    (λ x k. sum-only m q (λ y. one_if (both (eqb y q) (c x))) l (λ i j n. rw (ne_eqb i q n)) ∙ rw (eq-eqb q q refl))

-- and over one column.
one_col : (m q : ℕ) (c : ℕ → Bool) → q < m → sum_below m (λ x. sum_below m (λ y. one_if (both (eqb x q) (c y)))) ≡ sum_below m (λ y. one_if (c y))
unfolding both
one_col m q c l =
    sum-only m q (λ x. sum_below m (λ y. one_if (both (eqb x q) (c y)))) l
    (λ i j n. sum-none m (λ y. one_if (both (eqb i q) (c y))) (λ y k. rw (ne_eqb i q n)))
    ∙ rw (eq-eqb q q refl)

-- The arms that leave p stay on the grid up to (m, m).
pub record Inside (m : ℕ) (p : Site) (a : Arms) : Type 0 where
  pub right : p.x + a.east < m
  pub left : a.west ≤ p.x
  pub above : p.y + a.north < m
  pub below : a.south ≤ p.y

-- Arms of no length stay on the grid,
pub inside-none : (m : ℕ) (p : Site) → Within m p → Inside m p no_arms
inside-none m p h = omega (arith, h.x_in, h.y_in)

-- An arm to a number below m stays below it.
arm_fits : (m p t : ℕ) (b : Bool) → p < m → t < m → (p + cond b (t - p) 0 < m) × (cond b (p - t) 0 ≤ p)
arm_fits m p t true h k = omega arith
arm_fits m p t false h k = omega arith

-- and so does the arm of a leg to another site of it,
pub inside_arm : (m : ℕ) (p t : Site) → Within m p → Within m t → Inside m p (arm_to p t)
unfolding arm_to
inside_arm m p t h k =
    let a = arm_fits m p.x t.x (eqb t.y p.y) h.x_in k.x_in in
    let b = arm_fits m p.y t.y (eqb t.x p.x) h.y_in k.y_in in
    record { right = a.0; left = a.1; above = b.0; below = b.1 }

-- and so do the longest of arms that stay.
pub inside-longest : (m : ℕ) (p : Site) (a b : Arms) → Inside m p a → Inside m p b → Inside m p (longest a b)
unfolding longest
inside-longest m p a b h k =
    record {
      right = omega (arith, h.right, k.right);
      left = omega (arith, h.left, k.left);
      above = omega (arith, h.above, k.above);
      below = omega (arith, h.below, k.below);
    }

-- How many strides the arms that leave a pin cover: all four together.
pub star_count : (m : ℕ) (p : Site) (a : Arms) → Inside m p a → over m (λ s. one_if (star p a s)) ≡ spread a
unfolding over star spread
star_count m p a h =
    let R : ℕ → Bool = λ x. both (leb p.x (x + a.west)) (ltb x (p.x + a.east)) in
    let C : ℕ → Bool = λ y. both (leb p.y (y + a.south)) (ltb y (p.y + a.north)) in
    let e1 =
    sum_same m (λ x. sum_below m (λ y. one_if (both (eqb y p.y) (R x)) + one_if (both (eqb x p.x) (C y))))
    (λ x. sum_below m (λ y. one_if (both (eqb y p.y) (R x))) + sum_below m (λ y. one_if (both (eqb x p.x) (C y))))
    (λ x k. sum-add m (λ y. one_if (both (eqb y p.y) (R x))) (λ y. one_if (both (eqb x p.x) (C y))))
    in
    let e2 = sum-add m (λ x. sum_below m (λ y. one_if (both (eqb y p.y) (R x)))) (λ x. sum_below m (λ y. one_if (both (eqb x p.x) (C y)))) in
    let e3 = one_row m p.y R (omega (arith, h.above)) ∙ stretch m p.x a.west a.east in
    let e4 = one_col m p.x C (omega (arith, h.right)) ∙ stretch m p.y a.south a.north in
    let n1 : min m (p.x + a.east) - (p.x - a.west) ≡ a.east + a.west = omega (arith, h.right, h.left) in
    let n2 : min m (p.y + a.north) - (p.y - a.south) ≡ a.north + a.south = omega (arith, h.above, h.below) in
    e1 ∙ e2 ∙ ap₂ ◌+◌ (e3 ∙ n1) (e4 ∙ n2) ∙ (let z : a.east + a.west + (a.north + a.south) ≡ a.east + a.west + a.north + a.south = omega arith in z)

-- Across a leg its arms have no length,
no_arm : (b : Bool) (p t : ℕ) → p ≡ t → (cond b (t - p) 0 ≡ 0) × (cond b (p - t) 0 ≡ 0)
no_arm true p t e = (omega arith, omega arith)
no_arm false p t e = (refl, refl)

-- and along it they are as long as it is.
an_arm : (p t : ℕ) (b : Bool) → b ≡ true → cond b (t - p) 0 + cond b (p - t) 0 ≡ gap p t
unfolding gap
an_arm p t true e = omega arith
an_arm p t false e = absurd (opposite e refl)

-- The arms of a straight leg together are its length.
pub spread_arm : (p t : Site) → (p.x ≡ t.x) ⊎ (p.y ≡ t.y) → spread (arm_to p t) ≡ span p t
unfolding spread arm_to span
spread_arm p t (inl e) =
    let z = no_arm (eqb t.y p.y) p.x t.x e in
    omega (arith, z.0, z.1, gap_same p.x t.x e, an_arm p.y t.y (eqb t.x p.x) (eq-eqb t.x p.x (sym e)))
spread_arm p t (inr e) =
    let z = no_arm (eqb t.x p.x) p.y t.y e in
    omega (arith, z.0, z.1, gap_same p.y t.y e, an_arm p.x t.x (eqb t.y p.y) (eq-eqb t.y p.y (sym e)))
