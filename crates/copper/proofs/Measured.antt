-- The length of a list of legs is the sum over the grid of 1 for each stride that one of the legs covers.
-- Assumes that the ends of the legs are held by i32 and, moved by 2 ^ 31, are on the grid.
use mathlib.Core.Path.{◌≡◌, refl, sym, ap, ap₂, ◌∙◌}
use mathlib.Core.Bool.{Bool, true, false}
use mathlib.Core.List.{List, [], ◌∷◌, ◌++◌}
use mathlib.Core.Logic.{◌⊎◌, inl, inr}
use Prim.Native.Nat.{ℕ, zero, suc, ◌+◌, ◌≤◌, ◌<◌, min, max}
use native.Mathlib.Omega.{arith}
use lib.IntN.{ℤ, pos, ◌+ℤ◌}
use lib.Dec.{eqb, leb, ltb}
use borrow.Author.Tests.{eqb-true, eqb-false, leb-true, le-leb, ltb-true, lt-ltb}
use Rattle.basics.proofs.Anyone.{any_append, any_end}
use Rattle.basics.specs.Tests.{both, either, choose, any_of}
use Rattle.basics.proofs.Tests.{fails_if, both_left, both_right, both_of, both-none, both_swap, either_which, same_test}
use Rattle.board.specs.declared.Place.{Place}
use Rattle.board.specs.Place.{difference, same_number}
use Rattle.board.proofs.Signed.{off}
use Rattle.board.proofs.Flat.{Site, site, PlaceI32}
use Rattle.copper.specs.declared.Leg.{Leg}
use Rattle.copper.specs.Length.{Step, across, up, same_step, steps_across, steps_up, steps_of, steps_of_all, among, length_of}
use Rattle.board.specs.Place.{smaller}
use Rattle.copper.proofs.Numbers.{Low, low_held, next_off, same_back, same_off, smaller_off, smaller_low, reach_off}
use Rattle.basics.proofs.Sums.{one_if}
use Rattle.copper.proofs.Cover.{Stride, along, rise, covers, over}
use Rattle.copper.proofs.Cover.{over-same, Within}
use Rattle.copper.proofs.Counted.{stride_of, step_at, Each, none, more, each_join, counted}

-- a is one of the n numbers from lo on.
unfoldable from : ℕ → ℕ → ℕ → Bool
from lo n a = both (leb lo a) (ltb a (lo + n))

-- None is one of no numbers.
from_none : (lo a : ℕ) → from lo 0 a ≡ false
unfolding from
from_none lo a =
    fails_if (both (leb lo a) (ltb a (lo + 0)))
    (λ e. omega (arith, leb-true lo a (both_left (leb lo a) (ltb a (lo + 0)) e), ltb-true a (lo + 0) (both_right (leb lo a) (ltb a (lo + 0)) e)))

-- One of n + 1 numbers is the first, or one of the n after it.
from_more : (lo n a : ℕ) → from lo (suc n) a ≡ either (eqb a lo) (from (suc lo) n a)
unfolding from either
from_more lo n a =
    same_test (both (leb lo a) (ltb a (lo + suc n))) (either (eqb a lo) (both (leb (suc lo) a) (ltb a (suc lo + n))))
    (λ e.
    go (eqb a lo) refl (leb-true lo a (both_left (leb lo a) (ltb a (lo + suc n)) e)) (ltb-true a (lo + suc n) (both_right (leb lo a) (ltb a (lo + suc n)) e)))
    (λ e. by (either_which (eqb a lo) (both (leb (suc lo) a) (ltb a (suc lo + n))) e))
  where
    go : (t : Bool) → eqb a lo ≡ t → lo ≤ a → a < lo + suc n → either t (both (leb (suc lo) a) (ltb a (suc lo + n))) ≡ true
    go true q l h = refl
    go false q l h =
        let ne : a ≡ lo → ⊥ = eqb-false a lo q in
        both_of (le-leb (suc lo) a (omega (arith, ne))) (lt-ltb a (suc lo + n) (omega arith))

    by : (eqb a lo ≡ true) ⊎ (both (leb (suc lo) a) (ltb a (suc lo + n)) ≡ true) → both (leb lo a) (ltb a (lo + suc n)) ≡ true
    by (inl q) =
        let z = eqb-true a lo q in
        both_of (le-leb lo a (omega arith)) (lt-ltb a (lo + suc n) (omega arith))
    by (inr q) =
        let l = leb-true (suc lo) a (both_left (leb (suc lo) a) (ltb a (suc lo + n)) q) in
        let h = ltb-true a (suc lo + n) (both_right (leb (suc lo) a) (ltb a (suc lo + n)) q) in
        both_of (le-leb lo a (omega arith)) (lt-ltb a (lo + suc n) (omega arith))

-- A test taken out of two,
join_tests : (p q r : Bool) → either (both p q) (both q r) ≡ both q (either p r)
unfolding both either
join_tests true true r = refl
join_tests true false r = refl
join_tests false true r = refl
join_tests false false r = refl

-- and a test made twice.
both_again : (a b : Bool) → both a (both a b) ≡ both a b
unfolding both
both_again true b = refl
both_again false b = refl

-- The steps of a row cover the strides of the row,
across_row : (n : ℕ) (x y : ℤ) (a b : ℕ) → Low x → Low y → among (step_at (along a b)) (steps_across x y n) ≡ both (eqb b (off y)) (from (off x) n a)
unfolding any_of steps_across step_at same_step
across_row zero x y a b p q = sym (ap (λ (z : Bool). both (eqb b (off y)) z) (from_none (off x) a) ∙ both-none (eqb b (off y)))
across_row (suc n) x y a b p q =
    let z = next_off x p in
    ap₂ either (ap₂ both (same_back a x p) (same_back b y q))
    (across_row n (x +ℤ pos 1) y a b z.0 q ∙ ap (λ (v : ℕ). both (eqb b (off y)) (from v n a)) z.1)
    ∙ join_tests (eqb a (off x)) (eqb b (off y)) (from (suc (off x)) n a)
    ∙ ap (λ (v : Bool). both (eqb b (off y)) v) (sym (from_more (off x) n a))

-- and none of a column.
across_none : (n : ℕ) (x y : ℤ) (a b : ℕ) → among (step_at (rise a b)) (steps_across x y n) ≡ false
unfolding any_of steps_across step_at same_step either
across_none zero x y a b = refl
across_none (suc n) x y a b = across_none n (x +ℤ pos 1) y a b

-- The steps of a column cover the strides of the column,
up_column : (n : ℕ) (x y : ℤ) (a b : ℕ) → Low x → Low y → among (step_at (rise a b)) (steps_up x y n) ≡ both (eqb a (off x)) (from (off y) n b)
unfolding any_of steps_up step_at same_step
up_column zero x y a b p q = sym (ap (λ (z : Bool). both (eqb a (off x)) z) (from_none (off y) b) ∙ both-none (eqb a (off x)))
up_column (suc n) x y a b p q =
    let z = next_off y q in
    ap₂ either
    (ap₂ both (same_back a x p) (same_back b y q) ∙ both_swap (eqb a (off x)) (eqb b (off y)))
    (up_column n x (y +ℤ pos 1) a b p z.0 ∙ ap (λ (v : ℕ). both (eqb a (off x)) (from v n b)) z.1)
    ∙ join_tests (eqb b (off y)) (eqb a (off x)) (from (suc (off y)) n b)
    ∙ ap (λ (v : Bool). both (eqb a (off x)) v) (sym (from_more (off y) n b))

-- and none of a row.
up_none : (n : ℕ) (x y : ℤ) (a b : ℕ) → among (step_at (along a b)) (steps_up x y n) ≡ false
unfolding any_of steps_up step_at same_step either
up_none zero x y a b = refl
up_none (suc n) x y a b = up_none n x (y +ℤ pos 1) a b

-- The same of the leg from a to b, in moved numbers.
module _ (a b : Site) where
  -- A leg in a row covers its strides of the row,
  row_on : (x y : ℕ) → a.y ≡ b.y → covers a b (along x y) ≡ both (eqb y a.y) (both (leb (min a.x b.x) x) (ltb x (max a.x b.x)))
  unfolding covers
  row_on x y e = rw (← e) (both_again (eqb y a.y) (both (leb (min a.x b.x) x) (ltb x (max a.x b.x))))

  -- and one in a column those of the column;
  column_on : (x y : ℕ) → a.x ≡ b.x → covers a b (rise x y) ≡ both (eqb x a.x) (both (leb (min a.y b.y) y) (ltb y (max a.y b.y)))
  unfolding covers
  column_on x y e = rw (← e) (both_again (eqb x a.x) (both (leb (min a.y b.y) y) (ltb y (max a.y b.y))))

  -- one that is in no row covers none of a row,
  row_off : (x y : ℕ) → (a.y ≡ b.y → ⊥) → covers a b (along x y) ≡ false
  unfolding covers both
  row_off x y ne = go (eqb y a.y) (eqb y b.y) refl refl
    where
      go : (s t : Bool) → eqb y a.y ≡ s → eqb y b.y ≡ t → both s (both t (both (leb (min a.x b.x) x) (ltb x (max a.x b.x)))) ≡ false
      go true true p q = absurd (ne (sym (eqb-true y a.y p) ∙ eqb-true y b.y q))
      go true false p q = refl
      go false t p q = refl

  -- and one that is in no column none of a column.
  column_off : (x y : ℕ) → (a.x ≡ b.x → ⊥) → covers a b (rise x y) ≡ false
  unfolding covers both
  column_off x y ne = go (eqb x a.x) (eqb x b.x) refl refl
    where
      go : (s t : Bool) → eqb x a.x ≡ s → eqb x b.x ≡ t → both s (both t (both (leb (min a.y b.y) y) (ltb y (max a.y b.y)))) ≡ false
      go true true p q = absurd (ne (sym (eqb-true x a.x p) ∙ eqb-true x b.x q))
      go true false p q = refl
      go false t p q = refl

  -- A leg in a row covers no stride of a column.
  level_off : (x y : ℕ) → a.y ≡ b.y → covers a b (rise x y) ≡ false
  unfolding covers
  level_off x y e =
      fails_if (both (eqb x a.x) (both (eqb x b.x) (both (leb (min a.y b.y) y) (ltb y (max a.y b.y)))))
      (λ t.
      let u = both_right (eqb x b.x) (both (leb (min a.y b.y) y) (ltb y (max a.y b.y)))
      (both_right (eqb x a.x) (both (eqb x b.x) (both (leb (min a.y b.y) y) (ltb y (max a.y b.y)))) t) in
      omega (
        arith,
        leb-true (min a.y b.y) y (both_left (leb (min a.y b.y) y) (ltb y (max a.y b.y)) u),
        ltb-true y (max a.y b.y) (both_right (leb (min a.y b.y) y) (ltb y (max a.y b.y)) u),
      ))

-- The steps of a leg are those that it covers.
module _ (a b : Place) (p : PlaceI32 a) (q : PlaceI32 b) where
  -- The numbers from the smaller x on, as many as the difference, are those between,
  from_x : (v : ℕ) → from (off (smaller a.x b.x)) (difference a.x b.x) v
      ≡ both (leb (min (off a.x) (off b.x)) v) (ltb v (max (off a.x) (off b.x)))
  unfolding from
  from_x v = rw (reach_off a.x b.x p.x q.x, smaller_off a.x b.x p.x q.x)

  -- and so with y.
  from_y : (v : ℕ) → from (off (smaller a.y b.y)) (difference a.y b.y) v
      ≡ both (leb (min (off a.y) (off b.y)) v) (ltb v (max (off a.y) (off b.y)))
  unfolding from
  from_y v = rw (reach_off a.y b.y p.y q.y, smaller_off a.y b.y p.y q.y)

  -- The smaller x is not too low,
  low_x : Low (smaller a.x b.x)
  low_x = smaller_low a.x b.x p.x q.x

  -- nor the smaller y.
  low_y : Low (smaller a.y b.y)
  low_y = smaller_low a.y b.y p.y q.y

  -- Places share x where their sites do,
  pub same_x : same_number a.x b.x ≡ eqb (off a.x) (off b.x)
  same_x = same_off a.x b.x (low_held a.x p.x) (low_held b.x q.x)

  -- and y likewise.
  pub same_y : same_number a.y b.y ≡ eqb (off a.y) (off b.y)
  same_y = same_off a.y b.y (low_held a.y p.y) (low_held b.y q.y)

  -- The steps of the leg in a row,
  abbrev row_steps : List Step
  row_steps = steps_across (smaller a.x b.x) a.y (difference a.x b.x)

  -- and in a column.
  abbrev column_steps : List Step
  column_steps = steps_up a.x (smaller a.y b.y) (difference a.y b.y)

  -- Whichever it is, a step is one of them where the leg covers it.
  in_steps : (σ : Stride) (s t : Bool) → eqb (off a.y) (off b.y) ≡ s → eqb (off a.x) (off b.x) ≡ t
      → among (step_at σ) (choose s row_steps (choose t column_steps [])) ≡ covers (site a) (site b) σ
  unfolding choose
  in_steps (along v w) true t e f =
      across_row (difference a.x b.x) (smaller a.x b.x) a.y v w low_x (low_held a.y p.y)
      ∙ ap (λ (z : Bool). both (eqb w (off a.y)) z) (from_x v)
      ∙ sym (row_on (site a) (site b) v w (eqb-true (off a.y) (off b.y) e))
  in_steps (rise v w) true t e f =
      across_none (difference a.x b.x) (smaller a.x b.x) a.y v w
      ∙ sym (level_off (site a) (site b) v w (eqb-true (off a.y) (off b.y) e))
  in_steps (along v w) false true e f =
      up_none (difference a.y b.y) a.x (smaller a.y b.y) v w
      ∙ sym (row_off (site a) (site b) v w (eqb-false (off a.y) (off b.y) e))
  in_steps (rise v w) false true e f =
      up_column (difference a.y b.y) a.x (smaller a.y b.y) v w (low_held a.x p.x) low_y
      ∙ ap (λ (z : Bool). both (eqb v (off a.x)) z) (from_y w)
      ∙ sym (column_on (site a) (site b) v w (eqb-true (off a.x) (off b.x) f))
  in_steps (along v w) false false e f =
      any_end refl (same_step (step_at (along v w))) ∙ sym (row_off (site a) (site b) v w (eqb-false (off a.y) (off b.y) e))
  in_steps (rise v w) false false e f =
      any_end refl (same_step (step_at (rise v w))) ∙ sym (column_off (site a) (site b) v w (eqb-false (off a.x) (off b.x) f))

  -- A step is one of a leg's where the leg covers it.
  pub leg_steps : (σ : Stride) → among (step_at σ) (steps_of (record { from = a; to = b })) ≡ covers (site a) (site b) σ
  unfolding steps_of
  leg_steps σ = rw (same_y, same_x) (in_steps σ (eqb (off a.y) (off b.y)) (eqb (off a.x) (off b.x)) refl refl)

-- The steps of a row are on the grid where their ends are,
each_across : {m : ℕ} (n : ℕ) (x y : ℤ) → Low x → Low y → off x + n ≤ m → off y < m → Each m (steps_across x y n)
unfolding steps_across stride_of
each_across zero x y p q l k = none
each_across (suc n) x y p q l k =
    let z = next_off x p in
    more {t = across x y} (p, q) (omega arith, k) (each_across n (x +ℤ pos 1) y z.0 q (omega (arith, z.1)) k)

-- and so are those of a column,
each_up : {m : ℕ} (n : ℕ) (x y : ℤ) → Low x → Low y → off y + n ≤ m → off x < m → Each m (steps_up x y n)
unfolding steps_up stride_of
each_up zero x y p q l k = none
each_up (suc n) x y p q l k =
    let z = next_off y q in
    more {t = up x y} (p, q) (k, omega arith) (each_up n x (y +ℤ pos 1) p z.0 (omega (arith, z.1)) k)

-- A leg whose ends are held by i32 and, moved, on the grid up to (m, m).
pub record HeldLeg (m : ℕ) (l : Leg) : Type 0 where
  pub from_held : PlaceI32 l.from
  pub to_held : PlaceI32 l.to
  pub from_in : Within m (site l.from)
  pub to_in : Within m (site l.to)

-- Legs each of which is such a leg.
pub data HeldLegs (m : ℕ) : List Leg → Type 0 where
  no_legs : HeldLegs m []
  more_legs : {l : Leg} {ls : List Leg} → HeldLeg m l → HeldLegs m ls → HeldLegs m (l ∷ ls)

-- Two lists of such legs, joined, are such legs.
pub held_join : {m : ℕ} {ks ls : List Leg} → HeldLegs m ks → HeldLegs m ls → HeldLegs m (ks ++ ls)
held_join no_legs h = h
held_join (more_legs p g) h = more_legs p (held_join g h)

-- The steps of such a leg are on the grid,
leg_each : {m : ℕ} (l : Leg) → HeldLeg m l → Each m (steps_of l)
unfolding steps_of
leg_each {m} l h = go (same_number l.from.y l.to.y) (same_number l.from.x l.to.x)
  where
    a : Place
    a = l.from

    b : Place
    b = l.to

    go : (s t : Bool)
        → Each m
        (choose s (steps_across (smaller a.x b.x) a.y (difference a.x b.x))
        (choose t (steps_up a.x (smaller a.y b.y) (difference a.y b.y)) []))
    go true t =
        unfold choose in
        each_across (difference a.x b.x) (smaller a.x b.x) a.y (low_x a b h.from_held h.to_held) (low_held a.y h.from_held.y)
        (omega (arith, reach_off a.x b.x h.from_held.x h.to_held.x, h.from_in.x_in, h.to_in.x_in)) h.from_in.y_in
    go false true =
        unfold choose in
        each_up (difference a.y b.y) a.x (smaller a.y b.y) (low_held a.x h.from_held.x) (low_y a b h.from_held h.to_held)
        (omega (arith, reach_off a.y b.y h.from_held.y h.to_held.y, h.from_in.y_in, h.to_in.y_in)) h.from_in.x_in
    go false false = unfold choose in none

-- and so are those of such legs.
legs_each : {m : ℕ} {ls : List Leg} → HeldLegs m ls → Each m (steps_of_all ls)
unfolding steps_of_all
legs_each no_legs = none
legs_each (more_legs {l = l} p h) = each_join (leg_each l p) (legs_each h)

-- One of the legs covers the stride.
abbrev pub any_leg : List Leg → Stride → Bool
any_leg ls σ = any_of (λ (l : Leg). covers (site l.from) (site l.to) σ) ls

-- A step is one of the legs' where one of them covers it.
legs_steps : {m : ℕ} {ls : List Leg} → HeldLegs m ls → (σ : Stride) → among (step_at σ) (steps_of_all ls) ≡ any_leg ls σ
unfolding steps_of_all any_of
legs_steps no_legs σ = any_end refl (same_step (step_at σ))
legs_steps (more_legs {l = l} {ls = ls} p h) σ =
    any_append (same_step (step_at σ)) (steps_of l) (steps_of_all ls)
    ∙ ap₂ either (leg_steps l.from l.to p.from_held p.to_held σ) (legs_steps h σ)

-- The length of a list of legs, as a sum over the grid.
pub length-counted : {m : ℕ} {ls : List Leg} → HeldLegs m ls → length_of ls ≡ over m (λ σ. one_if (any_leg ls σ))
unfolding length_of
length-counted {m} {ls} h =
    counted (legs_each h)
    ∙ over-same m (λ σ. one_if (among (step_at σ) (steps_of_all ls))) (λ σ. one_if (any_leg ls σ)) (λ σ. ap one_if (legs_steps h σ))
