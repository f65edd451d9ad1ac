-- DIAGONAL COPPER HAS NO PLACE HERE: every leg of every choice of shapes lies in one row or in one column, and the legs of a run are together as long as
-- its distance, in every shape that it may have. Assumes nothing.
use mathlib.Core.Path.{◌≡◌, refl, sym, ap, ◌∙◌, subst}
use mathlib.Core.Bool.{Bool, true, false, not}
use mathlib.Core.List.{List, [], ◌∷◌, ◌++◌}
use mathlib.Core.Logic.{◌⊎◌, inl, inr}
use Prim.Native.Nat.{ℕ, zero, suc, ◌+◌}
use native.Mathlib.Omega.{arith}
use lib.IntN.{ℤ, pos, ◌+ℤ◌}
use lib.Signed.{le_z}
use lib.ListN.{length, length-append}
use borrow.Author.Tests.{eqb-true}
use Rattle.basics.specs.Tests.{choose}
use Rattle.basics.proofs.Tests.{either_which, opposite}
use Rattle.board.specs.declared.Place.{Place}
use Rattle.board.specs.Spots.{Spot}
use Rattle.board.specs.Place.{difference, same_number, is_straight, smaller, distance_of}
use Rattle.board.proofs.Board.{number_same, number_self}
use Rattle.tree.specs.declared.Run.{Run}
use Rattle.tree.specs.Bends.{bent}
use Rattle.basics.specs.Lists.{Among, first, later}
use Rattle.tree.proofs.Membership.{in_either}
use Rattle.spanning.proofs.Spanning.{none-among}
use Rattle.copper.specs.declared.Shape.{Shape}
use Rattle.copper.specs.declared.Shape.TheVariants.{Straight, Lower, Upper}
use Rattle.copper.specs.declared.Leg.{Leg}
use Rattle.copper.specs.Shapes.{crossing, lower_corner, upper_corner, shape_of, legs_of}
use Rattle.copper.specs.Length.{Step, steps_across, steps_up, steps_of, steps_of_all}
use Rattle.laying.specs.Entries.{near_end, far_end}
use Rattle.wiring.specs.Choices.{bent_shapes, shapes_of, choices_of, legs_of_choice}
use Rattle.laying.specs.Reaching.{shapes_by}
use Rattle.wiring.specs.Demand.{InLine}
use Rattle.wiring.proofs.Masks.{bends}
use Rattle.wiring.proofs.Ordered.{choice_told}

-- ---- one leg
-- A number does not differ from itself,
same_none : (a : ℤ) → difference a a ≡ 0
unfolding same_number
same_none a = eqb-true (difference a a) 0 (number_self a)

-- nor from one that is the same.
equal_none : (a b : ℤ) → a ≡ b → difference a b ≡ 0
equal_none a b e = ap (difference a) (sym e) ∙ same_none a

-- The steps of a row are as many as they are to be,
row_many : (x y : ℤ) (n : ℕ) → length (steps_across x y n) ≡ n
unfolding steps_across
row_many x y zero = refl
row_many x y (suc n) = ap suc (row_many (x +ℤ pos 1) y n)

-- and those of a column.
column_many : (x y : ℤ) (n : ℕ) → length (steps_up x y n) ≡ n
unfolding steps_up
column_many x y zero = refl
column_many x y (suc n) = ap suc (column_many x (y +ℤ pos 1) n)

-- The steps of a leg, by whether its ends share y and whether they share x.
abbrev steps_by : Leg → Bool → Bool → List Step
steps_by l row column =
    choose row (steps_across (smaller l.from.x l.to.x) l.from.y (difference l.from.x l.to.x))
    (choose column (steps_up l.from.x (smaller l.from.y l.to.y) (difference l.from.y l.to.y)) [])

-- A leg in one row or in one column covers as many steps as its ends are apart.
leg_long : (l : Leg) → InLine l → length (steps_of l) ≡ distance_of l.from l.to
unfolding steps_of distance_of
leg_long l e = by (same_number l.from.y l.to.y) (same_number l.from.x l.to.x) refl refl e
  where
    dx : ℕ
    dx = difference l.from.x l.to.x

    dy : ℕ
    dy = difference l.from.y l.to.y

    by : (row column : Bool) → same_number l.from.y l.to.y ≡ row → same_number l.from.x l.to.x ≡ column → InLine l
        → length (steps_by l row column) ≡ dx + dy
    by true column p q f =
        let z = equal_none l.from.y l.to.y (number_same l.from.y l.to.y p) in
        unfold choose in omega (arith, row_many (smaller l.from.x l.to.x) l.from.y dx, z)
    by false true p q f =
        let z = equal_none l.from.x l.to.x (number_same l.from.x l.to.x q) in
        unfold choose in omega (arith, column_many l.from.x (smaller l.from.y l.to.y) dy, z)
    by false false p q (inl f) =
        absurd (opposite (ap (same_number l.from.y) (sym f) ∙ number_self l.from.y) p)
    by false false p q (inr f) =
        absurd (opposite (ap (same_number l.from.x) (sym f) ∙ number_self l.from.x) q)

-- ---- the legs of a run
-- A corner of two places: in the column of one and the row of the other, it lies on a shortest way between them.
module _ (a b : Place) where
  -- Along the row first;
  row_first : distance_of a (crossing b a) + distance_of (crossing b a) b ≡ distance_of a b
  unfolding distance_of
  row_first = omega (arith, same_none a.y, same_none b.x)

  -- along the column first.
  column_first : distance_of a (crossing a b) + distance_of (crossing a b) b ≡ distance_of a b
  unfolding distance_of
  column_first = omega (arith, same_none a.x, same_none b.y)

-- A shape that a run may have: a straight one where its ends share x or y.
abbrev May : Shape → Place → Place → Type 0
May s a b = s ≡ Straight → is_straight a b ≡ true

-- Two legs over a corner: both in line, and together as long as the distance.
record Corner (a c b : Place) : Type 0 where
  to : InLine (record { from = a; to = c })
  on : InLine (record { from = c; to = b })
  sums : distance_of a c + distance_of c b ≡ distance_of a b

-- In the row of the one end it is such a corner,
row_corner : (a b : Place) → Corner a (crossing b a) b
row_corner a b = record { to = inl refl; on = inr refl; sums = row_first a b }

-- and so it is in its column.
column_corner : (a b : Place) → Corner a (crossing a b) b
column_corner a b = record { to = inr refl; on = inl refl; sums = column_first a b }

-- So is either of two,
corner_either : (t : Bool) {a b c d : Place} → Corner a c b → Corner a d b → Corner a (choose t c d) b
unfolding choose
corner_either true p q = p
corner_either false p q = q

-- the lower corner,
lower_corner_lem : (a b : Place) → Corner a (lower_corner a b) b
unfolding lower_corner
lower_corner_lem a b = corner_either (le_z a.y b.y) (row_corner a b) (column_corner a b)

-- and the upper.
upper_corner_lem : (a b : Place) → Corner a (upper_corner a b) b
unfolding upper_corner
upper_corner_lem a b = corner_either (le_z a.y b.y) (column_corner a b) (row_corner a b)

-- The ends of a straight run share y or x.
straight_line : (a b : Place) → is_straight a b ≡ true → InLine (record { from = a; to = b })
unfolding is_straight
straight_line a b e = by (either_which (same_number a.x b.x) (same_number a.y b.y) e)
  where
    by : (same_number a.x b.x ≡ true) ⊎ (same_number a.y b.y ≡ true) → InLine (record { from = a; to = b })
    by (inl p) = inr (number_same a.x b.x p)
    by (inr p) = inl (number_same a.y b.y p)

-- Two legs cover as many steps as both.
two_long : (l m : Leg) → length (steps_of_all (l ∷ m ∷ [])) ≡ length (steps_of l) + length (steps_of m)
unfolding steps_of_all
two_long l m = omega (arith, length-append (steps_of l) (steps_of m ++ []), length-append (steps_of m) [])

-- One leg covers its own.
one_long : (l : Leg) → length (steps_of_all (l ∷ [])) ≡ length (steps_of l)
unfolding steps_of_all
one_long l = omega (arith, length-append (steps_of l) [])

-- The two legs over a corner are together as long as the distance.
corner_long : (a c b : Place) → Corner a c b → length (steps_of_all (record { from = a; to = c } ∷ record { from = c; to = b } ∷ [])) ≡ distance_of a b
corner_long a c b k =
    omega (
      arith,
      two_long (record { from = a; to = c }) (record { from = c; to = b }),
      leg_long (record { from = a; to = c }) k.to,
      leg_long (record { from = c; to = b }) k.on,
      k.sums,
    )

-- Two legs, each in line.
both_in : (l m n : Leg) → InLine m → InLine n → Among l (m ∷ n ∷ []) → InLine l
both_in l m n p q (first e) = subst InLine (sym e) p
both_in l m n p q (later (later x6)) = elim x6 [ ]
both_in l m n p q (later (first e)) = subst InLine (sym e) q

-- The legs of a run in a shape that it may have lie in one row or in one column each,
shape_in_line : (s : Shape) (a b : Place) → May s a b → (l : Leg) → Among l (legs_of s a b) → InLine l
unfolding legs_of
shape_in_line Straight a b m l (later x5) = elim x5 [ ]
shape_in_line Straight a b m l (first e) = subst InLine (sym e) (straight_line a b (m refl))
shape_in_line Lower a b m l i = both_in l _ _ (lower_corner_lem a b).to (lower_corner_lem a b).on i
shape_in_line Upper a b m l i = both_in l _ _ (upper_corner_lem a b).to (upper_corner_lem a b).on i

-- and are together as long as its distance.
shape_long : (s : Shape) (a b : Place) → May s a b → length (steps_of_all (legs_of s a b)) ≡ distance_of a b
unfolding legs_of
shape_long Straight a b m = one_long (record { from = a; to = b }) ∙ leg_long (record { from = a; to = b }) (straight_line a b (m refl))
shape_long Lower a b m = corner_long a (lower_corner a b) b (lower_corner_lem a b)
shape_long Upper a b m = corner_long a (upper_corner a b) b (upper_corner_lem a b)

-- ---- the shapes that a run may have
-- A bent shape is no straight one.
bent_may : (u : Bool) {A : Type 0} → choose u Upper Lower ≡ Straight → A
unfolding choose
bent_may true e = absurd (let z : ◌≡◌ {A = ℕ} 0 1 = cc in omega arith)
bent_may false e = absurd (let z : ◌≡◌ {A = ℕ} 0 1 = cc in omega arith)

-- The shape that a bend tells is one that the run may have.
pub told_may : (u : Bool) (a b : Place) → shape_of u a b ≡ Straight → is_straight a b ≡ true
unfolding shape_of
told_may u a b = by (is_straight a b)
  where
    by : (t : Bool) → choose t Straight (choose u Upper Lower) ≡ Straight → t ≡ true
    by true e = refl
    by false e = unfold choose in bent_may u e

-- So is each of the shapes of a run.
shape_may : (favoured : Bool) (feed : List Spot) (r : Run) (s : Shape) → Among s (shapes_of favoured feed r) → May s (near_end feed r) (far_end feed r)
unfolding shapes_of bent bent_shapes
shape_may favoured feed r s i e = by (is_straight (near_end feed r) (far_end feed r)) favoured i
  where
    not-bent : {A : Type 0} → Among Straight (Lower ∷ Upper ∷ []) ⊎ Among Straight (Upper ∷ Lower ∷ []) → A
    not-bent {A = A} (inl (later (later x7))) = elim x7 [ ]
    not-bent {A = A} (inr (later (later x8))) = elim x8 [ ]
    not-bent (inl (first q)) = bent_may false (unfold choose in sym q)
    not-bent (inl (later (first q))) = bent_may true (unfold choose in sym q)
    not-bent (inr (first q)) = bent_may true (unfold choose in sym q)
    not-bent (inr (later (first q))) = bent_may false (unfold choose in sym q)

    by : (t f : Bool) → Among s (choose (not t) (choose f (Upper ∷ Lower ∷ []) (Lower ∷ Upper ∷ [])) (Straight ∷ [])) → t ≡ true
    by true f j = refl
    by false true j = not-bent (inr (subst (λ (x : Shape). Among x (Upper ∷ Lower ∷ [])) e (unfold choose in j)))
    by false false j = not-bent (inl (subst (λ (x : Shape). Among x (Lower ∷ Upper ∷ [])) e (unfold choose in j)))

-- THE LEGS OF A RUN ARE TOGETHER AS LONG AS ITS DISTANCE, in every shape that it may have.
pub run_as_long : (favoured : Bool) (feed : List Spot) (r : Run) (s : Shape) → Among s (shapes_of favoured feed r)
    → length (steps_of_all (legs_of s (near_end feed r) (far_end feed r))) ≡ distance_of (near_end feed r) (far_end feed r)
run_as_long favoured feed r s i = shape_long s (near_end feed r) (far_end feed r) (shape_may favoured feed r s i)

-- ---- the legs of a choice
-- Those of the shapes that bends tell lie in line,
told_in_line : (feed : List Spot) (upper : ℕ → Bool) (runs : List Run) (l : Leg) → Among l (legs_of_choice feed runs (shapes_by feed upper runs)) → InLine l
unfolding legs_of_choice shapes_by
told_in_line feed upper [] l i = absurd (none-among refl i)
told_in_line feed upper (r ∷ runs) l i =
    by (in_either (legs_of s a b) i) (told_in_line feed (λ q. upper (suc q)) runs l)
  where
    a : Place
    a = near_end feed r

    b : Place
    b = far_end feed r

    s : Shape
    s = shape_of (upper 0) a b

    by : {A : Type 0} → Among l (legs_of s a b) ⊎ A → (A → InLine l) → InLine l
    by (inl j) ih = shape_in_line s a b (told_may (upper 0) a b) l j
    by (inr j) ih = ih j

-- EVERY LEG OF EVERY CHOICE LIES IN ONE ROW OR IN ONE COLUMN.
pub choice_in_line : (favoured : Bool) (feed : List Spot) (runs : List Run) (c : List Shape) → Among c (choices_of favoured feed runs)
    → (l : Leg) → Among l (legs_of_choice feed runs c) → InLine l
choice_in_line favoured feed runs c m l i =
    told_in_line feed (bends c) runs l (subst (λ (d : List Shape). Among l (legs_of_choice feed runs d)) (choice_told favoured feed runs c m) i)

-- The legs of a told run are as long as its distance.
pub told_as_long : (u : Bool) (a b : Place) → length (steps_of_all (legs_of (shape_of u a b) a b)) ≡ distance_of a b
told_as_long u a b = shape_long (shape_of u a b) a b (told_may u a b)
