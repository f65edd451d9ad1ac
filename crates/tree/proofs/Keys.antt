-- The order of pairs of pins as the order of one number, the key: so it is a strict total order on pairs of distinct pins.
-- Assumes nothing.
use mathlib.Core.Path.{◌≡◌, refl, sym, ap, ap₂, ◌∙◌}
use mathlib.Core.Bool.{Bool, true, false}
use mathlib.Core.Logic.{◌⊎◌, inl, inr}
use Prim.Native.Nat.{ℕ, ◌+◌, ◌-◌, ◌*◌, ◌<◌, ◌≤◌, min, max}
use native.Mathlib.Omega.{arith}
use native.Mathlib.Nat.{min_comm, max_comm}
use lib.Dec.{ltb}
use lib.IntN.{ℤ, pos, neg_ℤ}
use borrow.Author.Tests.{lt-ltb, le-ltb, ltb-true, ltb-false}
use mir.Syntax.{w32}
use mir.Val.{SFits}
use Rattle.basics.specs.Tests.{choose}
use Rattle.basics.proofs.Tests.{both_left, both_right}
use Rattle.board.specs.declared.Place.{Place}
use Rattle.board.specs.Place.{inside, on_board, difference, larger}
use Rattle.tree.specs.Weight.{weight_of, pair_of, by_part, by_number, comes_before}
use Rattle.board.specs.Place.{distance_of}
use Rattle.board.proofs.Signed.{off, I32, ltb-same, lt_z_off, neg_off, max_off, off_range}
use Rattle.board.proofs.Board.{board, difference_small, larger_small}
use Rattle.board.proofs.Flat.{gap, gap_swap, order, Site, span, site, PlaceI32, difference_gap, distance_span}

-- Two digits as one number, the first deciding.
unfoldable pub lex : ℕ → ℕ → ℕ
lex a b = a * 17179869184 + b

-- Two digits read as one number: where it is at most another, the first digits decide, and where they are equal the second.
pub lex_le : (a b c d : ℕ) → d < 17179869184 → lex a b ≤ lex c d → (a ≤ c) × (a ≡ c → b ≤ d)
unfolding lex
lex_le a b c d f h = omega arith

-- The same where it is less.
pub lex_lt : (a b c d : ℕ) → d < 17179869184 → lex a b < lex c d → (a ≤ c) × (a ≡ c → b < d)
unfolding lex
lex_lt a b c d f h = omega arith

-- Where they are the same number, both digits are.
pub lex_eq : (a b c d : ℕ) → b < 17179869184 → d < 17179869184 → lex a b ≡ lex c d → (a ≡ c) × (b ≡ d)
unfolding lex
lex_eq a b c d f g h = omega arith

-- A number that goes down as its argument goes up.
abbrev pub down : ℕ → ℕ
down n = 17179869183 - n

-- The key of pin i at a with pin j at b: distance, then the larger difference in y, the larger x, the lower pin numbers.
unfoldable pub key : Site → ℕ → Site → ℕ → ℕ
key a i b j =
    lex (lex (lex (lex (span a b) (down (gap a.y b.y))) (down (max a.x b.x))) (min i j)) (max i j)

-- A pair has one key, whichever pin is named first.
pub key_swap : (a : Site) (i : ℕ) (b : Site) (j : ℕ) → key a i b j ≡ key b j a i
unfolding key span
key_swap a i b j =
    rw (gap_swap a.x b.x, gap_swap a.y b.y, max_comm a.x b.x, min_comm i j, max_comm i j)

-- A pin's numbers fit a digit.
pub record Fits (a : Site) (i : ℕ) : Type 0 where
  pub x : a.x < 17179869184
  pub y : a.y < 17179869184
  pub number : i < 17179869184

-- A number going down fits a digit.
pub low : (n : ℕ) → down n < 17179869184
low n = omega arith

-- Two numbers with the same smaller and larger one are the same two.
both_numbers : (i j k l : ℕ) → min i j ≡ min k l → max i j ≡ max k l → ((i ≡ k) × (j ≡ l)) ⊎ ((i ≡ l) × (j ≡ k))
both_numbers i j k l h m = go (order i j) (order k l)
  where
    go : (i ≤ j) ⊎ (j < i) → (k ≤ l) ⊎ (l < k) → ((i ≡ k) × (j ≡ l)) ⊎ ((i ≡ l) × (j ≡ k))
    go (inl o) (inl q) = inl (omega arith)
    go (inl o) (inr q) = inr (omega arith)
    go (inr o) (inl q) = inr (omega arith)
    go (inr o) (inr q) = inl (omega arith)

-- Equal keys are of one pair of pin numbers.
pub key_one : (a : Site) (i : ℕ) (b : Site) (j : ℕ) (c : Site) (k : ℕ) (d : Site) (l : ℕ) → Fits a i → Fits b j → Fits c k → Fits d l
    → key a i b j ≡ key c k d l → ((i ≡ k) × (j ≡ l)) ⊎ ((i ≡ l) × (j ≡ k))
unfolding key
key_one a i b j c k d l fa fb fc fd h =
    let e = lex_eq _ (max i j) _ (max k l) (omega (arith, fa.number, fb.number)) (omega (arith, fc.number, fd.number)) h in
    let f = lex_eq _ (min i j) _ (min k l) (omega (arith, fa.number)) (omega (arith, fc.number)) e.0 in
    both_numbers i j k l f.1 e.1

-- Two numbers compared, the smaller first, and the rest where they are equal.
by_go : (s t : Bool) (a b x y : ℕ) → ltb a b ≡ s → ltb b a ≡ t → x < 17179869184 → y < 17179869184
    → choose s true (choose t false (ltb x y)) ≡ ltb (lex a x) (lex b y)
unfolding choose lex
by_go true t a b x y es et hx hy = sym (lt-ltb (a * 17179869184 + x) (b * 17179869184 + y) (omega (arith, ltb-true a b es)))
by_go false true a b x y es et hx hy = sym (le-ltb (a * 17179869184 + x) (b * 17179869184 + y) (omega (arith, ltb-true b a et)))
by_go false false a b x y es et hx hy =
    let e : a ≡ b = omega (arith, ltb-false a b es, ltb-false b a et) in
    ltb-same x y (a * 17179869184 + x) (b * 17179869184 + y) (λ h. omega arith) (λ h. omega arith)

-- The last digit.
last : (a b x y : ℕ) → x < 17179869184 → y < 17179869184 → by_number a b (ltb x y) ≡ ltb (lex a x) (lex b y)
unfolding by_number
last a b x y hx hy = by_go (ltb a b) (ltb b a) a b x y refl refl hx hy

-- Two comparisons in a row are one of the joined digits.
join_go : (s t u v : Bool) (a b x y : ℕ) (r : Bool) → ltb a b ≡ s → ltb b a ≡ t → ltb x y ≡ u → ltb y x ≡ v
    → x < 17179869184 → y < 17179869184
    → choose s true (choose t false (choose u true (choose v false r))) ≡ choose (ltb (lex a x) (lex b y)) true (choose (ltb (lex b y) (lex a x)) false r)
unfolding choose lex
join_go true t u v a b x y r es et eu ev hx hy =
    rw (lt-ltb (a * 17179869184 + x) (b * 17179869184 + y) (omega (arith, ltb-true a b es)))
join_go false true u v a b x y r es et eu ev hx hy =
    rw (
      le-ltb (a * 17179869184 + x) (b * 17179869184 + y) (omega (arith, ltb-true b a et)),
      lt-ltb (b * 17179869184 + y) (a * 17179869184 + x) (omega (arith, ltb-true b a et)),
    )
join_go false false true v a b x y r es et eu ev hx hy =
    let e : a ≡ b = omega (arith, ltb-false a b es, ltb-false b a et) in
    rw (lt-ltb (a * 17179869184 + x) (b * 17179869184 + y) (omega (arith, ltb-true x y eu)))
join_go false false false true a b x y r es et eu ev hx hy =
    let e : a ≡ b = omega (arith, ltb-false a b es, ltb-false b a et) in
    rw (
      le-ltb (a * 17179869184 + x) (b * 17179869184 + y) (omega (arith, ltb-true y x ev)),
      lt-ltb (b * 17179869184 + y) (a * 17179869184 + x) (omega (arith, ltb-true y x ev)),
    )
join_go false false false false a b x y r es et eu ev hx hy =
    let e : a ≡ b = omega (arith, ltb-false a b es, ltb-false b a et) in
    let f : x ≡ y = omega (arith, ltb-false x y eu, ltb-false y x ev) in
    rw (le-ltb (a * 17179869184 + x) (b * 17179869184 + y) (omega arith), le-ltb (b * 17179869184 + y) (a * 17179869184 + x) (omega arith))

-- Comparing by two parts is comparing by the one number that joins them.
joined : (a b x y : ℕ) (r : Bool) → x < 17179869184 → y < 17179869184
    → by_number a b (by_number x y r) ≡ by_number (lex a x) (lex b y) r
unfolding by_number
joined a b x y r hx hy = join_go (ltb a b) (ltb b a) (ltb x y) (ltb y x) a b x y r refl refl refl refl hx hy

-- A comparison of signed numbers is one of natural numbers that are ordered as they are.
by_off : (a b : ℤ) (m n : ℕ) (r : Bool) → I32 a → I32 b → (off a < off b → m < n) → (off b ≤ off a → n ≤ m) → (off b < off a → n < m) → (off a ≤ off b → m ≤ n)
    → by_part a b r ≡ by_number m n r
unfolding by_part by_number
by_off a b m n r ha hb f g f' g' =
    ap₂ (λ (s t : Bool). choose s true (choose t false r))
    (lt_z_off a b ha hb ∙ ltb-same (off a) (off b) m n f g)
    (lt_z_off b a hb ha ∙ ltb-same (off b) (off a) n m f' g')

-- A place of the board whose numbers an i32 holds.
pub record OnBoard (a : Place) : Type 0 where
  pub held : PlaceI32 a
  pub x : on_board a.x ≡ true
  pub y : on_board a.y ≡ true

-- A place that is inside, whose numbers an i32 holds, is such a place.
pub on_board_lem : {a : Place} → PlaceI32 a → inside a ≡ true → OnBoard a
unfolding inside
on_board_lem {a} h e = record { held = h; x = both_left _ _ e; y = both_right (on_board a.x) _ e }

-- A number of i32, as the language holds it.
fit : {z : ℤ} → I32 z → SFits w32 z
fit h = record { sfits = h }

-- The parts of a weight, moved up, with rough bounds that keep them within an i32.
record Parts (a b : Place) : Type 0 where
  distance : off (pos (distance_of a b)) ≡ 2147483648 + span (site a) (site b)
  near_distance : span (site a) (site b) < 1000000
  rise : off (neg_ℤ (pos (difference a.y b.y))) + gap (off a.y) (off b.y) ≡ 2147483648
  near_rise : gap (off a.y) (off b.y) < 1000000
  right : off (neg_ℤ (larger a.x b.x)) + max (off a.x) (off b.x) ≡ 4294967296
  near_right : max (off a.x) (off b.x) < 2148000000
  above_right : 2146000000 < max (off a.x) (off b.x)

-- The parts of a weight of two places of the board have their bounds,
parts : {a b : Place} → OnBoard a → OnBoard b → Parts a b
unfolding gap span
parts {a} {b} p q =
    let ax = board (fit p.held.x) p.x in
    let ay = board (fit p.held.y) p.y in
    let bx = board (fit q.held.x) q.x in
    let by = board (fit q.held.y) q.y in
    let dy = difference_gap a.y b.y p.held.y q.held.y in
    let m = max_off a.x b.x p.held.x q.held.x in
    record {
      distance = up (distance_of a b) ∙ ap (λ (n : ℕ). 2147483648 + n) (distance_span p.held q.held);
      near_distance = omega (arith, ax, ay, bx, by);
      rise = omega (
        arith,
        neg_off (pos (difference a.y b.y)) (difference_small (fit p.held.y) (fit q.held.y) p.y q.y),
        dy,
        up (difference a.y b.y),
      );
      near_rise = omega (arith, ay, by);
      right = omega (arith, neg_off (larger a.x b.x) (larger_small (fit p.held.x) (fit q.held.x) p.x q.x), m);
      near_right = omega (arith, ax, bx);
      above_right = omega (arith, ax, bx);
    }
  where
    up : (n : ℕ) → off (pos n) ≡ 2147483648 + n
    up n = unfold off in refl

-- The three parts of a weight are those of an i32.
record Fit (a b : Place) : Type 0 where
  distance : I32 (pos (distance_of a b))
  rise : I32 (neg_ℤ (pos (difference a.y b.y)))
  right : I32 (neg_ℤ (larger a.x b.x))

-- so each of them is a number of i32.
fits : {a b : Place} → Parts a b → Fit a b
fits {a} {b} p =
    record {
      distance = off_range (pos (distance_of a b)) (omega (arith, p.distance, p.near_distance)) (omega (arith, p.distance, p.near_distance));
      rise = off_range (neg_ℤ (pos (difference a.y b.y))) (omega (arith, p.rise, p.near_rise)) (omega (arith, p.rise, p.near_rise));
      right = off_range (neg_ℤ (larger a.x b.x)) (omega (arith, p.right, p.near_right, p.above_right)) (omega (arith, p.right, p.near_right, p.above_right));
    }

module _ {a b c d : Place} (p : Parts a b) (q : Parts c d) (r : Bool) where
  -- To compare two weights by distance is to compare the digits of their keys,
  by_distance : by_part (pos (distance_of a b)) (pos (distance_of c d)) r ≡ by_number (span (site a) (site b)) (span (site c) (site d)) r
  by_distance =
      let e = p.distance in
      let f = q.distance in
      by_off (pos (distance_of a b)) (pos (distance_of c d)) (span (site a) (site b)) (span (site c) (site d)) r (fits p).distance (fits q).distance
      (λ h. omega arith) (λ h. omega arith) (λ h. omega arith) (λ h. omega arith)

  -- so too by the difference in y,
  by_rise : by_part (neg_ℤ (pos (difference a.y b.y))) (neg_ℤ (pos (difference c.y d.y))) r
      ≡ by_number (down (gap (off a.y) (off b.y))) (down (gap (off c.y) (off d.y))) r
  by_rise =
      let e = p.rise in
      let f = q.rise in
      by_off (neg_ℤ (pos (difference a.y b.y))) (neg_ℤ (pos (difference c.y d.y))) (down (gap (off a.y) (off b.y)))
      (down (gap (off c.y) (off d.y))) r
      (fits p).rise (fits q).rise
      (λ h. omega (arith, p.near_rise)) (λ h. omega (arith, q.near_rise)) (λ h. omega (arith, q.near_rise)) (λ h. omega (arith, p.near_rise))

  -- and by the larger x.
  by_right : by_part (neg_ℤ (larger a.x b.x)) (neg_ℤ (larger c.x d.x)) r
      ≡ by_number (down (max (off a.x) (off b.x))) (down (max (off c.x) (off d.x))) r
  by_right =
      let e = p.right in
      let f = q.right in
      by_off (neg_ℤ (larger a.x b.x)) (neg_ℤ (larger c.x d.x)) (down (max (off a.x) (off b.x))) (down (max (off c.x) (off d.x))) r
      (fits p).right (fits q).right
      (λ h. omega (arith, p.near_right)) (λ h. omega (arith, q.near_right)) (λ h. omega (arith, q.near_right)) (λ h. omega (arith, p.near_right))

-- WHICH PAIR COMES BEFORE IS THE ORDER OF KEYS, for pins of the board whose numbers a digit holds.
pub before_key : {a b c d : Place} (i j k l : ℕ) → OnBoard a → OnBoard b → OnBoard c → OnBoard d
    → i < 17179869184 → j < 17179869184 → k < 17179869184 → l < 17179869184
    → comes_before (pair_of i a j b) (pair_of k c l d) ≡ ltb (key (site a) i (site b) j) (key (site c) k (site d) l)
unfolding comes_before pair_of weight_of key
before_key {a} {b} {c} {d} i j k l pa pb pc pd hi hj hk hl =
    let p = parts pa pb in
    let q = parts pc pd in
    let s = span (site a) (site b) in
    let s' = span (site c) (site d) in
    let t = down (gap (off a.y) (off b.y)) in
    let t' = down (gap (off c.y) (off d.y)) in
    let u = down (max (off a.x) (off b.x)) in
    let u' = down (max (off c.x) (off d.x)) in
    let numbers = by_number (min i j) (min k l) (ltb (max i j) (max k l)) in
    rw (by_right p q numbers, by_rise p q (by_number u u' numbers), by_distance p q (by_number t t' (by_number u u' numbers)))
    (joined s s' t t' (by_number u u' numbers) (omega arith) (omega arith)
    ∙ joined (lex s t) (lex s' t') u u' numbers (omega arith) (omega arith)
    ∙ joined (lex (lex s t) u) (lex (lex s' t') u') (min i j) (min k l) (ltb (max i j) (max k l)) (omega arith) (omega arith)
    ∙ last (lex (lex (lex s t) u) (min i j)) (lex (lex (lex s' t') u') (min k l)) (max i j) (max k l) (omega arith) (omega arith))
