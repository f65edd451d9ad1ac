-- Around a site, twelve zones hold the sites off its row and its column, each of these in two of them; and no zone holds two sites that are no nearer
-- to each other than either is to it. So of sites that lie so at most six are off the row and the column. Assumes nothing.
use mathlib.Core.Path.{◌≡◌, refl, sym}
use mathlib.Core.Bool.{Bool, true, false, not, cond, ◌&&◌}
use mathlib.Core.List.{List, [], ◌∷◌}
use Prim.Native.Nat.{ℕ, ◌+◌, ◌*◌, ◌<◌, ◌≤◌}
use native.Mathlib.Omega.{arith}
use lib.Dec.{T, ltb}
use borrow.Author.Tests.{ltb-true, ltb-false}
use Rattle.board.proofs.Flat.{gap, gap_swap, gap_up, gap_down, gap_through, Site, span}
use Rattle.basics.specs.Sums.{one_if, how_many}
use Rattle.spanning.proofs.Neighbours.{All, All.none, All.also, all_map, Pairwise}

-- On which side of a number another lies.
pub data Side : Type 0 where
  less equal more : Side

-- By comparing the two.
unfoldable pub side : ℕ → ℕ → Side
side c a = cond (ltb a c) less (cond (ltb c a) more equal)

-- What each side says of them,
pub data Seen (c a : ℕ) : Side → Type 0 where
  below : a < c → Seen c a less
  level : a ≡ c → Seen c a equal
  above : c < a → Seen c a more

-- whichever they are.
pub seen : (c a : ℕ) → Seen c a (side c a)
unfolding side
seen c a = go (ltb a c) (ltb c a) refl refl
  where
    go : (p q : Bool) → ltb a c ≡ p → ltb c a ≡ q → Seen c a (cond p less (cond q more equal))
    go true q e f = below (ltb-true a c e)
    go false true e f = above (ltb-true c a f)
    go false false e f = level (omega (arith, ltb-false a c e, ltb-false c a f))

-- It lies on the given side: `true` for more.
abbrev pub on : Bool → Side → Bool
on true less = false
on true equal = false
on true more = true
on false less = true
on false equal = false
on false more = false

-- It lies aside.
abbrev pub aside : Side → Bool
aside less = true
aside equal = false
aside more = true

-- Three tests that hold together hold each.
parts : (a b c : Bool) → T (a && (b && c)) → T a × T b × T c
parts true true true t = (tt, tt, tt)
parts true true false t = absurd t
parts true false c t = absurd t
parts false b c t = absurd t

-- Four zones between the diagonals, and eight between a diagonal and an axis, the diagonal with them.
pub data Zone : Type 0 where
  flat steep : Bool → Zone
  flatter steeper : Bool → Bool → Zone

-- A zone holds what lies on these sides: in x, in y, and of the diagonal.
abbrev pub within : Zone → Side → Side → Side → Bool
within (flat b) x y d = on b x && (aside y && on false d)
within (steep b) x y d = aside x && (on b y && on true d)
within (flatter b c) x y d = on b x && (on c y && not (on true d))
within (steeper b c) x y d = on b x && (on c y && not (on false d))

-- The side of p seen from c in x,
abbrev pub side_x : Site → Site → Side
side_x c p = side c.x p.x

-- in y,
abbrev pub side_y : Site → Site → Side
side_y c p = side c.y p.y

-- and of its difference in y seen from that in x.
abbrev pub side_d : Site → Site → Side
side_d c p = side (gap c.x p.x) (gap c.y p.y)

-- A site lies in a zone around another.
unfoldable pub in_zone : Zone → Site → Site → Bool
in_zone z c p = within z (side_x c p) (side_y c p) (side_d c p)

-- p is off the row and the column of c.
unfoldable pub skew : Site → Site → Bool
skew c p = aside (side_x c p) && aside (side_y c p)

-- A number that is not the other lies aside of it.
aside_of : (c a : ℕ) → (c ≡ a → ⊥) → aside (side c a) ≡ true
aside_of c a ne = go (side c a) (seen c a)
  where
    go : (s : Side) → Seen c a s → aside s ≡ true
    go less (below l) = refl
    go equal (level e) = absurd (ne (sym e))
    go more (above l) = refl

-- A site that shares neither x nor y is off both.
pub skew_of : (c p : Site) → (c.x ≡ p.x → ⊥) → (c.y ≡ p.y → ⊥) → skew c p ≡ true
unfolding skew
skew_of c p nx ny = rw (aside_of c.x p.x nx, aside_of c.y p.y ny)

-- ---- what a side says
-- On the lesser side it is less,
is_less : (g h : ℕ) → T (on false (side g h)) → h < g
is_less g h t = go (side g h) (seen g h) t
  where
    go : (s : Side) → Seen g h s → T (on false s) → h < g
    go less (below l) u = l
    go equal (level e) u = absurd u
    go more (above l) u = absurd u

-- on the other more;
is_more : (g h : ℕ) → T (on true (side g h)) → g < h
is_more g h t = go (side g h) (seen g h) t
  where
    go : (s : Side) → Seen g h s → T (on true s) → g < h
    go less (below l) u = absurd u
    go equal (level e) u = absurd u
    go more (above l) u = l

-- not on the other it is at most that number,
not_more : (g h : ℕ) → T (not (on true (side g h))) → h ≤ g
not_more g h t = go (side g h) (seen g h) t
  where
    go : (s : Side) → Seen g h s → T (not (on true s)) → h ≤ g
    go less (below l) u = omega arith
    go equal (level e) u = omega arith
    go more (above l) u = absurd u

-- not on the lesser at least.
not_less : (g h : ℕ) → T (not (on false (side g h))) → g ≤ h
not_less g h t = go (side g h) (seen g h) t
  where
    go : (s : Side) → Seen g h s → T (not (on false s)) → g ≤ h
    go less (below l) u = absurd u
    go equal (level e) u = omega arith
    go more (above l) u = omega arith

-- On either side there is a gap.
is_apart : (b : Bool) (c a : ℕ) → T (on b (side c a)) → 0 < gap c a
is_apart true c a t = let l = is_more c a t in omega (arith, gap_up c a (omega arith))
is_apart false c a t = let l = is_less c a t in omega (arith, gap_down c a (omega arith))

-- Above c two numbers are as far apart as their gaps from c are.
shift_up : (c a b g h : ℕ) → g + c ≡ a → h + c ≡ b → gap a b ≡ gap g h
unfolding gap
shift_up c a b g h e f = omega arith

-- And below it.
shift_down : (c a b g h : ℕ) → g + a ≡ c → h + b ≡ c → gap a b ≡ gap g h
unfolding gap
shift_down c a b g h e f = omega arith

-- So it is on either side.
fold : (s : Bool) (c a b : ℕ) → T (on s (side c a)) → T (on s (side c b)) → gap a b ≡ gap (gap c a) (gap c b)
fold true c a b t u =
    let l = is_more c a t in
    let m = is_more c b u in
    shift_up c a b (gap c a) (gap c b) (gap_up c a (omega arith)) (gap_up c b (omega arith))
fold false c a b t u =
    let l = is_less c a t in
    let m = is_less c b u in
    shift_down c a b (gap c a) (gap c b) (gap_down c a (omega arith)) (gap_down c b (omega arith))

-- ---- no zone holds two: gaps (g, h) and (g', h') from the centre, d apart
-- Two in a zone between the diagonals are too near to each other.
between-clash : (g h g' h' d : ℕ) → h < g → h' < g' → d ≤ gap g g' + (h + h') → g + h ≤ d → g' + h' ≤ d → ⊥
unfolding gap
between-clash g h g' h' d a b e f k = omega arith

-- Two in a zone between a diagonal and an axis are too near to each other.
beside_clash : (g h g' h' d : ℕ) → h ≤ g → h' ≤ g' → 0 < h → 0 < h' → d ≤ gap g g' + gap h h' → g + h ≤ d → g' + h' ≤ d → ⊥
unfolding gap
beside_clash g h g' h' d a b p q e f k = omega arith

module _ (c p q : Site) (hp : span c p ≤ span p q) (hq : span c q ≤ span p q) where
  -- So it is for each of the twelve.
  zone_clash : (z : Zone) → T (in_zone z c p) → T (in_zone z c q) → ⊥
  unfolding in_zone span
  zone_clash (flat b) t u =
      let t' = parts (on b (side_x c p)) (aside (side_y c p)) (on false (side_d c p)) t in
      let u' = parts (on b (side_x c q)) (aside (side_y c q)) (on false (side_d c q)) u in
      between-clash (gap c.x p.x) (gap c.y p.y) (gap c.x q.x) (gap c.y q.y) (gap p.x q.x + gap p.y q.y)
      (is_less (gap c.x p.x) (gap c.y p.y) t'.2) (is_less (gap c.x q.x) (gap c.y q.y) u'.2)
      (omega (arith, fold b c.x p.x q.x t'.0 u'.0, gap_through p.y c.y q.y, gap_swap p.y c.y))
      hp hq
  zone_clash (steep b) t u =
      let t' = parts (aside (side_x c p)) (on b (side_y c p)) (on true (side_d c p)) t in
      let u' = parts (aside (side_x c q)) (on b (side_y c q)) (on true (side_d c q)) u in
      between-clash (gap c.y p.y) (gap c.x p.x) (gap c.y q.y) (gap c.x q.x) (gap p.x q.x + gap p.y q.y)
      (is_more (gap c.x p.x) (gap c.y p.y) t'.2) (is_more (gap c.x q.x) (gap c.y q.y) u'.2)
      (omega (arith, fold b c.y p.y q.y t'.1 u'.1, gap_through p.x c.x q.x, gap_swap p.x c.x))
      (omega arith) (omega arith)
  zone_clash (flatter b s) t u =
      let t' = parts (on b (side_x c p)) (on s (side_y c p)) (not (on true (side_d c p))) t in
      let u' = parts (on b (side_x c q)) (on s (side_y c q)) (not (on true (side_d c q))) u in
      beside_clash (gap c.x p.x) (gap c.y p.y) (gap c.x q.x) (gap c.y q.y) (gap p.x q.x + gap p.y q.y)
      (not_more (gap c.x p.x) (gap c.y p.y) t'.2) (not_more (gap c.x q.x) (gap c.y q.y) u'.2)
      (is_apart s c.y p.y t'.1) (is_apart s c.y q.y u'.1)
      (omega (arith, fold b c.x p.x q.x t'.0 u'.0, fold s c.y p.y q.y t'.1 u'.1))
      hp hq
  zone_clash (steeper b s) t u =
      let t' = parts (on b (side_x c p)) (on s (side_y c p)) (not (on false (side_d c p))) t in
      let u' = parts (on b (side_x c q)) (on s (side_y c q)) (not (on false (side_d c q))) u in
      beside_clash (gap c.y p.y) (gap c.x p.x) (gap c.y q.y) (gap c.x q.x) (gap p.x q.x + gap p.y q.y)
      (not_less (gap c.x p.x) (gap c.y p.y) t'.2) (not_less (gap c.x q.x) (gap c.y q.y) u'.2)
      (is_apart b c.x p.x t'.0) (is_apart b c.x q.x u'.0)
      (omega (arith, fold b c.x p.x q.x t'.0 u'.0, fold s c.y p.y q.y t'.1 u'.1))
      (omega arith) (omega arith)

-- ---- counting
-- None of some numbers that fail a test passes it.
no_more : (f : ℕ → Bool) {l : List ℕ} → All (λ (b : ℕ). T (f b) → ⊥) l → how_many f l ≡ 0
unfolding how_many
no_more f none = refl
no_more f (also {a = a} {l = l} h k) = go (f a) h (no_more f k)
  where
    go : (t : Bool) → (T t → ⊥) → how_many f l ≡ 0 → one_if t + how_many f l ≡ 0
    go true u e = absurd (u tt)
    go false u e = omega arith

-- Where no two pass it together, one does at most.
one_of : (f : ℕ → Bool) (R : ℕ → ℕ → Type 0) → ((a b : ℕ) → R a b → T (f a) → T (f b) → ⊥) → {l : List ℕ} → Pairwise R l → how_many f l ≤ 1
unfolding how_many
one_of f R w Pairwise.none = omega arith
one_of f R w (Pairwise.also {a = a} {l = l} h k) = go (f a) (λ t. no_more f (all_map (λ b r. w a b r t) h)) (one_of f R w k)
  where
    go : (t : Bool) → (T t → how_many f l ≡ 0) → how_many f l ≤ 1 → one_if t + how_many f l ≤ 1
    go true u m = omega (arith, u tt)
    go false u m = omega arith

-- A sum over the twelve zones.
unfoldable total : (Zone → ℕ) → ℕ
total f =
    f (flat true) + f (flat false) + f (steep true) + f (steep false)
    + f (flatter true true) + f (flatter true false) + f (flatter false true) + f (flatter false false)
    + f (steeper true true) + f (steeper true false) + f (steeper false true) + f (steeper false false)

-- Twelve times at most 1 is at most 12.
total_most : (f : Zone → ℕ) → ((z : Zone) → f z ≤ 1) → total f ≤ 12
unfolding total
total_most f h =
    omega (
      arith,
      h (flat true),
      h (flat false),
      h (steep true),
      h (steep false),
      h (flatter true true),
      h (flatter true false),
      h (flatter false true),
      h (flatter false false),
      h (steeper true true),
      h (steeper true false),
      h (steeper false true),
      h (steeper false false),
    )

-- Every place off the axes is in two zones, and every other in none.
in_two : (x y d : Side) → 2 * one_if (aside x && aside y) ≡ total (λ z. one_if (within z x y d))
unfolding total
in_two less less less = refl
in_two less less equal = refl
in_two less less more = refl
in_two less equal less = refl
in_two less equal equal = refl
in_two less equal more = refl
in_two less more less = refl
in_two less more equal = refl
in_two less more more = refl
in_two equal less less = refl
in_two equal less equal = refl
in_two equal less more = refl
in_two equal equal less = refl
in_two equal equal equal = refl
in_two equal equal more = refl
in_two equal more less = refl
in_two equal more equal = refl
in_two equal more more = refl
in_two more less less = refl
in_two more less equal = refl
in_two more less more = refl
in_two more equal less = refl
in_two more equal equal = refl
in_two more equal more = refl
in_two more more less = refl
in_two more more equal = refl
in_two more more more = refl

module _ (at : ℕ → Site) (c : Site) where
  -- So twice those off the row and the column are those in the zones, zone by zone.
  twice : (l : List ℕ) → 2 * how_many (λ a. skew c (at a)) l ≡ total (λ z. how_many (λ a. in_zone z c (at a)) l)
  unfolding how_many total skew in_zone
  twice [] = refl
  twice (a ∷ l) =
      omega (arith, twice l, in_two (side c.x (at a).x) (side c.y (at a).y) (side (gap c.x (at a).x) (gap c.y (at a).y)))

  -- Two sites are no nearer to each other than either is to c.
  pub record Spread (a b : ℕ) : Type 0 where
    pub first : span c (at a) ≤ span (at a) (at b)
    pub second : span c (at b) ≤ span (at a) (at b)

  -- AT MOST SIX of sites spread so are off the row and the column.
  pub six : {l : List ℕ} → Pairwise Spread l → how_many (λ a. skew c (at a)) l ≤ 6
  six {l} h =
      omega (
        arith,
        twice l,
        total_most (λ z. how_many (λ a. in_zone z c (at a)) l)
            (λ z. one_of (λ a. in_zone z c (at a)) Spread (λ a b r. zone_clash c (at a) (at b) r.first r.second z) h),
      )
