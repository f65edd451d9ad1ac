-- AT MOST SIX BENT RUNS end at a pin. From pins that stand on the board.
use mathlib.Core.Path.{◌≡◌, refl, sym, ap, ◌∙◌, subst}
use mathlib.Core.Bool.{Bool, true, false, cond}
use mathlib.Core.List.{List, [], ◌∷◌, reverse_aux}
use Prim.Native.Nat.{ℕ, ◌+◌, ◌≤◌}
use native.Mathlib.Omega.{arith}
use lib.Dec.{eqb}
use lib.IntN.{ℤ}
use lib.ListN.{length}
use borrow.Author.Tests.{eqb-true, eqb-false, not-true}
use Rattle.basics.specs.Tests.{both, either}
use Rattle.basics.proofs.Tests.{either-false}
use Rattle.board.specs.Spots.{Spot}
use Rattle.board.specs.Place.{difference, same_number, is_straight}
use Rattle.board.proofs.Signed.{off, I32}
use Rattle.board.proofs.Flat.{gap, gap_self, difference_gap}
use Rattle.tree.specs.declared.Run.{Run}
use Rattle.board.specs.Spots.{most_pins, place_at, all_within}
use Rattle.tree.specs.Growth.{pins_of, runs_among, runs_of}
use Rattle.tree.specs.Boxes.{is_end}
use Rattle.tree.specs.Bends.{bent, bent_at, bent_from, bent_into}
use Rattle.basics.specs.Sums.{one_if, how_many}
use Rattle.tree.proofs.Membership.{Among, first, later}
use Rattle.tree.proofs.Numbering.{site_at, key_at, keyed, stands, fits}
use Rattle.tree.proofs.Branches.{Grown, branching, reached_there}
use Rattle.tree.proofs.Listing.{runs_grown, pins_low}
use Rattle.spanning.proofs.Spanning.{runs_join}
use Rattle.spanning.proofs.FourPins.{key_span}
use Rattle.spanning.proofs.Neighbours.{Joined, joined_reached, neighbours, around, All, All.none, All.also, Pairwise, around_joined, around_once}
use Rattle.spanning.proofs.Zones.{skew, skew_of, Spread, six}

-- Numbers that are not the same are not the same in ℕ.
number_apart : (a b : ℤ) → I32 a → I32 b → same_number a b ≡ false → off a ≡ off b → ⊥
unfolding same_number
number_apart a b ha hb e q =
    eqb-false (difference a b) 0 e (difference_gap a b ha hb ∙ ap (gap (off a)) (sym q) ∙ gap_self (off a))

module _ (feed : List Spot) (ok : all_within feed ≡ true) where
  -- The ends of a bent run share neither row nor column.
  bent_apart : (r : Run) → bent feed r ≡ true → ((site_at feed r.near).x ≡ (site_at feed r.far).x → ⊥) × ((site_at feed r.near).y ≡ (site_at feed r.far).y → ⊥)
  unfolding bent is_straight
  bent_apart r e =
      let a = place_at feed r.near in
      let b = place_at feed r.far in
      let z = either-false (same_number a.x b.x) (same_number a.y b.y) (not-true _ e) in
      let p = (stands feed ok r.near).held in
      let q = (stands feed ok r.far).held in
      (number_apart a.x b.x p.x q.x z.0, number_apart a.y b.y p.y q.y z.1)

  -- So the far pin of a bent run is off the row and the column of its near pin,
  bent_onward : (r : Run) → bent feed r ≡ true → skew (site_at feed r.near) (site_at feed r.far) ≡ true
  bent_onward r e = let z = bent_apart r e in skew_of (site_at feed r.near) (site_at feed r.far) z.0 z.1

  -- and the near pin off those of its far pin.
  bent_backward : (r : Run) → bent feed r ≡ true → skew (site_at feed r.far) (site_at feed r.near) ≡ true
  bent_backward r e = let z = bent_apart r e in skew_of (site_at feed r.far) (site_at feed r.near) (λ q. z.0 (sym q)) (λ q. z.1 (sym q))

  -- The bent runs at a pin are no more than the pins that runs join to it, off its row and its column.
  bent_around : (n : ℕ) (rs : List Run) → bent_at feed rs n ≤ how_many (λ a. skew (site_at feed n) (site_at feed a)) (around n rs)
  unfolding how_many around is_end both either
  bent_around n [] = omega arith
  bent_around n (r ∷ rs) = go (eqb n r.near) (eqb n r.far) (bent feed r) refl refl refl (bent_around n rs)
    where
      toward : (a : ℕ) → n ≡ r.near → bent feed r ≡ true → a ≡ r.far → skew (site_at feed n) (site_at feed a) ≡ true
      toward a e h f = rw (e, f) (bent_onward r h)

      away : (a : ℕ) → n ≡ r.far → bent feed r ≡ true → a ≡ r.near → skew (site_at feed n) (site_at feed a) ≡ true
      away a e h f = rw (e, f) (bent_backward r h)

      go : (p q b : Bool) → eqb n r.near ≡ p → eqb n r.far ≡ q → bent feed r ≡ b
          → bent_at feed rs n ≤ how_many (λ a. skew (site_at feed n) (site_at feed a)) (around n rs)
          → one_if (both (either p q) b) + bent_at feed rs n
          ≤ how_many (λ a. skew (site_at feed n) (site_at feed a)) (cond p (r.far ∷ around n rs) (cond q (r.near ∷ around n rs) (around n rs)))
      go true q true e f h l = omega (arith, ap one_if (toward r.far (eqb-true n r.near e) h refl))
      go true q false e f h l = omega arith
      go false true true e f h l = omega (arith, ap one_if (away r.near (eqb-true n r.far f) h refl))
      go false true false e f h l = omega arith
      go false false b e f h l = omega arith

-- ---- the order of the list does not matter
bent_turned : (feed : List Spot) (l m : List Run) (n : ℕ) → bent_at feed (reverse_aux l m) n ≡ bent_at feed l n + bent_at feed m n
unfolding how_many
bent_turned feed [] m n = omega arith
bent_turned feed (r ∷ l) m n = bent_turned feed l (r ∷ m) n ∙ omega arith

module _ (feed : List Spot) (full : length feed ≡ most_pins) (ok : all_within feed ≡ true) (f : ℕ) (left : List ℕ) (e : pins_of feed ≡ f ∷ left) where
  -- Two pins that runs join to one are no nearer to each other than either is to it.
  spread : {rs : List Run} → Grown (key_at feed) (λ (a : ℕ). Among a (f ∷ left)) f rs → (i a b : ℕ) → Joined i a rs → Joined i b rs → (a ≡ b → ⊥)
      → Spread (site_at feed) (site_at feed i) a b
  unfolding key_at
  spread g i a b ha hb ne =
      let w = branching g in
      let la = pins_low feed full ok f left e a (reached_there (first refl) w a (joined_reached w i a ha).1) in
      let lb = pins_low feed full ok f left e b (reached_there (first refl) w b (joined_reached w i b hb).1) in
      let k = neighbours (key_at feed) (keyed feed ok).swap g i a b ha hb ne in
      record {
        first = key_span (site_at feed i) i (site_at feed a) a (site_at feed a) a (site_at feed b) b (fits feed ok a la) (fits feed ok b lb) k.0;
        second = key_span (site_at feed i) i (site_at feed b) b (site_at feed a) a (site_at feed b) b (fits feed ok a la) (fits feed ok b lb) k.1;
      }

  -- One such pin and each of some others are spread so,
  each : {rs : List Run} → Grown (key_at feed) (λ (a : ℕ). Among a (f ∷ left)) f rs → (i a : ℕ) → Joined i a rs → {l : List ℕ} → All (λ (b : ℕ). Joined i b rs) l
      → All (λ (b : ℕ). a ≡ b → ⊥) l → All (Spread (site_at feed) (site_at feed i) a) l
  each g i a h none none = none
  each g i a h (also {a = b} k ks) (also m ms) = also (spread g i a b h k m) (each g i a h ks ms)

  -- and so are any two of them.
  pairwise : {rs : List Run} → Grown (key_at feed) (λ (a : ℕ). Among a (f ∷ left)) f rs → (i : ℕ) {l : List ℕ} → All (λ (b : ℕ). Joined i b rs) l
      → Pairwise (λ (a b : ℕ). a ≡ b → ⊥) l → Pairwise (Spread (site_at feed) (site_at feed i)) l
  pairwise g i none Pairwise.none = Pairwise.none
  pairwise g i (also {a = a} k ks) (Pairwise.also m ms) = Pairwise.also (each g i a k ks m) (pairwise g i ks ms)

  -- At most six bent runs end at a pin, the runs listed the newest first,
  six_newest : (n : ℕ) → bent_at feed (reverse_aux (runs_of feed) []) n ≤ 6
  six_newest n =
      let g = runs_grown feed full ok f left e in
      let rs = reverse_aux (runs_of feed) [] in
      omega (
        arith,
        bent_around feed ok n rs,
        six (site_at feed) (site_at feed n) (pairwise g n (around_joined n rs) (around_once n (branching g))),
      )

  -- and in the order in which they are taken.
  six_some : (n : ℕ) → bent_at feed (runs_of feed) n ≤ 6
  unfolding how_many
  six_some n = omega (arith, six_newest n, bent_turned feed (runs_of feed) [] n)

-- AT MOST SIX BENT RUNS end at any pin of a feed.
pub six_bent : (feed : List Spot) → length feed ≡ most_pins → all_within feed ≡ true → (n : ℕ) → bent_at feed (runs_of feed) n ≤ 6
unfolding how_many runs_of runs_among
six_bent feed full ok n = go (pins_of feed) refl
  where
    go : (l : List ℕ) → pins_of feed ≡ l → bent_at feed (runs_among feed l) n ≤ 6
    go [] e = omega arith
    go (f ∷ left) e = subst (λ (l : List ℕ). bent_at feed (runs_among feed l) n ≤ 6) e (six_some feed full ok f left e n)

-- ---- leading on, and reaching
-- A bent run whose ends differ counts at a pin as leading on from it or as reaching it, never both.
split_go : (n near far : ℕ) (p q b : Bool) → eqb n near ≡ p → eqb n far ≡ q → (near ≡ far → ⊥)
    → one_if (both (either p q) b) ≡ one_if (both p b) + one_if (both q b)
unfolding both either
split_go n near far true true b e f ne = absurd (ne (sym (eqb-true n near e) ∙ eqb-true n far f))
split_go n near far true false true e f ne = refl
split_go n near far true false false e f ne = refl
split_go n near far false true true e f ne = refl
split_go n near far false true false e f ne = refl
split_go n near far false false true e f ne = refl
split_go n near far false false false e f ne = refl

-- The bent runs at a pin are those leading on from it and those that reach it.
bent_split : (feed : List Spot) (runs : List Run) (n : ℕ) → ((r : Run) → Among r runs → r.near ≡ r.far → ⊥)
    → bent_at feed runs n ≡ bent_from feed runs n + bent_into feed runs n
unfolding how_many is_end
bent_split feed [] n h = refl
bent_split feed (r ∷ runs) n h =
    omega (
      arith,
      split_go n r.near r.far (eqb n r.near) (eqb n r.far) (bent feed r) refl refl (h r (first refl)),
      bent_split feed runs n (λ q m. h q (later m)),
    )

-- OF THE BENT RUNS LEADING ON FROM A PIN AND THE ONE THAT REACHED IT there are at most six.
pub six_leading : (feed : List Spot) → length feed ≡ most_pins → all_within feed ≡ true → (n : ℕ) → bent_from feed (runs_of feed) n + bent_into feed (runs_of feed) n ≤ 6
six_leading feed full ok n = omega (arith, six_bent feed full ok n, bent_split feed (runs_of feed) n (runs_join feed full ok).ends_differ)
