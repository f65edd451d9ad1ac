-- The choices of shapes in their order: every choice is told by how its runs bend, its mask grows from each choice to the later ones, and so
-- the first of the shortest is the one of least length, and among those of least mask. Assumes at most 31 runs.
use mathlib.Core.Path.{◌≡◌, refl, sym, ap, ap₂, subst}
use mathlib.Core.Bool.{Bool, true, false, not}
use mathlib.Core.List.{List, [], ◌∷◌, ◌++◌}
use mathlib.Core.Logic.{◌⊎◌, inl, inr}
use Prim.Native.Nat.{ℕ, zero, suc, ◌+◌, ◌≤◌, ◌<◌}
use native.Mathlib.Omega.{arith}
use lib.Dec.{ltb}
use lib.ListN.{length}
use borrow.Author.Tests.{lt-ltb, le-ltb}
use Rattle.basics.specs.Tests.{choose}
use Rattle.board.specs.Spots.{Spot}
use Rattle.board.specs.Place.{is_straight}
use Rattle.tree.specs.declared.Run.{Run}
use Rattle.tree.specs.Bends.{bent}
use Rattle.tree.specs.Trees.{most_runs}
use Rattle.tree.specs.Reached.{run_at}
use Rattle.tree.proofs.Membership.{Among, first, later, in_front, in_back, in_either}
use Rattle.spanning.proofs.Spanning.{none-among}
use Rattle.copper.specs.declared.Shape.{Shape}
use Rattle.copper.specs.declared.Shape.TheVariants.{Straight, Lower, Upper}
use Rattle.copper.specs.Shapes.{shape_of}
use Rattle.least.specs.Asking.{differs, mark_at, mark_of}
use Rattle.laying.specs.Entries.{near_end, far_end}
use Rattle.wiring.specs.Choices.{bent_shapes, shapes_of, with_shape, with_shapes, choices_of, length_of_choice, shortest, shortest_of}
use Rattle.laying.specs.Reaching.{shapes_by}
use Rattle.wiring.proofs.Masks.{is_upper, bends, mask_from, mark_next, mask_most}

-- One of the choices with a shape in front.
with_in : {d : List Shape} (s : Shape) (cs : List (List Shape)) → Among d (with_shape s cs) → (c : List Shape) × (d ≡ s ∷ c) × Among c cs
unfolding with_shape
with_in {d = d} s [] x' = elim x' [ ]
with_in s (c ∷ cs) (first e) = (c, e, first refl)
with_in s (c ∷ cs) (later m) = let z = with_in s cs m in (z.0, z.1, later z.2)

-- And the other way round.
in_with : {c : List Shape} (s : Shape) (cs : List (List Shape)) → Among c cs → Among (s ∷ c) (with_shape s cs)
unfolding with_shape
in_with {c = c} s [] x' = elim x' [ ]
in_with s (c ∷ cs) (first e) = first (ap (λ (z : List Shape). s ∷ z) e)
in_with s (c ∷ cs) (later m) = later (in_with s cs m)

-- One of the choices with one of some shapes in front.
shapes_in_lem : {d : List Shape} (ss : List Shape) (cs : List (List Shape)) → Among d (with_shapes ss cs)
    → (s : Shape) × (c : List Shape) × (d ≡ s ∷ c) × Among s ss × Among c cs
unfolding with_shapes
shapes_in_lem {d = d} [] cs m = elim m [ ]
shapes_in_lem (s ∷ ss) cs m = go (in_either (with_shape s cs) m) (λ n. shapes_in_lem ss cs n)
  where
    go : {d : List Shape} → Among d (with_shape s cs) ⊎ Among d (with_shapes ss cs)
        → (Among d (with_shapes ss cs) → (s' : Shape) × (c : List Shape) × (d ≡ s' ∷ c) × Among s' ss × Among c cs)
        → (s' : Shape) × (c : List Shape) × (d ≡ s' ∷ c) × Among s' (s ∷ ss) × Among c cs
    go (inl n) ih = let z = with_in s cs n in (s, z.0, z.1, first refl, z.2)
    go (inr n) ih = let z = ih n in (z.0, z.1, z.2, later z.3, z.4)

-- And the other way round.
in_shapes : {s : Shape} {c : List Shape} (ss : List Shape) (cs : List (List Shape)) → Among s ss → Among c cs → Among (s ∷ c) (with_shapes ss cs)
unfolding with_shapes
in_shapes {s = a} {c = c} [] cs x'' m = elim x'' [ ]
in_shapes {s = a} {c = c} (s ∷ ss) cs (first e) m =
    in_front {l = with_shape s cs} (with_shapes ss cs) (subst (λ (z : Shape). Among (z ∷ c) (with_shape s cs)) (sym e) (in_with s cs m))
in_shapes (s ∷ ss) cs (later n) m = in_back (with_shape s cs) (in_shapes ss cs n m)

-- The one shape of a straight run does not bend upwards.
only_straight : (s : Shape) → Among s (Straight ∷ []) → (s ≡ Straight) × (is_upper s ≡ false)
only_straight s (later x3) = elim x3 [ ]
only_straight s (first e) = (e, ap is_upper e)

-- The two shapes of a bent run, in either order.
either_bend : (s : Shape) → Among s (Upper ∷ Lower ∷ []) ⊎ Among s (Lower ∷ Upper ∷ []) → s ≡ choose (is_upper s) Upper Lower
unfolding choose
either_bend s (inl (later (later x7))) = elim x7 [ ]
either_bend s (inr (later (later x8))) = elim x8 [ ]
either_bend s (inl (first e)) = rw e
either_bend s (inl (later (first e))) = rw e
either_bend s (inr (first e)) = rw e
either_bend s (inr (later (first e))) = rw e

-- A shape that a run may have is told by how it bends; a straight run does not bend upwards.
told_by : (s : Shape) (t v : Bool) → Among s (choose (not t) (choose v (Upper ∷ Lower ∷ []) (Lower ∷ Upper ∷ [])) (Straight ∷ []))
    → (s ≡ choose t Straight (choose (is_upper s) Upper Lower)) × (t ≡ true → is_upper s ≡ false)
unfolding choose
told_by s true v m = let z = only_straight s m in (z.0, λ e. z.1)
told_by s false true m = (either_bend s (inl m), λ e. absurd (let z : ◌≡◌ {A = ℕ} 0 1 = cc in omega arith))
told_by s false false m = (either_bend s (inr m), λ e. absurd (let z : ◌≡◌ {A = ℕ} 0 1 = cc in omega arith))

module _ (favoured : Bool) (feed : List Spot) (r : Run) where
  abbrev level : Bool
  level = is_straight (near_end feed r) (far_end feed r)

  -- The same of a run of the feed ..
  shape_told : (s : Shape) → Among s (shapes_of favoured feed r) → (s ≡ shape_of (is_upper s) (near_end feed r) (far_end feed r)) × (level ≡ true → is_upper s ≡ false)
  unfolding shapes_of bent is_straight shape_of bent_shapes
  shape_told s m = told_by s level favoured m

  -- .. and any bend tells a shape that it may have.
  told_shape : (u : Bool) → Among (shape_of u (near_end feed r) (far_end feed r)) (shapes_of favoured feed r)
  unfolding shapes_of bent is_straight shape_of bent_shapes
  told_shape u = go level favoured u
    where
      go : (t v u : Bool) → Among (choose t Straight (choose u Upper Lower)) (choose (not t) (choose v (Upper ∷ Lower ∷ []) (Lower ∷ Upper ∷ [])) (Straight ∷ []))
      go true v u = unfold choose in first refl
      go false true true = unfold choose in first refl
      go false true false = unfold choose in later (first refl)
      go false false true = unfold choose in later (first refl)
      go false false false = unfold choose in first refl

-- A choice is told by how its runs bend ..
pub choice_told : (favoured : Bool) (feed : List Spot) (runs : List Run) (c : List Shape) → Among c (choices_of favoured feed runs) → c ≡ shapes_by feed (bends c) runs
unfolding choices_of shapes_by
choice_told favoured feed [] c (later x4) = elim x4 [ ]
choice_told favoured feed [] c (first e) = e
choice_told favoured feed (r ∷ runs) d m =
    let z = shapes_in_lem (shapes_of favoured feed r) (choices_of favoured feed runs) m in
    let s : Shape = z.0 in
    let c : List Shape = z.1 in
    rw z.2 (ap₂ (λ (x : Shape) (y : List Shape). x ∷ y) (shape_told favoured feed r s z.3).0 (choice_told favoured feed runs c z.4))

-- .. and any bends tell one.
pub told_choice : (favoured : Bool) (feed : List Spot) (runs : List Run) (upper : ℕ → Bool) → Among (shapes_by feed upper runs) (choices_of favoured feed runs)
unfolding choices_of shapes_by
told_choice favoured feed [] upper = first refl
told_choice favoured feed (r ∷ runs) upper =
    in_shapes (shapes_of favoured feed r) (choices_of favoured feed runs) (told_shape favoured feed r (upper 0)) (told_choice favoured feed runs (λ q. upper (suc q)))

-- Its straight runs do not bend upwards.
pub choice_may : (favoured : Bool) (feed : List Spot) (runs : List Run) (c : List Shape) → Among c (choices_of favoured feed runs) → (r : ℕ) → r < length runs
    → is_straight (near_end feed (run_at runs r)) (far_end feed (run_at runs r)) ≡ true → bends c r ≡ false
unfolding choices_of
choice_may favoured feed [] c m r l e = absurd (omega arith)
choice_may favoured feed (q ∷ runs) d m zero l e =
    let z = shapes_in_lem (shapes_of favoured feed q) (choices_of favoured feed runs) m in
    rw z.2 ((shape_told favoured feed q z.0 z.3).1 e)
choice_may favoured feed (q ∷ runs) d m (suc r) l e =
    let z = shapes_in_lem (shapes_of favoured feed q) (choices_of favoured feed runs) m in
    rw z.2 (choice_may favoured feed runs z.1 z.4 r (omega arith) e)

-- How the shape that a bend tells bends.
upper_told : (t u : Bool) → (t ≡ true → u ≡ false) → is_upper (choose t Straight (choose u Upper Lower)) ≡ u
unfolding choose
upper_told true u h = sym (h refl)
upper_told false true h = refl
upper_told false false h = refl

-- Where its straight runs do not bend upwards, a choice that is told by bends bends so.
pub bends_told : (feed : List Spot) (runs : List Run) (upper : ℕ → Bool)
    → ((r : ℕ) → r < length runs → is_straight (near_end feed (run_at runs r)) (far_end feed (run_at runs r)) ≡ true → upper r ≡ false)
    → (r : ℕ) → r < length runs → bends (shapes_by feed upper runs) r ≡ upper r
unfolding shapes_by shape_of
bends_told feed [] upper h r l = absurd (omega arith)
bends_told feed (q ∷ runs) upper h zero l = upper_told (is_straight (near_end feed q) (far_end feed q)) (upper 0) (h 0 (omega arith))
bends_told feed (q ∷ runs) upper h (suc r) l = bends_told feed runs (λ i. upper (suc i)) (λ i k. h (suc i) (omega arith)) r (omega arith)

-- A list of choices of which each has a smaller mask than the later ones.
pub data Rising (mask : List Shape → ℕ) : List (List Shape) → Type 0 where
  none : Rising mask []
  more : {c : List Shape} {cs : List (List Shape)} → ((d : List Shape) → Among d cs → mask c < mask d) → Rising mask cs → Rising mask (c ∷ cs)

-- Rising choices, and then rising ones whose masks are larger, rise.
rising_join : {mask : List Shape → ℕ} {cs ds : List (List Shape)} → Rising mask cs → Rising mask ds
    → ((c d : List Shape) → Among c cs → Among d ds → mask c < mask d) → Rising mask (cs ++ ds)
rising_join none r h = r
rising_join {mask = mask} {ds = ds} (more {c = c} {cs = cs} l q) r h = more (λ d m. go d (in_either cs m)) (rising_join q r (λ a b p s. h a b (later p) s))
  where
    go : (d : List Shape) → Among d cs ⊎ Among d ds → mask c < mask d
    go d (inl m) = l d m
    go d (inr m) = h c d (first refl) m

module _ (favoured : Bool) (j : ℕ) where
  -- One shape before each of rising choices leaves them rising.
  rising_with : (s : Shape) {cs : List (List Shape)} → Rising (mask_from favoured (suc j)) cs → Rising (mask_from favoured j) (with_shape s cs)
  unfolding with_shape
  rising_with s none = none
  rising_with s (more {c = c} {cs = cs} l q) = more (λ d m. go d (with_in s cs m)) (rising_with s q)
    where
      go : (d : List Shape) → (e : List Shape) × (d ≡ s ∷ e) × Among e cs → mask_from favoured j (s ∷ c) < mask_from favoured j d
      go d z = rw z.1 (unfold mask_from in omega (arith, l z.0 z.2))

  -- The favoured shape comes before the other.
  rising_two : (s t : Shape) {cs : List (List Shape)} → mark_of favoured j (is_upper s) ≡ 0 → mark_of favoured j (is_upper t) ≡ mark_at j
      → ((c : List Shape) → Among c cs → mask_from favoured (suc j) c < mark_at j) → Rising (mask_from favoured (suc j)) cs
      → Rising (mask_from favoured j) (with_shapes (s ∷ t ∷ []) cs)
  unfolding with_shapes
  rising_two s t {cs = cs} es et low q =
      rising_join (rising_with s q) (rising_join (rising_with t q) none (λ c d m n. absurd (none-among refl n)))
      (λ c d m n. go c d (with_in s cs m) (in_either (with_shape t cs) n))
    where
      go : (c d : List Shape) → (e : List Shape) × (c ≡ s ∷ e) × Among e cs → Among d (with_shape t cs) ⊎ Among d [] → mask_from favoured j c < mask_from favoured j d
      go c d x (inr x'') = elim x'' [ ]
      go c d x (inl n) =
          let y = with_in t cs n in
          rw (x.1, y.1) (unfold mask_from in omega (arith, low x.0 x.2, es, et))

-- The other shape has the run's mark ..
mark_on : (favoured upper : Bool) (j : ℕ) → differs upper favoured ≡ true → mark_of favoured j upper ≡ mark_at j
unfolding mark_of choose
mark_on favoured upper j e = rw e

-- .. and the favoured none.
mark_off : (favoured upper : Bool) (j : ℕ) → differs upper favoured ≡ false → mark_of favoured j upper ≡ 0
unfolding mark_of choose
mark_off favoured upper j e = rw e

-- The shapes of one run before choices of the others.
rising_run : (favoured : Bool) (j : ℕ) (bent : Bool) {cs : List (List Shape)} → ((c : List Shape) → Among c cs → mask_from favoured (suc j) c < mark_at j)
    → Rising (mask_from favoured (suc j)) cs → Rising (mask_from favoured j) (with_shapes (choose bent (bent_shapes favoured) (Straight ∷ [])) cs)
unfolding choose bent_shapes
rising_run favoured j false low q = unfold with_shapes in rising_join (rising_with favoured j Straight q) none (λ c d m n. absurd (none-among refl n))
rising_run true j true low q = rising_two true j Upper Lower (mark_off true true j refl) (mark_on true false j refl) low q
rising_run false j true low q = rising_two false j Lower Upper (mark_off false false j refl) (mark_on false true j refl) low q

-- A choice has a shape for each run.
pub choice_long : (favoured : Bool) (feed : List Spot) (runs : List Run) (c : List Shape) → Among c (choices_of favoured feed runs) → length c ≡ length runs
unfolding choices_of
choice_long favoured feed [] c (later x4) = elim x4 [ ]
choice_long favoured feed [] c (first e) = ap length e
choice_long favoured feed (r ∷ runs) d m =
    let z = shapes_in_lem (shapes_of favoured feed r) (choices_of favoured feed runs) m in
    rw z.2 (ap suc (choice_long favoured feed runs z.1 z.4))

-- The mask grows from each choice to the later ones.
pub choices_rising : (favoured : Bool) (feed : List Spot) (j : ℕ) (runs : List Run) → j + length runs ≤ most_runs
    → Rising (mask_from favoured j) (choices_of favoured feed runs)
unfolding choices_of shapes_of
choices_rising favoured feed j [] h = more (λ d m. absurd (none-among refl m)) none
choices_rising favoured feed j (r ∷ runs) h =
    rising_run favoured j (bent feed r)
    (λ c m.
    let l : length c ≡ length runs = choice_long favoured feed runs c m in
    omega (arith, mask_most favoured (suc j) c (omega arith), mark_next j))
    (choices_rising favoured feed (suc j) runs (omega arith))

-- ---- the first of the shortest
module _ (feed : List Spot) (runs : List Run) (mask : List Shape → ℕ) (best : List Shape) where
  abbrev long : List Shape → ℕ
  long = length_of_choice feed runs

  -- The best is ahead of a choice: it is shorter, or as long and its mask is no larger.
  abbrev Ahead : List Shape → Type 0
  Ahead d = (long best < long d) ⊎ ((long best ≡ long d) × (mask best ≤ mask d))

  -- So the best is no longer ..
  ahead_le : (d : List Shape) → Ahead d → long best ≤ long d
  ahead_le d (inl h) = omega arith
  ahead_le d (inr h) = omega (arith, h.0)

  -- .. and shorter than a choice of smaller mask.
  ahead_lt : (d : List Shape) → mask d < mask best → Ahead d → long best < long d
  ahead_lt d l (inl h) = h
  ahead_lt d l (inr h) = absurd (omega (arith, h.1))

  -- The best is kept where it is ahead of all later ones,
  kept : (cs : List (List Shape)) → ((d : List Shape) → Among d cs → Ahead d) → shortest feed runs best cs ≡ best
  unfolding shortest
  kept [] h = refl
  kept (d ∷ cs) h = rw (stays d (h d (first refl))) (kept cs (λ e m. h e (later m)))
    where
      stays : (d : List Shape) → Ahead d → choose (ltb (long d) (long best)) d best ≡ best
      stays d a = unfold choose in rw (le-ltb (long d) (long best) (ahead_le d a))

  -- and takes the place of a longer one.
  moves : (c d : List Shape) → d ≡ best → long best < long c → choose (ltb (long d) (long c)) d c ≡ best
  unfolding choose
  moves c d e l = rw (e, lt-ltb (long best) (long c) l)

  -- The best comes later, and what is kept so far is longer.
  found : (c : List Shape) (cs : List (List Shape)) → long best < long c → Among best cs → Rising mask cs → ((d : List Shape) → Among d cs → Ahead d)
      → shortest feed runs c cs ≡ best
  unfolding shortest
  found c [] l x4 _ h = elim x4 [ ]
  found c (d ∷ cs) l (first e) (more up q) h =
      rw (moves c d (sym e) l) (kept cs (λ x m. h x (later m)))
  found c (d ∷ cs) l (later m) (more up q) h =
      found (choose (ltb (long d) (long c)) d c) cs (longer (ltb (long d) (long c)) l (ahead_lt d (up best m) (h d (first refl)))) m q (λ x n. h x (later n))
    where
      longer : (t : Bool) → long best < long c → long best < long d → long best < long (choose t d c)
      longer true p r = unfold choose in r
      longer false p r = unfold choose in p

  -- So the best is the first of the shortest.
  pub first_found : (cs : List (List Shape)) → Among best cs → Rising mask cs → ((d : List Shape) → Among d cs → Ahead d) → shortest_of feed runs cs ≡ best
  unfolding shortest_of
  first_found [] x3 _ h = elim x3 [ ]
  first_found (c ∷ cs) (first e) (more up q) h = rw (sym e) (kept cs (λ x m. h x (later m)))
  first_found (c ∷ cs) (later m) (more up q) h = found c cs (ahead_lt c (up best m) (h c (first refl))) m q (λ x n. h x (later n))
