-- The length of a tree of runs is a sum over its pins: of the longest arms in the four directions, less the straight runs, which two pins
-- have. Proved stride by stride and then summed over the grid. Assumes of the tree what `Spaced` says.
use mathlib.Core.Path.{◌≡◌, refl, sym, ap, ◌∙◌, subst}
use mathlib.Core.Bool.{Bool, true, false, not, cond}
use mathlib.Core.Logic.{◌⊎◌, inl, inr}
use Prim.Native.Nat.{ℕ, zero, suc, ◌+◌, ◌≤◌, ◌<◌}
use native.Mathlib.Omega.{arith}
use lib.Dec.{eqb}
use borrow.Author.Tests.{eq-eqb, eqb-true, eqb-false}
use Rattle.basics.specs.Tests.{both, either}
use Rattle.basics.proofs.Tests.{opposite, fails_if, both_left, both_right, both_of, either_which, either_left, either_second, same_test}
use Rattle.spanning.proofs.FourPins.{InBox}
use Rattle.board.proofs.Flat.{Site, span}
use Rattle.copper.specs.declared.Arms.{Arms}
use Rattle.copper.specs.Arms.{no_arms, longest, spread}
use Rattle.basics.proofs.Sums.{one_if, sum_below, sum_same, sum-none, sum-only, sum_pair}
use Rattle.least.proofs.Choices.{entered, shown}
use Rattle.copper.proofs.Cover.{Stride, covers, straight, some, over, covers_of, covered, grid_length, over-same, over_add, over_none, over-sum, Within}
use Rattle.least.proofs.Sharing.{
  On,
  on_of,
  on_covers,
  Tip,
  row_first,
  column_first,
  second_first,
  second_second,
  straights,
  near_tip,
  far_tip,
  origin,
  Same,
  straight_true,
  tips,
  view_near,
  view_far,
  an_arm,
  near_covers,
  far_covers,
  one_arm,
  both_arms,
  in_box,
  straight_tip,
  straight_tip_is,
  straight_back,
}
use Rattle.least.proofs.Star.{
  arm_to,
  star,
  star_arm_is,
  star_longest,
  star_none,
  Inside,
  inside-none,
  inside_arm,
  inside-longest,
  star_count,
  spread_arm,
}

-- A test that holds of some number below n.
some_of : (n : ℕ) (f : ℕ → Bool) → some n f ≡ true → (r : ℕ) × (r < n) × (f r ≡ true)
unfolding some
some_of zero f e = absurd (opposite e refl)
some_of (suc n) f e = go (either_which (f n) (some n f) e) (some_of n f)
  where
    go : (f n ≡ true) ⊎ (some n f ≡ true) → (some n f ≡ true → (r : ℕ) × (r < n) × (f r ≡ true)) → (r : ℕ) × (r < suc n) × (f r ≡ true)
    go (inl h) ih = (n, omega arith, h)
    go (inr h) ih = let z = ih h in (z.0, omega (arith, z.1), z.2)

-- Where it holds of one, some number passes it.
some_holds : (n : ℕ) (f : ℕ → Bool) (r : ℕ) → r < n → f r ≡ true → some n f ≡ true
unfolding some
some_holds zero f r l h = absurd (omega arith)
some_holds (suc n) f r l h = go (eqb r n) refl (some_holds n f r)
  where
    go : (t : Bool) → eqb r n ≡ t → (r < n → f r ≡ true → some n f ≡ true) → either (f n) (some n f) ≡ true
    go true e ih = either_left (some n f) (ap f (sym (eqb-true r n e)) ∙ h)
    go false e ih = let ne : r ≡ n → ⊥ = eqb-false r n e in either_second (f n) (ih (omega (arith, ne)) h)

-- The run r joins the pins i and j.
pub data Joins (near : ℕ → ℕ) (r i j : ℕ) : Type 0 where
  out : i ≡ near r → j ≡ suc r → Joins near r i j
  back : i ≡ suc r → j ≡ near r → Joins near r i j

-- What is asked of a tree: near pins are reached first; no run is empty; the boxes of two runs without a common pin share no site; and of
-- three pins joined by two runs the outer two are at least as far from each other as each is from the middle one.
pub record Spaced (at : ℕ → Site) (near : ℕ → ℕ) (n : ℕ) : Type 0 where
  pub grown : (r : ℕ) → r < n → near r ≤ r
  pub full : (r : ℕ) → r < n → Same (at (near r)) (at (suc r)) → ⊥
  pub separate : (r q : ℕ) → r < n → q < n → (r ≡ q → ⊥) → (near r ≡ near q → ⊥) → (near r ≡ suc q → ⊥) → (suc r ≡ near q → ⊥)
      → (p : Site) → InBox (at (near r)) (at (suc r)) p → InBox (at (near q)) (at (suc q)) p → ⊥
  pub distant : (r q i j k : ℕ) → r < n → q < n → Joins near r i j → Joins near q i k → (j ≡ k → ⊥)
      → (span (at i) (at j) ≤ span (at j) (at k)) × (span (at i) (at k) ≤ span (at j) (at k))

module _ (at : ℕ → Site) (near : ℕ → ℕ) where
  -- Run r is straight.
  abbrev pub is_straight_run : ℕ → Bool
  is_straight_run r = straight (at (near r)) (at (suc r))

  -- Where the leg of run r that leaves its near pin ends ..
  abbrev pub tip_near : Bool → ℕ → Site
  tip_near u r = near_tip u (at (near r)) (at (suc r))

  -- .. and where the one that leaves its far pin ends.
  abbrev pub tip_far : Bool → ℕ → Site
  tip_far u r = far_tip u (at (near r)) (at (suc r))

  -- What a pin shows at first: the arms of the run by which it was reached ..
  unfoldable pub start_arms : ℕ → Bool → Arms
  start_arms zero u = no_arms
  start_arms (suc r) u = arm_to (at (suc r)) (tip_far u r)

  -- .. and with the leg of a run that leads on.
  unfoldable pub add_arms : Arms → ℕ → Bool → Arms
  add_arms a r u = longest a (arm_to (at (near r)) (tip_near u r))

  -- Run r is bent.
  abbrev pub is_bent_run : ℕ → Bool
  is_bent_run r = not (is_straight_run r)

  -- The longest arms that leave pin i, when the runs before n have the shapes s.
  unfoldable pub arms_at : ℕ → (ℕ → Bool) → ℕ → Arms
  arms_at n s i = shown Arms start_arms add_arms spread near is_bent_run (λ r u. 0) n s i

  -- The length of run r where it is straight, else 0.
  unfoldable pub straight_length : ℕ → ℕ
  straight_length r = cond (is_straight_run r) (span (at (near r)) (at (suc r))) 0

  module _ (n : ℕ) (laid : Spaced at near n) (s : ℕ → Bool) where
    -- An arm: a leg of run r that leaves the pin p and covers the stride.
    pub data Arm (r p : ℕ) (σ : Stride) : Type 0 where
      leaves : p ≡ near r → On (at (near r)) (tip_near (s r) r) σ → Arm r p σ
      enters : p ≡ suc r → On (at (suc r)) (tip_far (s r) r) σ → Arm r p σ

    -- Run r covers the stride.
    abbrev pub Covering : ℕ → Stride → Type 0
    Covering r σ = covers_of at near r (s r) σ ≡ true

    -- What an arm covers, its run covers,
    arm_covers : {r p : ℕ} {σ : Stride} → Arm r p σ → Covering r σ
    unfolding covers_of
    arm_covers {r} (leaves e h) = near_covers (s r) (at (near r)) (at (suc r)) h
    arm_covers {r} (enters e h) = far_covers (s r) (at (near r)) (at (suc r)) h

    -- and what a run covers, an arm of it covers.
    has_arm : (r : ℕ) (σ : Stride) → Covering r σ → (p : ℕ) × Arm r p σ
    unfolding covers_of
    has_arm r σ h = go (an_arm (s r) (at (near r)) (at (suc r)) h)
      where
        go : On (at (near r)) (tip_near (s r) r) σ ⊎ On (at (suc r)) (tip_far (s r) r) σ → (p : ℕ) × Arm r p σ
        go (inl z) = (near r, leaves refl z)
        go (inr z) = (suc r, enters refl z)

    -- A bent run has one arm on a stride.
    pub single : {r p q : ℕ} {σ : Stride} → is_straight_run r ≡ false → Arm r p σ → Arm r q σ → p ≡ q
    single {r} e (leaves a h) (leaves b k) = a ∙ sym b
    single {r} e (leaves a h) (enters b k) = absurd (one_arm (s r) (at (near r)) (at (suc r)) e h k)
    single {r} e (enters a h) (leaves b k) = absurd (one_arm (s r) (at (near r)) (at (suc r)) e k h)
    single {r} e (enters a h) (enters b k) = a ∙ sym b

    -- A run as its end i sees it: its leg from i ends at t, the stride is on that leg or between t and j, and that leg, where it covers the stride, is an arm of pin i.
    record View (r i j : ℕ) (σ : Stride) : Type 0 where
      t : Site
      tip : Tip (at i) (at j) t
      split : On (at i) t σ ⊎ On t (at j) σ
      mine : On (at i) t σ → Arm r i σ

    -- So each of its ends sees it.
    view : (r i j : ℕ) (σ : Stride) → r < n → Joins near r i j → Covering r σ → View r i j σ
    unfolding covers_of
    view r i j σ l (out e f) h =
        rw (e, f)
        (record {
          t = tip_near (s r) r;
          tip = (tips (s r) (at (near r)) (at (suc r)) (laid.full r l)).0;
          split = view_near (s r) (at (near r)) (at (suc r)) h;
          mine = λ z. leaves refl z;
        })
    view r i j σ l (back e f) h =
        rw (e, f)
        (record {
          t = tip_far (s r) r;
          tip = (tips (s r) (at (near r)) (at (suc r)) (laid.full r l)).1;
          split = view_far (s r) (at (near r)) (at (suc r)) h;
          mine = λ z. enters refl z;
        })

    -- Two runs share a pin.
    record Common (r q : ℕ) : Type 0 where
      i : ℕ
      j : ℕ
      k : ℕ
      one : Joins near r i j
      two : Joins near q i k
      apart : j ≡ k → ⊥

    -- Two runs that cover one stride do ..
    common : (r q : ℕ) (σ : Stride) → r < n → q < n → (r ≡ q → ⊥) → Covering r σ → Covering q σ → Common r q
    unfolding covers_of
    common r q σ l m ne h k = go (eqb (near r) (near q)) (eqb (near r) (suc q)) (eqb (suc r) (near q)) refl refl refl
      where
        go : (x y z : Bool) → eqb (near r) (near q) ≡ x → eqb (near r) (suc q) ≡ y → eqb (suc r) (near q) ≡ z → Common r q
        go true y z a b c =
            record { i = near r; j = suc r; k = suc q; one = out refl refl; two = out (eqb-true (near r) (near q) a) refl; apart = λ w. ne (omega arith) }
        go false true z a b c =
            record {
              i = near r;
              j = suc r;
              k = near q;
              one = out refl refl;
              two = back (eqb-true (near r) (suc q) b) refl;
              apart = λ w. omega (arith, eqb-true (near r) (suc q) b, laid.grown r l, laid.grown q m);
            }
        go false false true a b c =
            record {
              i = suc r;
              j = near r;
              k = suc q;
              one = back refl refl;
              two = out (eqb-true (suc r) (near q) c) refl;
              apart = λ w. omega (arith, eqb-true (suc r) (near q) c, laid.grown r l, laid.grown q m);
            }
        go false false false a b c =
            absurd (laid.separate r q l m ne (eqb-false (near r) (near q) a) (eqb-false (near r) (suc q) b) (eqb-false (suc r) (near q) c)
            (origin σ) (in_box (s r) (at (near r)) (at (suc r)) σ h) (in_box (s q) (at (near q)) (at (suc q)) σ k))

    -- .. and both cover it by legs that leave this pin.
    pub both_at : (r q : ℕ) (σ : Stride) → r < n → q < n → (r ≡ q → ⊥) → Covering r σ → Covering q σ → (i : ℕ) × Arm r i σ × Arm q i σ
    both_at r q σ l m ne h k = go v.split w.split
      where
        c : Common r q
        c = common r q σ l m ne h k

        v : View r c.i c.j σ
        v = view r c.i c.j σ l c.one h

        w : View q c.i c.k σ
        w = view q c.i c.k σ m c.two k

        d : (span (at c.i) (at c.j) ≤ span (at c.j) (at c.k)) × (span (at c.i) (at c.k) ≤ span (at c.j) (at c.k))
        d = laid.distant r q c.i c.j c.k l m c.one c.two c.apart

        go : On (at c.i) v.t σ ⊎ On v.t (at c.j) σ → On (at c.i) w.t σ ⊎ On w.t (at c.k) σ → (i : ℕ) × Arm r i σ × Arm q i σ
        go (inl a) (inl b) = (c.i, v.mine a, w.mine b)
        go (inl a) (inr b) = absurd (second_first (at c.i) (at c.k) w.t v.t w.tip b a)
        go (inr a) (inl b) = absurd (second_first (at c.i) (at c.j) v.t w.t v.tip a b)
        go (inr a) (inr b) = absurd (second_second (at c.i) (at c.j) (at c.k) d.0 d.1 v.t w.t v.tip w.tip a b)

    -- A stride that a straight run covers lies between its ends,
    straight_on_lem : (r i j : ℕ) (σ : Stride) → is_straight_run r ≡ true → Joins near r i j → Covering r σ → On (at i) (at j) σ
    unfolding covers_of
    straight_on_lem r i j σ e (out f g) h =
        rw (f, g) (straight_tip (s r) (at (near r)) (at (suc r)) e (both_arms (s r) (at (near r)) (at (suc r)) e h).0)
    straight_on_lem r i j σ e (back f g) h =
        rw (f, g) (straight_back (s r) (at (near r)) (at (suc r)) e (both_arms (s r) (at (near r)) (at (suc r)) e h).1)

    -- and both ends have an arm on it.
    two_arms : (r : ℕ) (σ : Stride) → is_straight_run r ≡ true → Covering r σ → Arm r (near r) σ × Arm r (suc r) σ
    unfolding covers_of
    two_arms r σ e h = let z = both_arms (s r) (at (near r)) (at (suc r)) e h in (leaves refl z.0, enters refl z.1)

    -- Two straight runs share no stride.
    pub one_straight : (r q : ℕ) (σ : Stride) → r < n → q < n → (r ≡ q → ⊥) → is_straight_run r ≡ true → is_straight_run q ≡ true → Covering r σ → Covering q σ → ⊥
    one_straight r q σ l m ne e f h k =
        let c = common r q σ l m ne h k in
        let d = laid.distant r q c.i c.j c.k l m c.one c.two c.apart in
        straights (at c.i) (at c.j) (at c.k) d.0 d.1 (straight_on_lem r c.i c.j σ e c.one h) (straight_on_lem q c.i c.k σ f c.two k)

    -- Where the first arms of a pin cover a stride, some leg that leaves it does.
    pin_start : (i : ℕ) (σ : Stride) → i < suc n → star (at i) (start_arms i (entered s i)) σ ≡ true → (r : ℕ) × (r < n) × Arm r i σ
    unfolding start_arms
    pin_start zero σ l e = absurd (star_none (at 0) σ e)
    pin_start (suc r) σ l e =
        (r, omega arith, enters refl (on_of (at (suc r)) (tip_far (s r) r) σ (sym (star_arm_is (at (suc r)) (tip_far (s r) r) σ) ∙ e)))

    -- So it is with its arms when some runs lead on.
    pin_true : (i m : ℕ) (σ : Stride) → i < suc n → m < suc n → star (at i) (arms_at m s i) σ ≡ true → (r : ℕ) × (r < n) × Arm r i σ
    unfolding arms_at shown add_arms
    pin_true i zero σ l k e = pin_start i σ l e
    pin_true i (suc m) σ l k e = go (eqb (near m) i) refl (λ z. pin_true i m σ l (omega arith) z) e
      where
        R : Arms
        R = arms_at m s i

        A : Arms
        A = arm_to (at (near m)) (tip_near (s m) m)

        Found : Type 0
        Found = (r : ℕ) × (r < n) × Arm r i σ

        by : near m ≡ i → (star (at i) R σ ≡ true → Found) → (star (at i) R σ ≡ true) ⊎ (star (at i) A σ ≡ true) → Found
        by q ih (inl z) = ih z
        by q ih (inr z) =
            let z' : star (at (near m)) A σ ≡ true = subst (λ (v : ℕ). star (at v) A σ ≡ true) (sym q) z in
            (m, omega arith, leaves (sym q) (on_of (at (near m)) (tip_near (s m) m) σ (sym (star_arm_is (at (near m)) (tip_near (s m) m) σ) ∙ z')))

        go : (t : Bool) → eqb (near m) i ≡ t → (star (at i) R σ ≡ true → Found) → star (at i) (cond t (longest R A) R) σ ≡ true → Found
        go true q ih h = by (eqb-true (near m) i q) ih (either_which (star (at i) R σ) (star (at i) A σ) (sym (star_longest (at i) R A σ) ∙ h))
        go false q ih h = ih h

    -- Arms never get shorter.
    grows : (i m : ℕ) (σ : Stride) → star (at i) (arms_at m s i) σ ≡ true → star (at i) (arms_at (suc m) s i) σ ≡ true
    unfolding arms_at shown add_arms
    grows i m σ e = go (eqb (near m) i)
      where
        R : Arms
        R = arms_at m s i

        A : Arms
        A = arm_to (at (near m)) (tip_near (s m) m)

        go : (t : Bool) → star (at i) (cond t (longest R A) R) σ ≡ true
        go true = star_longest (at i) R A σ ∙ either_left (star (at i) A σ) e
        go false = e

    -- The arm of a run that leads on is one of its near pin's,
    new_arm : (m : ℕ) (σ : Stride) → On (at (near m)) (tip_near (s m) m) σ → star (at (near m)) (arms_at (suc m) s (near m)) σ ≡ true
    unfolding arms_at shown add_arms
    new_arm m σ h =
        let R : Arms = arms_at m s (near m) in
        let A : Arms = arm_to (at (near m)) (tip_near (s m) m) in
        rw (eq-eqb (near m) (near m) refl)
        (star_longest (at (near m)) R A σ
        ∙ either_second (star (at (near m)) R σ) (star_arm_is (at (near m)) (tip_near (s m) m) σ ∙ on_covers (at (near m)) (tip_near (s m) m) h))

    -- that of the run that reached a pin stays one,
    old_arm : (r m : ℕ) (σ : Stride) → On (at (suc r)) (tip_far (s r) r) σ → star (at (suc r)) (arms_at m s (suc r)) σ ≡ true
    unfolding arms_at shown start_arms
    old_arm r zero σ h = star_arm_is (at (suc r)) (tip_far (s r) r) σ ∙ on_covers (at (suc r)) (tip_far (s r) r) h
    old_arm r (suc m) σ h = grows (suc r) m σ (old_arm r m σ h)

    -- and so does that of a run that led on before.
    far_on : (r m : ℕ) (σ : Stride) → r < m → On (at (near r)) (tip_near (s r) r) σ → star (at (near r)) (arms_at m s (near r)) σ ≡ true
    far_on r zero σ l h = absurd (omega arith)
    far_on r (suc m) σ l h = go (eqb r m) refl (λ k. far_on r m σ k h)
      where
        go : (t : Bool) → eqb r m ≡ t → (r < m → star (at (near r)) (arms_at m s (near r)) σ ≡ true) → star (at (near r)) (arms_at (suc m) s (near r)) σ ≡ true
        go true e ih = subst (λ (z : ℕ). star (at (near r)) (arms_at (suc z) s (near r)) σ ≡ true) (eqb-true r m e) (new_arm r σ h)
        go false e ih = let ne : r ≡ m → ⊥ = eqb-false r m e in grows (near r) m σ (ih (omega (arith, ne)))

    -- So what an arm at a pin covers, its longest arms cover.
    pin_is : (r i : ℕ) (σ : Stride) → r < n → Arm r i σ → star (at i) (arms_at n s i) σ ≡ true
    pin_is r i σ l (leaves e h) = rw e (far_on r n σ l h)
    pin_is r i σ l (enters e h) = rw e (old_arm r n σ h)

    -- An arm is at an end of its run,
    arm_end : {r i : ℕ} {σ : Stride} → Arm r i σ → (i ≡ near r) ⊎ (i ≡ suc r)
    arm_end (leaves e h) = inl e
    arm_end (enters e h) = inr e

    -- which is a pin of the tree.
    arm_in : {r i : ℕ} {σ : Stride} → r < n → Arm r i σ → i < suc n
    arm_in {r} l (leaves e h) = omega (arith, laid.grown r l)
    arm_in {r} l (enters e h) = omega arith

    -- An arm of a run is one of the same run.
    arm_as : {r q i : ℕ} {σ : Stride} → r ≡ q → Arm r i σ → Arm q i σ
    arm_as {r} {q} {i} {σ} e h = subst (λ (z : ℕ). Arm z i σ) e h

    -- A test that does not hold counts nothing,
    one_if-none : (t : Bool) → (t ≡ true → ⊥) → one_if t ≡ 0
    one_if-none true h = absurd (h refl)
    one_if-none false h = refl

    -- and one that holds counts 1.
    one_if-one : {t : Bool} → t ≡ true → one_if t ≡ 1
    one_if-one e = rw e

    -- Pin i has an arm on the stride.
    unfoldable pub pins_on : Stride → ℕ → Bool
    pins_on σ i = star (at i) (arms_at n s i) σ

    -- Run r is straight and covers the stride.
    unfoldable pub straight_on : Stride → ℕ → Bool
    straight_on σ r = both (is_straight_run r) (covers_of at near r (s r) σ)

    -- On a stride that a straight run covers only its two ends have arms.
    ends-only : (r : ℕ) (σ : Stride) → r < n → is_straight_run r ≡ true → Covering r σ → (i : ℕ) → i < suc n → (i ≡ near r → ⊥) → (i ≡ suc r → ⊥) → pins_on σ i ≡ true → ⊥
    unfolding pins_on
    ends-only r σ l e h i il n1 n2 c = go (eqb f.0 r) refl
      where
        f : (q : ℕ) × (q < n) × Arm q i σ
        f = pin_true i n σ il (omega arith) c

        off : {j : ℕ} → j ≡ i → (j ≡ near r) ⊎ (j ≡ suc r) → ⊥
        off z (inl w) = n1 (sym z ∙ w)
        off z (inr w) = n2 (sym z ∙ w)

        other : (f.0 ≡ r → ⊥) → (t : Bool) → is_straight_run f.0 ≡ t → ⊥
        other ne true q = one_straight r f.0 σ l f.1 (λ z. ne (sym z)) e q h (arm_covers f.2)
        other ne false q =
            let b = both_at r f.0 σ l f.1 (λ z. ne (sym z)) h (arm_covers f.2) in
            off (single q b.2 f.2) (arm_end b.1)

        go : (t : Bool) → eqb f.0 r ≡ t → ⊥
        go true q = off refl (arm_end (arm_as (eqb-true f.0 r q) f.2))
        go false q = other (eqb-false f.0 r q) (is_straight_run f.0) refl

    -- On a stride that bent runs alone cover one pin has arms.
    pin_only : (r p : ℕ) (σ : Stride) → r < n → Arm r p σ → ((q : ℕ) → q < n → Covering q σ → is_straight_run q ≡ false)
        → (i : ℕ) → i < suc n → (i ≡ p → ⊥) → pins_on σ i ≡ true → ⊥
    unfolding pins_on
    pin_only r p σ l h ns i il n1 c = go (eqb f.0 r) refl
      where
        f : (q : ℕ) × (q < n) × Arm q i σ
        f = pin_true i n σ il (omega arith) c

        go : (t : Bool) → eqb f.0 r ≡ t → ⊥
        go true q = n1 (single (ns r l (arm_covers h)) (arm_as (eqb-true f.0 r q) f.2) h)
        go false q =
            let ne : f.0 ≡ r → ⊥ = eqb-false f.0 r q in
            let b = both_at r f.0 σ l f.1 (λ z. ne (sym z)) (arm_covers h) (arm_covers f.2) in
            n1 (single (ns f.0 f.1 (arm_covers f.2)) f.2 b.2 ∙ single (ns r l (arm_covers h)) b.1 h)

    -- A stride counts once where it is covered, and once more where a straight run covers it: as often as pins have arms on it.
    pub stride_by_stride : (σ : Stride) → one_if (covered at near n s σ) + sum_below n (λ r. one_if (straight_on σ r)) ≡ sum_below (suc n) (λ i. one_if (pins_on σ i))
    unfolding covered straight_on pins_on
    stride_by_stride σ = go (some n (straight_on σ)) (covered at near n s σ) refl refl
      where
        Goal : Bool → Type 0
        Goal t = one_if t + sum_below n (λ r. one_if (straight_on σ r)) ≡ sum_below (suc n) (λ i. one_if (pins_on σ i))

        line : (r : ℕ) → r < n → is_straight_run r ≡ true → Covering r σ → Goal true
        line r l e h =
            let c1 : one_if (pins_on σ (near r)) ≡ 1 = one_if-one (pin_is r (near r) σ l (two_arms r σ e h).0) in
            let c2 : one_if (pins_on σ (suc r)) ≡ 1 = one_if-one (pin_is r (suc r) σ l (two_arms r σ e h).1) in
            let c3 : one_if (straight_on σ r) ≡ 1 = one_if-one (both_of e h) in
            let c4 =
            sum-only n r (λ q. one_if (straight_on σ q)) l
            (λ q k ne. one_if-none (straight_on σ q) (λ z. one_straight r q σ l k (λ y. ne (sym y)) e
            (both_left (is_straight_run q) (covers_of at near q (s q) σ) z) h (both_right (is_straight_run q) (covers_of at near q (s q) σ) z)))
            in
            let c5 =
            sum_pair (suc n) (near r) (suc r) (λ i. one_if (pins_on σ i)) (omega (arith, laid.grown r l)) (omega arith)
            (λ z. omega (arith, laid.grown r l))
            (λ i k n1 n2. one_if-none (pins_on σ i) (ends-only r σ l e h i k n1 n2))
            in
            omega (arith, c1, c2, c3, c4, c5)

        bend : (r p : ℕ) → r < n → Arm r p σ → some n (straight_on σ) ≡ false → Goal true
        bend r p l h no-mark =
            let ns : (q : ℕ) → q < n → Covering q σ → is_straight_run q ≡ false =
            λ q k c. fails_if (is_straight_run q) (λ z. opposite (some_holds n (straight_on σ) q k (both_of z c)) no-mark) in
            let c1 : one_if (pins_on σ p) ≡ 1 = one_if-one (pin_is r p σ l h) in
            let c2 = sum-none n (λ q. one_if (straight_on σ q)) (λ q k. one_if-none (straight_on σ q) (λ z. opposite (some_holds n (straight_on σ) q k z) no-mark)) in
            let c3 = sum-only (suc n) p (λ i. one_if (pins_on σ i)) (arm_in l h) (λ i k ne. one_if-none (pins_on σ i) (pin_only r p σ l h ns i k ne)) in
            omega (arith, c1, c2, c3)

        go : (x y : Bool) → some n (straight_on σ) ≡ x → covered at near n s σ ≡ y → Goal y
        go true true a b =
            let f = some_of n (straight_on σ) a in
            line f.0 f.1 (both_left (is_straight_run f.0) (covers_of at near f.0 (s f.0) σ) f.2)
            (both_right (is_straight_run f.0) (covers_of at near f.0 (s f.0) σ) f.2)
        go true false a b =
            let f = some_of n (straight_on σ) a in
            absurd (opposite (some_holds n (λ r. covers_of at near r (s r) σ) f.0 f.1
            (both_right (is_straight_run f.0) (covers_of at near f.0 (s f.0) σ) f.2)) b)
        go false true a b =
            let f = some_of n (λ r. covers_of at near r (s r) σ) b in
            let h = has_arm f.0 σ f.2 in
            bend f.0 h.0 f.1 h.1 a
        go false false a b =
            let c1 = sum-none n (λ q. one_if (straight_on σ q)) (λ q k. one_if-none (straight_on σ q) (λ z. opposite (some_holds n (straight_on σ) q k z) a)) in
            let c2 =
            sum-none (suc n) (λ i. one_if (pins_on σ i))
            (λ i k. one_if-none (pins_on σ i) (λ z. let f = pin_true i n σ k (omega arith) z in
            opposite (some_holds n (λ r. covers_of at near r (s r) σ) f.0 f.1 (arm_covers f.2)) b))
            in
            omega (arith, c1, c2)

    -- A straight run covers what the arms of one end cover.
    straight_covers : (r : ℕ) (σ : Stride) → is_straight_run r ≡ true → covers_of at near r (s r) σ ≡ star (at (near r)) (arm_to (at (near r)) (at (suc r))) σ
    unfolding covers_of
    straight_covers r σ e =
        let a : Site = at (near r) in
        let b : Site = at (suc r) in
        same_test (covers_of at near r (s r) σ) (covers a b σ)
        (λ h. on_covers a b (straight_tip (s r) a b e (both_arms (s r) a b e h).0))
        (λ h. near_covers (s r) a b (straight_tip_is (s r) a b e (on_of a b σ h)))
        ∙ sym (star_arm_is a b σ)

    module _ (m : ℕ) (inside : (i : ℕ) → i < suc n → Within m (at i)) where
      -- The near pin of a run is on the grid.
      near_in : (r : ℕ) → r < n → Within m (at (near r))
      near_in r l = inside (near r) (omega (arith, laid.grown r l))

      -- A tip of two sites on the grid is on it.
      tip_in : {i j t : Site} → Within m i → Within m j → Tip i j t → Within m t
      tip_in a b (row_first e f k) = omega (arith, a.x_in, a.y_in, b.x_in, b.y_in)
      tip_in a b (column_first e f k) = omega (arith, a.x_in, a.y_in, b.x_in, b.y_in)

      -- The first arms of a pin stay on the grid,
      start_in : (i : ℕ) → i < suc n → Inside m (at i) (start_arms i (entered s i))
      unfolding start_arms
      start_in zero l = inside-none m (at 0) (inside 0 l)
      start_in (suc r) l =
          inside_arm m (at (suc r)) (tip_far (s r) r) (inside (suc r) l)
          (tip_in (inside (suc r) l) (near_in r (omega arith)) (tips (s r) (at (near r)) (at (suc r)) (laid.full r (omega arith))).1)

      -- and so do its arms when some runs lead on.
      arms_in : (i k : ℕ) → i < suc n → k < suc n → Inside m (at i) (arms_at k s i)
      unfolding arms_at shown add_arms
      arms_in i zero l h = start_in i l
      arms_in i (suc k) l h = go (eqb (near k) i) refl (arms_in i k l (omega arith))
        where
          A : Arms
          A = arm_to (at (near k)) (tip_near (s k) k)

          there : Inside m (at (near k)) A
          there =
              inside_arm m (at (near k)) (tip_near (s k) k) (near_in k (omega arith))
              (tip_in (near_in k (omega arith)) (inside (suc k) (omega arith)) (tips (s k) (at (near k)) (at (suc k)) (laid.full k (omega arith))).0)

          go : (t : Bool) → eqb (near k) i ≡ t → Inside m (at i) (arms_at k s i) → Inside m (at i) (cond t (longest (arms_at k s i) A) (arms_at k s i))
          go true e ih = inside-longest m (at i) (arms_at k s i) A ih (subst (λ (z : ℕ). Inside m (at z) A) (eqb-true (near k) i e) there)
          go false e ih = ih

      -- A straight run covers as many strides as it is long.
      straight_count : (r : ℕ) → r < n → over m (λ σ. one_if (straight_on σ r)) ≡ straight_length r
      unfolding straight_on straight_length both
      straight_count r l = go (is_straight_run r) refl
        where
          a : Site
          a = at (near r)

          b : Site
          b = at (suc r)

          go : (t : Bool) → is_straight_run r ≡ t → over m (λ σ. one_if (both t (covers_of at near r (s r) σ))) ≡ cond t (span a b) 0
          go true e =
              over-same m (λ σ. one_if (covers_of at near r (s r) σ)) (λ σ. one_if (star a (arm_to a b) σ)) (λ σ. ap one_if (straight_covers r σ e))
              ∙ star_count m a (arm_to a b) (inside_arm m a b (near_in r l) (inside (suc r) (omega arith)))
              ∙ spread_arm a b (straight_true a b e)
          go false e = over_none m

      -- The arms of a pin cover as many strides as they are long.
      pin_count : (i : ℕ) → i < suc n → over m (λ σ. one_if (pins_on σ i)) ≡ spread (arms_at n s i)
      unfolding pins_on
      pin_count i l = star_count m (at i) (arms_at n s i) (arms_in i n l (omega arith))

      -- The length, with each straight run once more, is the sum over the pins of their four longest arms.
      pub grid_length_lem : grid_length at near m n s + sum_below n straight_length ≡ sum_below (suc n) (λ i. spread (arms_at n s i))
      unfolding grid_length
      grid_length_lem =
          let F : Stride → ℕ = λ σ. one_if (covered at near n s σ) in
          let G : Stride → ℕ = λ σ. sum_below n (λ r. one_if (straight_on σ r)) in
          let H : Stride → ℕ = λ σ. sum_below (suc n) (λ i. one_if (pins_on σ i)) in
          let e1 : over m F + over m G ≡ over m H = sym (over_add m F G) ∙ over-same m (λ σ. F σ + G σ) H stride_by_stride in
          let e2 : over m G ≡ sum_below n straight_length = over-sum m n (λ r σ. one_if (straight_on σ r))
          ∙ sum_same n (λ r. over m (λ σ. one_if (straight_on σ r))) straight_length straight_count in
          let e3 : over m H ≡ sum_below (suc n) (λ i. spread (arms_at n s i)) =
          over-sum m (suc n) (λ i σ. one_if (pins_on σ i))
          ∙ sum_same (suc n) (λ i. over m (λ σ. one_if (pins_on σ i))) (λ i. spread (arms_at n s i)) (λ i l. pin_count i l) in
          omega (arith, e1, e2, e3)
