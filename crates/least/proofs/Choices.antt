-- Least choices: each run of a tree has one of two shapes, and what is asked pin by pin is the least over all choices at once.
-- Pins are numbered by when they were reached: 0 is the first, suc r the far pin of run r, and `near r` the near pin of run r. A shape is a
-- Bool: false is lower, true is upper. What a pin shows is of any type, as `copper/Least`: `best` has it. Assumes that near pins are reached first.
use mathlib.Core.Path.{◌≡◌, refl, sym, ap, ap₂, ◌∙◌}
use mathlib.Core.Bool.{Bool, true, false, cond}
use Prim.Native.Nat.{ℕ, zero, suc, ◌+◌, ◌≤◌, ◌<◌}
use native.Mathlib.Decide.{dec_le}
use native.Mathlib.Omega.{arith}
use lib.Dec.{eqb}
use borrow.Author.Tests.{eq-eqb, ne_eqb, eqb-true, eqb-false}
use Rattle.basics.specs.Tests.{choose}
use Rattle.copper.specs.Least.{lesser_of, best}
use Rattle.basics.proofs.Sums.{sum_below, sum_same, sum_but_one}

-- What a run costs in the shape that was chosen, false for lower and true for upper.
abbrev pub taken : Bool → ℕ → ℕ → ℕ
taken false lower upper = lower
taken true lower upper = upper

-- A run that is not bent keeps the lower shape.
abbrev pub May : Bool → Bool → Type 0
May bent s = bent ≡ false → s ≡ false

-- The lesser cost is at most that of any shape which the run may have ..
pub lesser_le : (bent s : Bool) (x y : ℕ) → May bent s → lesser_of bent x y ≤ taken s x y
lesser_le true false x y h = omega arith
lesser_le true true x y h = omega arith
lesser_le false false x y h = omega arith
lesser_le false true x y h = absurd (let z : ◌≡◌ {A = ℕ} 0 1 = cc (h refl) in omega arith)

-- .. and is that of one of them.
pub lesser_is : (bent : Bool) (x y : ℕ) → (s : Bool) × May bent s × (lesser_of bent x y ≡ taken s x y)
lesser_is false x y = (false, λ e. refl, refl)
lesser_is true x y = go (dec_le x y)
  where
    go : Dec (x ≤ y) → (s : Bool) × May true s × (lesser_of true x y ≡ taken s x y)
    go (yes h) = (false, λ e. refl, omega arith)
    go (no h) = (true, λ e. e, omega arith)

-- The shape of the run that reached pin i; no run reached pin 0.
abbrev pub entered : (ℕ → Bool) → ℕ → Bool
entered s zero = false
entered s (suc i) = s i

module _ (A : Type 0) (start : ℕ → Bool → A) (add : A → ℕ → Bool → A) (finish : A → ℕ) (near : ℕ → ℕ) (bent : ℕ → Bool) (own : ℕ → Bool → ℕ) where
  -- What pin i costs at least with all below it, where it shows a and the k runs from `next` on are to come.
  abbrev pub asked : ℕ → ℕ → ℕ → A → ℕ
  asked k i next a = best A start add finish near bent own k i next a

  -- What pin i shows when the runs before m have the shapes s.
  unfoldable pub shown : ℕ → (ℕ → Bool) → ℕ → A
  shown zero s i = start i (entered s i)
  shown (suc m) s i = cond (eqb (near m) i) (add (shown m s i) m (s m)) (shown m s i)

  -- What a whole choice of shapes costs: each run for itself, and each pin by what it shows at the end.
  unfoldable pub total : ℕ → (ℕ → Bool) → ℕ
  total n s = sum_below n (λ r. own r (s r)) + sum_below (suc n) (λ i. finish (shown n s i))

  -- On the way: the runs before m have the shapes s, and the k others are chosen as they come.
  value : ℕ → ℕ → (ℕ → Bool) → ℕ
  value k m s = sum_below m (λ r. own r (s r)) + sum_below (suc m) (λ i. asked k i m (shown m s i))

  -- What the run `next`, in the shape b, and all that follows for pin i come to.
  abbrev cost : ℕ → ℕ → ℕ → A → Bool → ℕ
  cost k i next a b = own next b + asked k (suc next) (suc next) (start (suc next) b) + asked k i (suc next) (add a next b)

  -- A run that leads on from the pin is weighed in both shapes,
  best_hit : (k i next : ℕ) (a : A) → near next ≡ i → asked (suc k) i next a ≡ lesser_of (bent next) (cost k i next a false) (cost k i next a true)
  unfolding best choose
  best_hit k i next a h = simp (eq-eqb (near next) i h)

  -- any other is passed.
  best_miss : (k i next : ℕ) (a : A) → (near next ≡ i → ⊥) → asked (suc k) i next a ≡ asked k i (suc next) a
  unfolding best choose
  best_miss k i next a h = simp (ne_eqb (near next) i h)

  -- A run that leads on from a pin adds to what it shows,
  shown_hit : (m : ℕ) (s : ℕ → Bool) (i : ℕ) → near m ≡ i → shown (suc m) s i ≡ add (shown m s i) m (s m)
  unfolding shown
  shown_hit m s i h = simp (eq-eqb (near m) i h)

  -- any other does not.
  shown_miss : (m : ℕ) (s : ℕ → Bool) (i : ℕ) → (near m ≡ i → ⊥) → shown (suc m) s i ≡ shown m s i
  unfolding shown
  shown_miss m s i h = simp (ne_eqb (near m) i h)

  -- Where none leads on, a pin shows what it did at first.
  shown_none : (m : ℕ) (s : ℕ → Bool) (i : ℕ) → ((r : ℕ) → r < m → near r ≡ i → ⊥) → shown m s i ≡ start i (entered s i)
  unfolding shown
  shown_none zero s i h = refl
  shown_none (suc m) s i h = shown_miss m s i (h m (omega arith)) ∙ shown_none m s i (λ r l. h r (omega arith))

  -- Shapes that agree on the runs before m agree on the one that reached a pin,
  entered_same : (m i : ℕ) (s t : ℕ → Bool) → i < suc m → ((r : ℕ) → r < m → s r ≡ t r) → entered s i ≡ entered t i
  entered_same m zero s t l h = refl
  entered_same m (suc i) s t l h = h i (omega arith)

  -- on what it shows,
  shown_same : (m : ℕ) (s t : ℕ → Bool) (i : ℕ) → entered s i ≡ entered t i → ((r : ℕ) → r < m → s r ≡ t r) → shown m s i ≡ shown m t i
  unfolding shown
  shown_same zero s t i e h = ap (start i) e
  shown_same (suc m) s t i e h = rw (h m (omega arith), shown_same m s t i e (λ r l. h r (omega arith)))

  -- and on the value.
  value_same : (k m : ℕ) (s t : ℕ → Bool) → ((r : ℕ) → r < m → s r ≡ t r) → value k m s ≡ value k m t
  unfolding value
  value_same k m s t h =
      ap₂ ◌+◌ (sum_same m (λ r. own r (s r)) (λ r. own r (t r)) (λ r l. ap (own r) (h r l)))
      (sum_same (suc m) (λ i. asked k i m (shown m s i)) (λ i. asked k i m (shown m t i))
      (λ i l. ap (asked k i m) (shown_same m s t i (entered_same m i s t l h) h)))

  -- The cost in a shape is that of the lower or of the upper.
  cost_taken : (k i m : ℕ) (a : A) (b : Bool) → cost k i m a b ≡ taken b (cost k i m a false) (cost k i m a true)
  cost_taken k i m a false = refl
  cost_taken k i m a true = refl

  module _ (n : ℕ) (grown : (m : ℕ) → m < n → near m ≤ m) where
    -- One run on: both values are one amount R, less d, and what the run m costs, in the best shape or in that of s.
    move : (k m : ℕ) (s : ℕ → Bool) → m < n
        → (d : ℕ) × (R : ℕ)
        × (value (suc k) m s + d ≡ R + lesser_of (bent m) (cost k (near m) m (shown m s (near m)) false) (cost k (near m) m (shown m s (near m)) true))
        × (value k (suc m) s + d ≡ R + cost k (near m) m (shown m s (near m)) (s m))
    unfolding value sum_below
    move k m s lt =
        let j : ℕ = near m in
        let jl : j ≤ m = grown m lt in
        let f : ℕ → ℕ = λ i. asked (suc k) i m (shown m s i) in
        let g : ℕ → ℕ = λ i. asked k i (suc m) (shown (suc m) s i) in
        let W : ℕ = sum_below m (λ r. own r (s r)) in
        let other : (i : ℕ) → i < suc m → (i ≡ j → ⊥) → f i ≡ g i =
        λ i l ne.
        let miss : near m ≡ i → ⊥ = λ e. ne (sym e) in
        best_miss k i m (shown m s i) miss ∙ ap (asked k i (suc m)) (sym (shown_miss m s i miss)) in
        let one : sum_below (suc m) f + g j ≡ sum_below (suc m) g + f j = sum_but_one (suc m) j f g (omega arith) other in
        let fj = best_hit k j m (shown m s j) refl in
        let gj : g j ≡ asked k j (suc m) (add (shown m s j) m (s m)) = ap (asked k j (suc m)) (shown_hit m s j refl) in
        let last : g (suc m) ≡ asked k (suc m) (suc m) (start (suc m) (s m)) =
        ap (asked k (suc m) (suc m)) (shown_none (suc m) s (suc m) (λ r l e. omega (arith, grown r (omega arith)))) in
        (g j, W + sum_below (suc m) g, omega (arith, one, fj), omega (arith, gj, last))

    -- The value never falls on the way to the whole choice.
    never_more : (k m : ℕ) (s : ℕ → Bool) → k + m ≡ n → ((r : ℕ) → r < n → May (bent r) (s r)) → value k m s ≤ value 0 n s
    never_more zero m s e may = rw (let z : m ≡ n = omega arith in z) (omega arith)
    never_more (suc k) m s e may =
        let lt : m < n = omega arith in
        let st = move k m s lt in
        let q : A = shown m s (near m) in
        let c = lesser_le (bent m) (s m) (cost k (near m) m q false) (cost k (near m) m q true) (may m lt) in
        omega (arith, st.2, st.3, c, cost_taken k (near m) m q (s m), never_more k (suc m) s (omega arith) may)

    -- The shapes s with b for run m.
    abbrev changed : (ℕ → Bool) → ℕ → Bool → ℕ → Bool
    changed s m b r = cond (eqb r m) b (s r)

    -- By taking the better shape at each run the value stays as it is.
    reached : (k m : ℕ) (s : ℕ → Bool) → k + m ≡ n → ((r : ℕ) → r < m → May (bent r) (s r))
        → (t : ℕ → Bool) × ((r : ℕ) → r < n → May (bent r) (t r)) × (value k m s ≡ value 0 n t)
    reached zero m s e may =
        let z : m ≡ n = omega arith in
        (s, λ r l. may r (omega arith), ap (λ (x : ℕ). value 0 x s) z)
    reached (suc k) m s e may =
        let lt : m < n = omega arith in
        let j : ℕ = near m in
        let q : A = shown m s j in
        let ch = lesser_is (bent m) (cost k j m q false) (cost k j m q true) in
        let b : Bool = ch.0 in
        let s1 : ℕ → Bool = changed s m b in
        let q1 : A = shown m s1 j in
        let below : (r : ℕ) → r < m → s r ≡ s1 r = λ r l. simp (ne_eqb r m (λ z. omega arith)) in
        let here : s1 m ≡ b = simp (eq-eqb m m refl) in
        let st = move k m s1 lt in
        let qq : q ≡ q1 = shown_same m s s1 j (entered_same m j s s1 (omega (arith, grown m lt)) below) below in
        let same : lesser_of (bent m) (cost k j m q1 false) (cost k j m q1 true) ≡ cost k j m q1 (s1 m) =
        rw (here, ← qq) (ch.2 ∙ sym (cost_taken k j m q b)) in
        let may1 : (r : ℕ) → r < suc m → May (bent r) (s1 r) = λ r l. go r l (eqb r m) refl ch.1 in
        let rec = reached k (suc m) s1 (omega arith) may1 in
        let turn : value (suc k) m s1 ≡ value k (suc m) s1 = omega (arith, st.2, st.3, same) in
        (rec.0, rec.1, value_same (suc k) m s s1 below ∙ turn ∙ rec.2)
      where
        go : (r : ℕ) → r < suc m → (c : Bool) → eqb r m ≡ c → {b : Bool} → May (bent m) b → May (bent r) (cond c b (s r))
        go r l true q m2 = λ z. m2 (sym (ap bent (eqb-true r m q)) ∙ z)
        go r l false q m2 = may r (let ne : r ≡ m → ⊥ = eqb-false r m q in omega (arith, ne))

    -- With no run to come the value is the cost of the whole choice,
    final : (s : ℕ → Bool) → value 0 n s ≡ total n s
    unfolding value total best
    final s = refl

    -- and with all to come it is what is asked of the first pin.
    initial : (s : ℕ → Bool) → value n 0 s ≡ asked n 0 0 (start 0 false)
    unfolding value sum_below shown
    initial s = omega arith

    -- No whole choice of shapes costs less than what is found pin by pin ..
    pub best_least : (s : ℕ → Bool) → ((r : ℕ) → r < n → May (bent r) (s r)) → asked n 0 0 (start 0 false) ≤ total n s
    best_least s may = omega (arith, never_more n 0 s (omega arith) may, final s, initial s)

    -- .. and some whole choice costs just that.
    pub best_reached : (s : ℕ → Bool) × ((r : ℕ) → r < n → May (bent r) (s r)) × (asked n 0 0 (start 0 false) ≡ total n s)
    best_reached =
        let none : ℕ → Bool = λ r. false in
        let r = reached n 0 none (omega arith) (λ r l. absurd (omega arith)) in
        (r.0, r.1, sym (initial none) ∙ r.2 ∙ final r.0)

-- Where two trees agree on the runs before n, in their near pins, in what pins show and in which runs are bent, they find the same.
module _ (A : Type 0) (start start' : ℕ → Bool → A) (add add' : A → ℕ → Bool → A) (finish : A → ℕ) (near near' : ℕ → ℕ) (bent bent' : ℕ → Bool)
    (own : ℕ → Bool → ℕ) (n : ℕ)
    (same_start : (r : ℕ) → r < n → (u : Bool) → start (suc r) u ≡ start' (suc r) u)
    (same_add : (a : A) (r : ℕ) → r < n → (u : Bool) → add a r u ≡ add' a r u)
    (same_near : (r : ℕ) → r < n → near r ≡ near' r)
    (same-bent : (r : ℕ) → r < n → bent r ≡ bent' r) where
  -- So it is with any number of runs to come.
  pub best_same : (k i next : ℕ) (a : A) → k + next ≤ n → best A start add finish near bent own k i next a ≡ best A start' add' finish near' bent' own k i next a
  unfolding best
  best_same zero i next a l = refl
  best_same (suc k) i next a l =
      let m : next < n = omega arith in
      let after : k + suc next ≤ n = omega arith in
      let one : (u : Bool)
      → own next u + best A start add finish near bent own k (suc next) (suc next) (start (suc next) u)
      + best A start add finish near bent own k i (suc next) (add a next u)
      ≡ own next u + best A start' add' finish near' bent' own k (suc next) (suc next) (start' (suc next) u)
      + best A start' add' finish near' bent' own k i (suc next) (add' a next u) =
      λ u.
      ap₂ (λ (v w : ℕ). own next u + v + w)
      (best_same k (suc next) (suc next) (start (suc next) u) after
      ∙ ap (best A start' add' finish near' bent' own k (suc next) (suc next)) (same_start next m u))
      (best_same k i (suc next) (add a next u) after ∙ ap (best A start' add' finish near' bent' own k i (suc next)) (same_add a next m u))
      in
      rw (same_near next m, same-bent next m, one false, one true, best_same k i (suc next) a after)
