-- The pins that runs join to one pin: each of them once, and no pair of them comes before either of their runs to it.
-- For any key of pairs, and any pins that are there.
use mathlib.Core.Path.{◌≡◌, refl, sym, ◌∙◌, subst}
use mathlib.Core.Bool.{Bool, true, false, cond}
use mathlib.Core.List.{List, [], ◌∷◌}
use mathlib.Core.Logic.{◌⊎◌, inl, inr}
use Prim.Native.Nat.{ℕ, ◌≤◌, max}
use native.Mathlib.Omega.{arith}
use lib.Dec.{eqb}
use borrow.Author.Tests.{eqb-true}
use Rattle.tree.specs.declared.Run.{Run}
use Rattle.tree.proofs.Branches.{IsReached, new, old, fresh, HasRun, here, further, widest, widest_self, widest_swap, widest_left, widest_right, widest_old, Branching, trunk, branch, Grown, branching, far_reached, near_reached, way_least}

-- i and j are the ends of a run.
pub data Joined (i j : ℕ) : List Run → Type 0 where
  onward : {r : Run} {rs : List Run} → i ≡ r.near → j ≡ r.far → Joined i j (r ∷ rs)
  backward : {r : Run} {rs : List Run} → i ≡ r.far → j ≡ r.near → Joined i j (r ∷ rs)
  beyond : {r : Run} {rs : List Run} → Joined i j rs → Joined i j (r ∷ rs)

module _ {There : ℕ → Type 0} {o : ℕ} where
  -- Both ends of a run are reached.
  pub joined_reached : {rs : List Run} → Branching There o rs → (i j : ℕ) → Joined i j rs → IsReached o i rs × IsReached o j rs
  joined_reached trunk i j x3 = elim x3 [ ]
  joined_reached (branch {rs = rs} z w) i j (onward e f) = (old (subst (λ (y : ℕ). IsReached o y rs) (sym e) z.from), new f)
  joined_reached (branch {rs = rs} z w) i j (backward e f) = (new e, old (subst (λ (y : ℕ). IsReached o y rs) (sym f) z.from))
  joined_reached (branch z w) i j (beyond h) = let k = joined_reached w i j h in (old k.0, old k.1)

module _ (key : ℕ → ℕ → ℕ) {There : ℕ → Type 0} {o : ℕ} where
  -- A run is the whole way between its ends.
  run_whole : {rs : List Run} → Branching There o rs → (s t : ℕ) → HasRun s t rs → widest key rs s t ≡ key s t
  run_whole trunk s t x3 = elim x3 [ ]
  run_whole (branch {r = r} {rs = rs} j w) s t (here e f) =
      rw (widest_right key r rs s t (λ z. j.unmet (subst (λ (y : ℕ). IsReached o y rs) (sym e ∙ z) j.from)) f, e, f)
      (omega (arith, widest_self key rs r.near))
  run_whole (branch {r = r} {rs = rs} j w) s t (further h) =
      rw (widest_old key r rs s t (fresh o s r.far (near_reached s t w h) j.unmet) (fresh o t r.far (far_reached o s t h) j.unmet))
      (run_whole w s t h)

-- Two pins that a run joins are its ends, one way or the other.
has : {i j : ℕ} {rs : List Run} → Joined i j rs → HasRun i j rs ⊎ HasRun j i rs
has (onward e f) = inl (here e f)
has (backward e f) = inr (here f e)
has {i} {j} (beyond {rs = rs} k) = up (has k)
  where
    up : {r : Run} → HasRun i j rs ⊎ HasRun j i rs → HasRun i j (r ∷ rs) ⊎ HasRun j i (r ∷ rs)
    up (inl x) = inl (further x)
    up (inr x) = inr (further x)

module _ (key : ℕ → ℕ → ℕ) (swap : (a b : ℕ) → key a b ≡ key b a) {There : ℕ → Type 0} {o : ℕ} where
  -- So is it both ways.
  joined_whole : {rs : List Run} → Branching There o rs → (i j : ℕ) → Joined i j rs → widest key rs i j ≡ key i j
  joined_whole {rs} w i j h = go (has h)
    where
      go : HasRun i j rs ⊎ HasRun j i rs → widest key rs i j ≡ key i j
      go (inl x) = run_whole key w i j x
      go (inr x) = widest_swap key rs i j ∙ run_whole key w j i x ∙ swap j i

  -- The way between two pins that runs join to i holds both runs.
  fork : {rs : List Run} → Branching There o rs → (i j k : ℕ) → Joined i j rs → Joined i k rs → (j ≡ k → ⊥)
      → max (key i j) (key i k) ≤ widest key rs j k
  fork trunk i j k x7 _ ne = elim x7 [ ]
  fork (branch {r = r} {rs = rs} z w) i j k (onward e f) (onward e' f') ne = absurd (ne (f ∙ sym f'))
  fork (branch {r = r} {rs = rs} z w) i j k (onward e f) (backward e' f') ne = absurd (fresh o r.near r.far z.from z.unmet (sym e ∙ e'))
  fork (branch {r = r} {rs = rs} z w) i j k (onward e f) (beyond h) ne =
      let fk = fresh o k r.far (joined_reached w i k h).1 z.unmet in
      let m = joined_whole w i k h in
      rw (widest_left key r rs j k f fk, ← e, ← f) (omega arith)
  fork (branch {r = r} {rs = rs} z w) i j k (backward e f) (onward e' f') ne = absurd (fresh o r.near r.far z.from z.unmet (sym e' ∙ e))
  fork (branch {r = r} {rs = rs} z w) i j k (backward e f) (backward e' f') ne = absurd (ne (f ∙ sym f'))
  fork (branch {r = r} {rs = rs} z w) i j k (backward e f) (beyond h) ne = absurd (fresh o i r.far (joined_reached w i k h).0 z.unmet e)
  fork (branch {r = r} {rs = rs} z w) i j k (beyond g) (onward e' f') ne =
      let fj = fresh o j r.far (joined_reached w i j g).1 z.unmet in
      let m = joined_whole w i j g in
      rw (widest_right key r rs j k fj f', ← e', ← f') (omega (arith, widest_swap key rs i j))
  fork (branch {r = r} {rs = rs} z w) i j k (beyond g) (backward e' f') ne = absurd (fresh o i r.far (joined_reached w i j g).0 z.unmet e')
  fork (branch {r = r} {rs = rs} z w) i j k (beyond g) (beyond h) ne =
      let fj = fresh o j r.far (joined_reached w i j g).1 z.unmet in
      let fk = fresh o k r.far (joined_reached w i k h).1 z.unmet in
      rw (widest_old key r rs j k fj fk) (fork w i j k g h ne)

  -- The pair of two pins that runs join to i comes before neither run.
  pub neighbours : {rs : List Run} → Grown key There o rs → (i j k : ℕ) → Joined i j rs → Joined i k rs → (j ≡ k → ⊥)
      → (key i j ≤ key j k) × (key i k ≤ key j k)
  neighbours g i j k aj ak ne =
      let w = branching g in
      let f = fork w i j k aj ak ne in
      let l = way_least key swap g j k (joined_reached w i j aj).1 (joined_reached w i k ak).1 ne in
      omega arith

-- ---- all pins that runs join to one
unfoldable pub around : ℕ → List Run → List ℕ
around i [] = []
around i (r ∷ rs) = cond (eqb i r.near) (r.far ∷ around i rs) (cond (eqb i r.far) (r.near ∷ around i rs) (around i rs))

-- Each member is so.
pub data All (P : ℕ → Type 0) : List ℕ → Type 0 where
  none : All P []
  also : {a : ℕ} {l : List ℕ} → P a → All P l → All P (a ∷ l)

-- Each member is so related to each later one.
pub data Pairwise (R : ℕ → ℕ → Type 0) : List ℕ → Type 0 where
  none : Pairwise R []
  also : {a : ℕ} {l : List ℕ} → All (R a) l → Pairwise R l → Pairwise R (a ∷ l)

-- What holds of each member, told in other words.
pub all_map : {P Q : ℕ → Type 0} → ((b : ℕ) → P b → Q b) → {l : List ℕ} → All P l → All Q l
all_map g none = none
all_map g (also h k) = also (g _ h) (all_map g k)

-- Runs join each of them to the pin.
pub around_joined : (i : ℕ) (rs : List Run) → All (λ (b : ℕ). Joined i b rs) (around i rs)
unfolding around
around_joined i [] = none
around_joined i (r ∷ rs) = go (eqb i r.near) (eqb i r.far) refl refl (all_map (λ b h. beyond h) (around_joined i rs))
  where
    go : (p q : Bool) → eqb i r.near ≡ p → eqb i r.far ≡ q → All (λ (b : ℕ). Joined i b (r ∷ rs)) (around i rs)
        → All (λ (b : ℕ). Joined i b (r ∷ rs)) (cond p (r.far ∷ around i rs) (cond q (r.near ∷ around i rs) (around i rs)))
    go true q e f h = also (onward (eqb-true i r.near e) refl) h
    go false true e f h = also (backward (eqb-true i r.far f) refl) h
    go false false e f h = h

module _ {There : ℕ → Type 0} {o : ℕ} where
  -- Each of them stands there once.
  pub around_once : (i : ℕ) {rs : List Run} → Branching There o rs → Pairwise (λ (a b : ℕ). a ≡ b → ⊥) (around i rs)
  unfolding around
  around_once i trunk = Pairwise.none
  around_once i (branch {r = r} {rs = rs} j w) = go (eqb i r.near) (eqb i r.far) refl (around_once i w)
    where
      go : (p q : Bool) → eqb i r.far ≡ q → Pairwise (λ (a b : ℕ). a ≡ b → ⊥) (around i rs)
          → Pairwise (λ (a b : ℕ). a ≡ b → ⊥) (cond p (r.far ∷ around i rs) (cond q (r.near ∷ around i rs) (around i rs)))
      go true q f h = Pairwise.also (all_map (λ b k z. fresh o b r.far (joined_reached w i b k).1 j.unmet (sym z)) (around_joined i rs)) h
      go false true f h = Pairwise.also (all_map (λ b k z. fresh o i r.far (joined_reached w i b k).0 j.unmet (eqb-true i r.far f)) (around_joined i rs)) h
      go false false f h = h
