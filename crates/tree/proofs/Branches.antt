-- Trees as lists of runs, the newest first: the pins reached, the widest run on the way between two pins, the pins that hang from a run;
-- and that growing by the earliest run leaves every run the earliest across the two groups that it joins.
-- For any key of pairs, and any pins that are there.
use mathlib.Core.Path.{◌≡◌, refl, sym, ap, ◌∙◌, subst}
use mathlib.Core.Bool.{Bool, true, false, cond}
use mathlib.Core.List.{List, [], ◌∷◌}
use Prim.Native.Nat.{ℕ, ◌<◌, ◌≤◌, max}
use native.Mathlib.Omega.{arith}
use native.Mathlib.Nat.{max-eq_left, max-eq_right, le_of_lt}
use mathlib.Core.Logic.{◌⊎◌, inl, inr}
use lib.Dec.{eqb}
use borrow.Author.Tests.{eq-eqb, ne_eqb}
use Rattle.basics.proofs.Tests.{opposite}
use Rattle.board.proofs.Flat.{order}
use Rattle.tree.specs.declared.Run.{Run}

-- ---- the pins that the runs reach from a first pin
pub data IsReached (o a : ℕ) : List Run → Type 0 where
  start : a ≡ o → IsReached o a []
  new : {r : Run} {rs : List Run} → a ≡ r.far → IsReached o a (r ∷ rs)
  old : {r : Run} {rs : List Run} → IsReached o a rs → IsReached o a (r ∷ rs)

-- A reached pin is not one that is not reached.
pub fresh : (o a t : ℕ) {rs : List Run} → IsReached o a rs → ¬ IsReached o t rs → a ≡ t → ⊥
fresh o a t {rs} h k e = k (subst (λ (z : ℕ). IsReached o z rs) e h)

-- The first pin is reached.
pub from_start : (o : ℕ) (rs : List Run) → IsReached o o rs
from_start o [] = start refl
from_start o (r ∷ rs) = old (from_start o rs)

-- The run from s to t is among the runs.
pub data HasRun (s t : ℕ) : List Run → Type 0 where
  here : {r : Run} {rs : List Run} → s ≡ r.near → t ≡ r.far → HasRun s t (r ∷ rs)
  further : {r : Run} {rs : List Run} → HasRun s t rs → HasRun s t (r ∷ rs)

-- ---- the largest key on the way from a to b
unfoldable pub widest : (ℕ → ℕ → ℕ) → List Run → ℕ → ℕ → ℕ
widest key [] a b = 0
widest key (r ∷ rs) a b =
    cond (eqb a r.far)
    (cond (eqb b r.far) 0 (max (key r.near r.far) (widest key rs r.near b)))
    (cond (eqb b r.far) (max (key r.near r.far) (widest key rs a r.near)) (widest key rs a b))

module _ (key : ℕ → ℕ → ℕ) (r : Run) (rs : List Run) (a b : ℕ) where
  -- From the pin that the newest run reaches to itself there is no way to go.
  pub widest_both : a ≡ r.far → b ≡ r.far → widest key (r ∷ rs) a b ≡ 0
  unfolding widest
  widest_both e f = rw (eq-eqb a r.far e, eq-eqb b r.far f)

  -- From that pin the way goes over the newest run,
  pub widest_left : a ≡ r.far → (b ≡ r.far → ⊥) → widest key (r ∷ rs) a b ≡ max (key r.near r.far) (widest key rs r.near b)
  unfolding widest
  widest_left e f = rw (eq-eqb a r.far e, ne_eqb b r.far f)

  -- and to that pin too.
  pub widest_right : (a ≡ r.far → ⊥) → b ≡ r.far → widest key (r ∷ rs) a b ≡ max (key r.near r.far) (widest key rs a r.near)
  unfolding widest
  widest_right e f = rw (ne_eqb a r.far e, eq-eqb b r.far f)

  -- Between two other pins the newest run plays no part.
  pub widest_old : (a ≡ r.far → ⊥) → (b ≡ r.far → ⊥) → widest key (r ∷ rs) a b ≡ widest key rs a b
  unfolding widest
  widest_old e f = rw (ne_eqb a r.far e, ne_eqb b r.far f)

-- Where both tests are one, only that case is left in which nothing is added.
cond_self : (t : Bool) (x y z : ℕ) → z ≡ 0 → cond t (cond t 0 x) (cond t y z) ≡ 0
cond_self true x y z e = refl
cond_self false x y z e = e

-- There is no way to go from a pin to itself.
pub widest_self : (key : ℕ → ℕ → ℕ) (rs : List Run) (a : ℕ) → widest key rs a a ≡ 0
unfolding widest
widest_self key [] a = refl
widest_self key (r ∷ rs) a =
    cond_self (eqb a r.far) (max (key r.near r.far) (widest key rs r.near a)) (max (key r.near r.far) (widest key rs a r.near))
    (widest key rs a a) (widest_self key rs a)

-- The two tests in either order.
cond_swap : (p q : Bool) (k x y z x' y' z' : ℕ) → x ≡ y' → y ≡ x' → z ≡ z'
    → cond p (cond q 0 (max k x)) (cond q (max k y) z) ≡ cond q (cond p 0 (max k x')) (cond p (max k y') z')
cond_swap true true k x y z x' y' z' a b c = refl
cond_swap true false k x y z x' y' z' a b c = ap (max k) a
cond_swap false true k x y z x' y' z' a b c = ap (max k) b
cond_swap false false k x y z x' y' z' a b c = c

-- The way back is the same way.
pub widest_swap : (key : ℕ → ℕ → ℕ) (rs : List Run) (a b : ℕ) → widest key rs a b ≡ widest key rs b a
unfolding widest
widest_swap key [] a b = refl
widest_swap key (r ∷ rs) a b =
    cond_swap (eqb a r.far) (eqb b r.far) (key r.near r.far) _ _ _ _ _ _
    (widest_swap key rs r.near b) (widest_swap key rs a r.near) (widest_swap key rs a b)

-- ---- a hangs from the run whose far end is t
unfoldable pub hangs : List Run → ℕ → ℕ → Bool
hangs [] t a = false
hangs (r ∷ rs) t a =
    cond (eqb a r.far) (cond (eqb t r.far) true (hangs rs t r.near)) (cond (eqb t r.far) false (hangs rs t a))

module _ (r : Run) (rs : List Run) (t a : ℕ) where
  -- The far end of the newest run hangs from it.
  pub hangs_self : a ≡ r.far → t ≡ r.far → hangs (r ∷ rs) t a ≡ true
  unfolding hangs
  hangs_self e f = rw (eq-eqb a r.far e, eq-eqb t r.far f)

  -- From an older run it hangs where its near end does.
  pub hangs_new : a ≡ r.far → (t ≡ r.far → ⊥) → hangs (r ∷ rs) t a ≡ hangs rs t r.near
  unfolding hangs
  hangs_new e f = rw (eq-eqb a r.far e, ne_eqb t r.far f)

  -- No older pin hangs from the newest run.
  pub hangs_none : (a ≡ r.far → ⊥) → t ≡ r.far → hangs (r ∷ rs) t a ≡ false
  unfolding hangs
  hangs_none e f = rw (ne_eqb a r.far e, eq-eqb t r.far f)

  -- From an older run the others hang as before.
  pub hangs_old : (a ≡ r.far → ⊥) → (t ≡ r.far → ⊥) → hangs (r ∷ rs) t a ≡ hangs rs t a
  unfolding hangs
  hangs_old e f = rw (ne_eqb a r.far e, ne_eqb t r.far f)

-- ---- any tree, told by how it may grow
-- The run joins a reached pin to one that is there and not reached.
pub record Joins (There : ℕ → Type 0) (o : ℕ) (r : Run) (rs : List Run) : Type 0 where
  pub from : IsReached o r.near rs
  pub unmet : ¬ IsReached o r.far rs
  pub there : There r.far

-- Runs that join one pin more each, the newest first.
pub data Branching (There : ℕ → Type 0) (o : ℕ) : List Run → Type 0 where
  trunk : Branching There o []
  branch : {r : Run} {rs : List Run} → Joins There o r rs → Branching There o rs → Branching There o (r ∷ rs)

-- It joins them by the earliest pair.
pub record JoinsEarliest (key : ℕ → ℕ → ℕ) (There : ℕ → Type 0) (o : ℕ) (r : Run) (rs : List Run) : Type 0 where
  pub joins : Joins There o r rs
  pub least : (a b : ℕ) → IsReached o a rs → ¬ IsReached o b rs → There b → key r.near r.far ≤ key a b

-- Runs that join it by the earliest pair each.
pub data Grown (key : ℕ → ℕ → ℕ) (There : ℕ → Type 0) (o : ℕ) : List Run → Type 0 where
  seed : Grown key There o []
  grow : {r : Run} {rs : List Run} → JoinsEarliest key There o r rs → Grown key There o rs → Grown key There o (r ∷ rs)

-- The far end of a run is reached.
pub far_reached : (o s t : ℕ) {rs : List Run} → HasRun s t rs → IsReached o t rs
far_reached o s t (here e f) = new f
far_reached o s t (further h) = old (far_reached o s t h)

module _ {There : ℕ → Type 0} {o : ℕ} where
  -- Runs grown by the earliest pair join one pin more each.
  pub branching : {key : ℕ → ℕ → ℕ} {rs : List Run} → Grown key There o rs → Branching There o rs
  branching seed = trunk
  branching (grow l g) = branch l.joins (branching g)

  -- The near end of a run is reached too.
  pub near_reached : (s t : ℕ) {rs : List Run} → Branching There o rs → HasRun s t rs → IsReached o s rs
  near_reached s t trunk x3 = elim x3 [ ]
  near_reached s t (branch {rs = rs} j w) (here e f) = old (subst (λ (z : ℕ). IsReached o z rs) (sym e) j.from)
  near_reached s t (branch j w) (further h) = old (near_reached s t w h)

  -- Every reached pin is there, where the first is.
  pub reached_there : There o → {rs : List Run} → Branching There o rs → (a : ℕ) → IsReached o a rs → There a
  reached_there k trunk a (start e) = subst There (sym e) k
  reached_there k (branch j w) a (new e) = subst There (sym e) j.there
  reached_there k (branch j w) a (old h) = reached_there k w a h

  -- The ends of a run are different pins.
  pub ends_differ : {rs : List Run} → Branching There o rs → (s t : ℕ) → HasRun s t rs → s ≡ t → ⊥
  ends_differ trunk s t x5 z = elim x5 [ ]
  ends_differ (branch {r = r} j w) s t (here e f) z = fresh o r.near r.far j.from j.unmet (sym e ∙ z ∙ f)
  ends_differ (branch j w) s t (further h) z = ends_differ w s t h z

module _ (key : ℕ → ℕ → ℕ) (swap : (a b : ℕ) → key a b ≡ key b a) {There : ℕ → Type 0} {o : ℕ} where
  -- Two reached pins: no run on the way between them is later than the later of two pairs that lead out from them.
  pub leads_out : {rs : List Run} → Grown key There o rs → (u w v v' : ℕ) → IsReached o u rs → IsReached o w rs
      → ¬ IsReached o v rs → ¬ IsReached o v' rs → There v → There v' → widest key rs u w ≤ max (key u v) (key w v')
  unfolding widest
  leads_out seed u w v v' iu iw nv nv' lv lv' = omega arith
  leads_out (grow {r = r} {rs = rs} l g) u w v v' (new e) (new f) nv nv' lv lv' = rw (widest_both key r rs u w e f) (omega arith)
  leads_out (grow {r = r} {rs = rs} l g) u w v v' (new e) (old h) nv nv' lv lv' =
      let j = l.joins in
      rw (widest_left key r rs u w e (fresh o w r.far h j.unmet))
      (omega (
        arith,
        l.least w v' h (λ k. nv' (old k)) lv',
        leads_out g r.near w r.far v' j.from h j.unmet (λ k. nv' (old k)) j.there lv',
      ))
  leads_out (grow {r = r} {rs = rs} l g) u w v v' (old h) (new f) nv nv' lv lv' =
      let j = l.joins in
      rw (widest_right key r rs u w (fresh o u r.far h j.unmet) f)
      (omega (
        arith,
        l.least u v h (λ k. nv (old k)) lv,
        leads_out g u r.near v r.far h j.from (λ k. nv (old k)) j.unmet lv j.there,
      ))
  leads_out (grow {r = r} {rs = rs} l g) u w v v' (old h) (old k) nv nv' lv lv' =
      let j = l.joins in
      rw (widest_old key r rs u w (fresh o u r.far h j.unmet) (fresh o w r.far k j.unmet))
      (leads_out g u w v v' h k (λ z. nv (old z)) (λ z. nv' (old z)) lv lv')

  -- No run on the way between two pins is later than their pair.
  pub way_least : {rs : List Run} → Grown key There o rs → (a b : ℕ) → IsReached o a rs → IsReached o b rs → (a ≡ b → ⊥) → widest key rs a b ≤ key a b
  unfolding widest
  way_least seed a b ia ib ne = omega arith
  way_least (grow {r = r} {rs = rs} l g) a b (new e) (new f) ne = absurd (ne (e ∙ sym f))
  way_least (grow {r = r} {rs = rs} l g) a b (new e) (old h) ne =
      let j = l.joins in
      rw (widest_left key r rs a b e (fresh o b r.far h j.unmet))
      (omega (
        arith,
        swap a b,
        ap (key b) e,
        l.least b r.far h j.unmet j.there,
        leads_out g r.near b r.far r.far j.from h j.unmet j.unmet j.there j.there,
      ))
  way_least (grow {r = r} {rs = rs} l g) a b (old h) (new f) ne =
      let j = l.joins in
      rw (widest_right key r rs a b (fresh o a r.far h j.unmet) f)
      (omega (
        arith,
        ap (key a) f,
        l.least a r.far h j.unmet j.there,
        leads_out g a r.near r.far r.far h j.from j.unmet j.unmet j.there j.there,
      ))
  way_least (grow {r = r} {rs = rs} l g) a b (old h) (old k) ne =
      let j = l.joins in
      rw (widest_old key r rs a b (fresh o a r.far h j.unmet) (fresh o b r.far k j.unmet)) (way_least g a b h k ne)

module _ (key : ℕ → ℕ → ℕ) where
  -- The largest key on the way between two pins is that of a run from which just one of them hangs.
  pub record Widest (rs : List Run) (a b : ℕ) : Type 0 where
    pub s : ℕ
    pub t : ℕ
    pub has : HasRun s t rs
    pub is : widest key rs a b ≡ key s t
    pub apart : hangs rs t a ≡ hangs rs t b → ⊥

  -- The same, seen from the other pin.
  turned : {rs : List Run} {a b : ℕ} → Widest rs a b → Widest rs b a
  turned {rs} {a} {b} w =
      record {
        s = w.s;
        t = w.t;
        has = w.has;
        is = widest_swap key rs b a ∙ w.is;
        apart = λ e. w.apart (sym e);
      }

-- A test that holds and one that fails are not the same.
pub differ : {x y : Bool} → x ≡ true → y ≡ false → x ≡ y → ⊥
differ e f g = opposite (sym g ∙ e) f

module _ (key : ℕ → ℕ → ℕ) {There : ℕ → Type 0} {o : ℕ} where
  -- A run lies on every way between the pins that hang from it and the others.
  pub lies_on : {rs : List Run} → Branching There o rs → (s t a b : ℕ) → HasRun s t rs → IsReached o a rs → IsReached o b rs
      → (hangs rs t a ≡ hangs rs t b → ⊥) → key s t ≤ widest key rs a b
  lies_on trunk s t a b x9 _ _ ne = elim x9 [ ]
  lies_on (branch {r = r} {rs = rs} j w) s t a b (here e f) (new p) (new q) ne =
      absurd (ne (hangs_self r rs t a p f ∙ sym (hangs_self r rs t b q f)))
  lies_on (branch {r = r} {rs = rs} j w) s t a b (here e f) (new p) (old q) ne =
      rw (widest_left key r rs a b p (fresh o b r.far q j.unmet), e, f) (omega arith)
  lies_on (branch {r = r} {rs = rs} j w) s t a b (here e f) (old p) (new q) ne =
      rw (widest_right key r rs a b (fresh o a r.far p j.unmet) q, e, f) (omega arith)
  lies_on (branch {r = r} {rs = rs} j w) s t a b (here e f) (old p) (old q) ne =
      absurd (ne (hangs_none r rs t a (fresh o a r.far p j.unmet) f ∙ sym (hangs_none r rs t b (fresh o b r.far q j.unmet) f)))
  lies_on (branch {r = r} {rs = rs} j w) s t a b (further h) (new p) (new q) ne =
      let ft = fresh o t r.far (far_reached o s t h) j.unmet in
      absurd (ne (hangs_new r rs t a p ft ∙ sym (hangs_new r rs t b q ft)))
  lies_on (branch {r = r} {rs = rs} j w) s t a b (further h) (new p) (old q) ne =
      let ft = fresh o t r.far (far_reached o s t h) j.unmet in
      let fb = fresh o b r.far q j.unmet in
      let ih = lies_on w s t r.near b h j.from q (λ z. ne (hangs_new r rs t a p ft ∙ z ∙ sym (hangs_old r rs t b fb ft))) in
      rw (widest_left key r rs a b p fb) (omega arith)
  lies_on (branch {r = r} {rs = rs} j w) s t a b (further h) (old p) (new q) ne =
      let ft = fresh o t r.far (far_reached o s t h) j.unmet in
      let fa = fresh o a r.far p j.unmet in
      let ih = lies_on w s t a r.near h p j.from (λ z. ne (hangs_old r rs t a fa ft ∙ z ∙ sym (hangs_new r rs t b q ft))) in
      rw (widest_right key r rs a b fa q) (omega arith)
  lies_on (branch {r = r} {rs = rs} j w) s t a b (further h) (old p) (old q) ne =
      let ft = fresh o t r.far (far_reached o s t h) j.unmet in
      let fa = fresh o a r.far p j.unmet in
      let fb = fresh o b r.far q j.unmet in
      rw (widest_old key r rs a b fa fb)
      (lies_on w s t a b h p q (λ z. ne (hangs_old r rs t a fa ft ∙ z ∙ sym (hangs_old r rs t b fb ft))))

  -- The newest run is such a run, or one before it is.
  widest_new : (r : Run) (rs : List Run) → Joins There o r rs → (a b : ℕ) → a ≡ r.far → IsReached o b rs
      → ((r.near ≡ b → ⊥) → Widest key rs r.near b) → Widest key (r ∷ rs) a b
  widest_new r rs j a b p q ih = go (order (widest key rs r.near b) (key r.near r.far))
    where
      fb : b ≡ r.far → ⊥
      fb = fresh o b r.far q j.unmet

      go : (widest key rs r.near b ≤ key r.near r.far) ⊎ (key r.near r.far < widest key rs r.near b) → Widest key (r ∷ rs) a b
      go (inl h) =
          record {
            s = r.near;
            t = r.far;
            has = here refl refl;
            is = widest_left key r rs a b p fb ∙ max-eq_left h;
            apart = differ (hangs_self r rs r.far a p refl) (hangs_none r rs r.far b fb refl);
          }
      go (inr h) =
          let w = ih (λ e. omega (arith, widest_self key rs b, ap (λ (z : ℕ). widest key rs z b) e)) in
          let ft = fresh o w.t r.far (far_reached o w.s w.t w.has) j.unmet in
          record {
            s = w.s;
            t = w.t;
            has = further w.has;
            is = widest_left key r rs a b p fb ∙ max-eq_right (le_of_lt h) ∙ w.is;
            apart = λ e. w.apart (sym (hangs_new r rs w.t a p ft) ∙ e ∙ hangs_old r rs w.t b fb ft);
          }

  -- There is such a run for any two reached pins.
  pub widest_run : {rs : List Run} → Branching There o rs → (a b : ℕ) → IsReached o a rs → IsReached o b rs → (a ≡ b → ⊥) → Widest key rs a b
  widest_run trunk a b (start e) (start f) ne = absurd (ne (e ∙ sym f))
  widest_run (branch {r = r} {rs = rs} j w) a b (new p) (new q) ne = absurd (ne (p ∙ sym q))
  widest_run (branch {r = r} {rs = rs} j w) a b (new p) (old q) ne = widest_new r rs j a b p q (widest_run w r.near b j.from q)
  widest_run (branch {r = r} {rs = rs} j w) a b (old p) (new q) ne =
      turned key (widest_new r rs j b a q p (widest_run w r.near a j.from p))
  widest_run (branch {r = r} {rs = rs} j w) a b (old p) (old q) ne =
      let fa = fresh o a r.far p j.unmet in
      let fb = fresh o b r.far q j.unmet in
      let v = widest_run w a b p q ne in
      let ft = fresh o v.t r.far (far_reached o v.s v.t v.has) j.unmet in
      record {
        s = v.s;
        t = v.t;
        has = further v.has;
        is = widest_old key r rs a b fa fb ∙ v.is;
        apart = λ e. v.apart (sym (hangs_old r rs v.t a fa ft) ∙ e ∙ hangs_old r rs v.t b fb ft);
      }

module _ (key : ℕ → ℕ → ℕ) (swap : (a b : ℕ) → key a b ≡ key b a) {There : ℕ → Type 0} {o : ℕ} where
  -- THE CUT PROPERTY: no pair of a pin that hangs from a run and one that does not has a smaller key than the run.
  pub cut : {rs : List Run} → Grown key There o rs → (s t a b : ℕ) → HasRun s t rs → IsReached o a rs → IsReached o b rs
      → (hangs rs t a ≡ hangs rs t b → ⊥) → key s t ≤ key a b
  cut {rs} g s t a b h ia ib ne =
      omega (
        arith,
        lies_on key (branching g) s t a b h ia ib ne,
        way_least key swap g a b ia ib (λ e. ne (ap (hangs rs t) e)),
      )

-- ---- the pins that hang from a run, told by the runs
module _ {There : ℕ → Type 0} {o : ℕ} where
  -- The far end of a run hangs from it.
  pub far_hangs : {rs : List Run} → Branching There o rs → (s t : ℕ) → HasRun s t rs → hangs rs t t ≡ true
  far_hangs trunk s t x3 = elim x3 [ ]
  far_hangs (branch {r = r} {rs = rs} j w) s t (here e f) = hangs_self r rs t t f f
  far_hangs (branch {r = r} {rs = rs} j w) s t (further h) =
      let ft = fresh o t r.far (far_reached o s t h) j.unmet in
      hangs_old r rs t t ft ft ∙ far_hangs w s t h

  -- The near end of a run does not hang from it.
  pub near_stays : {rs : List Run} → Branching There o rs → (s t : ℕ) → HasRun s t rs → hangs rs t s ≡ false
  near_stays trunk s t x3 = elim x3 [ ]
  near_stays (branch {r = r} {rs = rs} j w) s t (here e f) =
      hangs_none r rs t s (λ z. fresh o r.near r.far j.from j.unmet (sym e ∙ z)) f
  near_stays (branch {r = r} {rs = rs} j w) s t (further h) =
      hangs_old r rs t s (fresh o s r.far (near_reached s t w h) j.unmet) (fresh o t r.far (far_reached o s t h) j.unmet)
      ∙ near_stays w s t h

  -- Both ends of another run hang from it, or neither.
  pub run_hangs : {rs : List Run} → Branching There o rs → (s t s' t' : ℕ) → HasRun s t rs → HasRun s' t' rs → (t ≡ t' → ⊥)
      → hangs rs t t' ≡ hangs rs t s'
  run_hangs trunk s t s' t' x7 _ ne = elim x7 [ ]
  run_hangs (branch {r = r} {rs = rs} j w) s t s' t' (here e f) (here e' f') ne = absurd (ne (f ∙ sym f'))
  run_hangs (branch {r = r} {rs = rs} j w) s t s' t' (here e f) (further h') ne =
      hangs_none r rs t t' (fresh o t' r.far (far_reached o s' t' h') j.unmet) f
      ∙ sym (hangs_none r rs t s' (fresh o s' r.far (near_reached s' t' w h') j.unmet) f)
  run_hangs (branch {r = r} {rs = rs} j w) s t s' t' (further h) (here e' f') ne =
      let ft = fresh o t r.far (far_reached o s t h) j.unmet in
      hangs_new r rs t t' f' ft ∙ ap (hangs rs t) (sym e')
      ∙ sym (hangs_old r rs t s' (λ z. fresh o r.near r.far j.from j.unmet (sym e' ∙ z)) ft)
  run_hangs (branch {r = r} {rs = rs} j w) s t s' t' (further h) (further h') ne =
      let ft = fresh o t r.far (far_reached o s t h) j.unmet in
      hangs_old r rs t t' (fresh o t' r.far (far_reached o s' t' h') j.unmet) ft
      ∙ run_hangs w s t s' t' h h' ne
      ∙ sym (hangs_old r rs t s' (fresh o s' r.far (near_reached s' t' w h') j.unmet) ft)
