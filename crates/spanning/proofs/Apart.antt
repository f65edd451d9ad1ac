-- THE BOXES OF TWO RUNS WITHOUT A COMMON PIN SHARE NO POINT, so that a length is a sum over pins. Each of the two runs comes before a pair that crosses over to the other
-- run, on its own side of it; four such pins are apart. From pins that stand on the board.
use mathlib.Core.Path.{◌≡◌, refl, sym, ap, ◌∙◌}
use mathlib.Core.Bool.{true, false, not}
use mathlib.Core.List.{List, [], ◌∷◌, reverse_aux}
use mathlib.Core.Logic.{◌⊎◌, inl, inr}
use Prim.Native.Nat.{ℕ, ◌<◌}
use native.Mathlib.Omega.{arith}
use native.Mathlib.Nat.{min_comm, max_comm}
use lib.Dec.{eqb}
use lib.ListN.{length}
use borrow.Author.Tests.{eqb-false}
use Rattle.basics.specs.Tests.{both, either, any_of, no_two}
use Rattle.basics.proofs.Tests.{decide, either-false, fails_if, both_no, both_yes, either_no, both_of}
use Rattle.board.specs.Spots.{Spot}
use Rattle.board.proofs.Flat.{Site}
use Rattle.tree.specs.declared.Run.{Run}
use Rattle.board.specs.Spots.{most_pins, place_at, all_within}
use Rattle.tree.specs.Growth.{pins_of, runs_of}
use Rattle.tree.specs.Boxes.{boxes_share, is_end, common, clash, boxes_apart}
use Rattle.tree.proofs.Membership.{Among, first, later}
use Rattle.tree.proofs.Numbering.{site_at, key_at, keyed, stands, fits}
use Rattle.tree.proofs.Branches.{
  IsReached,
  fresh,
  HasRun,
  here,
  further,
  hangs,
  hangs_none,
  hangs_old,
  Branching,
  branch,
  Grown,
  branching,
  reached_there,
  far_reached,
  near_reached,
  differ,
  cut,
  far_hangs,
  near_stays,
  run_hangs,
}
use Rattle.tree.proofs.Listing.{runs_grown, pins_low}
use Rattle.spanning.proofs.Spanning.{has_run, in_turned, none-among, no_runs}
use Rattle.spanning.proofs.FourPins.{Before, key_before, InBox, no_point}
use Rattle.spanning.proofs.Boxes.{Shared, shared_point}

-- Of two runs not each hangs from the other.
not-both : {There : ℕ → Type 0} {o : ℕ} {rs : List Run} → Branching There o rs → (s t s' t' : ℕ) → HasRun s t rs → HasRun s' t' rs → (t ≡ t' → ⊥)
    → hangs rs t t' ≡ true → hangs rs t' t ≡ false
not-both {There = There} {o = o} Rattle.tree.proofs.Branches.trunk s t s' t' x9 _ ne b = elim x9 [ ]
not-both (branch {r = r} {rs = rs} j w) s t s' t' (here e f) (here e' f') ne b = absurd (ne (f ∙ sym f'))
not-both {o = o} (branch {r = r} {rs = rs} j w) s t s' t' (here e f) (further h') ne b =
    absurd (differ b (hangs_none r rs t t' (fresh o t' r.far (far_reached o s' t' h') j.unmet) f) refl)
not-both {o = o} (branch {r = r} {rs = rs} j w) s t s' t' (further h) (here e' f') ne b =
    hangs_none r rs t' t (fresh o t r.far (far_reached o s t h) j.unmet) f'
not-both {o = o} (branch {r = r} {rs = rs} j w) s t s' t' (further h) (further h') ne b =
    let ft = fresh o t r.far (far_reached o s t h) j.unmet in
    let ft' = fresh o t' r.far (far_reached o s' t' h') j.unmet in
    hangs_old r rs t' t ft ft' ∙ not-both w s t s' t' h h' ne (sym (hangs_old r rs t t' ft' ft) ∙ b)

-- A box is that of its corners in either order.
box_turn : {a b p : Site} → InBox a b p → InBox b a p
box_turn {a} {b} h =
    record {
      left = rw (min_comm b.x a.x) h.left;
      right = rw (max_comm b.x a.x) h.right;
      bottom = rw (min_comm b.y a.y) h.bottom;
      top = rw (max_comm b.y a.y) h.top;
    }

module _ (feed : List Spot) (full : length feed ≡ most_pins) (ok : all_within feed ≡ true) (f : ℕ) (left : List ℕ) (e : pins_of feed ≡ f ∷ left)
    {rs : List Run} (g : Grown (key_at feed) (λ (a : ℕ). Among a (f ∷ left)) f rs) where
  -- The runs branch, as those that were grown do.
  w : Branching (λ (a : ℕ). Among a (f ∷ left)) f rs
  w = branching g

  -- Every reached pin has a number below 32.
  low : (a : ℕ) → IsReached f a rs → a < most_pins
  low a h = pins_low feed full ok f left e a (reached_there (first refl) w a h)

  -- A run comes before any other pair across it.
  strict : (s t a b : ℕ) → HasRun s t rs → IsReached f a rs → IsReached f b rs → (hangs rs t a ≡ hangs rs t b → ⊥)
      → ((s ≡ a) × (t ≡ b) → ⊥) → ((s ≡ b) × (t ≡ a) → ⊥) → key_at feed s t < key_at feed a b
  strict s t a b h ia ib ne n m =
      let le = cut (key_at feed) (keyed feed ok).swap g s t a b h ia ib ne in
      let df : key_at feed s t ≡ key_at feed a b → ⊥ =
      λ q. other ((keyed feed ok).told s t a b (low s (near_reached s t w h)) (low t (far_reached f s t h)) (low a ia) (low b ib) q) in
      omega arith
    where
      other : ((s ≡ a) × (t ≡ b)) ⊎ ((s ≡ b) × (t ≡ a)) → ⊥
      other (inl q) = n q
      other (inr q) = m q

  -- Keys in order are pairs in order, part by part.
  before : (p q r s : ℕ) → IsReached f p rs → IsReached f q rs → IsReached f r rs → IsReached f s rs → key_at feed p q < key_at feed r s
      → Before (site_at feed p) p (site_at feed q) q (site_at feed r) r (site_at feed s) s
  unfolding key_at
  before p q r s ip iq ir is h =
      key_before (site_at feed p) p (site_at feed q) q (site_at feed r) r (site_at feed s) s
      (fits feed ok p (low p ip)) (fits feed ok q (low q iq)) (fits feed ok r (low r ir)) (fits feed ok s (low s is)) h

  -- Where the second run hangs from the first, without a common pin, their boxes share no point;
  hanging : (s t s' t' : ℕ) → HasRun s t rs → HasRun s' t' rs → (s ≡ s' → ⊥) → (s ≡ t' → ⊥) → (t ≡ s' → ⊥) → (t ≡ t' → ⊥)
      → hangs rs t t' ≡ true → Shared (site_at feed s) (site_at feed t) (site_at feed s') (site_at feed t') → ⊥
  hanging s t s' t' h h' n1 n2 n3 n4 b m =
      let is = near_reached s t w h in
      let it = far_reached f s t h in
      let is' = near_reached s' t' w h' in
      let it' = far_reached f s' t' h' in
      let k2 =
      strict s' t' t t' h' it it' (λ z. differ (far_hangs w s' t' h') (not-both w s t s' t' h h' n4 b) (sym z))
      (λ z. n3 (sym z.0)) (λ z. n4 (sym z.1)) in
      let k1 =
      strict s t s' s h is' is (λ z. differ (sym (run_hangs w s t s' t' h h' n4) ∙ b) (near_stays w s t h) z)
      (λ z. n1 z.0) (λ z. n3 z.1) in
      no_point (site_at feed t) t (site_at feed s) s (site_at feed s') s' (site_at feed t') t'
      (before s' t' t t' is' it' it it' k2)
      (before t s s' s it is is' is (omega (arith, k1, (keyed feed ok).swap s t)))
      m.point (box_turn m.in_first) m.in_second

  -- nor do they where neither hangs from the other.
  beside : (s t s' t' : ℕ) → HasRun s t rs → HasRun s' t' rs → (s ≡ s' → ⊥) → (s ≡ t' → ⊥) → (t ≡ s' → ⊥) → (t ≡ t' → ⊥)
      → hangs rs t t' ≡ false → hangs rs t' t ≡ false → Shared (site_at feed s) (site_at feed t) (site_at feed s') (site_at feed t') → ⊥
  beside s t s' t' h h' n1 n2 n3 n4 b b' m =
      let is = near_reached s t w h in
      let it = far_reached f s t h in
      let is' = near_reached s' t' w h' in
      let it' = far_reached f s' t' h' in
      let k2 =
      strict s' t' s t' h' is it'
      (λ z. differ (far_hangs w s' t' h') (sym (run_hangs w s' t' s t h' h (λ q. n4 (sym q))) ∙ b') (sym z))
      (λ z. n1 (sym z.0)) (λ z. n2 (sym z.1)) in
      let k1 =
      strict s t s' t h is' it (λ z. differ (far_hangs w s t h) (sym (run_hangs w s t s' t' h h' n4) ∙ b) (sym z))
      (λ z. n1 z.0) (λ z. n3 z.1) in
      no_point (site_at feed s) s (site_at feed t) t (site_at feed s') s' (site_at feed t') t'
      (before s' t' s t' is' it' is it' k2) (before s t s' t is it is' it k1)
      m.point m.in_first m.in_second

  -- So, whether one hangs from the other or not, the boxes of two such runs share no point.
  pub separate : (s t s' t' : ℕ) → HasRun s t rs → HasRun s' t' rs → (s ≡ s' → ⊥) → (s ≡ t' → ⊥) → (t ≡ s' → ⊥) → (t ≡ t' → ⊥)
      → Shared (site_at feed s) (site_at feed t) (site_at feed s') (site_at feed t') → ⊥
  separate s t s' t' h h' n1 n2 n3 n4 m = go (decide (hangs rs t t')) (decide (hangs rs t' t))
    where
      swapped : Shared (site_at feed s') (site_at feed t') (site_at feed s) (site_at feed t)
      swapped = record { point = m.point; in_first = m.in_second; in_second = m.in_first }

      go : (hangs rs t t' ≡ true) ⊎ (hangs rs t t' ≡ false) → (hangs rs t' t ≡ true) ⊎ (hangs rs t' t ≡ false) → ⊥
      go (inl p) q = hanging s t s' t' h h' n1 n2 n3 n4 p m
      go (inr p) (inl q) = hanging s' t' s t h' h (λ z. n1 (sym z)) (λ z. n3 (sym z)) (λ z. n2 (sym z)) (λ z. n4 (sym z)) q swapped
      go (inr p) (inr q) = beside s t s' t' h h' n1 n2 n3 n4 p q m

-- ---- the theorem
-- No end of one run is an end of the other.
record FourEnds (r s : Run) : Type 0 where
  near_near : r.near ≡ s.near → ⊥
  near_far : r.near ≡ s.far → ⊥
  far_near : r.far ≡ s.near → ⊥
  far_far : r.far ≡ s.far → ⊥

-- So it is for runs without a common pin.
four_ends : (r s : Run) → common r s ≡ false → FourEnds r s
unfolding common is_end
four_ends r s e =
    let p = either-false (either (eqb r.near s.near) (eqb r.near s.far)) (either (eqb r.far s.near) (eqb r.far s.far)) e in
    let q = either-false (eqb r.near s.near) (eqb r.near s.far) p.0 in
    let t = either-false (eqb r.far s.near) (eqb r.far s.far) p.1 in
    record {
      near_near = eqb-false r.near s.near q.0;
      near_far = eqb-false r.near s.far q.1;
      far_near = eqb-false r.far s.near t.0;
      far_far = eqb-false r.far s.far t.1;
    }

module _ (feed : List Spot) (full : length feed ≡ most_pins) (ok : all_within feed ≡ true) where
  -- THE BOXES OF TWO RUNS WITHOUT A COMMON PIN SHARE NO POINT.
  pub boxes_are_apart : (r s : Run) → Among r (runs_of feed) → Among s (runs_of feed) → common r s ≡ false
      → boxes_share (place_at feed r.near) (place_at feed r.far) (place_at feed s.near) (place_at feed s.far) ≡ false
  boxes_are_apart r s hr hs c = fails_if _ (λ b. go (pins_of feed) refl b)
    where
      run_of : {q : Run} → Among q (runs_of feed) → HasRun q.near q.far (reverse_aux (runs_of feed) [])
      run_of h = has_run (in_turned (runs_of feed) (inl h))

      go : (l : List ℕ) → pins_of feed ≡ l
          → boxes_share (place_at feed r.near) (place_at feed r.far) (place_at feed s.near) (place_at feed s.far) ≡ true → ⊥
      go [] e b = none-among (no_runs feed e) hr
      go (f ∷ left) e b =
          let z = four_ends r s c in
          separate feed full ok f left e (runs_grown feed full ok f left e) r.near r.far s.near s.far (run_of hr) (run_of hs)
          z.near_near z.near_far z.far_near z.far_far
          (shared_point (place_at feed r.near) (place_at feed r.far) (place_at feed s.near) (place_at feed s.far)
          (stands feed ok r.near).held (stands feed ok r.far).held (stands feed ok s.near).held (stands feed ok s.far).held b)

  -- So no two runs clash,
  clash-none : (r s : Run) → Among r (runs_of feed) → Among s (runs_of feed) → clash feed r s ≡ false
  unfolding clash
  clash-none r s hr hs = go (decide (common r s))
    where
      go : (common r s ≡ true) ⊎ (common r s ≡ false)
          → both (not (common r s)) (boxes_share (place_at feed r.near) (place_at feed r.far)
          (place_at feed s.near) (place_at feed s.far)) ≡ false
      go (inl c) = both_no _ (ap not c)
      go (inr c) = both_yes _ (ap not c) ∙ boxes_are_apart r s hr hs c

  -- no run clashes with any of the others,
  any_none : (r : Run) → Among r (runs_of feed) → (l : List Run) → ((s : Run) → Among s l → Among s (runs_of feed)) → any_of (clash feed r) l ≡ false
  unfolding any_of
  any_none r hr [] h = refl
  any_none r hr (s ∷ l) h = either_no (clash-none r s hr (h s (first refl))) (any_none r hr l (λ q m. h q (later m)))

  -- and no two of them do.
  none_meet : (l : List Run) → ((s : Run) → Among s l → Among s (runs_of feed)) → no_two (clash feed) l ≡ true
  unfolding no_two
  none_meet [] h = refl
  none_meet (s ∷ l) h = both_of (ap not (any_none s (h s (first refl)) l (λ q m. h q (later m)))) (none_meet l (λ q m. h q (later m)))

  -- THE BOXES OF THE RUNS NEVER MEET: no two of them, without a common pin, have boxes that share a point.
  pub never_meet : boxes_apart feed (runs_of feed) ≡ true
  never_meet = none_meet (runs_of feed) (λ s m. m)
