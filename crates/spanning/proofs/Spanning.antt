-- THE TREE: the runs of a feed join all its pins with one run fewer than pins; take any run away and the pins fall into two groups, and the run comes
-- before every other pair that joins them; any tree of which that holds has the same runs. From pins that stand on the board.
use mathlib.Core.Path.{◌≡◌, refl, sym, ap, ◌∙◌, subst}
use mathlib.Core.Bool.{true, false}
use mathlib.Core.List.{List, [], ◌∷◌, reverse_aux}
use mathlib.Core.Logic.{◌⊎◌, inl, inr, ⊎_elim}
use Prim.Native.Nat.{ℕ, zero, suc, ◌<◌, ◌≤◌}
use native.Mathlib.Omega.{arith}
use lib.ListN.{length}
use borrow.Author.Tests.{lt-ltb, ltb-true}
use Rattle.board.specs.Spots.{Spot}
use Rattle.tree.specs.Weight.{comes_before}
use Rattle.board.proofs.Flat.{same_or_not}
use Rattle.tree.specs.declared.Run.{Run}
use Rattle.board.specs.Spots.{most_pins, all_within}
use Rattle.tree.specs.Growth.{run, pair_at, pins_of, runs_among, runs_of}
use Rattle.tree.specs.Reached.{run_at}
use Rattle.basics.specs.Lists.{Among, first, later}
use Rattle.tree.specs.Spanning.{EndsAre, Way, stay, along, Out, top, under, JoinsAll, CutBefore, EitherWay, SameRuns}
use Rattle.tree.proofs.Membership.{without_in}
use Rattle.tree.proofs.Earliest.{Keyed}
use Rattle.tree.proofs.Numbering.{key_at, keyed}
use Rattle.tree.proofs.Branches.{IsReached, start, new, old, from_start, HasRun, here, further, hangs, Branching, trunk, branch, Grown, branching, reached_there, ends_differ as runs-differ, far_reached, near_reached, way_least, Widest, differ, widest_run, cut, far_hangs, near_stays, run_hangs}
use Rattle.tree.proofs.Listing.{Listed, taking, runs_listed, runs_rooted, runs_grown, pins_low}
use Rattle.spanning.proofs.Ways.{ends_turn, way_then, way_back, way_more, way_same, out_in, rest_in, in_rest, take_out, Parted, spared, used, part, crossing}

-- ---- between the two orders of a list
-- What stands in one of two lists stands in the two joined, the first turned round,
pub in_turned : {r : Run} (l : List Run) {m : List Run} → Among r l ⊎ Among r m → Among r (reverse_aux l m)
in_turned {r = r} [] {m = m} (inl x'') = elim x'' [ ]
in_turned [] (inr h) = h
in_turned (q ∷ l) (inl (first e)) = in_turned l (inr (first e))
in_turned (q ∷ l) (inl (later h)) = in_turned l (inl h)
in_turned (q ∷ l) (inr h) = in_turned l (inr (later h))

-- and the other way round.
pub turned_in : {r : Run} (l : List Run) {m : List Run} → Among r (reverse_aux l m) → Among r l ⊎ Among r m
turned_in [] h = inr h
turned_in {r} (q ∷ l) {m} h = go (turned_in l h)
  where
    go : Among r l ⊎ Among r (q ∷ m) → Among r (q ∷ l) ⊎ Among r m
    go (inl k) = inl (later k)
    go (inr (first e)) = inl (first e)
    go (inr (later k)) = inr k

-- A run that stands among others is one of theirs,
pub has_run : {r : Run} {rs : List Run} → Among r rs → HasRun r.near r.far rs
has_run (first e) = here (ap (λ (z : Run). z.near) e) (ap (λ (z : Run). z.far) e)
has_run (later h) = further (has_run h)

-- and the other way round.
pub run_in : {s t : ℕ} {rs : List Run} → HasRun s t rs → Among (run s t) rs
run_in (here {r = r} e f) = first (λ i. record { near = e i; far = f i })
run_in (further h) = later (run_in h)

-- The entry at a position is one of the list.
pub entry_in : (l : List Run) (r : ℕ) → r < length l → Among (run_at l r) l
entry_in [] r h = absurd (omega arith)
entry_in (q ∷ l) zero h = first refl
entry_in (q ∷ l) (suc r) h = later (entry_in l r (omega arith))

-- Every reached pin has a way to the first.
way_home : {There : ℕ → Type 0} {o : ℕ} {rs : List Run} → Branching There o rs → (a : ℕ) → IsReached o a rs → Way rs a o
way_home trunk a (start e) = stay e
way_home (branch {r = r} j w) a (new e) = along r r.near (first refl) (inr (e, refl)) (way_more (λ q h. later h) (way_home w r.near j.from))
way_home (branch j w) a (old h) = way_more (λ q k. later k) (way_home w a h)

-- The far end of a run is one of the pins left.
pub far_among : {key : ℕ → ℕ → ℕ} {reached left : List ℕ} {rs : List Run} → Listed key reached left rs → (q : Run) → Among q rs → Among q.far left
far_among {key = key} (Rattle.tree.proofs.Listing.done {reached = reached}) q x5 = elim x5 [ ]
far_among (taking {left = left} {r = r} e l) q (first p) = subst (λ (z : Run). Among z.far left) (sym p) e.to
far_among (taking {left = left} {r = r} e l) q (later h) = (without_in r.far left (far_among l q h)).0

-- No other run has the same far end.
other_far : {key : ℕ → ℕ → ℕ} {reached left : List ℕ} {rs : List Run} → Listed key reached left rs → {r : Run} {rest : List Run} → Out r rs rest
    → (q : Run) → Among q rest → r.far ≡ q.far → ⊥
other_far {key = key} (Rattle.tree.proofs.Listing.done {reached = reached}) {r = r} {rest = rest} x13 q h p = elim x13 [ ]
other_far (taking {left = left} {r = s} e l) top q h p = (without_in s.far left (far_among l q h)).1 (sym p)
other_far (taking {left = left} {r = s} e l) {r = r} (under o) q (first f) p =
    (without_in s.far left (far_among l r (out_in o))).1 (p ∙ ap (λ (z : Run). z.far) f)
other_far (taking e l) (under o) q (later h) p = other_far l o q h p

-- What is known of the runs of a feed: grown by the earliest pair, when listed the newest first.
record Facts (feed : List Spot) (key : ℕ → ℕ → ℕ) (pins : List ℕ) (runs : List Run) : Type 0 where
  root : ℕ
  newest : List Run
  keyed : Keyed feed key
  low : (a : ℕ) → Among a pins → a < most_pins
  root_there : Among root pins
  grown : Grown key (λ (a : ℕ). Among a pins) root newest
  into : (q : Run) → Among q runs → Among q newest
  from : (q : Run) → Among q newest → Among q runs
  other : {r : Run} {rest : List Run} → Out r runs rest → (q : Run) → Among q rest → r.far ≡ q.far → ⊥
  all : (a : ℕ) → Among a pins → IsReached root a newest

module _ {feed : List Spot} {key : ℕ → ℕ → ℕ} {pins : List ℕ} {runs : List Run} (t : Facts feed key pins runs) where
  -- They join all pins.
  facts_join : JoinsAll pins runs
  facts_join =
      record {
        near_there = λ r h. near r (t.into r h);
        far_there = λ r h. far r (t.into r h);
        ends_differ = λ r h e. runs-differ (branching t.grown) r.near r.far (has_run (t.into r h)) e;
        ways = λ a b ha hb. way_more t.from (way_then (home a ha) (way_back (home b hb)));
      }
    where
      home : (a : ℕ) → Among a pins → Way t.newest a t.root
      home a h = way_home (branching t.grown) a (t.all a h)

      near : (r : Run) → Among r t.newest → Among r.near pins
      near r h = reached_there t.root_there (branching t.grown) r.near (near_reached r.near r.far (branching t.grown) (has_run h))

      far : (r : Run) → Among r t.newest → Among r.far pins
      far r h = reached_there t.root_there (branching t.grown) r.far (far_reached t.root r.near r.far (has_run h))

  -- Which pins hang from a run does not change along the others.
  still : {r : Run} {rest : List Run} → Out r runs rest → {a b : ℕ} → Way rest a b → hangs t.newest r.far a ≡ hangs t.newest r.far b
  still {r} {rest} o w = way_same (hangs t.newest r.far) (λ q h. sym (one q h)) w
    where
      one : (q : Run) → Among q rest → hangs t.newest r.far q.far ≡ hangs t.newest r.far q.near
      one q h =
          run_hangs (branching t.grown) r.near r.far q.near q.far (has_run (t.into r (out_in o))) (has_run (t.into q (rest_in o h)))
          (t.other o q h)

  -- The far pin of a run hangs from it,
  side_far : {r : Run} → Among r runs → hangs t.newest r.far r.far ≡ true
  side_far {r} h = far_hangs (branching t.grown) r.near r.far (has_run (t.into r h))

  -- and the near pin does not.
  side_near : {r : Run} → Among r runs → hangs t.newest r.far r.near ≡ false
  side_near {r} h = near_stays (branching t.grown) r.near r.far (has_run (t.into r h))

  -- No pair across a run has a smaller key.
  across : (r : Run) → Among r runs → (a b : ℕ) → Among a pins → Among b pins
      → (hangs t.newest r.far a ≡ hangs t.newest r.far b → ⊥) → key r.near r.far ≤ key a b
  across r h a b ha hb ne =
      cut key t.keyed.swap t.grown r.near r.far a b (has_run (t.into r h)) (t.all a ha) (t.all b hb) ne

  -- Another pair has another key.
  apart : (r : Run) → Among r runs → (a b : ℕ) → Among a pins → Among b pins → (EndsAre r a b → ⊥) → key r.near r.far ≡ key a b → ⊥
  apart r h a b ha hb ne e =
      ⊎_elim (λ z. ne (inl (sym z.0, sym z.1))) (λ z. ne (inr (sym z.1, sym z.0)))
      (t.keyed.told r.near r.far a b (t.low r.near (facts_join.near_there r h)) (t.low r.far (facts_join.far_there r h)) (t.low a ha) (t.low b hb) e)

  -- So each comes before every other pair joining the two groups that are left without it.
  facts_cut : CutBefore feed pins runs
  unfolding CutBefore
  facts_cut r rest o a b ha hb wa wb ne =
      let h = out_in o in
      let le =
      across r h a b ha hb
      (λ z. differ (sym (still o (way_back wb)) ∙ side_far h) (sym (still o (way_back wa)) ∙ side_near h) (sym z)) in
      let df = apart r h a b ha hb ne in
      t.keyed.order r.near r.far a b (t.low r.near (facts_join.near_there r h)) (t.low r.far (facts_join.far_there r h)) (t.low a ha) (t.low b hb)
      ∙ lt-ltb (key r.near r.far) (key a b) (omega arith)

  -- Without a run every pin has a way to one of its ends.
  facts_groups : (r : Run) (rest : List Run) → Out r runs rest → (a : ℕ) → Among a pins → Way rest a r.near ⊎ Way rest a r.far
  facts_groups r rest o a ha = go (part o (facts_join.ways a r.near ha (facts_join.near_there r (out_in o))))
    where
      end : (x y : ℕ) → EndsAre r x y → Way rest a x → Way rest a r.near ⊎ Way rest a r.far
      end x y (inl d) w = inl (subst (λ (z : ℕ). Way rest a z) d.0 w)
      end x y (inr d) w = inr (subst (λ (z : ℕ). Way rest a z) d.0 w)

      go : Parted r rest a r.near → Way rest a r.near ⊎ Way rest a r.far
      go (spared w) = inl w
      go (used x y d u v) = end x y d u

  -- Its ends have none to each other.
  facts_two : (r : Run) (rest : List Run) → Out r runs rest → Way rest r.near r.far → ⊥
  facts_two r rest o w = differ (side_far (out_in o)) (side_near (out_in o)) (sym (still o w))

-- ---- the only tree
-- Both of two, or not both.
two_or : {A B : Type 0} → A ⊎ (A → ⊥) → B ⊎ (B → ⊥) → (A × B) ⊎ (A × B → ⊥)
two_or (inl a) (inl b) = inl (a, b)
two_or (inl a) (inr n) = inr (λ z. n z.1)
two_or (inr n) b = inr (λ z. n z.0)

-- One of two, or neither.
one_or : {A B : Type 0} → A ⊎ (A → ⊥) → B ⊎ (B → ⊥) → (A ⊎ B) ⊎ (A ⊎ B → ⊥)
one_or (inl a) b = inl (inl a)
one_or (inr n) (inl b) = inl (inr b)
one_or (inr n) (inr m) = inr (⊎_elim n m)

-- Two pins are the ends of a run or are not.
ends_or : (q : Run) (a b : ℕ) → EndsAre q a b ⊎ (EndsAre q a b → ⊥)
ends_or q a b = one_or (two_or (same_or_not a q.near) (same_or_not b q.far)) (two_or (same_or_not a q.far) (same_or_not b q.near))

-- Two runs with the same ends, seen from either.
ends_flip : {u q : Run} → EndsAre u q.near q.far → EndsAre q u.near u.far
ends_flip (inl e) = inl (sym e.0, sym e.1)
ends_flip (inr e) = inr (sym e.1, sym e.0)

-- A way along some runs is one along others that have them all.
way_each : {l m : List Run} {a b : ℕ} → ((q : Run) → Among q l → EitherWay q m) → Way l a b → Way m a b
way_each h (stay e) = stay e
way_each {m = m} h (along r n k (inl e) w) =
    let z = h r k in
    along z.q n z.is_in (subst (λ (x : ℕ). EndsAre z.q x n) (sym e.0) (subst (λ (y : ℕ). EndsAre z.q r.near y) (sym e.1) z.ends)) (way_each h w)
way_each {m = m} h (along r n k (inr e) w) =
    let z = h r k in
    along z.q n z.is_in
    (subst (λ (x : ℕ). EndsAre z.q x n) (sym e.0) (subst (λ (y : ℕ). EndsAre z.q r.far y) (sym e.1) (ends_turn z.ends))) (way_each h w)

module _ {feed : List Spot} {key : ℕ → ℕ → ℕ} {pins : List ℕ} {runs : List Run} (t : Facts feed key pins runs)
    (others : List Run) (j : JoinsAll pins others) (c : CutBefore feed pins others) where
  -- What the other tree says of a run e that is taken out of it, in keys.
  sooner_out : {e : Run} {rest : List Run} → Out e others rest → (a b : ℕ) → Among a pins → Among b pins → Way rest a e.near → Way rest b e.far
      → (EndsAre e a b → ⊥) → key e.near e.far < key a b
  unfolding CutBefore
  sooner_out {e} {rest} o a b ha hb wa wb ne =
      let h = out_in o in
      ltb-true (key e.near e.far) (key a b)
      (sym
      (t.keyed.order e.near e.far a b (t.low e.near (j.near_there e h)) (t.low e.far (j.far_there e h)) (t.low a ha) (t.low b hb))
      ∙ c e rest o a b ha hb wa wb ne)

  -- In either direction of the run.
  sooner-ends : {e : Run} {rest : List Run} → Out e others rest → (x y : ℕ) → EndsAre e x y → (a b : ℕ) → Among a pins → Among b pins
      → Way rest a x → Way rest b y → (EndsAre e a b → ⊥) → key x y < key a b
  sooner-ends {e} {rest} o x y (inl d) a b ha hb wa wb ne =
      let k = sooner_out o a b ha hb (subst (λ (z : ℕ). Way rest a z) d.0 wa) (subst (λ (z : ℕ). Way rest b z) d.1 wb) ne in
      rw (d.0, d.1) k
  sooner-ends {e} {rest} o x y (inr d) a b ha hb wa wb ne =
      let k = sooner_out o b a hb ha (subst (λ (z : ℕ). Way rest b z) d.1 wb) (subst (λ (z : ℕ). Way rest a z) d.0 wa) (λ z. ne (ends_turn z)) in
      rw (d.0, d.1) (omega (arith, k, t.keyed.swap e.far e.near, t.keyed.swap a b))

  -- The ends of such a run are pins.
  end_there : {e : Run} → Among e others → (x y : ℕ) → EndsAre e x y → Among x pins × Among y pins
  end_there {e} h x y (inl d) = (subst (λ (z : ℕ). Among z pins) (sym d.0) (j.near_there e h), subst (λ (z : ℕ). Among z pins) (sym d.1) (j.far_there e h))
  end_there {e} h x y (inr d) = (subst (λ (z : ℕ). Among z pins) (sym d.0) (j.far_there e h), subst (λ (z : ℕ). Among z pins) (sym d.1) (j.near_there e h))

  -- Each run of the growth is one of the others: their way between its ends crosses on no other.
  only-there : (r : Run) → Among r runs → EitherWay r others
  only-there r h =
      let s = (facts_join t).near_there r h in
      let g = (facts_join t).far_there r h in
      let x =
      crossing (hangs t.newest r.far) others r.near r.far (j.ways r.near r.far s g)
      (λ z. differ (side_far t h) (side_near t h) (sym z)) in
      let p = end_there (out_in x.out) x.x x.y x.ends in
      go (ends_or x.e r.near r.far)
      (λ d. record { q = x.e; is_in = out_in x.out; ends = d })
      (λ n. absurd (omega (
        arith,
        across t r h x.x x.y p.0 p.1 x.over,
        sooner-ends x.out x.x x.y x.ends r.near r.far s g x.near (way_back x.far) n,
      )))
    where
      go : {A B : Type 0} → A ⊎ B → (A → EitherWay r others) → (B → EitherWay r others) → EitherWay r others
      go (inl a) f g = f a
      go (inr b) f g = g b

  -- Each of the others is a run of the growth: without it the rest would still join all pins.
  only_back : (u : Run) → Among u others → EitherWay u runs
  only_back u h = go (walk runs (λ q k. only-there q k))
    where
      rest : List Run
      rest = (take_out h).rest

      out : Out u others rest
      out = (take_out h).out

      near : Among u.near pins
      near = j.near_there u h

      far : Among u.far pins
      far = j.far_there u h

      kept : (q : Run) → EitherWay q others → EndsAre u q.near q.far ⊎ EitherWay q rest
      kept q z = at (in_rest out z.is_in)
        where
          at : (z.q ≡ u) ⊎ Among z.q rest → EndsAre u q.near q.far ⊎ EitherWay q rest
          at (inl e) = inl (subst (λ (p : Run). EndsAre p q.near q.far) e z.ends)
          at (inr k) = inr (record { q = z.q; is_in = k; ends = z.ends })

      walk : (l : List Run) → ((q : Run) → Among q l → EitherWay q others)
          → ((q : Run) × Among q l × EndsAre u q.near q.far) ⊎ ((q : Run) → Among q l → EitherWay q rest)
      walk [] k = inr (λ q m. none q m)
        where
          none : (q : Run) → Among q [] → EitherWay q rest
          none q m = absurd (empty m)
            where
              empty : {a : Run} → Among a [] → ⊥
              empty = elim [ ]
      walk (p ∷ l) k = step (kept p (k p (first refl))) (walk l (λ q m. k q (later m)))
        where
          step : EndsAre u p.near p.far ⊎ EitherWay p rest → ((q : Run) × Among q l × EndsAre u q.near q.far) ⊎ ((q : Run) → Among q l → EitherWay q rest)
              → ((q : Run) × Among q (p ∷ l) × EndsAre u q.near q.far) ⊎ ((q : Run) → Among q (p ∷ l) → EitherWay q rest)
          step (inl d) z = inl (p, first refl, d)
          step (inr z) (inl w) = inl (w.0, later w.1, w.2)
          step (inr z) (inr w) = inr (λ q m. each q m)
            where
              each : (q : Run) → Among q (p ∷ l) → EitherWay q rest
              each q (first e) = subst (λ (y : Run). EitherWay y rest) (sym e) z
              each q (later m) = w q m

      go : ((q : Run) × Among q runs × EndsAre u q.near q.far) ⊎ ((q : Run) → Among q runs → EitherWay q rest) → EitherWay u runs
      go (inl w) = record { q = w.0; is_in = w.1; ends = ends_flip w.2 }
      go (inr w) = found (ends_or u v.s v.t)
        where
          v : Widest key t.newest u.near u.far
          v = widest_run key (branching t.grown) u.near u.far (t.all u.near near) (t.all u.far far) (j.ends_differ u h)

          q : Run
          q = run v.s v.t

          held : Among (run v.s v.t) runs
          held = t.from (run v.s v.t) (run_in v.has)

          ways : (a b : ℕ) → Among a pins → Among b pins → Way rest a b
          ways a b ha hb = way_each w ((facts_join t).ways a b ha hb)

          least : key v.s v.t ≤ key u.near u.far
          least = omega (arith, v.is, way_least key t.keyed.swap t.grown u.near u.far (t.all u.near near) (t.all u.far far) (j.ends_differ u h))

          found : EndsAre u v.s v.t ⊎ (EndsAre u v.s v.t → ⊥) → EitherWay u runs
          found (inl d) = record { q = run v.s v.t; is_in = held; ends = ends_flip {q = run v.s v.t} d }
          found (inr n) =
              let s = (facts_join t).near_there (run v.s v.t) held in
              let g = (facts_join t).far_there (run v.s v.t) held in
              absurd (omega (arith, least, sooner_out out v.s v.t s g (ways v.s u.near s near) (ways v.t u.far g far) n))

-- ---- the runs of a feed
module _ (feed : List Spot) (full : length feed ≡ most_pins) (ok : all_within feed ≡ true) (f : ℕ) (left : List ℕ) (e : pins_of feed ≡ f ∷ left) where
  -- The runs of a feed are known so.
  facts : Facts feed (key_at feed) (f ∷ left) (runs_of feed)
  facts =
      record {
        root = f;
        newest = reverse_aux (runs_of feed) [];
        keyed = keyed feed ok;
        low = λ a m. pins_low feed full ok f left e a m;
        root_there = first refl;
        grown = runs_grown feed full ok f left e;
        into = λ q h. in_turned (runs_of feed) (inl h);
        from = λ q h. back q (turned_in (runs_of feed) h);
        other = λ o q h p. other_far (runs_listed feed full ok f left e) o q h p;
        all = λ a m. all a m;
      }
    where
      back : (q : Run) → Among q (runs_of feed) ⊎ Among q [] → Among q (runs_of feed)
      back q (inr x') = elim x' [ ]
      back q (inl k) = k

      far : (r : ℕ) → r < length (runs_of feed) → IsReached f (run_at (runs_of feed) r).far (reverse_aux (runs_of feed) [])
      far r h = far_reached f (run_at (runs_of feed) r).near (run_at (runs_of feed) r).far
          (has_run (in_turned (runs_of feed) (inl (entry_in (runs_of feed) r h))))

      all : (a : ℕ) → Among a (f ∷ left) → IsReached f a (reverse_aux (runs_of feed) [])
      all a (first q) = subst (λ (z : ℕ). IsReached f z (reverse_aux (runs_of feed) [])) (sym q) (from_start f (reverse_aux (runs_of feed) []))
      all a (later m) =
          let z = (runs_rooted feed full ok f left e).all_reached a m in
          subst (λ (p : ℕ). IsReached f p (reverse_aux (runs_of feed) [])) (sym z.2) (far z.0 z.1)

-- ---- the theorems
-- A feed has no pins, or a first and some others.
pins_are : (feed : List Spot) → (pins_of feed ≡ []) ⊎ ((f : ℕ) × (left : List ℕ) × (pins_of feed ≡ f ∷ left))
pins_are feed = go (pins_of feed) refl
  where
    go : (l : List ℕ) → pins_of feed ≡ l → (pins_of feed ≡ []) ⊎ ((f : ℕ) × (left : List ℕ) × (pins_of feed ≡ f ∷ left))
    go [] e = inl e
    go (f ∷ left) e = inr (f, left, e)

-- Nothing stands in an empty list.
pub none-among : {A : Type 0} {a : A} {l : List A} → l ≡ [] → Among a l → ⊥
none-among {a = a} e h = empty (subst (λ (l : List _). Among a l) e h)
  where
    empty : Among a [] → ⊥
    empty = elim [ ]

-- A feed without pins has no runs.
pub no_runs : (feed : List Spot) → pins_of feed ≡ [] → runs_of feed ≡ []
unfolding runs_of runs_among
no_runs feed e = rw e refl

module _ (feed : List Spot) (full : length feed ≡ most_pins) (ok : all_within feed ≡ true) where
  -- THE RUNS JOIN ALL PINS.
  pub runs_join : JoinsAll (pins_of feed) (runs_of feed)
  runs_join = go (pins_are feed)
    where
      go : (pins_of feed ≡ []) ⊎ ((f : ℕ) × (left : List ℕ) × (pins_of feed ≡ f ∷ left)) → JoinsAll (pins_of feed) (runs_of feed)
      go (inl e) =
          record {
            near_there = λ r h. absurd (none-among (no_runs feed e) h);
            far_there = λ r h. absurd (none-among (no_runs feed e) h);
            ends_differ = λ r h. absurd (none-among (no_runs feed e) h);
            ways = λ a b ha hb. absurd (none-among e ha);
          }
      go (inr z) = subst (λ (l : List ℕ). JoinsAll l (runs_of feed)) (sym z.2) (facts_join (facts feed full ok z.0 z.1 z.2))

  -- THERE IS ONE RUN FEWER THAN PINS.
  pub runs_many : (f : ℕ) (left : List ℕ) → pins_of feed ≡ f ∷ left → suc (length (runs_of feed)) ≡ length (pins_of feed)
  runs_many f left e = omega (arith, (runs_rooted feed full ok f left e).many, ap length e)

  -- EACH RUN COMES BEFORE EVERY OTHER PAIR that joins the two groups that are left when it is taken away.
  pub runs_cut : CutBefore feed (pins_of feed) (runs_of feed)
  unfolding CutBefore
  runs_cut r rest o a b ha hb wa wb ne = go (pins_are feed)
    where
      go : (pins_of feed ≡ []) ⊎ ((f : ℕ) × (left : List ℕ) × (pins_of feed ≡ f ∷ left)) → comes_before (pair_at feed r.near r.far) (pair_at feed a b) ≡ true
      go (inl e) = absurd (none-among e ha)
      go (inr z) = facts_cut (facts feed full ok z.0 z.1 z.2) r rest o a b (subst (λ (l : List ℕ). Among a l) z.2 ha)
          (subst (λ (l : List ℕ). Among b l) z.2 hb) wa wb ne

  -- THOSE ARE TWO GROUPS: every pin has a way to one end of the run,
  pub runs_groups : (r : Run) (rest : List Run) → Out r (runs_of feed) rest → (a : ℕ) → Among a (pins_of feed) → Way rest a r.near ⊎ Way rest a r.far
  runs_groups r rest o a ha = go (pins_are feed)
    where
      go : (pins_of feed ≡ []) ⊎ ((f : ℕ) × (left : List ℕ) × (pins_of feed ≡ f ∷ left)) → Way rest a r.near ⊎ Way rest a r.far
      go (inl e) = absurd (none-among e ha)
      go (inr z) = facts_groups (facts feed full ok z.0 z.1 z.2) r rest o a (subst (λ (l : List ℕ). Among a l) z.2 ha)

  -- and the ends have none to each other.
  pub runs_two : (r : Run) (rest : List Run) → Out r (runs_of feed) rest → Way rest r.near r.far → ⊥
  runs_two r rest o w = go (pins_are feed)
    where
      go : (pins_of feed ≡ []) ⊎ ((f : ℕ) × (left : List ℕ) × (pins_of feed ≡ f ∷ left)) → ⊥
      go (inl e) = none-among (no_runs feed e) (out_in o)
      go (inr z) = facts_two (facts feed full ok z.0 z.1 z.2) r rest o w

  -- SUCH A TREE IS UNIQUE: any that joins all pins and comes before the other pairs so has the same runs.
  pub runs_only : (others : List Run) → JoinsAll (pins_of feed) others → CutBefore feed (pins_of feed) others → SameRuns (runs_of feed) others
  runs_only others j c = go (pins_are feed)
    where
      go : (pins_of feed ≡ []) ⊎ ((f : ℕ) × (left : List ℕ) × (pins_of feed ≡ f ∷ left)) → SameRuns (runs_of feed) others
      go (inl e) =
          record {
            there = λ r h. absurd (none-among (no_runs feed e) h);
            back = λ r h. absurd (none-among e (j.near_there r h));
          }
      go (inr z) =
          let t = facts feed full ok z.0 z.1 z.2 in
          let j' = subst (λ (l : List ℕ). JoinsAll l others) z.2 j in
          let c' = subst (λ (l : List ℕ). CutBefore feed l others) z.2 c in
          record { there = λ r h. only-there t others j' c' r h; back = λ r h. only_back t others j' c' r h }
