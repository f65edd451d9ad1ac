-- The two passes over the runs: the currents from the last run to the first, then the drops from the first to the last. Assumes nothing.
use mathlib.Core.Path.{◌≡◌, refl, sym, ap, ap₂, subst, ◌∙◌}
use mathlib.Core.List.{List, [], ◌∷◌, ◌++◌}
use mathlib.Core.Logic.{◌⊎◌, inl, inr}
use Prim.Native.Nat.{ℕ, zero, suc, ◌+◌, ◌-◌, ◌≤◌, ◌<◌}
use native.Mathlib.Omega.{arith}
use lib.Dec.{eqb}
use lib.ListN.{length, get_or, set, take, drop, replicate, length-append, length-set, length-replicate, length-map, drop_of_length-le}
use lib.Seq.{take_at, take-take, get_or_at, get_or-take, drop-set-lt, get_or-set_same, get_or-set_other}
use lib.Ieee.{Float, nan, add, binary32}
use borrow.Author.Tests.{eq-eqb, ne_eqb}
use Rattle.std.specs.Prelude.{Option, None, Some, IfSome, All}
use Rattle.std.proofs.lemmas.Option.{IfSome_then}
use Rattle.basics.specs.Tests.{choose}
use Rattle.basics.specs.Lists.{padded}
use Rattle.basics.proofs.Tests.{choose_yes, choose_no}
use Rattle.basics.proofs.Lists.{front, blank_at}
use Rattle.board.specs.Spots.{Spot, most_pins}
use Rattle.board.proofs.Flat.{same_or_not}
use Rattle.tree.specs.declared.Run.{Run}
use Rattle.tree.specs.Growth.{run}
use Rattle.tree.specs.Trees.{most_runs}
use Rattle.tree.specs.Reached.{run_at}
use Rattle.loads.specs.Loads.{nought}
use Rattle.drops.specs.Drops.{nears_of, plus_leading_on, currents_of, run_drop, distance_of_run, drops_after}
use Rattle.drops.specs.Passes.{PinNumbers, Rising, plus_along}

-- ---- entries after the last run
-- There is a current for each run.
pub currents_long : (amps : ℕ → Float) (runs : List Run) → length (currents_of amps runs) ≡ length runs
unfolding currents_of
currents_long amps [] = refl
currents_long amps (r ∷ runs) = ap suc (currents_long amps runs)

-- Currents after those of the last run are not added,
leading_first : (pin : ℕ) (nears : List ℕ) (currents more : List Float) (total : Float) → length nears ≤ length currents
    → plus_leading_on pin total nears (currents ++ more) ≡ plus_leading_on pin total nears currents
unfolding plus_leading_on
leading_first pin [] currents more total h = refl
leading_first pin (n ∷ nears) [] more total h = absurd (omega arith)
leading_first pin (n ∷ nears) (c ∷ currents) more total h = leading_first pin nears currents more _ (omega arith)

-- and give no pin a drop.
pub drops_first : (feed : List Spot) (ohms : Float) (runs : List Run) (currents more drops : List Float) → length runs ≤ length currents
    → drops_after feed ohms drops runs (currents ++ more) ≡ drops_after feed ohms drops runs currents
unfolding drops_after
drops_first feed ohms [] currents more drops h = refl
drops_first feed ohms (r ∷ runs) [] more drops h = absurd (omega arith)
drops_first feed ohms (r ∷ runs) (c ∷ currents) more drops h = drops_first feed ohms runs currents more _ (omega arith)

-- ---- the runs along a chain
module _ (chain : List (Option ℕ)) (rising : Rising chain) where
  -- Once all runs can be met, one more makes no difference.
  enough : (currents : List Float) (most : ℕ) (next : Option ℕ) (total : Float) → IfSome next (λ r. (most_runs ≤ r + most) × (r < most_runs))
      → plus_along chain currents most next total ≡ plus_along chain currents (suc most) next total
  unfolding plus_along
  enough currents zero None total h = refl
  enough currents zero (Some r) total h = absurd (omega arith)
  enough currents (suc most) None total h = refl
  enough currents (suc most) (Some r) total h =
      enough currents most (get_or chain r None) _ (IfSome_then (get_or chain r None) (rising r h.1) (λ n q. (omega arith, q.1)))

  -- A chain goes up, so that what stands at lower numbers does not matter.
  above : (currents : List Float) (k : ℕ) (n : Option ℕ) (v : Float) (most : ℕ) (next : Option ℕ) (total : Float) → IfSome next (λ r. (k < r) × (r < most_runs))
      → plus_along (set chain k n) (set currents k v) most next total ≡ plus_along chain currents most next total
  unfolding plus_along
  above currents k n v zero next total h = refl
  above currents k n v (suc most) None total h = refl
  above currents k n v (suc most) (Some r) total h =
      let not-k : r ≡ k → ⊥ = λ e. omega arith in
      rw (get_or-set_other chain k r n None not-k, get_or-set_other currents k r v nan not-k)
      (above currents k n v most (get_or chain r None) _ (IfSome_then (get_or chain r None) (rising r h.1) (λ m q. (omega arith, q.1))))

  -- A run's current is added, and then those after it in the chain.
  pub along_next : (currents : List Float) (r : ℕ) (total : Float) → r < most_runs
      → plus_along chain currents most_runs (get_or chain r None) (add binary32 total (get_or currents r nan))
      ≡ plus_along chain currents most_runs (Some r) total
  unfolding plus_along
  along_next currents r total h =
      sym (enough currents (most_runs - 1) (get_or chain r None) _ (IfSome_then (get_or chain r None) (rising r h) (λ n q. (omega arith, q.1))))

-- ---- a chain for each pin
-- A number with the currents of those runs from number i on that lead on from a pin.
abbrev leading_left : List Run → List Float → ℕ → Float → ℕ → Float
leading_left runs currents pin total i = plus_leading_on pin total (nears_of (drop i runs)) (drop i currents)

-- What is stored at a number comes first from there on.
stored_first : (currents : List Float) (k : ℕ) (v : Float) → k < length currents → drop k (set currents k v) ≡ v ∷ drop (k + 1) currents
stored_first currents k v h =
    front nan (set currents k v) k (omega (arith, length-set currents k v))
    ∙ ap₂ (λ (x : Float) (s : List Float). x ∷ s) (get_or-set_same currents k v nan h) (drop-set-lt (k + 1) currents k v (omega arith))

-- Along the chain of a pin stand, of the runs from number i on, those that lead on from it.
pub record Chained (runs : List Run) (currents : List Float) (leading chain : List (Option ℕ)) (i : ℕ) : Type 0 where
  pub pins : length leading ≡ most_pins
  pub many : length chain ≡ most_runs
  pub rising : Rising chain
  pub from : (pin : ℕ) → pin < most_pins → IfSome (get_or leading pin None) (λ r. (i ≤ r) × (r < most_runs))
  pub adds : (pin : ℕ) → pin < most_pins → (total : Float)
      → plus_along chain currents most_runs (get_or leading pin None) total ≡ leading_left runs currents pin total i

-- At first no run is in a chain.
pub chained_none : (runs : List Run) → Chained runs (replicate most_runs nought) (replicate most_pins None) (replicate most_runs None) (length runs)
unfolding plus_leading_on plus_along
chained_none runs =
    record {
      pins = length-replicate {A = Option ℕ} most_pins None;
      many = length-replicate {A = Option ℕ} most_runs None;
      rising = λ r h. rw (blank_at {A = Option ℕ} most_runs r None) tt;
      from = λ pin h. rw (blank_at {A = Option ℕ} most_pins pin None) tt;
      adds = λ pin h total. rw (blank_at {A = Option ℕ} most_pins pin None, drop_of_length-le runs {i = length runs} (omega arith));
    }

module _ (runs : List Run) (currents : List Float) (long : length currents ≡ most_runs) (leading chain : List (Option ℕ)) (k : ℕ) (h : k < length runs)
    (p : PinNumbers runs) (v : Float) (s : Chained runs currents leading chain (k + 1)) where
  -- The pin from which run k leads on,
  abbrev near : ℕ
  near = (run_at runs k).near

  -- its number is a pin's,
  low : near < most_pins
  low = (p.ends k (run 0 0) h).0

  -- as the run's is a run's,
  few : k < most_runs
  few = omega (arith, p.few)

  -- the chain with the run before those after it,
  abbrev put : List (Option ℕ)
  put = set chain k (get_or leading near None)

  -- which goes up too.
  put_rising : Rising put
  put_rising r l = go (same_or_not r k)
    where
      go : (r ≡ k) ⊎ (r ≡ k → ⊥) → IfSome (get_or put r None) (λ n. (r < n) × (n < most_runs))
      go (inl e) =
          rw (e, get_or-set_same chain k (get_or leading near None) None (omega (arith, s.many, few)))
          (IfSome_then (get_or leading near None) (s.from near low) (λ n q. (omega arith, q.1)))
      go (inr n) = rw (get_or-set_other chain k r (get_or leading near None) None n) (s.rising r l)

  -- Run k is the first of those left,
  left_first : (pin : ℕ) (total : Float)
      → leading_left runs currents pin (choose (eqb near pin) (add binary32 total v) total) (k + 1) ≡ leading_left runs (set currents k v) pin total k
  unfolding plus_leading_on
  left_first pin total = rw (front (run 0 0) runs k h, stored_first currents k v (omega (arith, few)))

  -- The chain of its near pin begins with it, and those of other pins are what they were.
  pub chained_turn : Chained runs (set currents k v) (set leading near (Some k)) put k
  chained_turn =
      record {
        pins = length-set leading near (Some k) ∙ s.pins;
        many = length-set chain k (get_or leading near None) ∙ s.many;
        rising = put_rising;
        from = λ pin l. from_turn pin l (same_or_not pin near);
        adds = λ pin l total. adds_turn pin l total (same_or_not pin near);
      }
    where
      from_turn : (pin : ℕ) → pin < most_pins → (pin ≡ near) ⊎ (pin ≡ near → ⊥)
          → IfSome (get_or (set leading near (Some k)) pin None) (λ r. (k ≤ r) × (r < most_runs))
      from_turn pin l (inl e) = rw (e, get_or-set_same leading near (Some k) None (omega (arith, s.pins, low))) (omega arith, few)
      from_turn pin l (inr n) =
          rw (get_or-set_other leading near pin (Some k) None n) (IfSome_then (get_or leading pin None) (s.from pin l) (λ r q. (omega arith, q.1)))

      adds_turn : (pin : ℕ) → pin < most_pins → (total : Float) → (pin ≡ near) ⊎ (pin ≡ near → ⊥)
          → plus_along put (set currents k v) most_runs (get_or (set leading near (Some k)) pin None) total ≡ leading_left runs (set currents k v) pin total k
      adds_turn pin l total (inl e) =
          rw (e, get_or-set_same leading near (Some k) None (omega (arith, s.pins, low)))
          (sym (along_next put put_rising (set currents k v) k total few)
          ∙ rw (get_or-set_same chain k (get_or leading near None) None (omega (arith, s.many, few)), get_or-set_same currents k v nan (omega (arith, few)))
          (above chain s.rising currents k (get_or leading near None) v most_runs (get_or leading near None) (add binary32 total v)
          (IfSome_then (get_or leading near None) (s.from near low) (λ r q. (omega arith, q.1)))
          ∙ s.adds near low (add binary32 total v)
          ∙ ap (λ (t : Float). leading_left runs currents near t (k + 1)) (sym (choose_yes _ total (eq-eqb near near refl)))
          ∙ left_first near total))
      adds_turn pin l total (inr n) =
          rw (get_or-set_other leading near pin (Some k) None n)
          (above chain s.rising currents k (get_or leading near None) v most_runs (get_or leading pin None) total
          (IfSome_then (get_or leading pin None) (s.from pin l) (λ r q. (omega arith, q.1)))
          ∙ s.adds pin l total
          ∙ ap (λ (t : Float). leading_left runs currents pin t (k + 1)) (sym (choose_no _ total (ne_eqb near pin (λ e. n (sym e)))))
          ∙ left_first pin total)

-- ---- the currents of all runs
-- The currents of the runs from number i on are reckoned; entries after the last run are 0.
pub record Reckoned (amps : ℕ → Float) (runs : List Run) (currents : List Float) (i : ℕ) : Type 0 where
  pub to : i ≤ length runs
  pub long : length currents ≡ most_runs
  pub are : drop i currents ≡ padded (most_runs - i) nought (currents_of amps (drop i runs))

-- As many blanks are left as are not passed.
blanks_left : (n i : ℕ) → drop i (replicate n nought) ≡ replicate (n - i) nought
blanks_left n zero = let e : n ≡ n - 0 = omega arith in ap (λ (k : ℕ). replicate k nought) e
blanks_left zero (suc i) = let e : 0 ≡ 0 - suc i = omega arith in ap (λ (k : ℕ). replicate k nought) e
blanks_left (suc n) (suc i) = let e : suc n - suc i ≡ n - i = omega arith in rw e (blanks_left n i)

-- A list that is filled up, with an entry before it, is this list with that entry, filled up.
filled_more : (n k : ℕ) (v : Float) (l : List Float) → k < n → v ∷ padded (n - (k + 1)) nought l ≡ padded (n - k) nought (v ∷ l)
filled_more n k v l h = let e : n - (k + 1) - length l ≡ n - k - suc (length l) = omega arith in rw e

module _ (amps : ℕ → Float) (runs : List Run) (p : PinNumbers runs) where
  -- At first none is reckoned.
  pub reckoned_none : Reckoned amps runs (replicate most_runs nought) (length runs)
  unfolding currents_of
  reckoned_none =
      record {
        to = omega arith;
        long = length-replicate most_runs nought;
        are =
            let none : currents_of amps (drop (length runs) runs) ≡ [] = rw (drop_of_length-le runs {i = length runs} (omega arith)) in
            rw none (let e : most_runs - length runs - 0 ≡ most_runs - length runs = omega arith in rw e (blanks_left most_runs (length runs)));
      }

  -- The current of the run before: the load of its far pin plus the currents of the runs leading on.
  reckoned_turn : (currents : List Float) (k : ℕ) (v : Float) → k < length runs → Reckoned amps runs currents (k + 1)
      → v ≡ leading_left runs currents (run_at runs k).far (amps (run_at runs k).far) (k + 1)
      → Reckoned amps runs (set currents k v) k
  unfolding currents_of
  reckoned_turn currents k v h s is =
      let later : List Run = drop (k + 1) runs in
      let f = (run_at runs k).far in
      let n : length (nears_of later) ≤ length (currents_of amps later) = omega (arith, length-map later (λ (r : Run). r.near), currents_long amps later) in
      let now : v ≡ plus_leading_on f (amps f) (nears_of later) (currents_of amps later) =
      is ∙ rw s.are (leading_first f (nears_of later) (currents_of amps later) _ (amps f) n) in
      record {
        to = omega arith;
        long = length-set currents k v ∙ s.long;
        are =
            stored_first currents k v (omega (arith, s.long, p.few))
            ∙ ap (λ (l : List Float). v ∷ l) s.are
            ∙ filled_more most_runs k v (currents_of amps later) (omega (arith, p.few))
            ∙ ap (λ (x : Float). padded (most_runs - k) nought (x ∷ currents_of amps later)) now
            ∙ sym (ap (λ (l : List Run). padded (most_runs - k) nought (currents_of amps l)) (front (run 0 0) runs k h));
      }

  -- So one turn: the run's current is what its far pin's chain gives, and it goes into the chain of its near pin.
  pub run_turn : (currents : List Float) (leading chain : List (Option ℕ)) (i k : ℕ) (own v : Float) → k + 1 ≡ i
      → Reckoned amps runs currents i → Chained runs currents leading chain i
      → own ≡ amps (run_at runs k).far → v ≡ plus_along chain currents most_runs (get_or leading (run_at runs k).far None) own
      → Reckoned amps runs (set currents k v) k
      × Chained runs (set currents k v) (set leading (run_at runs k).near (Some k)) (set chain k (get_or leading (run_at runs k).near None)) k
  run_turn currents leading chain i k own v e s t o is =
      let h : k < length runs = omega (arith, s.to) in
      let s' : Reckoned amps runs currents (k + 1) = subst (Reckoned amps runs currents) (sym e) s in
      let t' : Chained runs currents leading chain (k + 1) = subst (Chained runs currents leading chain) (sym e) t in
      let now : v ≡ leading_left runs currents (run_at runs k).far (amps (run_at runs k).far) (k + 1) =
      is ∙ rw o (t'.adds (run_at runs k).far (p.ends k (run 0 0) h).1 _) in
      (reckoned_turn currents k v h s' now, chained_turn runs currents s.long leading chain k h p v t')

  -- The runs that are left are the first ones. The last of them has the number of those before it,
  last_left : (left later : List Run) (r : Run) → left ≡ take (length left) runs → left ≡ later ++ (r ∷ []) → length left ≤ length runs
      → (later ≡ take (length later) runs) × (run_at runs (length later) ≡ r)
  last_left left later r e f h =
      let n : length left ≡ length later + 1 = ap length f ∙ length-append later (r ∷ []) in
      let first : take (length later + 1) runs ≡ later ++ (r ∷ []) = sym (rw n at e) ∙ f in (
        sym (take_at later (r ∷ []) (length later) refl) ∙ sym (ap (take (length later)) first)
            ∙ take-take (length later) (length later + 1) runs (omega arith),
        sym (get_or-take (length later + 1) runs (length later) (run 0 0) (omega arith)) ∙ ap (λ (l : List Run). get_or l (length later) (run 0 0)) first
            ∙ get_or_at later r [] (run 0 0) (length later) refl,
      )

  -- and its turn leaves those.
  pub left_turn : (currents : List Float) (leading chain : List (Option ℕ)) (left later : List Run) (r : Run) (at : ℕ) (own v : Float)
      → left ≡ take (length left) runs → left ≡ later ++ (r ∷ []) → at ≡ length later
      → Reckoned amps runs currents (length left) → Chained runs currents leading chain (length left)
      → (r.far < most_pins → own ≡ amps r.far) → v ≡ plus_along chain currents most_runs (get_or leading r.far None) own
      → (later ≡ take (length later) runs) × Reckoned amps runs (set currents at v) (length later)
      × Chained runs (set currents at v) (set leading r.near (Some at)) (set chain at (get_or leading r.near None)) (length later)
  left_turn currents leading chain left later r at own v e f n s t o is =
      let l = last_left left later r e f s.to in
      let m : length later + 1 ≡ length left = sym (ap length f ∙ length-append later (r ∷ [])) in
      let low : r.far < most_pins = rw l.1 at (p.ends (length later) (run 0 0) (omega (arith, m, s.to))).1 in
      let turn = run_turn currents leading chain (length left) (length later) own v m s t (rw l.1 (o low)) (rw l.1 is) in
      rw (n, ← l.1) (l.0, turn.0, turn.1)

  -- In the end all are.
  pub reckoned_all : (currents : List Float) (i : ℕ) → i ≤ 0 → Reckoned amps runs currents i → currents ≡ padded most_runs nought (currents_of amps runs)
  reckoned_all currents i z s = let e : i ≡ 0 = omega arith in rw e at s.are

-- ---- runs as they are gone over
-- Where something is so of each entry of a list, it is so of each after the first.
pub others_so : {A : Type 0} (P : A → Type 0) {l m : List A} {a : A} → l ≡ a ∷ m → All P l → All P m
others_so P e all k d h = (rw e at all) (suc k) d (omega arith)

-- ---- the drops, from the first run to the last
module _ (feed : List Spot) (ohms : Float) (drops : List Float) where
  -- A run is taken: its far pin's drop is its near pin's plus that of the run, and with the runs after it the drops come to the same.
  pub drops_turn : {runs : List Run} {currents : List Float} {r : Run} {c v : Float} {later : List Run} {flow : List Float}
      → runs ≡ r ∷ later → currents ≡ c ∷ flow → v ≡ run_drop c ohms (distance_of_run feed r)
      → drops_after feed ohms (set drops r.far (add binary32 (get_or drops r.near nan) v)) later flow ≡ drops_after feed ohms drops runs currents
  unfolding drops_after
  drops_turn e f g = rw (e, f, g)

  -- With no run or no current left, these are the drops.
  pub drops_end : (runs : List Run) (currents : List Float) → (length runs ≡ 0) ⊎ (length currents ≡ 0) → drops ≡ drops_after feed ohms drops runs currents
  unfolding drops_after
  drops_end [] currents e = refl
  drops_end (r ∷ runs) [] e = refl
  drops_end (r ∷ runs) (c ∷ currents) (inl e) = absurd (omega arith)
  drops_end (r ∷ runs) (c ∷ currents) (inr e) = absurd (omega arith)
