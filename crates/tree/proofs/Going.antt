-- The loop that takes runs: what it keeps, how it starts, how a turn goes, and how it ends. From pins that stand on the board.
use mathlib.Core.Path.{◌≡◌, refl, sym, ap, ◌∙◌}
use mathlib.Core.Bool.{Bool, true, false}
use mathlib.Core.List.{List, [], ◌∷◌, ◌++◌, append-nil}
use mathlib.Core.Logic.{◌⊎◌, inl, inr}
use Prim.Native.Nat.{ℕ, ◌+◌, ◌<◌, ◌≤◌}
use native.Mathlib.Omega.{arith}
use Rattle.std.proofs.Common.{Some, None}
use Rattle.std.proofs.lemmas.Option.{none-some}
use lib.ListN.{length, get_or, set, replicate, length-append, length-replicate, get_or-replicate}
use lib.Seq.{append_snoc, get_or-set_other}
use Rattle.basics.proofs.Tests.{opposite}
use Rattle.basics.proofs.Lists.{empty, padded_more, values_long}
use Rattle.board.specs.declared.Place.{Place}
use Rattle.board.specs.Spots.{Spot}
use Rattle.board.specs.Spots.{most_pins, present, spot_at, place_at, all_within}
use Rattle.board.proofs.Flat.{same_or_not}
use Rattle.board.proofs.Rules.{inside_at}
use Rattle.tree.specs.declared.Run.{Run}
use Rattle.tree.specs.declared.Offer.{Offer}
use Rattle.tree.specs.Growth.{run, without, next_run, grown, runs_among, pins_of, runs_of}
use Rattle.tree.specs.Trees.{most_runs, entries, tree_with}
use Rattle.tree.specs.Offers.{next_offer, next_nears, Standing, Ready}
use Rattle.tree.proofs.Membership.{Among, first, later, Distinct, also, length_without, pin_in, there_pins, pins_once, pins_few, distinct_rest}
use Rattle.tree.proofs.Earliest.{Earliest, one-earliest, next-earliest}
use Rattle.tree.proofs.Numbering.{key_at, keyed}
use Rattle.tree.proofs.Taking.{Linked, set_off, next_some, offer_earliest, linked_next}

-- One entry more.
pub entries_more : (l : List Run) (r : Run) → length l < most_runs → set (entries l) (length l) r ≡ entries (l ++ (r ∷ []))
unfolding entries
entries_more l r h = padded_more most_runs (run 0 0) l r h

-- The runs taken so far, in their entries, the pins reached and those left; with the runs still to be taken they are all.
pub record Going (feed : List Spot) (at : ℕ → Place) (waits : List Bool) (near : List ℕ) (latest : ℕ) (runs : List Run) (count : ℕ) : Type 0 where
  pub taken : List Run
  pub reached : List ℕ
  pub left : List ℕ
  pub many : count ≡ length taken
  pub few : count + length left ≤ most_runs
  pub long : length near ≡ most_pins
  pub kept : runs ≡ entries taken
  pub linked : Linked feed (key_at feed) at reached left waits near latest
  pub still : taken ++ grown feed (length left) reached left ≡ runs_of feed

-- Each pin keeps one.
nears_long : (at : ℕ → Place) (waits : List Bool) (near : List ℕ) (latest : ℕ) → length (next_nears at waits near latest) ≡ most_pins
unfolding next_nears
nears_long at waits near latest = values_long _ 0 most_pins

-- ---- the start
module _ (feed : List Spot) (full : length feed ≡ most_pins) (ts : List Bool) (told : (k : ℕ) → k < most_pins → present (spot_at feed k) ≡ get_or ts k false)
    (at : ℕ → Place) (stands : (k : ℕ) → k < most_pins → present (spot_at feed k) ≡ true → at k ≡ place_at feed k) (f : ℕ) (left : List ℕ) (e : pins_of feed ≡ f ∷ left) where
  -- Each pin listed has a number below 32,
  short : (a : ℕ) → Among a (f ∷ left) → a < most_pins
  short a m = omega (arith, (pin_in feed (rw (sym e) at m)).0)

  -- and is there,
  there : (a : ℕ) → Among a (f ∷ left) → present (spot_at feed a) ≡ true
  there a m = (pin_in feed (rw (sym e) at m)).1

  -- and each that is there is listed.
  listed : (k : ℕ) → k < most_pins → present (spot_at feed k) ≡ true → Among k (f ∷ left)
  unfolding pins_of
  listed k l p = let q : 0 + k ≡ k = omega arith in rw e at (rw q at (there_pins 0 feed k (omega arith) p))

  -- When the first pin is reached, all others that are there wait, and keep the first.
  linked_first : Linked feed (key_at feed) at (f ∷ []) left (set ts f false) (replicate most_pins f) f
  linked_first =
      record {
        reached_at = λ a m. at_first a m;
        left_at = λ a m. stands a (short a (later m)) (there a (later m));
        apart = λ a m n. apart a m n;
        low = λ a m. low a m;
        short = λ a m. short a (later m);
        once = distinct_rest (pins_once feed f left e);
        waiting = λ k l w. waiting k l w (same_or_not k f);
        awaited = λ k m.
            get_or-set_other ts f k false false (λ q. out (pins_once feed f left e) (rw q at m))
            ∙ sym (told k (short k (later m))) ∙ there k (later m);
        last = first refl;
        from = λ k m. first (get_or-replicate most_pins k f 0 (short k (later m)));
        least = λ k m a n. inl (only a n);
      }
    where
      out : Distinct (f ∷ left) → Among f left → ⊥
      out (also n k) m = n m

      only : (a : ℕ) → Among a (f ∷ []) → a ≡ f
      only a (later x3) = elim x3 [ ]
      only a (first q) = q

      at_first : (a : ℕ) → Among a (f ∷ []) → at a ≡ place_at feed a
      at_first a m = rw (only a m) (stands f (short f (first refl)) (there f (first refl)))

      apart : (a : ℕ) → Among a (f ∷ []) → Among a left → ⊥
      apart a m n = out (pins_once feed f left e) (rw (only a m) at n)

      low : (a : ℕ) → Among a (f ∷ []) → a < most_pins
      low a m = rw (only a m) (short f (first refl))

      waiting : (k : ℕ) → k < most_pins → get_or (set ts f false) k false ≡ true → (k ≡ f) ⊎ (k ≡ f → ⊥) → Among k left
      waiting k l w (inl q) = absurd (opposite w (rw q (set_off ts f)))
      waiting k l w (inr n) = tail (listed k l (told k l ∙ sym (get_or-set_other ts f k false false n) ∙ w))
        where
          tail : Among k (f ∷ left) → Among k left
          tail (first q) = absurd (n q)
          tail (later m) = m

  -- At the start nothing is taken.
  pub going_start : Going feed at (set ts f false) (replicate most_pins f) f (replicate most_runs (run 0 0)) 0
  unfolding entries runs_of runs_among pins_of
  going_start =
      record {
        taken = [];
        reached = f ∷ [];
        left = left;
        many = refl;
        few = omega (arith, pins_few 0 feed, ap length e);
        long = length-replicate most_pins f;
        kept = refl;
        linked = linked_first;
        still = rw e refl;
      }

-- ---- a turn, and the end
-- Where no pin is left, the runs taken are those of the feed.
going_all : {feed : List Spot} {at : ℕ → Place} {waits : List Bool} {near : List ℕ} {latest : ℕ} {runs : List Run} {count : ℕ}
    (g : Going feed at waits near latest runs count) → g.left ≡ []
    → record { count = count; runs = runs } ≡ tree_with (runs_of feed)
unfolding tree_with grown
going_all {feed} g e =
    let l : g.taken ≡ runs_of feed =
    sym (append-nil g.taken) ∙ rw e at g.still in
    λ i. record { count = (g.many ∙ ap length l) i; runs = (g.kept ∙ ap entries l) i }

module _ {feed : List Spot} {at : ℕ → Place} {waits : List Bool} {near : List ℕ} {latest : ℕ} {runs : List Run} {count : ℕ} (ok : all_within feed ≡ true)
    (g : Going feed at waits near latest runs count) where
  -- What a turn asks is met.
  pub ready : Ready at waits near latest
  ready =
      record {
        long = g.long;
        last = of_reached latest g.linked.last;
        waiting = λ k l w. let m = g.linked.waiting k l w in record { low = l; on = rw (g.linked.left_at k m) (inside_at feed ok k) };
        kept = λ k l w. of_reached (get_or near k 0) (g.linked.from k (g.linked.waiting k l w));
      }
    where
      of_reached : (a : ℕ) → Among a g.reached → Standing at a
      of_reached a m = record { low = g.linked.low a m; on = rw (g.linked.reached_at a m) (inside_at feed ok a) }

module _ {feed : List Spot} {at : ℕ → Place} {waits : List Bool} {near : List ℕ} {latest : ℕ} {runs : List Run} {count : ℕ} (ok : all_within feed ≡ true)
    (g : Going feed at waits near latest runs count) (c : Offer) (ec : next_offer at waits near latest ≡ Some c) where
  -- The offer is the earliest pair between a reached pin and one left.
  earliest_is : Earliest (key_at feed) g.reached g.left (run c.near c.far)
  earliest_is = offer_earliest (keyed feed ok) g.linked c ec

  -- It reaches a pin,
  pub far_low : c.far < most_pins
  far_low = g.linked.short c.far earliest_is.to

  -- and there was room for its run.
  pub room : count < most_runs
  room = omega (arith, g.few, length_without c.far g.linked.once earliest_is.to)

  -- At a turn it is taken.
  pub going_turn : (nears : List ℕ) → nears ≡ next_nears at waits near latest
      → Going feed at (set waits c.far false) nears c.far (set runs count (run c.near c.far)) (count + 1)
  unfolding grown
  going_turn nears en =
      let r : Run = run c.near c.far in
      let m = earliest_is.to in
      let n = length_without c.far g.linked.once m in
      let left' : List ℕ = without c.far g.left in
      let same : next_run feed g.reached g.left ≡ r =
      one-earliest (keyed feed ok) g.linked.low g.linked.short g.linked.apart (next_run feed g.reached g.left) r
      (next-earliest (keyed feed ok) g.reached g.left g.linked.low g.linked.short c.near c.far earliest_is.from m)
      earliest_is in
      let one : grown feed (length g.left) g.reached g.left ≡ r ∷ grown feed (length left') (c.far ∷ g.reached) left' =
      rw n (ap (λ (s : Run). s ∷ grown feed (length left') (s.far ∷ g.reached) (without s.far g.left)) same) in
      record {
        taken = g.taken ++ (r ∷ []);
        reached = c.far ∷ g.reached;
        left = left';
        many = omega (arith, length-append g.taken (r ∷ []), g.many);
        few = omega (arith, g.few);
        long = rw en (nears_long at waits near latest);
        kept = rw (g.kept, g.many) (entries_more g.taken r (omega (arith, g.many, room)));
        linked = rw en (linked_next (keyed feed ok) g.linked c.far m);
        still =
            append_snoc g.taken r (grown feed (length left') (c.far ∷ g.reached) left') ∙ ap (λ (l : List Run). g.taken ++ l) (sym one) ∙ g.still;
      }

-- Where there is no offer, no pin is left,
pub going_stop : {feed : List Spot} {at : ℕ → Place} {waits : List Bool} {near : List ℕ} {latest : ℕ} {runs : List Run} {count : ℕ} (ok : all_within feed ≡ true)
    (g : Going feed at waits near latest runs count) → next_offer at waits near latest ≡ None
    → record { count = count; runs = runs } ≡ tree_with (runs_of feed)
going_stop {feed} ok g e = going_all g (go g.left (λ k m. let z = next_some (keyed feed ok) g.linked k m in none-some z.x (sym e ∙ z.is)))
  where
    go : (l : List ℕ) → ((k : ℕ) → Among k l → ⊥) → l ≡ []
    go [] h = refl
    go (k ∷ l) h = absurd (h k (first refl))

-- and after the last turn.
pub going_end : {feed : List Spot} {at : ℕ → Place} {waits : List Bool} {near : List ℕ} {latest : ℕ} {runs : List Run} {count : ℕ}
    (g : Going feed at waits near latest runs count) → most_runs ≤ count
    → record { count = count; runs = runs } ≡ tree_with (runs_of feed)
going_end g h = going_all g (empty g.left (omega (arith, g.few)))
