-- What the parts of `tree_of` come to: no pins, or the runs. From pins that stand on the board.
use mathlib.Core.Path.{◌≡◌, refl, sym, ap, ◌∙◌}
use mathlib.Core.Bool.{true, false}
use mathlib.Core.List.{List, [], ◌∷◌, map}
use Prim.Native.Nat.{ℕ, suc, ◌+◌, ◌<◌, ◌≤◌}
use native.Mathlib.Omega.{arith}
use native.Mathlib.Numerals.{add-one}
use Rattle.std.proofs.Common.{Option, Some, None}
use Rattle.std.specs.List.{position_from}
use Rattle.std.proofs.lemmas.Iterator.Adapters.{position_from-zero}
use Rattle.std.proofs.lemmas.Option.{none-some, same_Some}
use lib.ListN.{length, set, replicate, take}
use Rattle.refusal.specs.declared.Refusal.TheVariants.{NoPins}
use Rattle.std.specs.Prelude.{Ok, Err}
use Rattle.basics.proofs.Lists.{padded_first, padded_at}
use Rattle.board.specs.Spots.{Spot}
use Rattle.tree.specs.declared.Run.{Run}
use Rattle.tree.specs.declared.Tree.{Tree}
use Rattle.board.specs.Spots.{most_pins, present, all_within, place_at}
use Rattle.tree.specs.Growth.{run, pins_from, runs_among, pins_of, runs_of}
use Rattle.tree.specs.Trees.{most_runs, entries, tree_with, none, tree_of}
use Rattle.tree.specs.Offers.{first_pin}
use Rattle.tree.specs.Reached.{run_at}
use Rattle.std.proofs.Math.ListN.{get_or-map}
use Rattle.tree.proofs.Membership.{LowEnds, Among, later, kept_yes, kept_no, pin_in}
use Rattle.tree.proofs.Listing.{runs_rooted}
use Rattle.tree.proofs.Going.{Going, going_start}
use Rattle.tree.proofs.Answer.{seventeen, runs_told, runs_few}

-- ---- the first pin
-- A number heads the pins that are there, or there is none.
pub data First (i : ℕ) (feed : List Spot) (o : Option ℕ) : Type 0 where
  nowhere : o ≡ None → pins_from i feed ≡ [] → First i feed o
  there : (f : ℕ) → o ≡ Some f → f < i + length feed → (left : List ℕ) → pins_from i feed ≡ f ∷ left → First i feed o

-- The number that is looked for is such a number.
first_of : (i : ℕ) (feed : List Spot) → First i feed (position_from present i feed)
unfolding pins_from
first_of i [] = nowhere refl refl
first_of i (Some p ∷ feed) = there i refl (omega arith) (pins_from (suc i) feed) (kept_yes i (pins_from (suc i) feed) refl)
first_of i (None ∷ feed) = rw add-one (go (first_of (suc i) feed))
  where
    go : First (suc i) feed (position_from present (suc i) feed) → First i (None ∷ feed) (position_from present (suc i) feed)
    go (nowhere e p) = nowhere e (kept_no i (pins_from (suc i) feed) refl ∙ p)
    go (there f e m left p) = there f e (omega arith) left (kept_no i (pins_from (suc i) feed) refl ∙ p)

module _ (feed : List Spot) (full : length feed ≡ most_pins) where
  -- Its first pin.
  first_is : First 0 feed (first_pin feed)
  first_is = rw (position_from-zero present feed) (first_of 0 feed)

  -- 17, where no pin is there.
  pub no_pins : first_pin feed ≡ None → Err NoPins ≡ tree_of feed
  no_pins e = go first_is
    where
      go : First 0 feed (first_pin feed) → Err NoPins ≡ tree_of feed
      go (nowhere f p) = sym (seventeen feed (unfold pins_of in ap none p))
      go (there f q m left p) = absurd (none-some f (sym e ∙ q))

  module _ (f : ℕ) (e : first_pin feed ≡ Some f) where
    -- Else there is a first pin, from which the growth starts,
    pub going_first : Going feed (place_at feed) (set (map present feed) f false) (replicate most_pins f) f (replicate most_runs (run 0 0)) 0
    going_first = go first_is
      where
        go : First 0 feed (first_pin feed) → Going feed (place_at feed) (set (map present feed) f false) (replicate most_pins f) f (replicate most_runs (run 0 0)) 0
        go (nowhere q p) = absurd (none-some f (sym q ∙ e))
        go (there g q m left p) =
            going_start feed full (map present feed) (λ k l. sym (get_or-map present feed k None)) (place_at feed) (λ k l t. refl) f left
            (unfold pins_of in p ∙ ap (λ (n : ℕ). n ∷ left) (same_Some g f (sym q ∙ e)))

    -- and some pin is there.
    pins_some : none (pins_of feed) ≡ false
    unfolding pins_of
    pins_some = go first_is
      where
        go : First 0 feed (first_pin feed) → none (pins_of feed) ≡ false
        go (nowhere q p) = absurd (none-some f (sym q ∙ e))
        go (there g q m left p) = rw p refl

    -- Its runs are the answer.
    pub the_runs : Ok (tree_with (runs_of feed)) ≡ tree_of feed
    the_runs = sym (runs_told feed pins_some)

-- ---- the runs that were taken
-- The first entries of an answer are its runs.
pub take-entries : (l : List Run) → take (length l) (entries l) ≡ l
unfolding entries
take-entries l = padded_first most_runs (run 0 0) l refl

-- Without pins there are no runs.
no_run : (feed : List Spot) → pins_of feed ≡ [] → length (runs_of feed) ≡ 0
unfolding runs_of runs_among
no_run feed e = rw e refl

-- The ends of a feed's runs are pins of the feed.
ends_there : (feed : List Spot) → length feed ≡ most_pins → all_within feed ≡ true → (r : ℕ) → r < length (runs_of feed)
    → Among (run_at (runs_of feed) r).near (pins_of feed) × Among (run_at (runs_of feed) r).far (pins_of feed)
ends_there feed full ok r h = go (pins_of feed) refl
  where
    go : (l : List ℕ) → pins_of feed ≡ l → Among (run_at (runs_of feed) r).near (pins_of feed) × Among (run_at (runs_of feed) r).far (pins_of feed)
    go [] e = absurd (omega (arith, no_run feed e))
    go (f ∷ left) e = let o = runs_rooted feed full ok f left e in (rw e (o.near_there r h), rw e (later {l = left} (o.far_there r h)))

module _ (feed : List Spot) (full : length feed ≡ most_pins) (ok : all_within feed ≡ true) (t : Tree) (e : t ≡ tree_with (runs_of feed)) where
  -- There are 31 at most,
  pub count_few : t.count ≤ most_runs
  unfolding tree_with
  count_few = rw e (runs_few feed full)

  -- A pin of the feed has a number below 32.
  pin_low : (a : ℕ) → Among a (pins_of feed) → a < most_pins
  pin_low a m = omega (arith, (pin_in feed m).0)

  -- and their ends are pin numbers.
  pub low_ends : (i : ℕ) → i < t.count → LowEnds (run_at t.runs i)
  unfolding tree_with entries
  low_ends i h =
      let k : i < length (runs_of feed) = rw e at h in
      let m = ends_there feed full ok i k in
      rw (e, padded_at most_runs (run 0 0) (runs_of feed) i) (record { near = pin_low _ m.0; far = pin_low _ m.1 })
