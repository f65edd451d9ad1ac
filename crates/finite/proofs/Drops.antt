-- DROPS ARE FINITE: run by run, and then for every feed. From 32 spots and pins that stand on the board.
use mathlib.Core.Path.{◌≡◌, refl, sym, ◌∙◌, subst}
use mathlib.Core.Bool.{Bool, true, false}
use mathlib.Core.List.{List, [], ◌∷◌}
use mathlib.Core.Logic.{◌⊎◌, inl, inr}
use Prim.Native.Nat.{ℕ, suc, ◌+◌, ◌*◌, ◌^◌, ◌≤◌, ◌<◌, zero-le}
use native.Mathlib.Nat.{mul-le-mul_right}
use native.Mathlib.Omega.{arith}
use lib.Dec.{lit≤, lit<}
use lib.IntN.{pos}
use borrow.Author.Tests.{not-false}
use lib.ListN.{get_or, set, drop, length, length-set, get_or-replicate}
use lib.Seq.{get_or-set_same, get_or-set_other}
use lib.Ieee.{Float, nan, add, mul, of_int, binary32}
use Rattle.basics.specs.Tests.{both, choose}
use Rattle.basics.proofs.Tests.{both_left, both_right}
use Rattle.refusal.specs.Refusals.{accepted}
use Rattle.refusal.specs.Rows.{first_of, NoneHolds}
use Rattle.refusal.proofs.Rows.{distinct, unlike, apart_by, none-holds, none_after}
use Rattle.board.specs.Spots.{Spot, most_pins, all_within}
use Rattle.board.proofs.Flat.{same_or_not}
use Rattle.tree.specs.declared.Run.{Run}
use Rattle.tree.specs.Growth.{pins_of, runs_of}
use Rattle.tree.proofs.Membership.{LowEnds, pin_in}
use Rattle.basics.specs.Lists.{Among, first, later}
use Rattle.tree.specs.Trees.{most_runs, tree_rows}
use Rattle.tree.proofs.Answer.{runs_few}
use Rattle.spanning.proofs.Spanning.{runs_join}
use Rattle.loads.specs.declared.Sheet.{Sheet}
use Rattle.loads.specs.declared.Load.{Load}
use Rattle.loads.specs.Loads.{nought, sheet_fits, loads_fit, load_at, amps_of}
use Rattle.drops.specs.Drops.{currents_of, run_drop, distance_of_run, drops_after, no_drops, drops_of, drop_rows, lost_of}
use Rattle.finite.specs.Bounds.{AtMost, most_drop}
use Rattle.finite.proofs.Sizes.{at_most_more}
use Rattle.finite.proofs.Rounding.{holds}
use Rattle.finite.proofs.Operations.{add_at_most, mul_at_most, whole_at_most}
use Rattle.finite.proofs.Loads.{most_load, ohms_most, load_most}
use Rattle.finite.proofs.Currents.{most_current, currents_most}
use Rattle.finite.proofs.Distances.{most_distance, distance_held, distance_most}

-- No run's drop is above 2 ^ 62 volts: this is the exponent.
abbrev exponent : ℕ
exponent = 62

-- A pin's drop grows by no more with each run: what it is at most after so many runs.
abbrev after : ℕ → ℕ
after i = i * 2 ^ exponent

-- After 31 runs that is the most.
after_all : (i : ℕ) → i ≤ most_runs → after i ≤ most_drop
after_all i h = mul-le-mul_right (2 ^ exponent) h

-- Every pin's drop is at most so much.
abbrev AllAtMost : List Float → ℕ → Type 0
AllAtMost drops B = (pin : ℕ) → pin < most_pins → AtMost (get_or drops pin nan) B

-- Then it is at most more.
all_more : (drops : List Float) (A B : ℕ) → A ≤ B → AllAtMost drops A → AllAtMost drops B
all_more drops A B l all pin h = at_most_more (get_or drops pin nan) A B l (all pin h)

-- At first each is 0.
none_most : (B : ℕ) → AllAtMost no_drops B
none_most B pin h = subst (λ (x : Float). AtMost x B) (sym (get_or-replicate most_pins pin nought nan h)) zero-le

-- One drop is put among others that are at most so much.
put_most : (drops : List Float) (pin : ℕ) (v : Float) (B : ℕ) → pin < length drops → AllAtMost drops B → AtMost v B → AllAtMost (set drops pin v) B
put_most drops pin v B room all new p h = go (same_or_not p pin)
  where
    go : (p ≡ pin) ⊎ (p ≡ pin → ⊥) → AtMost (get_or (set drops pin v) p nan) B
    go (inl e) = rw (e, get_or-set_same drops pin v nan room) new
    go (inr n) = rw (get_or-set_other drops pin p v nan n) (all p h)

-- ---- run by run
module _ (feed : List Spot) (ok : all_within feed ≡ true) (ohms : Float) (o : AtMost ohms 1) where
  -- A run's drop is at most 2 ^ 62.
  run_most : (c : Float) (r : Run) → AtMost c most_current → AtMost (run_drop c ohms (distance_of_run feed r)) (1 * 2 ^ exponent)
  run_most c r h =
      let d = distance_of_run feed r in
      let m = distance_most feed ok r in
      mul_at_most binary32 1 exponent (holds 1 exponent (lit< tt) (lit≤ tt)) (mul binary32 c ohms) (of_int binary32 (pos d)) most_current most_distance (lit≤ tt)
      (mul_at_most binary32 1 44 (holds 1 44 (lit< tt) (lit≤ tt)) c ohms most_current 1 (lit≤ tt) h o)
      (at_most_more (of_int binary32 (pos d)) d most_distance m (whole_at_most binary32 d (distance_held d m)))

  -- From drops after i runs that are at most i * 2 ^ 62, no later drop is above the most.
  drops_most : (i : ℕ) (drops : List Float) (runs : List Run) (currents : List Float) → i + length runs ≤ most_runs → length drops ≡ most_pins
      → AllAtMost drops (after i) → ((r : Run) → Among r runs → LowEnds r) → ((c : Float) → Among c currents → AtMost c most_current)
      → AllAtMost (drops_after feed ohms drops runs currents) most_drop
  unfolding drops_after
  drops_most i drops [] currents few long all ends cs = all_more drops (after i) most_drop (after_all i (omega arith)) all
  drops_most i drops (r ∷ runs) [] few long all ends cs = all_more drops (after i) most_drop (after_all i (omega arith)) all
  drops_most i drops (r ∷ runs) (c ∷ currents) few long all ends cs =
      let v = add binary32 (get_or drops r.near nan) (run_drop c ohms (distance_of_run feed r)) in
      let low = ends r (first refl) in
      let new : AtMost v (after (suc i)) =
      add_at_most binary32 (suc i) exponent (holds (suc i) exponent (omega arith) (lit≤ tt)) (get_or drops r.near nan) (run_drop c ohms (distance_of_run feed r))
      (after i) (1 * 2 ^ exponent) (omega arith) (all r.near low.near) (run_most c r (cs c (first refl))) in
      let old : AllAtMost drops (after (suc i)) = all_more drops (after i) (after (suc i)) (omega arith) all in
      drops_most (suc i) (set drops r.far v) runs currents (omega arith) (length-set drops r.far v ∙ long)
      (put_most drops r.far v (after (suc i)) (omega (arith, low.far, long)) old new)
      (λ q m. ends q (later m)) (λ d m. cs d (later m))

-- ---- the theorems
-- The ends of the runs of a feed are pin numbers.
low_ends : (feed : List Spot) → length feed ≡ most_pins → all_within feed ≡ true → (r : Run) → Among r (runs_of feed) → LowEnds r
low_ends feed full ok r m =
    record {
      near = omega (arith, (pin_in feed ((runs_join feed full ok).near_there r m)).0, full);
      far = omega (arith, (pin_in feed ((runs_join feed full ok).far_there r m)).0, full);
    }

module _ (feed : List Spot) (loads : List Load) (sheet : Sheet) (full : length feed ≡ most_pins) (ok : all_within feed ≡ true) where
  -- DROPS ARE FINITE, and at most so large, where the sheet and the loads of the pins that are there are in their ranges.
  pub drops_finite : sheet_fits sheet ≡ true → loads_fit loads (pins_of feed) ≡ true
      → (pin : ℕ) → pin < most_pins → AtMost (get_or (drops_of feed loads sheet) pin nan) most_drop
  unfolding drops_of
  drops_finite fits within =
      drops_most feed ok sheet.ohms (ohms_most sheet fits) 0 no_drops (runs_of feed) (currents_of amps (runs_of feed)) (omega (arith, few)) refl
      (none_most (after 0)) (low_ends feed full ok) (currents_most amps (runs_of feed) few far)
    where
      amps : ℕ → Float
      amps pin = amps_of sheet (load_at loads pin)

      few : length (runs_of feed) ≤ most_runs
      few = runs_few feed full

      far : (r : Run) → Among r (runs_of feed) → AtMost (amps r.far) most_load
      far r m = load_most sheet fits loads (pins_of feed) within r.far ((runs_join feed full ok).far_there r m)

  -- What is not refused has a sheet and loads in their ranges.
  all_fit : accepted (first_of (drop_rows feed loads sheet)) ≡ true → both (sheet_fits sheet) (loads_fit loads (pins_of feed)) ≡ true
  unfolding distinct unlike both accepted NoneHolds
  all_fit e =
      let rows = drop_rows feed loads sheet in
      let last = drop (length (tree_rows feed)) rows in
      let n : NoneHolds last = none_after (tree_rows feed) last (none-holds rows (apart_by rows refl) e) in
      not-false (both (sheet_fits sheet) (loads_fit loads (pins_of feed))) n.0

  -- WHAT IS ANSWERED IS FINITE: the drops, or 0 for every pin in a refusal.
  pub lost_finite : (pin : ℕ) → pin < most_pins → AtMost (get_or (lost_of feed loads sheet).drops pin nan) most_drop
  unfolding lost_of
  lost_finite = go (accepted (first_of (drop_rows feed loads sheet))) refl
    where
      go : (t : Bool) → accepted (first_of (drop_rows feed loads sheet)) ≡ t → AllAtMost (choose t (drops_of feed loads sheet) no_drops) most_drop
      go true e = unfold choose in drops_finite (both_left _ _ (all_fit e)) (both_right (sheet_fits sheet) _ (all_fit e))
      go false e = unfold choose in none_most most_drop
