-- THE DROPS OF A FEED ARE WHAT IS DEMANDED, where the sheet and the loads of the pins that are there are in their ranges. From 32 spots and pins that stand
-- on the board.
use mathlib.Core.Path.{◌≡◌, refl, sym, ◌∙◌, ap}
use mathlib.Core.Bool.{true}
use mathlib.Core.List.{List, [], ◌∷◌}
use Prim.Native.Nat.{ℕ, zero, suc, ◌≤◌, ◌<◌}
use native.Mathlib.Omega.{arith}
use lib.ListN.{get_or, set, length, length-set, length-replicate}
use lib.Ieee.{Float, nan}
use borrow.Author.Tests.{ne_eqb}
use Rattle.basics.proofs.Tests.{choose_no}
use Rattle.board.specs.Spots.{Spot, most_pins, all_within}
use Rattle.tree.specs.declared.Run.{Run}
use Rattle.tree.specs.Growth.{pins_of, runs_of}
use Rattle.tree.specs.Reached.{run_at}
use Rattle.basics.specs.Lists.{Among, first}
use Rattle.tree.proofs.Membership.{without_in, pins_once, pins_lowest}
use Rattle.tree.proofs.Listing.{Listed, done, taking, runs_listed}
use Rattle.spanning.proofs.Spanning.{far_among, entry_in, none-among, no_runs}
use Rattle.loads.specs.declared.Sheet.{Sheet}
use Rattle.loads.specs.declared.Load.{Load}
use Rattle.loads.specs.Loads.{nought, sheet_fits, loads_fit, load_at, amps_of}
use Rattle.drops.specs.Drops.{nears_of, plus_leading_on, currents_of, drops_after, no_drops, drops_of}
use Rattle.drops.proofs.Passes.{currents_long}
use Rattle.finite.specs.Demand.{Flows, VoltsLost}
use Rattle.finite.proofs.Drops.{drops_finite}
use Rattle.finite.proofs.Zero.{Parted, parted_first, parted_next, near_not, absent_zero, feed_pin_zero, drop_of_far}

-- ---- the current of a run
-- Of all runs, only later ones lead on from the far pin of a run, so its current is its far pin's load plus the currents of all that lead on from there.
module _ (amps : ℕ → Float) {key : ℕ → ℕ → ℕ} where
  flows_on : {reached left : List ℕ} {runs : List Run} → Listed key reached left runs → Parted reached left
      → (k : ℕ) → k < length runs → Flows amps runs (currents_of amps runs) k
  unfolding currents_of plus_leading_on
  flows_on done apart k h = absurd (omega arith)
  flows_on (taking {r = r} {rs = rs} e l) apart zero h =
      ap (λ (t : Float). plus_leading_on r.far t (nears_of rs) (currents_of amps rs)) (sym (choose_no _ _ (ne_eqb r.near r.far (near_not e apart r.far e.to))))
  flows_on (taking {left = left} {r = r} {rs = rs} e l) apart (suc k) h =
      let f = (run_at rs k).far in
      let m : Among f left = (without_in r.far left (far_among l (run_at rs k) (entry_in rs k (omega arith)))).0 in
      flows_on l (parted_next r.far apart) k (omega arith)
      ∙ ap (λ (t : Float). plus_leading_on f t (nears_of rs) (currents_of amps rs)) (sym (choose_no _ _ (ne_eqb r.near f (near_not e apart f m))))

-- Runs add no drop and take none away.
drops_long : (feed : List Spot) (ohms : Float) (drops : List Float) (runs : List Run) (currents : List Float) → length (drops_after feed ohms drops runs currents) ≡ length drops
unfolding drops_after
drops_long feed ohms drops [] currents = refl
drops_long feed ohms drops (r ∷ runs) [] = refl
drops_long feed ohms drops (r ∷ runs) (c ∷ currents) = drops_long feed ohms (set drops r.far _) runs currents ∙ length-set drops r.far _

-- ---- the theorem
module _ (feed : List Spot) (loads : List Load) (sheet : Sheet) (full : length feed ≡ most_pins) (ok : all_within feed ≡ true) where
  -- The amps of a pin.
  abbrev amps : ℕ → Float
  amps pin = amps_of sheet (load_at loads pin)

  -- A current for each run of the feed.
  run_flows : (k : ℕ) → k < length (runs_of feed) → Flows amps (runs_of feed) (currents_of amps (runs_of feed)) k
  run_flows k h = go (pins_of feed) refl
    where
      go : (l : List ℕ) → pins_of feed ≡ l → Flows amps (runs_of feed) (currents_of amps (runs_of feed)) k
      go [] e = absurd (omega (arith, ap length (no_runs feed e)))
      go (f ∷ left) e = flows_on amps (runs_listed feed full ok f left e) (parted_first (pins_once feed f left e)) k h

  -- The lowest-numbered pin is the first that is listed.
  lowest_zero : (pin : ℕ) → Among pin (pins_of feed) → ((other : ℕ) → Among other (pins_of feed) → pin ≤ other) → get_or (drops_of feed loads sheet) pin nan ≡ nought
  unfolding pins_of
  lowest_zero pin m lowest = go (pins_of feed) refl
    where
      go : (l : List ℕ) → pins_of feed ≡ l → get_or (drops_of feed loads sheet) pin nan ≡ nought
      go [] e = absurd (none-among e m)
      go (f ∷ left) e =
          let q : pin ≡ f = omega (arith, pins_lowest 0 feed e pin (rw e at m), lowest f (rw e (first refl))) in
          rw q (feed_pin_zero feed loads sheet full ok f left e)

  -- THE DROPS OF A FEED ARE WHAT IS DEMANDED.
  pub drops_demanded : sheet_fits sheet ≡ true → loads_fit loads (pins_of feed) ≡ true → VoltsLost feed loads sheet (drops_of feed loads sheet)
  unfolding drops_of
  drops_demanded fits within =
      record {
        drops_many = drops_long feed sheet.ohms no_drops (runs_of feed) (currents_of amps (runs_of feed)) ∙ length-replicate most_pins nought;
        feed_zero = lowest_zero;
        absent_zero = absent_zero feed loads sheet full ok;
        currents = currents_of amps (runs_of feed);
        currents_many = currents_long amps (runs_of feed);
        flows = run_flows;
        adds_up = drop_of_far feed loads sheet full ok;
        finite = drops_finite feed loads sheet full ok fits within;
      }
