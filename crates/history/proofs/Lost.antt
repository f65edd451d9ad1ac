-- THE VOLTS LOST TO THE PINS OF A NET OF A SEAT, on any desk: the verdict is what the call is answered, each refusal given exactly under its condition;
-- accepted, the drops are what document 02, [2] says of the net's pins, after any calls of those of the seat's past; refused, they are all 0; and every drop
-- is finite. Assumes nothing.
use mathlib.Core.Path.{◌≡◌, refl, sym, ap, ◌∙◌, subst}
use mathlib.Core.Bool.{Bool, true, false}
use mathlib.Core.List.{List}
use Prim.Native.Nat.{ℕ, ◌<◌, zero-le}
use borrow.Author.Tests.{not-false}
use lib.ListN.{get_or, get_or-replicate}
use lib.Ieee.{Float, nan}
use Rattle.basics.proofs.Tests.{both_left, both_right, choose_yes, choose_no}
use Rattle.refusal.specs.Refusals.{accepted}
use Rattle.refusal.specs.Rows.{NoneHolds, Exactly}
use Rattle.board.specs.Spots.{most_pins}
use Rattle.drawing.specs.Pins.{Pin, feed_of}
use Rattle.drawing.proofs.Feeds.{feed_long, feed_within}
use Rattle.loads.specs.declared.Load.{Load}
use Rattle.loads.specs.declared.Sheet.{Sheet}
use Rattle.loads.specs.Loads.{nought}
use Rattle.drops.specs.Drops.{no_drops, drops_of}
use Rattle.finite.specs.Bounds.{AtMost, most_drop}
use Rattle.finite.specs.Demand.{VoltsLost}
use Rattle.finite.proofs.Demand.{drops_demanded}
use Rattle.rows.specs.Calls.{Call, asking, dropping}
use Rattle.rows.proofs.Passed.{OpenSeat, Passes, passes}
use Rattle.desk.specs.declared.Desk.{Desk}
use Rattle.desk.specs.Desk.{seat_of, look_at, rows_at, answer_of, step, empty_desk}
use Rattle.asked.specs.Asked.{dropped_of}
use Rattle.history.specs.History.{pins_in, past_of, nothing, history, after}
use Rattle.history.proofs.Opened.{open_lawful}
use Rattle.history.proofs.Refused.{each_refusal_exactly}
use Rattle.history.proofs.Leaving.{open_as_past}

module _ (d : Desk) (s net : ℕ) (loads : List Load) (sheet : Sheet) where
  -- The verdict in the answer is what the call is answered,
  pub dropped_verdict : (dropped_of d s net loads sheet).answer.verdict ≡ answer_of d (asking s (dropping net loads sheet))
  unfolding dropped_of answer_of
  dropped_verdict = refl

  -- so each of its refusals is given exactly under its condition, and after those before it.
  pub dropped_exactly : Exactly (rows_at d (asking s (dropping net loads sheet))) (dropped_of d s net loads sheet).answer.verdict
  unfolding step
  dropped_exactly = rw dropped_verdict (each_refusal_exactly d (asking s (dropping net loads sheet)))

  -- The answer hands back the desk that it was given.
  pub dropped_leaves_the_desk : (dropped_of d s net loads sheet).desk ≡ d
  unfolding dropped_of
  dropped_leaves_the_desk = refl

  -- A refusal's drops are all 0.
  pub refused_drops_are_zero : accepted (dropped_of d s net loads sheet).answer.verdict ≡ false → (dropped_of d s net loads sheet).answer.drops ≡ no_drops
  unfolding dropped_of
  refused_drops_are_zero e = choose_no _ _ e

  -- An accepted call's are those of the net's pins,
  pub dropped_is : accepted (dropped_of d s net loads sheet).answer.verdict ≡ true
      → (dropped_of d s net loads sheet).answer.drops ≡ drops_of (feed_of (seat_of d s).pins net) loads sheet
  unfolding dropped_of
  dropped_is e = choose_yes _ _ e

  -- and it has passed 28, 1, 2, 21, 17 and 20.
  dropped_passes : accepted (dropped_of d s net loads sheet).answer.verdict ≡ true → Passes (look_at d s) (asking s (dropping net loads sheet))
  unfolding dropped_of
  dropped_passes e = passes (look_at d s) (asking s (dropping net loads sheet)) e

  -- An accepted call finds the seat open,
  dropped_open : accepted (dropped_of d s net loads sheet).answer.verdict ≡ true → OpenSeat (look_at d s)
  unfolding Passes
  dropped_open e = (dropped_passes e).0

  -- and its sheet and loads in their ranges, so that its drops are what document 02, [2] says of the net's pins;
  pub volts_lost : accepted (dropped_of d s net loads sheet).answer.verdict ≡ true
      → VoltsLost (feed_of (seat_of d s).pins net) loads sheet (dropped_of d s net loads sheet).answer.drops
  unfolding Passes NoneHolds
  volts_lost e =
      let l = open_lawful d s (dropped_open e) in
      let r = not-false _ (dropped_passes e).1.1.1.0 in
      subst (VoltsLost (feed_of (seat_of d s).pins net) loads sheet) (sym (dropped_is e))
      (drops_demanded (feed_of (seat_of d s).pins net) loads sheet (feed_long _ net l) (feed_within _ net l) (both_left _ _ r) (both_right _ _ r))

  -- in a refusal they are 0, and finite too.
  refused_finite : accepted (dropped_of d s net loads sheet).answer.verdict ≡ false → (pin : ℕ) → pin < most_pins
      → AtMost (get_or (dropped_of d s net loads sheet).answer.drops pin nan) most_drop
  refused_finite e pin k =
      subst (λ (x : Float). AtMost x most_drop)
      (sym (ap (λ (l : List Float). get_or l pin nan) (refused_drops_are_zero e) ∙ get_or-replicate most_pins pin nought nan k)) zero-le

  -- EVERY DROP THAT A HOST GETS IS FINITE.
  pub dropped_finite : (pin : ℕ) → pin < most_pins → AtMost (get_or (dropped_of d s net loads sheet).answer.drops pin nan) most_drop
  dropped_finite pin k = by (accepted (dropped_of d s net loads sheet).answer.verdict) refl
    where
      by : (t : Bool) → accepted (dropped_of d s net loads sheet).answer.verdict ≡ t
          → AtMost (get_or (dropped_of d s net loads sheet).answer.drops pin nan) most_drop
      by true e = (volts_lost e).finite pin k
      by false e = refused_finite e pin k

-- AFTER ANY CALLS, THE DROPS ARE THOSE OF THE NET'S PINS IN THE SEAT'S PAST.
pub dropped_after_calls : (calls : List Call) (s net : ℕ) (loads : List Load) (sheet : Sheet)
    → accepted (dropped_of (after empty_desk calls) s net loads sheet).answer.verdict ≡ true
    → (dropped_of (after empty_desk calls) s net loads sheet).answer.drops ≡ drops_of (feed_of (pins_in (past_of (history nothing calls) s)) net) loads sheet
dropped_after_calls calls s net loads sheet e =
    let d = after empty_desk calls in
    dropped_is d s net loads sheet e ∙ ap (λ (l : List Pin). drops_of (feed_of l net) loads sheet) (open_as_past calls s (dropped_open d s net loads sheet e)).1

-- AFTER ANY CALLS from the empty desk: the drops of every accepted call are what document 02, [2] says of the net's pins in the seat's past.
pub volts_lost_after_calls : (calls : List Call) (s net : ℕ) (loads : List Load) (sheet : Sheet)
    → accepted (dropped_of (after empty_desk calls) s net loads sheet).answer.verdict ≡ true
    → VoltsLost (feed_of (pins_in (past_of (history nothing calls) s)) net) loads sheet (dropped_of (after empty_desk calls) s net loads sheet).answer.drops
volts_lost_after_calls calls s net loads sheet e =
    let d = after empty_desk calls in
    subst (λ (l : List Pin). VoltsLost (feed_of l net) loads sheet (dropped_of d s net loads sheet).answer.drops)
    (open_as_past calls s (dropped_open d s net loads sheet e)).1 (volts_lost d s net loads sheet e)
