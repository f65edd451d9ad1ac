-- What a record comes to: it is accepted just where none of its faults is there. Assumes nothing.
use mathlib.Core.Path.{◌≡◌, refl, ap}
use mathlib.Core.Bool.{true, false, not}
use mathlib.Core.List.{List}
use Prim.Native.Nat.{ℕ, ◌<◌, ◌≤◌}
use borrow.Author.Tests.{leb-false, ltb-false, eqb-true, not-false, eq-eqb, lt-leb, le-ltb}
use Rattle.basics.specs.Tests.{both}
use Rattle.basics.proofs.Tests.{either-false, either_no}
use Rattle.std.specs.Prelude.{Ok, Some}
use Rattle.refusal.specs.Refusals.{Verdict, accepted}
use Rattle.refusal.specs.Rows.{first_of, NoneHolds}
use Rattle.refusal.proofs.Rows.{unlike, distinct, Apart, apart_by, none-holds, none-accepted}
use Rattle.board.specs.Place.{inside}
use Rattle.board.specs.Spots.{most_pins, too_near_any}
use Rattle.drawing.specs.Pins.{Pin, spots_of}
use Rattle.pinmap.specs.declared.Form.{Form}
use Rattle.records.specs.declared.MapRecord.{MapRecord}
use Rattle.records.specs.Record.{wrong_byte, faulty, record_rows}

-- What a record comes to, after earlier ones.
abbrev pub judged : Form → ℕ → ℕ → ℕ → List Pin → MapRecord → Verdict
judged form job number next earlier r = first_of (record_rows form job number next (spots_of earlier) r)

-- The rows of a record are apart.
pub record_apart : (form : Form) (job number next : ℕ) (earlier : List Pin) (r : MapRecord) → Apart (record_rows form job number next (spots_of earlier) r)
unfolding distinct unlike both accepted
record_apart form job number next earlier r = apart_by (record_rows form job number next (spots_of earlier) r) refl

-- A record without a fault.
pub record Faultless (form : Form) (job next : ℕ) (earlier : List Pin) (r : MapRecord) : Type 0 where
  pub own_job : r.job ≡ job
  pub pin_low : r.pin < most_pins
  pub byte : wrong_byte form r.byte3 ≡ false
  pub on_board : inside r.place ≡ true
  pub above : next ≤ r.pin
  pub free : too_near_any (Some r.place) (spots_of earlier) ≡ false

module _ (form : Form) (job number next : ℕ) (earlier : List Pin) (r : MapRecord) where
  -- A record that is accepted has no fault,
  pub faultless : accepted (judged form job number next earlier r) ≡ true → Faultless form job next earlier r
  unfolding faulty NoneHolds
  faultless y =
      let n = none-holds (record_rows form job number next (spots_of earlier) r) (record_apart form job number next earlier r) y in
      let f1 = either-false _ _ n.1.0 in
      let f2 = either-false _ _ f1.1 in
      let f3 = either-false _ _ f2.1 in
      let f4 = either-false _ _ f3.1 in
      record {
        own_job = eqb-true _ _ (not-false _ n.0);
        pin_low = leb-false _ _ f1.0;
        byte = f3.0;
        on_board = not-false _ f4.0;
        above = ltb-false _ _ f2.0;
        free = f4.1;
      }

  -- and one that has none is accepted.
  pub no_fault : Faultless form job next earlier r → judged form job number next earlier r ≡ Ok tt
  unfolding faulty NoneHolds
  no_fault h =
      none-accepted (record_rows form job number next (spots_of earlier) r) (
        ap not (eq-eqb _ _ h.own_job),
        (
          either_no (lt-leb _ _ h.pin_low)
              (either_no (le-ltb _ _ h.above) (either_no h.byte (either_no (ap not h.on_board) h.free))),
          tt,
        ),
      )
