-- One record of a pin map in the old form or the new: what its bytes say, what it gives its pin, and its faults.
use Rattle.std.specs.Prelude.{Bool, not, List, [], ◌∷◌, ℕ, ◌+◌, ◌*◌, eqb, leb, ltb, get_or, Some}
use Rattle.basics.specs.Tests.{either}
use Rattle.refusal.specs.declared.Refusal.TheVariants.{OtherJob, FaultyRecord}
use Rattle.refusal.specs.Rows.{Row, given}
use Rattle.board.specs.Place.{inside}
use Rattle.board.specs.Spots.{Spot, most_pins, too_near_any}
use Rattle.drawing.specs.declared.Held.{Held}
use Rattle.drawing.specs.Pins.{holding, is_net}
use Rattle.pinmap.specs.declared.Form.{Form}
use Rattle.pinmap.specs.declared.Form.TheVariants.{Old, New}
use Rattle.pinmap.specs.Number.{bits_at, number_at}
use Rattle.records.specs.declared.MapRecord.{MapRecord}

-- Bytes 0 and 1: the job, high byte first.
abbrev pub job_at : List ℕ → ℕ
job_at bytes = get_or bytes 0 0 * 256 + get_or bytes 1 0

-- Bytes 12 to 15 of the new form: the part number. The old form has none, which is 0.
abbrev pub part_at : Form → List ℕ → ℕ
part_at Old bytes = 0
part_at New bytes = bits_at bytes 12

-- Bytes 0 and 1 job; byte 2 pin number; byte 3 zero in the old form, the net in the new; bytes 4 to 7 x; bytes 8 to 11 y; then the part number.
-- Numbers are high byte first.
unfoldable pub record_of : Form → List ℕ → MapRecord
record_of form bytes =
    record {
      job = job_at bytes;
      pin = get_or bytes 2 0;
      byte3 = get_or bytes 3 0;
      place = record { x = number_at bytes 4; y = number_at bytes 8 };
      part = part_at form bytes;
    }

-- The net that a record with such a byte 3 gives its pin: 1 in the old form.
abbrev pub net_given : Form → ℕ → ℕ
net_given Old byte = 1
net_given New byte = byte

-- What a record gives its pin to hold.
abbrev pub held_of : Form → MapRecord → Held
held_of form r = holding r.place (net_given form r.byte3) r.part

-- Byte 3 is not as it must be: zero in the old form, a net from 1 to 8 in the new.
abbrev pub wrong_byte : Form → ℕ → Bool
wrong_byte Old byte = not (eqb byte 0)
wrong_byte New byte = not (is_net byte)

-- The record's pin is above 31 or not above the one before (`next` is one more than that), byte 3 is not zero in the old form or not a net in the
-- new, its place is outside, or it is too near to that of an earlier record, of whatever net.
unfoldable pub faulty : Form → ℕ → List Spot → MapRecord → Bool
faulty form next earlier r =
    either (leb most_pins r.pin)
    (either (ltb r.pin next)
    (either (wrong_byte form r.byte3)
    (either (not (inside r.place)) (too_near_any (Some r.place) earlier))))

-- A record after earlier ones, with its number, counted from 0: 14, a job other than the one opened, before 15.
abbrev pub record_rows : Form → ℕ → ℕ → ℕ → List Spot → MapRecord → List Row
record_rows form job number next earlier r =
    given (not (eqb r.job job)) (OtherJob number) ∷ given (faulty form next earlier r) (FaultyRecord number) ∷ []
