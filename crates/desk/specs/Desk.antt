-- The desk: when it is broken, and what each call makes of it.
use Rattle.std.specs.Prelude.{Bool, not, List, ℕ, replicate, get_or, set}
use Rattle.basics.specs.Tests.{choose}
use Rattle.refusal.specs.Refusals.{Verdict, accepted}
use Rattle.refusal.specs.Rows.{Row, first_of}
use Rattle.board.specs.Spots.{Spot}
use Rattle.edits.specs.declared.Edit.{Edit}
use Rattle.drawing.specs.Pins.{feed_of}
use Rattle.edits.specs.Stated.{edit_of}
use Rattle.readmap.specs.Map.{read_map, pins_of}
use Rattle.journal.specs.declared.Record.{Record}
use Rattle.journal.specs.Journal as journal
use Rattle.journal.specs.Journal.{most_seats, own, kept, added, compacted, empty_journal}
use Rattle.seats.specs.declared.Seat.{Seat}
use Rattle.seats.specs.Seats.{edited_seat, undone_seat, redone_seat, taken_back_count}
use Rattle.rows.specs.Calls.{Call, seat_in, opening, closing, making, undoing, redoing, asking}
use Rattle.rows.specs.Refusals.{Look, naming_rows, naming_net_rows, rows_of}
use Rattle.desk.specs.declared.Desk.{Desk}
use Rattle.desk.specs.declared.Answered.{Answered}
pub use Rattle.seats.specs.Seats.{closed_seat, no_seat, open_seat, with_pins, jobs_in, jobs_apart}
pub use Rattle.sound.specs.Sound.{standing_among, taken_back_among}
unfoldable pub use Rattle.seats.specs.Seats.{job_of}
unfoldable pub use Rattle.sound.specs.Sound.{sound_open, sound_closed, sound_seat, sound_to, sound_all}

-- The seat of that number.
abbrev pub seat_of : Desk → ℕ → Seat
seat_of d s = get_or d.seats s no_seat

-- The records in use, all seats mixed, in the order in which they were made.
abbrev pub in_use : Desk → List Record
in_use d = journal.in_use d.journal

-- The edits of one seat in order: its standing ones, then those taken back, the next to redo first.
abbrev pub edits_of : Desk → ℕ → List Edit
edits_of d s = own s (in_use d)

-- The standing edits of a seat, the latest first.
abbrev pub standing_of : Desk → ℕ → List Edit
standing_of d s = standing_among (seat_of d s) (edits_of d s)

-- The taken-back edits of a seat, the most recently taken back first.
abbrev pub taken_back_of : Desk → ℕ → List Edit
taken_back_of d s = taken_back_among (seat_of d s) (edits_of d s)

-- The jobs of all seats.
abbrev pub jobs_of : Desk → List ℕ
jobs_of d = jobs_in d.seats

-- A desk is sound where its seats and their journal are.
unfoldable pub sound : Desk → Bool
unfolding sound_all
sound d = sound_all d.seats d.journal

-- What a call looks at on a desk.
abbrev pub look_at : Desk → ℕ → Look
look_at d s =
    record {
      broken = not (sound d);
      seat = s;
      opened = (seat_of d s).opened;
      job = (seat_of d s).job;
      pins = (seat_of d s).pins;
      standing = (seat_of d s).standing;
      taken_back = taken_back_count (seat_of d s) (edits_of d s);
      jobs = jobs_of d;
      used = d.journal.used;
    }

-- What a call hands back: this desk, and this answer.
abbrev pub handed_back : Desk → Verdict → Answered
handed_back d v = record { desk = d; verdict = v }

-- The desk with one seat changed.
abbrev pub with_seat : Desk → ℕ → Seat → Desk
with_seat d s t = record { seats = set d.seats s t; journal = d.journal }

-- The desk with these records in use, and no others.
abbrev pub with_in_use : Desk → List Record → Desk
with_in_use d l = record { seats = d.seats; journal = compacted l }

-- The desk with one seat changed and these records in use.
abbrev pub with_records : Desk → ℕ → Seat → List Record → Desk
with_records d s t l = with_seat (with_in_use d l) s t

-- A new edit first frees the taken-back records of its own seat, then takes a record.
unfoldable pub edited : Desk → ℕ → Edit → Desk
edited d s e =
    with_records d s (edited_seat (seat_of d s) e)
    (added s (seat_of d s).standing e (in_use d))

-- What an accepted call makes of the desk.
unfoldable pub effect : Desk → Call → Desk
effect d (opening s job form map) = with_seat d s (open_seat job (pins_of (read_map form map job)))
effect d (closing s) = with_records d s closed_seat (kept s 0 (in_use d))
effect d (making s m) = edited d s (edit_of (seat_of d s).pins m)
effect d (undoing s) = with_seat d s (undone_seat (seat_of d s) (edits_of d s))
effect d (redoing s) = with_seat d s (redone_seat (seat_of d s) (edits_of d s))
effect d (asking s a) = d

-- 28, 1 and 2 of a seat of a desk.
abbrev pub naming_at : Desk → ℕ → List Row
naming_at d s = naming_rows (not (sound d)) s (seat_of d s).opened

-- The rows of a call on a desk.
abbrev pub rows_at : Desk → Call → List Row
rows_at d c = rows_of (look_at d (seat_in c)) c

-- What a call is answered on a desk.
unfoldable pub answer_of : Desk → Call → Verdict
answer_of d c = first_of (rows_at d c)

-- A call: accepted, with what it makes of the desk, or refused with the desk as it was.
unfoldable pub step : Desk → Call → Answered
step d c = record { desk = choose (accepted (answer_of d c)) (effect d c) d; verdict = answer_of d c }

-- The empty desk: eight closed seats, no record in use.
unfoldable pub empty_desk : Desk
empty_desk = record { seats = replicate most_seats closed_seat; journal = empty_journal }

-- 28, 1 and 2 of a seat of a desk, and 21 of a net that a call names.
abbrev pub naming_net_at : Desk → ℕ → ℕ → List Row
naming_net_at d s net = naming_net_rows (not (sound d)) s (seat_of d s).opened net

-- The feed of a net of a seat: that net's pins of the drawing there.
abbrev pub feed_at : Desk → ℕ → ℕ → List Spot
feed_at d s net = feed_of (seat_of d s).pins net
