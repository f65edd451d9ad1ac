-- Maps across desks: a map written from a seat opens under its job in the new form, at any seat of any desk that can take it, with the same pins, nets and part
-- numbers; a new map that was opened, written before any accepted edit or closing of its seat, gives the same bytes, and an old one those of its moved-over
-- form. From the round trip of pin maps, Passed, Fitting and Opened; assumes nothing.
use mathlib.Core.Path.{◌≡◌, sym, ap, ◌∙◌, subst}
use mathlib.Core.Bool.{true, not}
use mathlib.Core.List.{List}
use Prim.Native.Nat.{ℕ, ◌<◌}
use native.Mathlib.Omega.{arith}
use borrow.Author.Tests.{not-false, leb-false}
use lib.ListN.{length, drop}
use lib.Seq.{get_or-set_same}
use Rattle.basics.specs.Tests.{choose}
use Rattle.refusal.specs.Refusals.{accepted}
use Rattle.refusal.specs.Rows.{Row, NoneHolds}
use Rattle.std.specs.Prelude.{Ok, is_ok}
use Rattle.refusal.proofs.Rows.{none_first}
use Rattle.drawing.specs.Pins.{Pin}
use Rattle.pinmap.specs.declared.Form.{Form}
use Rattle.pinmap.specs.declared.Form.TheVariants.{Old, New}
use Rattle.readmap.specs.Map.{map_rows, read_map, read_as, pins_of}
use Rattle.readmap.proofs.Judging.{read_passed}
use Rattle.writemap.specs.Map.{map_of, bytes_of}
use Rattle.writemap.proofs.Written.{accepted_by, front_written, rest_stays}
use Rattle.forms.specs.Moving.{map_moved, moved_of, bytes_moved}
use Rattle.forms.proofs.Back.{moving_writes_the_map, read_pins_lem}
use Rattle.roundtrip.proofs.RoundTrip.{new_opens, map_bytes, same_bytes}
use Rattle.journal.specs.Journal.{most_seats}
use Rattle.seats.specs.declared.Seat.{Seat}
use Rattle.rows.specs.Calls.{Call, opening, asking, writing}
use Rattle.rows.specs.Refusals.{taking_rows}
use Rattle.rows.proofs.Passed.{OpenSeat, Passes, passes}
use Rattle.desk.specs.declared.Desk.{Desk}
use Rattle.desk.specs.declared.Answered.{Answered}
use Rattle.desk.specs.Desk.{no_seat, seat_of, jobs_of, open_seat, with_seat, sound, look_at, rows_at, effect, answer_of, step, empty_desk}
use Rattle.asked.specs.Asked.{map_at, written_of, buffer_of}
use Rattle.desk.proofs.Sound.{eight_seats, pins_lawful}
use Rattle.history.specs.History.{after}
use Rattle.history.specs.Until.{NoneAt, is_edit_or_closing}
use Rattle.history.specs.Leaving.{bytes_from, CallsFit}
use Rattle.history.proofs.Fitting.{seat_fits}
use Rattle.history.proofs.Opened.{open_lawful, opened_map_read, opened_seat, opened_without_edits, same_until_edit}
use Rattle.pinmap.specs.Map.{Bytes}

module _ (d : Desk) (s : ℕ) (buffer : List ℕ) (z : is_ok (written_of d s buffer).answer ≡ true) where
  -- An accepted writing finds the seat open,
  pub written_open : OpenSeat (look_at d s)
  unfolding written_of Passes
  written_open =
      let rows = rows_at d (asking s (writing (length buffer))) in
      (passes (look_at d s) (asking s (writing (length buffer))) (accepted_by rows (map_at d s) buffer z)).0

  -- writes the map of the seat, in the new form,
  pub writing_writes_the_map : bytes_from d s buffer ≡ map_at d s
  unfolding written_of buffer_of
  writing_writes_the_map = front_written (rows_at d (asking s (writing (length buffer)))) (map_at d s) buffer z

  -- and leaves the bytes after it as they were.
  pub writing_leaves_later_bytes : drop (bytes_of (written_of d s buffer).answer) (buffer_of d s buffer) ≡ drop (bytes_of (written_of d s buffer).answer) buffer
  unfolding written_of buffer_of
  writing_leaves_later_bytes = rest_stays (rows_at d (asking s (writing (length buffer)))) (map_at d s) buffer

-- ---- written, then opened

-- 28, 1, 3, 4 and 5 on a desk: where none of them holds, the desk can take the job at that seat.
abbrev pub taking_at : Desk → ℕ → ℕ → List Row
taking_at e t job = taking_rows (not (sound e)) t (seat_of e t).opened job (jobs_of e)

-- A map whose reading is known is accepted where the desk can take it,
opens_so : (e : Desk) (t job : ℕ) (form : Form) (map : List ℕ) (l : List Pin) → read_map form map job ≡ read_as l → NoneHolds (taking_at e t job)
    → answer_of e (opening t job form map) ≡ Ok tt
unfolding answer_of read_map
opens_so e t job form map l r n = none_first (taking_at e t job) (map_rows form map job) n ∙ sym (read_passed (map_rows form map job) form map r).0

-- and opens there.
pub opens_as : (e : Desk) (t job : ℕ) (form : Form) (map : List ℕ) (l : List Pin) → read_map form map job ≡ read_as l → NoneHolds (taking_at e t job)
    → step e (opening t job form map) ≡ record { desk = with_seat e t (open_seat job l); verdict = Ok tt }
unfolding step effect choose accepted
opens_as e t job form map l r n = rw (opens_so e t job form map l r n, r)

-- A desk that can take it has that seat.
pub taking_low : (e : Desk) (t job : ℕ) → NoneHolds (taking_at e t job) → t < length e.seats
unfolding NoneHolds
taking_low e t job n =
    let h : sound e ≡ true = not-false _ n.0 in
    let k : t < most_seats = leb-false _ _ n.1.0 in
    omega (arith, eight_seats e h)

-- The map of an open seat of a sound desk opens in the new form under its job at any seat of any desk that can take it (28, 1, 3, 4 and 5 do not apply), with
-- the same pins, nets and part numbers.
pub map_of_a_seat_opens : (d e : Desk) (s t : ℕ) → sound d ≡ true → s < most_seats → (seat_of d s).opened ≡ true → NoneHolds (taking_at e t (seat_of d s).job)
    → step e (opening t (seat_of d s).job New (map_at d s)) ≡ record { desk = with_seat e t (open_seat (seat_of d s).job (seat_of d s).pins); verdict = Ok tt }
map_of_a_seat_opens d e s t h k o n =
    opens_as e t (seat_of d s).job New (map_at d s) (seat_of d s).pins (new_opens (seat_of d s).job (seat_of d s).pins (pins_lawful d h s k o)) n

module _ (d e : Desk) (s t : ℕ) (buffer : List ℕ) (z : is_ok (written_of d s buffer).answer ≡ true) (n : NoneHolds (taking_at e t (seat_of d s).job)) where
  -- The bytes that an accepted writing wrote open in the new form under the seat's job at any seat of any desk that can take it,
  pub written_map_opens : step e (opening t (seat_of d s).job New (bytes_from d s buffer))
      ≡ record { desk = with_seat e t (open_seat (seat_of d s).job (seat_of d s).pins); verdict = Ok tt }
  written_map_opens =
      let w = written_open d s buffer z in
      rw (writing_writes_the_map d s buffer z) (map_of_a_seat_opens d e s t (not-false _ w.unbroken) w.low w.shown n)

  -- with the same pins, nets and part numbers.
  pub written_map_same_pins : (seat_of (step e (opening t (seat_of d s).job New (bytes_from d s buffer))).desk t).pins ≡ (seat_of d s).pins
  written_map_same_pins =
      ap (λ (x : Answered). (seat_of x.desk t).pins) written_map_opens
      ∙ ap (λ (q : Seat). q.pins) (get_or-set_same e.seats t (open_seat (seat_of d s).job (seat_of d s).pins) no_seat (taking_low e t (seat_of d s).job n))

-- After any calls from the empty desk, each stating a job of two bytes, a map of bytes and a part number of four, WHAT WAS WRITTEN FROM A SEAT IS MADE OF
-- BYTES, AND OPENS in the new form under the seat's job at any seat of any desk that can take it, with the same pins, nets and part numbers.
pub map_written_after_calls_opens : (calls : List Call) (e : Desk) (s t : ℕ) (buffer : List ℕ) → CallsFit calls
    → is_ok (written_of (after empty_desk calls) s buffer).answer ≡ true → NoneHolds (taking_at e t (seat_of (after empty_desk calls) s).job)
    → Bytes (bytes_from (after empty_desk calls) s buffer)
    × (step e (opening t (seat_of (after empty_desk calls) s).job New (bytes_from (after empty_desk calls) s buffer))
    ≡ record { desk = with_seat e t (open_seat (seat_of (after empty_desk calls) s).job (seat_of (after empty_desk calls) s).pins); verdict = Ok tt })
map_written_after_calls_opens calls e s t buffer c z n =
    let d = after empty_desk calls in
    let w = written_open d s buffer z in
    let f = seat_fits calls c s w.low w.shown in
    let b = map_bytes New (seat_of d s).job (seat_of d s).pins f.0 (open_lawful d s w) f.1 in
    (subst Bytes (sym (writing_writes_the_map d s buffer z)) b, written_map_opens d e s t buffer z n)

-- ---- opened, then written

module _ (d : Desk) (s job : ℕ) (map buffer : List ℕ) (calls : List Call) where
  -- What is written from a seat that a map of some form was opened at, before any accepted edit or closing of it: the map, in the new form, of the pins that
  -- were read.
  opened_then_written : (form : Form) → accepted (step d (opening s job form map)).verdict ≡ true
      → NoneAt is_edit_or_closing (step d (opening s job form map)).desk s calls
      → is_ok (written_of (after (step d (opening s job form map)).desk calls) s buffer).answer ≡ true
      → bytes_from (after (step d (opening s job form map)).desk calls) s buffer ≡ map_of New job (pins_of (read_map form map job))
  opened_then_written form z e w =
      let o = opened_seat d s job form map z in
      let q : seat_of (after (step d (opening s job form map)).desk calls) s ≡ open_seat job (pins_of (read_map form map job)) =
      same_until_edit calls (step d (opening s job form map)).desk s (ap (λ (x : Seat). x.opened) o) (ap (λ (x : Seat). x.standing) o)
      (opened_without_edits d s job form map z) e ∙ o in
      writing_writes_the_map (after (step d (opening s job form map)).desk calls) s buffer w ∙ ap (λ (x : Seat). map_of New x.job x.pins) q

  -- A NEW MAP THAT WAS OPENED, WRITTEN BEFORE ANY ACCEPTED EDIT (placing, moving, removing) OR CLOSING OF ITS SEAT, GIVES THE SAME BYTES: whatever other calls
  -- came between, undo and redo too.
  pub opened_map_written : Bytes map → accepted (step d (opening s job New map)).verdict ≡ true
      → NoneAt is_edit_or_closing (step d (opening s job New map)).desk s calls
      → is_ok (written_of (after (step d (opening s job New map)).desk calls) s buffer).answer ≡ true
      → bytes_from (after (step d (opening s job New map)).desk calls) s buffer ≡ map
  opened_map_written b z e w = opened_then_written New z e w ∙ same_bytes New job map b (opened_map_read d s job New map z)

  -- AN OLD MAP, WRITTEN SO, GIVES THE BYTES OF ITS MOVED-OVER FORM,
  pub opened_old_map_written : accepted (step d (opening s job Old map)).verdict ≡ true
      → NoneAt is_edit_or_closing (step d (opening s job Old map)).desk s calls
      → is_ok (written_of (after (step d (opening s job Old map)).desk calls) s buffer).answer ≡ true
      → bytes_from (after (step d (opening s job Old map)).desk calls) s buffer ≡ map_moved New job map
  opened_old_map_written z e w = opened_then_written Old z e w ∙ ap (map_of New job) (read_pins_lem New job map (opened_map_read d s job Old map z))

  -- those that moving it over writes, where it is accepted.
  pub opened_old_map_written_as_moved : (lent : List ℕ) → is_ok (moved_of New job map lent) ≡ true
      → accepted (step d (opening s job Old map)).verdict ≡ true → NoneAt is_edit_or_closing (step d (opening s job Old map)).desk s calls
      → is_ok (written_of (after (step d (opening s job Old map)).desk calls) s buffer).answer ≡ true
      → bytes_from (after (step d (opening s job Old map)).desk calls) s buffer ≡ bytes_moved New job map lent
  opened_old_map_written_as_moved lent m z e w = opened_old_map_written z e w ∙ sym (moving_writes_the_map New job map lent m)
