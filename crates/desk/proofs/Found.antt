-- What a call finds is what it looks at on the desk: the rows of what is found answer as the call is answered. Assumes nothing.
use mathlib.Core.Path.{◌≡◌, refl, ap, sym, ◌∙◌}
use mathlib.Core.Bool.{Bool, true, false}
use mathlib.Core.List.{List}
use Prim.Native.Nat.{ℕ, ◌-◌, ◌<◌, ◌≤◌}
use native.Mathlib.Omega.{arith}
use borrow.Author.Tests.{lt-leb, not-false}
use lib.Dec.{leb}
use lib.ListN.{length}
use Rattle.basics.specs.Tests.{choose}
use Rattle.basics.proofs.Tests.{choose_no}
use Rattle.refusal.specs.Refusals.{accepted}
use Rattle.refusal.specs.Rows.{first_of, granted}
use Rattle.std.specs.Prelude.{Ok, Err}
use Rattle.refusal.specs.Refusals.{Verdict}
use Rattle.edits.specs.declared.stated.Making.{Making}
use Rattle.edits.specs.Changes.{pin_of}
use Rattle.edits.specs.Stated.{edit_of}
use Rattle.edits.proofs.Changing.{proper_number}
use Rattle.edits.proofs.Making.{makeable-proper}
use Rattle.board.specs.Spots.{most_pins}
use Rattle.pinmap.specs.declared.Form.{Form}
use Rattle.drawing.specs.Pins.{Pin, no_pins}
use Rattle.readmap.specs.Map.{records_of, with_pins_of, map_rows, read_by, read_map, pins_of}
use Rattle.writemap.specs.Map.{verdict_of}
use Rattle.journal.specs.Journal.{most_seats, most_records, own, kept}
use Rattle.journal.proofs.Own.{kept-length}
use Rattle.seats.specs.Seats.{taken_back_count}
use Rattle.rows.specs.declared.Found.{Found}
use Rattle.rows.specs.Calls.{Call, seat_in, opening, making, undoing, redoing}
use Rattle.rows.specs.Refusals.{Look, rows_of}
use Rattle.rows.specs.Found.{found_in}
use Rattle.rows.proofs.Rows.{above_alike, seat_low, granted_ok}
use Rattle.rows.proofs.Passed.{Passes, passes}
use Rattle.desk.specs.declared.Desk.{Desk}
use Rattle.desk.specs.Desk.{seat_of, in_use, edits_of, jobs_of, look_at, sound, answer_of}
use Rattle.desk.proofs.Sound.{used_within, standing_within, pins_lawful, in_use_length}

-- What a call finds on a desk.
abbrev pub found_at : Desk → ℕ → Found
found_at d s = found_in d.seats d.journal s

-- What a call looks at, as it is found.
abbrev pub look_found : Desk → Found → Look
look_found d f =
    record {
      broken = f.broken;
      seat = f.seat;
      opened = f.state.opened;
      job = f.state.job;
      pins = f.state.pins;
      standing = f.state.standing;
      taken_back = taken_back_count f.state (own f.seat (in_use d));
      jobs = jobs_of d;
      used = d.journal.used;
    }

-- At one of the eight seats it is what the desk has there,
look_same : (d : Desk) (s : ℕ) → leb most_seats s ≡ false → look_found d (found_at d s) ≡ look_at d s
unfolding sound choose
look_same d s h = rw h

-- and above 7 nothing else matters.
found_same : (d : Desk) (c : Call) → first_of (rows_of (look_found d (found_at d (seat_in c))) c) ≡ answer_of d c
unfolding sound answer_of
found_same d c = by (leb most_seats (seat_in c)) refl
  where
    by : (t : Bool) → leb most_seats (seat_in c) ≡ t
        → first_of (rows_of (look_found d (found_at d (seat_in c))) c) ≡ first_of (rows_of (look_at d (seat_in c)) c)
    by true h = above_alike (look_found d (found_at d (seat_in c))) (look_at d (seat_in c)) c refl refl h
    by false h = ap (λ (l : Look). first_of (rows_of l c)) (look_same d (seat_in c) h)

-- A call whose rows were asked of what was found.
module _ (d : Desk) (c : Call) {f : Found} (g : f ≡ found_at d (seat_in c)) {v : Verdict} (e : v ≡ first_of (rows_of (look_found d f) c)) where
  -- It is answered so.
  pub found_answer : answer_of d c ≡ v
  found_answer = sym (e ∙ ap (λ (q : Found). first_of (rows_of (look_found d q) c)) g ∙ found_same d c)

  module _ (y : accepted v ≡ true) where
    -- Accepted, it is so on the desk,
    accepts : accepted (first_of (rows_of (look_at d (seat_in c)) c)) ≡ true
    unfolding answer_of
    accepts = ap accepted found_answer ∙ y

    -- where it has passed all that its rows ask;
    pub found_passes : Passes (look_at d (seat_in c)) c
    found_passes = passes (look_at d (seat_in c)) c accepts

    -- the desk is sound,
    pub found_sound : sound d ≡ true
    found_sound = not-false _ (seat_low (look_at d (seat_in c)) c accepts).0

    -- the seat is one of its eight,
    pub found_low : seat_in c < most_seats
    found_low = (seat_low (look_at d (seat_in c)) c accepts).1

    -- and that seat was found.
    pub found_seat : f.state ≡ seat_of d (seat_in c)
    found_seat = ap (λ (q : Found). q.state) g ∙ choose_no _ _ (lt-leb most_seats (seat_in c) found_low)

-- ---- what undo, redo and an edit ask

-- The used count of a desk that is not broken is in its range.
pub used_fits : (d : Desk) (s : ℕ) {f : Found} → f ≡ found_at d s → f.broken ≡ false → d.journal.used ≤ most_records
unfolding sound
used_fits d s g k = used_within d (not-false _ (rw g at k))

module _ (d : Desk) (s : ℕ) {f : Found} (g : f ≡ found_at d s) {v : Verdict} (y : accepted v ≡ true) where
  -- Undo: an edit stands, and the seat owns it.
  pub undo_fits : v ≡ first_of (rows_of (look_found d f) (undoing s))
      → (d.journal.used ≤ most_records) × (0 < (seat_of d s).standing) × ((seat_of d s).standing ≤ length (edits_of d s))
  unfolding Passes
  undo_fits e =
      let p = found_passes d (undoing s) g e y in
      let k = found_sound d (undoing s) g e y in
      let z : (seat_of d s).standing ≡ 0 → ⊥ = p.1 in
      (used_within d k, omega (arith, z), standing_within d k s p.0.low p.0.shown)

  -- Redo: the seat owns an edit that does not stand.
  pub redo_fits : v ≡ first_of (rows_of (look_found d f) (redoing s)) → (d.journal.used ≤ most_records) × ((seat_of d s).standing < length (edits_of d s))
  unfolding Passes
  redo_fits e =
      let z : length (edits_of d s) - (seat_of d s).standing ≡ 0 → ⊥ = (found_passes d (redoing s) g e y).1 in
      (used_within d (found_sound d (redoing s) g e y), omega (arith, z))

  -- An edit: the seat is open, and the journal has room for one record once the seat's taken-back ones are freed.
  pub edit_fits : (m : Making) → v ≡ first_of (rows_of (look_found d f) (making s m))
      → (sound d ≡ true) × (s < most_seats) × (f.state ≡ seat_of d s) × ((seat_of d s).opened ≡ true)
      × (length (kept s f.state.standing (in_use d)) < most_records)
  unfolding Passes
  edit_fits m e =
      let p = found_passes d (making s m) g e y in
      let k = found_sound d (making s m) g e y in
      let q = found_seat d (making s m) g e y in
      let z : d.journal.used - (length (edits_of d s) - (seat_of d s).standing) ≡ most_records → ⊥ = p.room in
      let w : length (kept s (seat_of d s).standing (in_use d)) < most_records =
      omega (arith, z, kept-length s (seat_of d s).standing (in_use d), in_use_length d k, used_within d k) in
      (k, p.reaches.low, q, p.reaches.shown, rw q w)

  -- It names one of the 32 pins.
  pub edit_low : (m : Making) → v ≡ first_of (rows_of (look_found d f) (making s m)) → pin_of (edit_of f.state.pins m) < most_pins
  unfolding Passes
  edit_low m e =
      let p = found_passes d (making s m) g e y in
      let l = pins_lawful d (found_sound d (making s m) g e y) s p.reaches.low p.reaches.shown in
      rw (found_seat d (making s m) g e y) (proper_number _ (makeable-proper _ _ (p.fits l)))

-- What is read behind rows that accept is what was asked for.
read_there : (v : Verdict) (l : List Pin) → accepted (verdict_of (granted v l)) ≡ true → l ≡ pins_of (granted v l)
unfolding accepted
read_there (Ok a) l e = refl
read_there (Err r) l e = cc

-- What opening read, where it is accepted: the seat is one of the eight, and the pins are those of the map.
pub record Read (d : Desk) (s job : ℕ) (form : Form) (map : List ℕ) (f : Found) (l : List Pin) : Type 0 where
  pub passed : first_of (rows_of (look_found d f) (opening s job form map)) ≡ Ok tt
  pub low : s < most_seats
  pub pins : l ≡ pins_of (read_map form map job)

-- So it is where pins were read behind the rows of opening.
pub open_read : (d : Desk) (s job : ℕ) (form : Form) (map : List ℕ) {f : Found} → f ≡ found_at d s → {l : List Pin}
    → read_by (rows_of (look_found d f) (opening s job form map)) form map ≡ Ok l → Read d s job form map f l
unfolding Passes read_map accepted
open_read d s job form map {f} g e =
    let (y, t) = granted_ok (first_of (rows_of (look_found d f) (opening s job form map))) (with_pins_of form no_pins (records_of form map)) e in
    let p = found_passes d (opening s job form map) g refl (ap accepted y) in
    record {
      passed = y;
      low = found_low d (opening s job form map) g refl (ap accepted y);
      pins = t ∙ read_there (first_of (map_rows form map job)) (with_pins_of form no_pins (records_of form map)) p.read;
    }
