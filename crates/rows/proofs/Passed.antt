-- What an accepted call has passed: of each row of refusals, that its condition does not hold; so an accepted edit can be made.
-- From the rows of each call and the laws of edits; assumes nothing.
use mathlib.Core.Path.{◌≡◌, refl, ap}
use mathlib.Core.Bool.{true, false}
use mathlib.Core.List.{List, ◌++◌}
use Prim.Native.Nat.{ℕ, ◌-◌, ◌<◌}
use borrow.Author.Tests.{not-false, eqb-false, leb-false}
use lib.Dec.{leb}
use Rattle.std.specs.Prelude.{None, Some}
use Rattle.basics.proofs.Tests.{either-false}
use Rattle.refusal.specs.Refusals.{Verdict, accepted}
use Rattle.refusal.specs.Rows.{Row, first_of, NoneHolds, granted}
use Rattle.refusal.proofs.Rows.{none-accepted, none-holds, none_before, none_after}
use Rattle.board.specs.declared.Place.{Place}
use Rattle.board.specs.Place.{same_place}
use Rattle.board.specs.Spots.{most_pins}
use Rattle.edits.specs.declared.stated.Making.{Making}
use Rattle.edits.specs.declared.stated.Making.TheVariants.{Placing, Moving, Removing}
use Rattle.drawing.specs.Pins.{Pin, no_pins, there, pin_at, is_there, lawful, held_by, stands_at}
use Rattle.edits.specs.Edits.{makeable}
use Rattle.edits.specs.Stated.{edit_of}
use Rattle.edits.proofs.Changing.{placed_makeable, moved_makeable, removed_makeable}
use Rattle.pinmap.specs.declared.Form.{Form}
use Rattle.readmap.specs.Map.{records_of, with_pins_of, map_rows, read_map}
use Rattle.writemap.specs.Map.{verdict_of}
use Rattle.journal.specs.Journal.{most_seats, most_records}
use Rattle.seats.specs.Seats.{job_among}
use Rattle.rows.specs.Calls.{Call, opening, closing, making, undoing, redoing, asking}
use Rattle.rows.specs.Refusals.{Look, naming_rows, full_row, undoing_row, redoing_row, asking_rows, rows_of}
use Rattle.pinrows.specs.PinRows.{not_there, making_rows}
use Rattle.rows.proofs.Rows.{SeatOpen, seat_open, rows_apart}

-- The rows 28, 1 and 2 are passed.
abbrev pub OpenSeat : Look → Type 0
OpenSeat l = SeatOpen l.broken l.seat l.opened

-- An accepted opening: the seat is closed, the job is not 0 and open nowhere, and the map is read.
pub record Opens (l : Look) (job : ℕ) (form : Form) (map : List ℕ) : Type 0 where
  pub unbroken : l.broken ≡ false
  pub low : l.seat < most_seats
  pub shown : l.opened ≡ false
  pub set : job ≡ 0 → ⊥
  pub fresh : job_among job l.jobs ≡ false
  pub read : accepted (verdict_of (read_map form map job)) ≡ true

-- An accepted new edit: it can be made on pins that keep the rules, and the journal has room.
pub record Enters (l : Look) (m : Making) : Type 0 where
  pub reaches : OpenSeat l
  pub fits : lawful l.pins ≡ true → makeable l.pins (edit_of l.pins m) ≡ true
  pub room : l.used - l.taken_back ≡ most_records → ⊥

-- What an accepted call has passed.
unfoldable pub Passes : Look → Call → Type 0
Passes l (opening s job form map) = Opens l job form map
Passes l (closing s) = OpenSeat l
Passes l (making s m) = Enters l m
Passes l (undoing s) = OpenSeat l × (l.standing ≡ 0 → ⊥)
Passes l (redoing s) = OpenSeat l × (l.taken_back ≡ 0 → ⊥)
Passes l (asking s a) = OpenSeat l × NoneHolds (asking_rows l.job l.pins a)

-- ---- an edit that no row turns away can be made

-- A pin that is there, with what it holds.
pin_held : (q : Pin) → is_there q ≡ true → q ≡ there (held_by q)
unfolding is_there held_by
pin_held None e = cc
pin_held (Some h) e = refl

-- A pin that does not stand at a place holds another one.
pin_elsewhere : (q : Pin) (at : Place) → is_there q ≡ true → stands_at q at ≡ false → same_place (held_by q).place at ≡ false
unfolding is_there held_by stands_at
pin_elsewhere None at e n = cc
pin_elsewhere (Some h) at e n = n

-- The row 6 is passed: the pin is there.
is_there_lem : (l : List Pin) (p : ℕ) → not_there l p ≡ false → (p < most_pins) × (is_there (pin_at l p) ≡ true)
is_there_lem l p e = let f = either-false (leb most_pins p) _ e in (leb-false most_pins p f.0, not-false _ f.1)

-- Where no row of the pins applies, the edit can be made on pins that keep the rules.
makes : (l : List Pin) (m : Making) → NoneHolds (making_rows l m) → lawful l ≡ true → makeable l (edit_of l m) ≡ true
unfolding NoneHolds
makes l (Placing p h) n k = placed_makeable l k p (leb-false most_pins p n.0) h n.1.0 (not-false _ n.1.1.0) (not-false _ n.1.1.1.0) n.1.1.1.1.0
makes l (Moving p to) n k =
    let t = is_there_lem l p n.0 in
    let f = either-false (stands_at (pin_at l p) to) _ n.1.1.0 in
    moved_makeable l k p t.0 (held_by (pin_at l p)) (pin_held (pin_at l p) t.1) to
    (pin_elsewhere (pin_at l p) to t.1 f.0) (not-false _ n.1.0) f.1
makes l (Removing p) n k = let t = is_there_lem l p n.0 in removed_makeable l k p t.0 (held_by (pin_at l p)) (pin_held (pin_at l p) t.1)

-- ---- what is passed

-- Where neither 28, 1 and 2 nor what comes after them applies, the seat is open, and nothing of what comes after applies.
after_naming : (l : Look) (more : List Row) → NoneHolds (naming_rows l.broken l.seat l.opened ++ more) → OpenSeat l × NoneHolds more
after_naming l more n =
    let k = naming_rows l.broken l.seat l.opened in
    (seat_open l.broken l.seat l.opened (none_before k more n), none_after k more n)

-- Where no row of a call applies, so much is passed.
none_passes : (l : Look) (c : Call) → NoneHolds (rows_of l c) → Passes l c
unfolding Passes NoneHolds read_map accepted
none_passes l (opening s job form map) n =
    record {
      unbroken = n.0;
      low = leb-false _ _ n.1.0;
      shown = n.1.1.0;
      set = eqb-false _ _ n.1.1.1.0;
      fresh = n.1.1.1.1.0;
      read =
          ap (λ (v : Verdict). accepted (verdict_of (granted v (with_pins_of form no_pins (records_of form map)))))
          (none-accepted (map_rows form map job) n.1.1.1.1.1);
    }
none_passes l (closing s) n = seat_open l.broken l.seat l.opened n
none_passes l (making s m) n =
    let f = full_row l.used l.taken_back in
    let (o, r) = after_naming l (making_rows l.pins m ++ f) n in
    record {
      reaches = o;
      fits = makes l.pins m (none_before (making_rows l.pins m) f r);
      room = eqb-false _ _ (none_after (making_rows l.pins m) f r).0;
    }
none_passes l (undoing s) n = let (o, r) = after_naming l (undoing_row l.standing) n in (o, eqb-false _ _ r.0)
none_passes l (redoing s) n = let (o, r) = after_naming l (redoing_row l.taken_back) n in (o, eqb-false _ _ r.0)
none_passes l (asking s a) n = after_naming l (asking_rows l.job l.pins a) n

-- WHAT AN ACCEPTED CALL HAS PASSED.
pub passes : (l : Look) (c : Call) → accepted (first_of (rows_of l c)) ≡ true → Passes l c
passes l c y = none_passes l c (none-holds (rows_of l c) (rows_apart l c) y)
