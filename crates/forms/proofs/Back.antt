-- A map that was moved opens to the same pins, and moved back gives the bytes that it had: over then back the old ones, back then over the new. From the round
-- trip of pin maps; assumes nothing.
use mathlib.Core.Path.{◌≡◌, refl, sym, ap, ◌∙◌}
use mathlib.Core.Bool.{true, false}
use mathlib.Core.List.{List}
use Prim.Native.Nat.{ℕ, ◌≤◌}
use borrow.Author.Tests.{eqb-false, le-ltb, not-false}
use lib.ListN.{length, drop}
use Rattle.basics.specs.Tests.{each_of}
use Rattle.basics.proofs.Tests.{opposite}
use Rattle.std.specs.Prelude.{Result, Ok, Err, is_ok}
use Rattle.refusal.specs.declared.Refusal.{Refusal}
use Rattle.refusal.specs.Refusals.{Verdict, accepted}
use Rattle.refusal.specs.Rows.{first_of, granted, NoneHolds}
use Rattle.refusal.proofs.Rows.{none-holds, none_before, none_after, none-accepted, goes, miss, no_row}
use Rattle.drawing.specs.Pins.{Pin}
use Rattle.pinmap.specs.declared.Form.{Form}
use Rattle.pinmap.specs.declared.Form.TheVariants.{Old, New}
use Rattle.pinmap.specs.Map.{Bytes, holds}
use Rattle.readmap.specs.Map.{map_rows, under_rows, read_as, read_map, pins_of}
use Rattle.writemap.specs.Map.{map_of, room_rows, bytes_of}
use Rattle.writemap.proofs.Written.{accepted_by, front_written, rest_stays, refused_stays}
use Rattle.readmap.proofs.Judging.{under_passed, under_job, read_passed}
use Rattle.roundtrip.proofs.Holding.{new_holds}
use Rattle.roundtrip.proofs.RoundTrip.{moved_opens, read_held, same_bytes}
use Rattle.forms.specs.Moving.{other_than, form_rows, later_rows, pins_moved, moving_rows, map_moved, moved_of, buffer_moved, bytes_moved}
use Rattle.forms.proofs.Moving.{under_apart, form_apart}
use Rattle.forms.proofs.Rows.{moving_apart}

-- ---- a refused moving

module _ (to : Form) (job : ℕ) (map buffer : List ℕ) where
  -- A REFUSED MOVING WRITES NO BYTES AND LEAVES THE BUFFER AS IT WAS.
  pub refused_moving_leaves_the_buffer : is_ok (moved_of to job map buffer) ≡ false
      → (bytes_of (moved_of to job map buffer) ≡ 0) × (buffer_moved to job map buffer ≡ buffer)
  unfolding moved_of buffer_moved
  refused_moving_leaves_the_buffer n = refused_stays (moving_rows to job map (length buffer)) (map_moved to job map) buffer n

-- ---- an accepted moving

-- A map that opens gives the pins that its records give.
pub read_pins_lem : (to : Form) (job : ℕ) (map : List ℕ) → is_ok (read_map (other_than to) map job) ≡ true
    → pins_of (read_map (other_than to) map job) ≡ pins_moved to map
unfolding read_map
read_pins_lem to job map y = by (first_of (map_rows (other_than to) map job)) y
  where
    by : (v : Verdict) → is_ok (granted v (pins_moved to map)) ≡ true → pins_of (granted v (pins_moved to map)) ≡ pins_moved to map
    by (Ok tt) y = refl
    by (Err r) y = absurd (opposite y refl)

-- Where 22 does not apply, the form can hold the pins;
holds_passed : (to : Form) (l : List Pin) → NoneHolds (form_rows to l) → each_of (holds to) l ≡ true
unfolding NoneHolds
holds_passed Old l n = not-false _ n.0
holds_passed New l n = new_holds l

-- and where the form can hold them, it does not apply.
form_passes : (to : Form) (l : List Pin) → each_of (holds to) l ≡ true → Ok tt ≡ first_of (form_rows to l)
form_passes Old l h = miss _ _ (rw h refl) no_row
form_passes New l h = no_row

module _ (to : Form) (job : ℕ) (map buffer : List ℕ) (z : is_ok (moved_of to job map buffer) ≡ true) where
  -- The pins of the map.
  abbrev pins : List Pin
  pins = pins_moved to map

  -- None of the rows applies:
  none : NoneHolds (moving_rows to job map (length buffer))
  unfolding moved_of
  none =
      none-holds (moving_rows to job map (length buffer)) (moving_apart to job map (length buffer))
      (accepted_by (moving_rows to job map (length buffer)) (map_moved to job map) buffer z)

  -- 4, 13, 14 and 15 turn nothing away,
  read : accepted (first_of (under_rows (other_than to) map job)) ≡ true
  unfolding accepted
  read =
      ap accepted (none-accepted (under_rows (other_than to) map job)
      (none_before (under_rows (other_than to) map job) (later_rows to job pins (length buffer)) none))

  -- so that the map itself opens;
  pub moved_map_opens : is_ok (read_map (other_than to) map job) ≡ true
  unfolding accepted
  moved_map_opens = rw (← (under_passed (other_than to) map job read).1) (by (first_of (under_rows (other_than to) map job)) read)
    where
      by : (v : Verdict) → accepted v ≡ true → is_ok (granted v (pins_moved to map)) ≡ true
      by (Ok tt) y = refl
      by (Err r) y = absurd (opposite y refl)

  -- and the form to which it is moved can hold its pins.
  pub moved_held : each_of (holds to) pins ≡ true
  moved_held =
      holds_passed to pins
      (none_before (form_rows to pins) (room_rows to job pins (length buffer))
      (none_after (under_rows (other_than to) map job) (later_rows to job pins (length buffer)) none))

  -- The bytes written are its map in that form,
  pub moving_writes_the_map : bytes_moved to job map buffer ≡ map_moved to job map
  unfolding moved_of buffer_moved
  moving_writes_the_map = front_written (moving_rows to job map (length buffer)) (map_moved to job map) buffer z

  -- and the bytes after them stay as they were.
  pub moving_leaves_later_bytes : drop (bytes_of (moved_of to job map buffer)) (buffer_moved to job map buffer)
      ≡ drop (bytes_of (moved_of to job map buffer)) buffer
  unfolding moved_of buffer_moved
  moving_leaves_later_bytes = rest_stays (moving_rows to job map (length buffer)) (map_moved to job map) buffer

  -- BOTH OPEN TO THE SAME PINS: the bytes written open in that form, under the same job, with the pins of the map.
  pub moved_opens_alike : read_map to (bytes_moved to job map buffer) job ≡ read_as (pins_of (read_map (other_than to) map job))
  moved_opens_alike =
      let p = read_pins_lem to job map moved_map_opens in
      ap (λ (m : List ℕ). read_map to m job) (moving_writes_the_map ∙ ap (map_of to job) (sym p))
      ∙ moved_opens (other_than to) to job map (ap (each_of (holds to)) p ∙ moved_held)

  -- Moved back, in room for the map:
  module _ (from : Form) (f : other_than to ≡ from) (g : other_than from ≡ to) (c : List ℕ) (b : Bytes map) (room : length map ≤ length c) where
    -- the bytes that were written.
    abbrev there : List ℕ
    there = bytes_moved to job map buffer

    -- They are read,
    read_again : read_map (other_than from) there job ≡ read_as (pins_of (read_map (other_than to) map job))
    read_again = rw g moved_opens_alike

    -- the pins are those of the map,
    pins_again : pins_moved from there ≡ pins_of (read_map (other_than to) map job)
    pins_again = sym (read_pins_lem from job there (ap is_ok read_again)) ∙ ap pins_of read_again

    -- and make its bytes.
    map_again : map_moved from job there ≡ map
    map_again = ap (map_of from job) pins_again ∙ rw (sym f) (same_bytes (other_than to) job map b moved_map_opens)

    -- No row applies,
    under_again : Ok tt ≡ first_of (under_rows (other_than from) there job)
    under_again =
        (read_passed (under_rows (other_than from) there job) (other_than from) there
        (sym (under_job (other_than from) there job (eqb-false job 0 (under_passed (other_than to) map job read).0)) ∙ read_again)).0

    -- 22 neither, since a form can hold what it was read from,
    form_again : Ok tt ≡ first_of (form_rows from (pins_moved from there))
    form_again = form_passes from (pins_moved from there) (rw (pins_again, sym f) (read_held (other_than to) job map))

    -- nor 19.
    room_again : Ok tt ≡ first_of (room_rows from job (pins_moved from there) (length c))
    room_again = miss _ _ (le-ltb (length c) (length (map_moved from job there)) (rw map_again room)) no_row

    -- MOVED THERE AND BACK, A MAP HAS ITS BYTES AGAIN: the moving is accepted,
    pub moved_back_accepted : is_ok (moved_of from job there c) ≡ true
    unfolding moved_of accepted
    moved_back_accepted =
        let l = pins_moved from there in
        ap (λ (v : Verdict). is_ok (granted v (length (map_moved from job there))))
        (sym (goes (under_rows (other_than from) there job) (later_rows from job l (length c)) (under_apart (other_than from) there job) under_again refl
        (goes (form_rows from l) (room_rows from job l (length c)) (form_apart from l) form_again refl room_again)))

    -- and gives these bytes.
    pub moved_back_bytes : bytes_moved from job there c ≡ map
    unfolding moved_of buffer_moved
    moved_back_bytes = front_written (moving_rows from job there (length c)) (map_moved from job there) c moved_back_accepted ∙ map_again

-- MOVING OVER SETS NET 1 AND PART NUMBER 0: the pins of what was moved have these.
pub over_sets_net_1 : (job : ℕ) (map buffer : List ℕ) → is_ok (moved_of New job map buffer) ≡ true
    → each_of (holds Old) (pins_of (read_map New (bytes_moved New job map buffer) job)) ≡ true
over_sets_net_1 job map buffer z =
    ap (λ (r : Result (List Pin) Refusal). each_of (holds Old) (pins_of r)) (moved_opens_alike New job map buffer z) ∙ read_held Old job map

-- ---- by name

module _ (job : ℕ) (map buffer c : List ℕ) (b : Bytes map) (room : length map ≤ length c) where
  -- OVER THEN BACK GIVES THE OLD BYTES.
  pub over_then_back : is_ok (moved_of New job map buffer) ≡ true
      → (is_ok (moved_of Old job (bytes_moved New job map buffer) c) ≡ true) × (bytes_moved Old job (bytes_moved New job map buffer) c ≡ map)
  over_then_back z = (moved_back_accepted New job map buffer z Old refl refl c b room, moved_back_bytes New job map buffer z Old refl refl c b room)

  -- BACK THEN OVER GIVES THE NEW BYTES.
  pub back_then_over : is_ok (moved_of Old job map buffer) ≡ true
      → (is_ok (moved_of New job (bytes_moved Old job map buffer) c) ≡ true) × (bytes_moved New job (bytes_moved Old job map buffer) c ≡ map)
  back_then_over z = (moved_back_accepted Old job map buffer z New refl refl c b room, moved_back_bytes Old job map buffer z New refl refl c b room)
