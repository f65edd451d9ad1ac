-- Written and read, both ways, in either form. The map of a drawing that keeps the rules, in a form that can hold its pins, opens under its job with
-- the same pins; a map that opens is written in its form with the same bytes, and its pins keep the rules. From the laws of records, read forwards
-- and back. Assumes nothing.
use mathlib.Core.Path.{◌≡◌, refl, sym, ap, ◌∙◌}
use mathlib.Core.Bool.{Bool, true, false, false≢true}
use mathlib.Core.List.{List, [], ◌∷◌, ◌++◌}
use Prim.Native.Nat.{ℕ, ◌+◌, ◌/◌, ◌%◌, ◌<◌, ◌≤◌}
use native.Mathlib.Omega.{arith}
use lib.ListN.{length, take}
use borrow.Author.Tests.{ltb-true}
use Rattle.std.specs.Prelude.{Result, Ok, Err, None, Some, is_ok}
use Rattle.refusal.specs.declared.Refusal.{Refusal}
use Rattle.basics.specs.Tests.{both, either, any_of, each_of, no_two}
use Rattle.basics.proofs.Tests.{both_left, both_right}
use Rattle.board.specs.Spots.{most_pins, within, all_within, spots_too_near}
use Rattle.drawing.specs.Pins.{Pin, has_net, lawful, spot_of, spots_of, no_pins}
use Rattle.drawing.proofs.Rules.{lawful_parts}
use Rattle.pinmap.specs.declared.Form.{Form}
use Rattle.pinmap.specs.declared.Form.TheVariants.{Old, New}
use Rattle.pinmap.specs.Map.{record_size, Bytes, plain, holds, most_bytes, part_fits, parts_fit}
use Rattle.writemap.specs.Record.{pin_bytes}
use Rattle.readmap.specs.Map.{wrong_length, read_map, read_as, pins_of}
use Rattle.writemap.specs.Map.{map_from, map_of, room_rows, write_map, buffer_after, bytes_of}
use Rattle.pinmap.proofs.Sizes.{most_records_lem, whole_count}
use Rattle.readmap.proofs.Judging.{turned_away, right_read}
use Rattle.readmap.proofs.Lengths.{right_length, length_right}
use Rattle.writemap.proofs.Written.{map_size, front_written}
use Rattle.roundtrip.proofs.Holding.{new_holds}
use Rattle.roundtrip.proofs.Records.{bytes_append, record_bytes_lem}
use Rattle.roundtrip.proofs.Opening.{upto_none, open_from}
use Rattle.roundtrip.proofs.Back.{Kept, Back, back_from}

-- ---- the map of a drawing

module _ (form : Form) (job : ℕ) (l : List Pin) where
  -- A drawing's map has at most as many bytes as its form allows,
  pub map_short : length l ≡ most_pins → length (map_of form job l) ≤ most_bytes form
  unfolding map_of
  map_short n = omega (arith, rw n at (map_size form job 0 l).0, most_records_lem form)

  -- and a whole number of records.
  pub map_whole : length (map_of form job l) % record_size form ≡ 0
  unfolding map_of
  map_whole = (map_size form job 0 l).1

  -- In a form that can hold its pins, it opens under its job with the same pins.
  pub map_opens : lawful l ≡ true → each_of (holds form) l ≡ true → read_map form (map_of form job l) job ≡ read_as l
  unfolding map_of
  map_opens e g =
      right_read form (map_from form job 0 l) job (right_length form (map_from form job 0 l) (map_short (lawful_parts l e).long) map_whole)
      ∙ open_from form job l e g most_pins 0 refl 0 0 no_pins (omega arith) (upto_none l)

-- So does its map in the new form, which can hold any pins.
pub new_opens : (job : ℕ) (l : List Pin) → lawful l ≡ true → read_map New (map_of New job l) job ≡ read_as l
new_opens job l e = map_opens New job l e (new_holds l)

-- What a map has for a pin on the board, of a net from 1 to 8 and with a part number of 32 bits, is made of bytes,
pin_bytes_lem : (form : Form) (job pin : ℕ) (q : Pin) → job < 65536 → pin < 256 → within (spot_of q) ≡ true → has_net q ≡ true → part_fits q ≡ true
    → Bytes (pin_bytes form job pin q)
unfolding pin_bytes within spot_of has_net part_fits
pin_bytes_lem form job pin None j p e n k = λ i. omega arith
pin_bytes_lem form job pin (Some held) j p e n k = record_bytes_lem form job pin held j p e n (ltb-true _ _ k)

-- and so is the map from any pin on.
bytes_from_lem : (form : Form) (job i : ℕ) (l : List Pin) → job < 65536 → i + length l ≤ 256 → all_within (spots_of l) ≡ true → each_of has_net l ≡ true
    → parts_fit l ≡ true → Bytes (map_from form job i l)
unfolding map_from each_of spots_of
bytes_from_lem form job i [] j h e n k = λ p. omega arith
bytes_from_lem form job i (q ∷ l) j h e n k =
    bytes_append (pin_bytes form job i q) (map_from form job (i + 1) l)
    (pin_bytes_lem form job i q j (omega arith) (both_left _ _ e) (both_left _ _ n) (both_left _ _ k))
    (bytes_from_lem form job (i + 1) l j (omega arith) (both_right _ _ e) (both_right _ _ n) (both_right _ _ k))

-- A drawing's map is made of bytes.
pub map_bytes : (form : Form) (job : ℕ) (l : List Pin) → job < 65536 → lawful l ≡ true → parts_fit l ≡ true → Bytes (map_of form job l)
unfolding map_of
map_bytes form job l j e k =
    let h = lawful_parts l e in
    bytes_from_lem form job 0 l j (omega (arith, h.long)) h.board h.nets k

-- ---- a map that opens

-- A drawing without pins keeps the rules,
pub no_pins_lawful : lawful no_pins ≡ true
unfolding lawful both spot_of spots_of each_of within no_two any_of spots_too_near either has_net
no_pins_lawful = refl

-- either form can hold it,
no_pins_held : (form : Form) → each_of (holds form) no_pins ≡ true
unfolding each_of both plain
no_pins_held Old = refl
no_pins_held New = refl

-- and no part number of it is too large.
no_pins_fit : parts_fit no_pins ≡ true
unfolding each_of both part_fits
no_pins_fit = refl

module _ (form : Form) (job : ℕ) (map : List ℕ) where
  -- Reading begins with no pin.
  kept-none : Kept form 0 no_pins
  kept-none = record { rules = no_pins_lawful; held = no_pins_held form; clear = λ k h. (upto_none no_pins).above k (omega arith) }

  -- A drawing without pins is written with no bytes.
  none_written : map_of form job no_pins ≡ []
  unfolding map_of map_from pin_bytes
  none_written = refl

  -- What a map that opens gives back: its length is right, since another would turn it away.
  back_read : (l : List Pin) → read_map form map job ≡ read_as l → Back form job map no_pins l
  back_read l a = by (wrong_length form map) refl
    where
      by : (t : Bool) → wrong_length form map ≡ t → Back form job map no_pins l
      by true e =
          let q = turned_away form map job e ∙ a in
          cc
      by false e =
          back_from form job (length map / record_size form) map 0 0 no_pins l (whole_count form (length map) (length_right form map e).1) kept-none
          (sym (right_read form map job e) ∙ a)

  -- A map opens where it is read with its pins,
  opens_with : is_ok (read_map form map job) ≡ true → read_map form map job ≡ read_as (pins_of (read_map form map job))
  opens_with a = by (read_map form map job) a
    where
      by : (x : Result (List Pin) Refusal) → is_ok x ≡ true → x ≡ read_as (pins_of x)
      by (Ok l) a = refl
      by (Err r) a = absurd (false≢true a)

  -- and gives back what it was read from.
  back_opened : is_ok (read_map form map job) ≡ true → Back form job map no_pins (pins_of (read_map form map job))
  back_opened a = back_read (pins_of (read_map form map job)) (opens_with a)

  -- A map that opens is written in its form with the same bytes.
  pub same_bytes : Bytes map → is_ok (read_map form map job) ≡ true → map_of form job (pins_of (read_map form map job)) ≡ map
  same_bytes b a = (back_opened a).bytes b ∙ ap (λ (m : List ℕ). m ++ map) none_written

  -- Its pins keep the rules of a drawing,
  pub opened_lawful : is_ok (read_map form map job) ≡ true → lawful (pins_of (read_map form map job)) ≡ true
  opened_lawful a = (back_opened a).rules

  -- are such as its form can hold,
  pub opened_held : is_ok (read_map form map job) ≡ true → each_of (holds form) (pins_of (read_map form map job)) ≡ true
  opened_held a = (back_opened a).held

  -- and their part numbers take four bytes at most.
  pub opened_parts : Bytes map → is_ok (read_map form map job) ≡ true → parts_fit (pins_of (read_map form map job)) ≡ true
  opened_parts b a = (back_opened a).parts b no_pins_fit

  -- ---- a map that does not open

  -- A map that is turned away gives no pins.
  pub refused_none : is_ok (read_map form map job) ≡ false → pins_of (read_map form map job) ≡ no_pins
  refused_none a = by (read_map form map job) a
    where
      by : (x : Result (List Pin) Refusal) → is_ok x ≡ false → pins_of x ≡ no_pins
      by (Ok l) a = absurd (false≢true (sym a))
      by (Err r) a = refl

  -- What holds of no pins and of those of a map that opens holds of what is handed back, whatever the map.
  by_verdict : (test : List Pin → Bool) → test no_pins ≡ true → (is_ok (read_map form map job) ≡ true → test (pins_of (read_map form map job)) ≡ true)
      → test (pins_of (read_map form map job)) ≡ true
  by_verdict test n f = by (is_ok (read_map form map job)) refl
    where
      by : (t : Bool) → is_ok (read_map form map job) ≡ t → test (pins_of (read_map form map job)) ≡ true
      by true e = f e
      by false e = rw (refused_none e) n

  -- Whatever the map, the pins that are handed back keep the rules,
  pub read_lawful : lawful (pins_of (read_map form map job)) ≡ true
  read_lawful = by_verdict lawful no_pins_lawful opened_lawful

  -- are such as its form can hold,
  pub read_held : each_of (holds form) (pins_of (read_map form map job)) ≡ true
  read_held = by_verdict (each_of (holds form)) (no_pins_held form) opened_held

  -- and have part numbers of four bytes at most.
  pub read_parts : Bytes map → parts_fit (pins_of (read_map form map job)) ≡ true
  read_parts b = by_verdict parts_fit no_pins_fit (opened_parts b)

-- ---- from one form to the other

module _ (from to : Form) (job : ℕ) (map : List ℕ) (h : each_of (holds to) (pins_of (read_map from map job)) ≡ true) where
  -- The pins of a map, written in a form that can hold them, are read there as they were,
  pub moved_opens : read_map to (map_of to job (pins_of (read_map from map job))) job ≡ read_as (pins_of (read_map from map job))
  moved_opens = map_opens to job (pins_of (read_map from map job)) (read_lawful from job map) h

-- ---- a map in a buffer

-- Where a writing is accepted, the bytes written, the front of the lent buffer, are the map.
pub bytes_written : (form : Form) (job : ℕ) (l : List Pin) (buffer : List ℕ) → is_ok (write_map form l job buffer) ≡ true
    → take (bytes_of (write_map form l job buffer)) (buffer_after form l job buffer) ≡ map_of form job l
unfolding write_map buffer_after
bytes_written form job l buffer a = front_written (room_rows form job l (length buffer)) (map_of form job l) buffer a

-- The bytes that were written open under their job with the same pins.
pub written_opens : (form : Form) (job : ℕ) (l : List Pin) (buffer : List ℕ) → lawful l ≡ true → each_of (holds form) l ≡ true
    → is_ok (write_map form l job buffer) ≡ true
    → read_map form (take (bytes_of (write_map form l job buffer)) (buffer_after form l job buffer)) job ≡ read_as l
written_opens form job l buffer e g a = ap (λ (m : List ℕ). read_map form m job) (bytes_written form job l buffer a) ∙ map_opens form job l e g

-- A map that opens and is written again gives its bytes.
pub opened_written : (form : Form) (job : ℕ) (map buffer : List ℕ) → Bytes map → is_ok (read_map form map job) ≡ true
    → is_ok (write_map form (pins_of (read_map form map job)) job buffer) ≡ true
    → take (bytes_of (write_map form (pins_of (read_map form map job)) job buffer)) (buffer_after form (pins_of (read_map form map job)) job buffer) ≡ map
opened_written form job map buffer b a c = bytes_written form job (pins_of (read_map form map job)) buffer c ∙ same_bytes form job map b a
