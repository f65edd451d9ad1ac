-- The map of a drawing that keeps the rules, in a form that can hold it, is read to that drawing: pin after pin, the pins below having been read.
-- From the laws of records and of drawings. Assumes nothing.
use mathlib.Core.Path.{◌≡◌, refl, sym, ap, ◌∙◌}
use mathlib.Core.Bool.{true, false}
use mathlib.Core.Logic.{⊎_elim}
use mathlib.Core.List.{List, [], ◌++◌}
use Prim.Native.Nat.{ℕ, zero, suc, ◌+◌, ◌/◌, ◌<◌, ◌≤◌}
use native.Mathlib.Omega.{arith}
use lib.ListN.{length, get_or, take, drop, set, length-append, length-set}
use lib.Seq.{get_or-set_same, get_or-set_other, ext_get_or, take_at, drop_at}
use Rattle.basics.specs.Tests.{each_of}
use Rattle.basics.proofs.Lists.{blank_at}
use Rattle.basics.proofs.Anyone.{none_by, each_at}
use Rattle.std.specs.Prelude.{None, Some}
use Rattle.board.specs.Place.{inside}
use Rattle.board.proofs.Flat.{order}
use Rattle.drawing.specs.declared.Held.{Held}
use Rattle.board.specs.Spots.{most_pins, spot_at, within, all_apart, spots_too_near, too_near_any}
use Rattle.drawing.specs.Pins.{Pin, absent, there, is_net, has_net, lawful, spot_of, spots_of, no_pins}
use Rattle.board.proofs.Rules.{spots_turned, apart_pair, within_at}
use Rattle.drawing.proofs.Rules.{lawful_parts, spots_at}
use Rattle.pinmap.specs.declared.Form.{Form}
use Rattle.records.specs.declared.MapRecord.{MapRecord}
use Rattle.pinmap.specs.Map.{record_size, holds}
use Rattle.writemap.specs.Record.{byte_for, record_bytes, pin_bytes}
use Rattle.readmap.specs.Map.{records_in, records_of, with_pin_of, read_as}
use Rattle.writemap.specs.Map.{map_from}
use Rattle.pinmap.proofs.Sizes.{size_range, none_left, count_more}
use Rattle.readmap.proofs.Judging.{read_from, read_none, read_goes}
use Rattle.records.proofs.Faults.{Faultless, no_fault}
use Rattle.writemap.proofs.Written.{record_length, net_at, map_next, map_end}
use Rattle.roundtrip.proofs.Holding.{holds-absent, part_given, same_held_lem, right_byte}
use Rattle.roundtrip.proofs.Records.{record_read}

-- The pins below i are those of the drawing, the others are absent.
pub record Upto (l : List Pin) (i : ℕ) (earlier : List Pin) : Type 0 where
  pub full : length earlier ≡ most_pins
  pub below : (j : ℕ) → j < i → get_or earlier j absent ≡ get_or l j absent
  pub above : (j : ℕ) → i ≤ j → get_or earlier j absent ≡ absent

-- Before the first pin of the drawing no pin has been read.
pub upto_none : (l : List Pin) → Upto l 0 no_pins
upto_none l = record { full = refl; below = λ j h. absurd (omega arith); above = λ j h. blank_at most_pins j absent }

-- After the last, the pins that were read are the drawing's.
upto_all : (l : List Pin) (i : ℕ) (earlier : List Pin) → length l ≡ most_pins → most_pins ≤ i → Upto l i earlier → earlier ≡ l
upto_all l i earlier n h u = ext_get_or absent earlier l (u.full ∙ sym n) (λ j k. u.below j (omega (arith, u.full)))

module _ (l : List Pin) (i : ℕ) (earlier : List Pin) (u : Upto l i earlier) where
  -- Pin i is absent: nothing is to be done for it.
  upto_skip : get_or l i absent ≡ absent → Upto l (i + 1) earlier
  upto_skip q =
      record {
        full = u.full;
        below = λ j h. ⊎_elim (λ (k : i ≤ j). same j (omega arith)) (λ (k : j < i). u.below j k) (order i j);
        above = λ j h. u.above j (omega arith);
      }
    where
      same : (j : ℕ) → j ≡ i → get_or earlier j absent ≡ get_or l j absent
      same j e = rw e (u.above i (omega arith) ∙ sym q)

  -- Pin i is there: it is put at its number.
  upto_put : i < most_pins → Upto l (i + 1) (set earlier i (get_or l i absent))
  upto_put n =
      record {
        full = length-set earlier i (get_or l i absent) ∙ u.full;
        below = λ j h. ⊎_elim (λ (k : i ≤ j). same j (omega arith)) (λ (k : j < i). other j (λ e. omega arith) ∙ u.below j k) (order i j);
        above = λ j h. other j (λ e. omega arith) ∙ u.above j (omega arith);
      }
    where
      other : (j : ℕ) → (j ≡ i → ⊥) → get_or (set earlier i (get_or l i absent)) j absent ≡ get_or earlier j absent
      other j h = get_or-set_other earlier i j (get_or l i absent) absent h

      same : (j : ℕ) → j ≡ i → get_or (set earlier i (get_or l i absent)) j absent ≡ get_or l j absent
      same j e = rw e (get_or-set_same earlier i (get_or l i absent) absent (omega (arith, u.full)))

  module _ (a : all_apart (spots_of l) ≡ true) (held : Held) (q : get_or l i absent ≡ there held) where
    -- Of the pins below none is near to pin i, and those above are absent.
    free_of : (j : ℕ) → spots_too_near (Some held.place) (spot_at (spots_of earlier) j) ≡ false
    unfolding spot_of spots_too_near
    free_of j =
        let s = Some held.place in
        let here : spot_at (spots_of l) i ≡ s = spots_at l i ∙ ap spot_of q in
        ap (spots_too_near s) (spots_at earlier j)
        ∙ ⊎_elim (λ (k : i ≤ j). ap (λ (p : Pin). spots_too_near s (spot_of p)) (u.above j k))
        (λ (k : j < i).
        ap (λ (p : Pin). spots_too_near s (spot_of p)) (u.below j k)
        ∙ ap (spots_too_near s) (sym (spots_at l j)) ∙ spots_turned s (spot_at (spots_of l) j)
        ∙ ap (spots_too_near (spot_at (spots_of l) j)) (sym here) ∙ apart_pair (spots_of l) j i a k)
        (order i j)

    -- So its place is not taken.
    place_free : too_near_any (Some held.place) (spots_of earlier) ≡ false
    place_free = none_by (spots_too_near (Some held.place)) None (spots_of earlier) free_of

-- The place of a pin of the drawing is on the board.
place_inside : (l : List Pin) (i : ℕ) (held : Held) → lawful l ≡ true → get_or l i absent ≡ there held → inside held.place ≡ true
unfolding within spot_of
place_inside l i held e q = ap within (sym (spots_at l i ∙ ap spot_of q)) ∙ within_at (spots_of l) i (lawful_parts l e).board

-- Its net is one from 1 to 8,
place_net : (l : List Pin) (i : ℕ) (held : Held) → lawful l ≡ true → get_or l i absent ≡ there held → is_net held.net ≡ true
unfolding has_net
place_net l i held e q = rw q at (net_at l i (lawful_parts l e).nets)

-- and a form that holds each pin of the drawing holds it.
place-holds : (form : Form) (l : List Pin) (i : ℕ) (held : Held) → each_of (holds form) l ≡ true → get_or l i absent ≡ there held
    → holds form (there held) ≡ true
place-holds form l i held g q = ap (holds form) (sym q) ∙ each_at (holds form) absent l i g (λ h. holds-absent form)

-- What the record of a pin says.
abbrev told : Form → ℕ → ℕ → Held → MapRecord
told form job pin held = record { job = job; pin = pin; byte3 = byte_for form held.net; place = held.place; part = part_given form held.part }

-- A record without a fault at the front is read, and then what follows it.
read_one : (form : Form) (left job number next pin : ℕ) (earlier : List Pin) (held : Held) (rest : List ℕ) → inside held.place ≡ true
    → holds form (there held) ≡ true → Faultless form job next earlier (told form job pin held)
    → read_from form job number next earlier (records_in form (suc left) (record_bytes form job pin held ++ rest))
    ≡ read_from form job (number + 1) (pin + 1) (set earlier pin (there held)) (records_in form left rest)
unfolding records_in with_pin_of
read_one form left job number next pin earlier held rest e g f =
    let b : List ℕ = record_bytes form job pin held in
    let n : length b ≡ record_size form = record_length form job pin held in
    let t : take (record_size form) (b ++ rest) ≡ b = take_at b rest (record_size form) n in
    let d : drop (record_size form) (b ++ rest) ≡ rest = drop_at b rest (record_size form) n in
    let r : MapRecord = told form job pin held in
    rw (t, d, record_read form job pin held e)
    (sym (read_goes form job number next earlier r (records_in form left rest) (sym (no_fault form job number next earlier r f)))
    ∙ rw (same_held_lem form held g))

module _ (form : Form) (job : ℕ) (l : List Pin) (e : lawful l ≡ true) (g : each_of (holds form) l ≡ true) where
  -- The map from pin i on is read to the drawing's pins, the pins below having been read.
  abbrev pub OpenFrom : ℕ → Type 0
  OpenFrom i =
      (number next : ℕ) (earlier : List Pin) → next ≤ i → Upto l i earlier
      → read_from form job number next earlier (records_of form (map_from form job i (drop i l))) ≡ read_as l

  -- If so from the next pin on, then from pin i on, which is absent or there.
  open_next : (i : ℕ) → i < most_pins → OpenFrom (i + 1) → (p : Pin) → get_or l i absent ≡ p → OpenFrom i
  unfolding pin_bytes
  open_next i n rec None q number next earlier h u =
      let rest : List ℕ = map_from form job (i + 1) (drop (i + 1) l) in
      let b : pin_bytes form job i (get_or l i absent) ≡ [] = ap (pin_bytes form job i) q in
      let m : map_from form job i (drop i l) ≡ rest =
      map_next form job l i (omega (arith, (lawful_parts l e).long)) ∙ ap (λ (b : List ℕ). b ++ rest) b in
      rw m (rec number next earlier (omega arith) (upto_skip l i earlier u q))
  open_next i n rec (Some held) q number next earlier h u =
      let rest : List ℕ = map_from form job (i + 1) (drop (i + 1) l) in
      let b : pin_bytes form job i (get_or l i absent) ≡ record_bytes form job i held = ap (pin_bytes form job i) q in
      let m : map_from form job i (drop i l) ≡ record_bytes form job i held ++ rest =
      map_next form job l i (omega (arith, (lawful_parts l e).long)) ∙ ap (λ (b : List ℕ). b ++ rest) b in
      let c : length (record_bytes form job i held ++ rest) / record_size form ≡ suc (length rest / record_size form) =
      rw (length-append (record_bytes form job i held) rest, record_length form job i held) (count_more form (length rest)) in
      let p : inside held.place ≡ true = place_inside l i held e q in
      let f : Faultless form job next earlier (told form job i held) =
      record {
        own_job = refl;
        pin_low = n;
        byte = right_byte form held.net (place_net l i held e q);
        on_board = p;
        above = h;
        free = place_free l i earlier u (lawful_parts l e).apart held q;
      } in
      rw (m, c)
      (read_one form (length rest / record_size form) job number next i earlier held rest p (place-holds form l i held g q) f
      ∙ rec (number + 1) (i + 1) (set earlier i (there held)) (omega arith) (rw q at (upto_put l i earlier u n)))

  -- So from every pin on.
  pub open_from : (k i : ℕ) → i + k ≡ most_pins → OpenFrom i
  unfolding records_in
  open_from zero i n number next earlier h u =
      rw (map_end form job l i (omega (arith, (lawful_parts l e).long)), none_left form 0 (omega (arith, size_range form)))
      (read_none form job number next earlier ∙ ap read_as (upto_all l i earlier (lawful_parts l e).long (omega arith) u))
  open_from (suc k) i n number next earlier h u =
      open_next i (omega arith) (open_from k (i + 1) (omega arith)) (get_or l i absent) refl number next earlier h u
