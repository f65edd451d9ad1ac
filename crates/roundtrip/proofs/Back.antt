-- A map that is read without a fault: its pins are written with the same bytes and keep the rules. By the records that are left, the pins so far
-- having been read from what was before. Assumes nothing.
use mathlib.Core.Path.{◌≡◌, refl, sym, ap, ◌∙◌}
use mathlib.Core.Bool.{true}
use mathlib.Core.Logic.{⊎_elim}
use mathlib.Core.List.{List, [], ◌∷◌, ◌++◌, append-nil, append_assoc}
use Prim.Native.Nat.{ℕ, zero, suc, ◌+◌, ◌*◌, ◌<◌, ◌≤◌}
use native.Mathlib.Omega.{arith}
use borrow.Author.Tests.{lt-ltb}
use lib.ListN.{length, get_or, take, drop, set, length-take, length-drop, take-append-drop, get_or-eq_default}
use lib.Seq.{get_or-set_other, get_or-take, get_or-drop}
use Rattle.std.specs.Prelude.{Ok, Err, Some}
use Rattle.refusal.specs.Refusals.{Verdict, accepted}
use Rattle.basics.specs.Tests.{each_of}
use Rattle.basics.proofs.Anyone.{each_set}
use Rattle.basics.proofs.Lists.{empty}
use Rattle.board.proofs.Flat.{order}
use Rattle.drawing.specs.declared.Held.{Held}
use Rattle.board.specs.Spots.{within}
use Rattle.board.proofs.Rules.{clear_other}
use Rattle.drawing.specs.Pins.{Pin, absent, there, has_net, lawful, spot_of, spots_of}
use Rattle.drawing.proofs.Rules.{lawful_parts, lawful-set}
use Rattle.pinmap.specs.declared.Form.{Form}
use Rattle.records.specs.declared.MapRecord.{MapRecord}
use Rattle.pinmap.specs.Map.{record_size, Bytes, holds, part_fits, parts_fit}
use Rattle.records.specs.Record.{record_of, held_of}
use Rattle.writemap.specs.Record.{record_bytes, pin_bytes}
use Rattle.readmap.specs.Map.{records_in, with_pin_of, read_as}
use Rattle.writemap.specs.Map.{map_from, map_of}
use Rattle.pinmap.proofs.Sizes.{one_more}
use Rattle.readmap.proofs.Judging.{read_from, read_none, read_stops, read_goes}
use Rattle.records.proofs.Faults.{judged, Faultless, faultless}
use Rattle.roundtrip.proofs.Holding.{holds-given, net_given_lem}
use Rattle.roundtrip.proofs.Records.{record_written, part_given_lem}

-- Where no pin is there, the map is empty.
map_clear : (form : Form) (job i : ℕ) (l : List Pin) → ((k : ℕ) → get_or l k absent ≡ absent) → map_from form job i l ≡ []
unfolding map_from pin_bytes
map_clear form job i [] f = refl
map_clear form job i (q ∷ l) f = rw (f 0) (map_clear form job (i + 1) l (λ k. f (suc k)))

-- A pin that is put where it and all pins above are absent adds its record at the end of the map.
map_put : (form : Form) (job i : ℕ) (l : List Pin) (p : ℕ) (held : Held) → p < length l → ((k : ℕ) → p ≤ k → get_or l k absent ≡ absent)
    → map_from form job i (set l p (there held)) ≡ map_from form job i l ++ record_bytes form job (i + p) held
unfolding map_from pin_bytes
map_put form job i [] p held h f = absurd (omega arith)
map_put form job i (q ∷ l) zero held h f =
    let z : i + 0 ≡ i = omega arith in
    let c : map_from form job (i + 1) l ≡ [] = map_clear form job (i + 1) l (λ k. f (suc k) (omega arith)) in
    rw (f 0 (omega arith), c, z) (append-nil (record_bytes form job i held))
map_put form job i (q ∷ l) (suc p) held h f =
    let z : i + 1 + p ≡ i + suc p = omega arith in
    let r = map_put form job (i + 1) l p held (omega arith) (λ k g. f (suc k) (omega arith)) in
    ap (λ (b : List ℕ). pin_bytes form job i q ++ b) (rw z at r)
    ∙ sym (append_assoc (pin_bytes form job i q) (map_from form job (i + 1) l) (record_bytes form job (i + suc p) held))

-- What is left of a list of bytes is one of bytes,
pub bytes_drop : (n : ℕ) (m : List ℕ) → Bytes m → Bytes (drop n m)
bytes_drop n m b i = rw (get_or-drop n m i 0) (b (n + i))

-- and so is its front.
bytes_take : (n : ℕ) (m : List ℕ) → Bytes m → Bytes (take n m)
bytes_take n m b i =
    ⊎_elim (λ (h : n ≤ i). rw (get_or-eq_default (take n m) 0 {n = i} (omega (arith, length-take n m))) (omega arith))
    (λ (h : i < n). rw (get_or-take n m i 0 h) (b i)) (order n i)

-- The pins so far: they keep the rules, the form can hold them, and none from `next` on is there.
pub record Kept (form : Form) (next : ℕ) (earlier : List Pin) : Type 0 where
  pub rules : lawful earlier ≡ true
  pub held : each_of (holds form) earlier ≡ true
  pub clear : (k : ℕ) → next ≤ k → get_or earlier k absent ≡ absent

-- A record without a fault keeps that: its pin joins them, and the next one is above it.
kept_next : (form : Form) (job next : ℕ) (earlier : List Pin) (bytes : List ℕ) → let r : MapRecord = record_of form bytes in
    Kept form next earlier → Faultless form job next earlier r → Kept form (r.pin + 1) (with_pin_of form earlier r)
unfolding with_pin_of within spot_of has_net
kept_next form job next earlier bytes s f =
    let r : MapRecord = record_of form bytes in
    let q : Pin = there (held_of form r) in
    record {
      rules = lawful-set earlier r.pin q s.rules (net_given_lem form r.byte3 f.byte) f.on_board
          (clear_other (Some r.place) (spots_of earlier) r.pin f.free);
      held = each_set (holds form) earlier r.pin q s.held (holds-given form bytes);
      clear = λ k h. get_or-set_other earlier r.pin k q absent (λ g. omega arith) ∙ s.clear k (omega (arith, f.above));
    }

-- The part number of its pin takes four bytes at most, where it is read from bytes.
parts_next : (form : Form) (earlier : List Pin) (bytes : List ℕ) → Bytes bytes → parts_fit earlier ≡ true
    → parts_fit (with_pin_of form earlier (record_of form bytes)) ≡ true
unfolding with_pin_of part_fits record_of
parts_next form earlier bytes b e =
    let r : MapRecord = record_of form bytes in
    each_set part_fits earlier r.pin (there (held_of form r)) e (lt-ltb _ _ (part_given_lem form bytes b))

-- What an accepted reading with these pins gives back.
pub record Back (form : Form) (job : ℕ) (m : List ℕ) (earlier l : List Pin) : Type 0 where
  pub bytes : Bytes m → map_of form job l ≡ map_of form job earlier ++ m
  pub rules : lawful l ≡ true
  pub held : each_of (holds form) l ≡ true
  pub parts : Bytes m → parts_fit earlier ≡ true → parts_fit l ≡ true

-- So many records, read to the end after any such pins, give that back.
abbrev pub BackFrom : Form → ℕ → ℕ → Type 0
BackFrom form job left =
    (m : List ℕ) (number next : ℕ) (earlier l : List Pin) → length m ≡ left * record_size form → Kept form next earlier
    → read_from form job number next earlier (records_in form left m) ≡ read_as l → Back form job m earlier l

-- If so many records give that back, so do one more, where the first is accepted.
back_next : (form : Form) (job left : ℕ) → BackFrom form job left
    → (m : List ℕ) (number next : ℕ) (earlier l : List Pin) → length m ≡ suc left * record_size form → Kept form next earlier
    → accepted (judged form job number next earlier (record_of form (take (record_size form) m))) ≡ true
    → let r : MapRecord = record_of form (take (record_size form) m) in
    read_from form job (number + 1) (r.pin + 1) (with_pin_of form earlier r) (records_in form left (drop (record_size form) m)) ≡ read_as l
    → Back form job m earlier l
unfolding map_of with_pin_of
back_next form job left rec m number next earlier l n s a c =
    let part : List ℕ = take (record_size form) m in
    let more : List ℕ = drop (record_size form) m in
    let r : MapRecord = record_of form part in
    let o : suc left * record_size form ≡ record_size form + left * record_size form = one_more form left in
    let w : length part ≡ record_size form = omega (arith, length-take (record_size form) m) in
    let f : Faultless form job next earlier r = faultless form job number next earlier r a in
    let g : Back form job more (with_pin_of form earlier r) l =
    rec more (number + 1) (r.pin + 1) (with_pin_of form earlier r) l (omega (arith, length-drop (record_size form) m))
    (kept_next form job next earlier part s f) c in
    let z : 0 + r.pin ≡ r.pin = omega arith in
    let p : Bytes m → map_from form job 0 (set earlier r.pin (there (held_of form r))) ≡ map_from form job 0 earlier ++ part =
    λ b.
    map_put form job 0 earlier r.pin (held_of form r) (omega (arith, f.pin_low, (lawful_parts earlier s.rules).long))
    (λ k h. s.clear k (omega (arith, f.above)))
    ∙ ap (λ (x : List ℕ). map_from form job 0 earlier ++ x) (rw z (record_written form part job next earlier w (bytes_take (record_size form) m b) f)) in
    record {
      bytes = λ b.
          g.bytes (bytes_drop (record_size form) m b) ∙ ap (λ (x : List ℕ). x ++ more) (p b)
          ∙ append_assoc (map_from form job 0 earlier) part more
          ∙ ap (λ (x : List ℕ). map_from form job 0 earlier ++ x) (take-append-drop (record_size form) m);
      rules = g.rules;
      held = g.held;
      parts = λ b k. g.parts (bytes_drop (record_size form) m b) (parts_next form earlier part (bytes_take (record_size form) m b) k);
    }

-- The first of them was accepted, since a faulty one would end the reading.
back_by : (form : Form) (job left : ℕ) → BackFrom form job left
    → (m : List ℕ) (number next : ℕ) (earlier l : List Pin) → length m ≡ suc left * record_size form → Kept form next earlier
    → read_from form job number next earlier (records_in form (suc left) m) ≡ read_as l
    → (v : Verdict) → v ≡ judged form job number next earlier (record_of form (take (record_size form) m)) → Back form job m earlier l
unfolding records_in accepted
back_by form job left rec m number next earlier l n s a (Ok tt) e =
    back_next form job left rec m number next earlier l n s (ap accepted (sym e))
    (read_goes form job number next earlier (record_of form (take (record_size form) m)) (records_in form left (drop (record_size form) m)) e ∙ a)
back_by form job left rec m number next earlier l n s a (Err x) e =
    let q = read_stops form job number next earlier (record_of form (take (record_size form) m)) (records_in form left (drop (record_size form) m)) e ∙ a in
    cc

-- So it is with any number of records.
pub back_from : (form : Form) (job left : ℕ) → BackFrom form job left
unfolding records_in
back_from form job zero m number next earlier l n s a =
    let e : earlier ≡ l = same_as (sym (read_none form job number next earlier) ∙ a) in
    rw (← e)
    record {
      bytes = λ b. sym (rw (empty m (omega arith)) (append-nil (map_of form job earlier)));
      rules = s.rules;
      held = s.held;
      parts = λ b k. k;
    }
  where
    same_as : read_as earlier ≡ read_as l → earlier ≡ l
    same_as q = cc
back_from form job (suc left) m number next earlier l n s a =
    back_by form job left (back_from form job left) m number next earlier l n s a
    (judged form job number next earlier (record_of form (take (record_size form) m))) refl
