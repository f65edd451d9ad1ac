-- How a map is read record by record: what one turn of the loop does to what is left to read. Assumes nothing.
use mathlib.Core.Path.{◌≡◌, refl, sym, ap, ap₂, ◌∙◌}
use mathlib.Core.Bool.{false}
use mathlib.Core.List.{List, [], ◌∷◌, ◌++◌}
use Prim.Native.Nat.{ℕ, suc, ◌+◌, ◌/◌, ◌<◌}
use lib.ListN.{length, take, drop, set, replicate, length-append}
use lib.Seq.{take-append_seam, drop-append_seam}
use Rattle.std.specs.Prelude.{Result, Ok, Err, None, Some}
use Rattle.refusal.specs.declared.Refusal.{Refusal}
use Rattle.refusal.specs.Refusals.{Verdict}
use Rattle.refusal.specs.Rows.{first_of, granted}
use Rattle.board.specs.Spots.{Spot, most_pins}
use Rattle.drawing.specs.Pins.{Pin, no_pins, there, spot_of, spots_of}
use Rattle.drawing.proofs.Rules.{spots_put}
use Rattle.pinmap.specs.declared.Form.{Form}
use Rattle.records.specs.declared.MapRecord.{MapRecord}
use Rattle.pinmap.specs.Map.{record_size}
use Rattle.pinmap.proofs.Sizes.{none_left, count_more}
use Rattle.records.specs.Record.{record_of, held_of, faulty, record_rows}
use Rattle.records.proofs.Faults.{judged}
use Rattle.basics.proofs.Tests.{either-false, second_chosen}
use borrow.Author.Tests.{leb-false}
use Rattle.readmap.specs.Map.{records_in, records_of, with_pin_of, wrong_length, read_map, read_as}
use Rattle.readmap.proofs.Judging.{read_from, read_none, read_stops, read_goes, right_read}

-- Of fewer bytes than a record has none is read;
none_more : (form : Form) (rest : List ℕ) → length rest < record_size form → records_of form rest ≡ []
unfolding records_in
none_more form rest h = ap (λ (k : ℕ). records_in form k rest) (none_left form (length rest) h)

-- before the bytes that are left, those of one record are read as it.
one_more : (form : Form) (bytes more : List ℕ) → length bytes ≡ record_size form → records_of form (bytes ++ more) ≡ record_of form bytes ∷ records_of form more
unfolding records_in
one_more form bytes more e =
    let n : length (bytes ++ more) / record_size form ≡ suc (length more / record_size form) =
    ap (λ (k : ℕ). k / record_size form) (length-append bytes more ∙ ap (λ (k : ℕ). k + length more) e) ∙ count_more form (length more) in
    let t : take (record_size form) (bytes ++ more) ≡ bytes = ap (λ (k : ℕ). take k (bytes ++ more)) (sym e) ∙ take-append_seam bytes more in
    let d : drop (record_size form) (bytes ++ more) ≡ more = ap (λ (k : ℕ). drop k (bytes ++ more)) (sym e) ∙ drop-append_seam bytes more in
    ap (λ (k : ℕ). records_in form k (bytes ++ more)) n ∙ ap₂ (λ (a b : List ℕ). record_of form a ∷ records_in form (length more / record_size form) b) t d

-- A record that is accepted has a pin of the drawing's.
pub pin_low : (form : Form) (job number next : ℕ) (spots : List Spot) (r : MapRecord)
    → Ok tt ≡ first_of (record_rows form job number next spots r) → r.pin < most_pins
unfolding first_of faulty
pin_low form job number next spots r e =
    let other = second_chosen _ (λ q. cc) e in
    let fault = second_chosen _ (λ q. cc) other.1 in
    leb-false _ _ (either-false _ _ fault.0).0

-- A record that is granted was accepted;
granted_record : (r : MapRecord) {v : Verdict} {q : MapRecord} → granted v r ≡ Ok q → (Ok tt ≡ v) × (q ≡ r)
granted_record r {v} {q} e = by v e
  where
    by : (v : Verdict) → granted v r ≡ Ok q → (Ok tt ≡ v) × (q ≡ r)
    by (Ok tt) e = (refl, cc)
    by (Err x) e = cc

-- else it is turned away by its refusal.
refused_record : (r : MapRecord) {v : Verdict} {x : Refusal} → granted v r ≡ Err x → Err x ≡ v
refused_record r {v} {x} e = by v e
  where
    by : (v : Verdict) → granted v r ≡ Err x → Err x ≡ v
    by (Ok tt) e = cc
    by (Err y) e = cc

-- Where the reading stands, with these bytes left: the spots tell where the pins stand that were read, and the rest of the reading is that of the whole.
pub record Stands (form : Form) (map : List ℕ) (job : ℕ) (earlier : List Pin) (spots : List Spot) (next number : ℕ) (rest : List ℕ) : Type 0 where
  pub told : spots ≡ spots_of earlier
  pub reads : read_map form map job ≡ read_from form job number next earlier (records_of form rest)

-- Before the first record all is left to read, and no pin has been read.
pub begins : (form : Form) (map : List ℕ) (job number : ℕ) (rest : List ℕ) → wrong_length form map ≡ false → number ≡ 0 → rest ≡ map
    → Stands form map job no_pins (replicate most_pins None) 0 number rest
unfolding spots_of spot_of
begins form map job number rest w z e = record { told = refl; reads = rw (z, e) (right_read form map job w) }

module _ (form : Form) (map : List ℕ) (job : ℕ) (earlier : List Pin) (spots : List Spot) (next number : ℕ) (rest : List ℕ)
    (s : Stands form map job earlier spots next number rest) where
  -- With no record left the pins are those read.
  pub ends : length rest < record_size form → read_as earlier ≡ read_map form map job
  ends h = sym (s.reads ∙ ap (read_from form job number next earlier) (none_more form rest h) ∙ read_none form job number next earlier)

  -- The two ways that a turn of the loop goes, by what the record of the next bytes comes to.
  module _ (bytes more : List ℕ) (er : rest ≡ bytes ++ more) (eb : length bytes ≡ record_size form) {o : Result MapRecord Refusal}
      (eo : o ≡ granted (first_of (record_rows form job number next spots (record_of form bytes))) (record_of form bytes)) where
    -- It is judged after those that were read,
    the_answer : granted (judged form job number next earlier (record_of form bytes)) (record_of form bytes) ≡ o
    the_answer = sym (eo ∙ rw s.told)

    -- and what is left to read is that record, and then the bytes after it.
    turned : read_map form map job ≡ read_from form job number next earlier (record_of form bytes ∷ records_of form more)
    turned = s.reads ∙ ap (read_from form job number next earlier) (rw er (one_more form bytes more eb))

    -- A record that is not accepted ends the reading with its refusal;
    pub turn_stops : {x : Refusal} → o ≡ Err x → Err x ≡ read_map form map job
    turn_stops q = read_stops form job number next earlier (record_of form bytes) _ (refused_record (record_of form bytes) (the_answer ∙ q)) ∙ sym turned

    -- the pin of an accepted one goes to the pins, and the reading stands at the next.
    pub turn_goes : {r : MapRecord} → o ≡ Ok r
        → Stands form map job (set earlier r.pin (Some (held_of form r))) (set spots r.pin (Some r.place)) (r.pin + 1) (number + 1) more
    unfolding with_pin_of spot_of
    turn_goes {r} q =
        let g = granted_record (record_of form bytes) (the_answer ∙ q) in
        record {
          told = rw s.told (sym (spots_put earlier r.pin (there (held_of form r))));
          reads = turned ∙ sym (read_goes form job number next earlier (record_of form bytes) _ g.0) ∙ rw g.1;
        }
