-- A map read record by record: the first faulty one ends the reading, and the rows of a map are apart. From the laws of rows; assumes nothing.
use mathlib.Core.Path.{◌≡◌, refl, sym, ap, ◌∙◌}
use mathlib.Core.Bool.{Bool, true, false}
use mathlib.Core.List.{List, [], ◌∷◌}
use Prim.Native.Nat.{ℕ, ◌+◌, ◌≤◌}
use lib.Dec.{eqb}
use native.Mathlib.Omega.{arith}
use borrow.Author.Tests.{eq-eqb, ne_eqb}
use Rattle.std.specs.Prelude.{Result, Ok, Err}
use Rattle.basics.specs.Tests.{choose}
use Rattle.basics.proofs.Tests.{opposite, choose_yes, choose_no}
use Rattle.refusal.specs.declared.Refusal.{Refusal}
use Rattle.refusal.specs.declared.Refusal.TheVariants.{JobZero, MapLength, OtherJob, FaultyRecord}
use Rattle.refusal.specs.Refusals.{Verdict, number_of, accepted}
use Rattle.refusal.specs.Rows.{Row, given, first_of, granted}
use Rattle.refusal.proofs.Rows.{unlike, Differs, Apart, differs_by, hit, granted_on, granted_away}
use Rattle.drawing.specs.Pins.{Pin, no_pins, spots_of}
use Rattle.pinmap.specs.declared.Form.{Form}
use Rattle.records.specs.declared.MapRecord.{MapRecord}
use Rattle.records.specs.Record.{record_rows}
use Rattle.records.proofs.Faults.{judged, record_apart}
use Rattle.readmap.specs.Map.{records_of, with_pin_of, with_pins_of, rows_from, wrong_length, map_rows, under_rows, read_by, read_as, read_map}

-- The reading of some records after earlier ones.
unfoldable pub read_from : Form → ℕ → ℕ → ℕ → List Pin → List MapRecord → Result (List Pin) Refusal
read_from form job number next earlier records = granted (first_of (rows_from form job number next earlier records)) (with_pins_of form earlier records)

-- With no record left the pins are those read.
pub read_none : (form : Form) (job number next : ℕ) (earlier : List Pin) → read_from form job number next earlier [] ≡ read_as earlier
unfolding read_from rows_from with_pins_of first_of
read_none form job number next earlier = refl

module _ (form : Form) (job number next : ℕ) (earlier : List Pin) (r : MapRecord) (records : List MapRecord) where
  -- A faulty record ends the reading;
  pub read_stops : {x : Refusal} → Err x ≡ judged form job number next earlier r → Err x ≡ read_from form job number next earlier (r ∷ records)
  unfolding read_from rows_from
  read_stops e = granted_away (record_rows form job number next (spots_of earlier) r) _ (record_apart form job number next earlier r) e _

  -- after a good one the next is read, with its pin.
  pub read_goes : Ok tt ≡ judged form job number next earlier r
      → read_from form job (number + 1) (r.pin + 1) (with_pin_of form earlier r) records ≡ read_from form job number next earlier (r ∷ records)
  unfolding read_from rows_from with_pins_of accepted
  read_goes e = granted_on (record_rows form job number next (spots_of earlier) r) _ (record_apart form job number next earlier r) e refl _

module _ (form : Form) (map : List ℕ) (job : ℕ) where
  -- A map of a wrong length is turned away with 13;
  pub turned_away : wrong_length form map ≡ true → Err MapLength ≡ read_map form map job
  unfolding read_map
  turned_away e = ap (λ (v : Verdict). granted v (with_pins_of form no_pins (records_of form map))) (hit MapLength _ e)

  -- the records of any other are read.
  pub right_read : wrong_length form map ≡ false → read_map form map job ≡ read_from form job 0 0 no_pins (records_of form map)
  unfolding read_map read_from first_of
  right_read e = ap (λ (v : Verdict). granted v (with_pins_of form no_pins (records_of form map))) (choose_no _ _ e)

  -- So a map is read by its length, whatever it is.
  pub read_by_length : read_map form map job ≡ choose (wrong_length form map) (Err MapLength) (read_from form job 0 0 no_pins (records_of form map))
  read_by_length = by (wrong_length form map) refl
    where
      by : (t : Bool) → wrong_length form map ≡ t → read_map form map job ≡ choose (wrong_length form map) (Err MapLength) (read_from form job 0 0 no_pins (records_of form map))
      by true e = sym (turned_away e) ∙ sym (choose_yes _ _ e)
      by false e = right_read e ∙ sym (choose_no _ _ e)

  -- ---- where nothing else is looked at

  -- Under job 0 the reading is turned away with 4;
  pub under_zero : job ≡ 0 → Err JobZero ≡ read_by (under_rows form map job) form map
  under_zero e = ap (λ (v : Verdict). granted v (with_pins_of form no_pins (records_of form map))) (hit JobZero _ (eq-eqb job 0 e))

  -- under any other it is that of the map.
  pub under_job : (job ≡ 0 → ⊥) → read_map form map job ≡ read_by (under_rows form map job) form map
  unfolding read_map first_of
  under_job h = ap (λ (v : Verdict). granted v (with_pins_of form no_pins (records_of form map))) (sym (choose_no _ _ (ne_eqb job 0 h)))

-- By whether the job is 0: such a reading that is accepted has another job, and is that of the map.
under_by : (form : Form) (map : List ℕ) (job : ℕ) (t : Bool) → accepted (first_of (given t JobZero ∷ map_rows form map job)) ≡ true
    → (t ≡ false) × (read_by (given t JobZero ∷ map_rows form map job) form map ≡ read_map form map job)
unfolding first_of choose accepted read_map
under_by form map job true y = absurd (opposite y refl)
under_by form map job false y = (refl, refl)

-- Where 4, 13, 14 and 15 turn nothing away, the job is not 0, and the reading is that of the map.
pub under_passed : (form : Form) (map : List ℕ) (job : ℕ) → accepted (first_of (under_rows form map job)) ≡ true
    → (eqb job 0 ≡ false) × (read_by (under_rows form map job) form map ≡ read_map form map job)
under_passed form map job y = under_by form map job (eqb job 0) y

-- A reading that is accepted has the pins of the map's records, and no row applied.
pub read_passed : (rows : List Row) (form : Form) (map : List ℕ) {l : List Pin} → read_by rows form map ≡ read_as l
    → (Ok tt ≡ first_of rows) × (l ≡ with_pins_of form no_pins (records_of form map))
read_passed rows form map {l} e = by (first_of rows) refl e
  where
    by : (v : Verdict) → v ≡ first_of rows → granted v (with_pins_of form no_pins (records_of form map)) ≡ read_as l
        → (Ok tt ≡ first_of rows) × (l ≡ with_pins_of form no_pins (records_of form map))
    by (Ok tt) q e = (q, cc)
    by (Err r) q e = cc

-- One that is refused is refused by the rows.
pub read_refused : (rows : List Row) (form : Form) (map : List ℕ) {x : Refusal} → read_by rows form map ≡ Err x → Err x ≡ first_of rows
read_refused rows form map {x} e = by (first_of rows) refl e
  where
    by : (v : Verdict) → v ≡ first_of rows → granted v (with_pins_of form no_pins (records_of form map)) ≡ Err x → Err x ≡ first_of rows
    by (Ok tt) q e = cc
    by (Err r) q e = cc

-- ---- the rows of a map are apart

-- A refusal that no record from a number on gives differs from the rows of the records from there on.
records_differ : (form : Form) (v : Refusal) (job number next : ℕ) (earlier : List Pin) (records : List MapRecord)
    → ((n : ℕ) → number ≤ n → v ≡ OtherJob n → ⊥) → ((n : ℕ) → number ≤ n → v ≡ FaultyRecord n → ⊥) → Differs v (rows_from form job number next earlier records)
unfolding rows_from Differs
records_differ form v job number next earlier [] f g = tt
records_differ form v job number next earlier (r ∷ records) f g = (
  f number (omega arith),
  (
    g number (omega arith),
    records_differ form v job (number + 1) (r.pin + 1) (with_pin_of form earlier r) records (λ n h. f n (omega arith)) (λ n h. g n (omega arith)),
  ),
)

-- The rows of records are apart: each names its own record.
records_apart : (form : Form) (job number next : ℕ) (earlier : List Pin) (records : List MapRecord) → Apart (rows_from form job number next earlier records)
unfolding rows_from Apart Differs
records_apart form job number next earlier [] = tt
records_apart form job number next earlier (r ∷ records) =
    let other : (n : ℕ) → number + 1 ≤ n → OtherJob number ≡ OtherJob n → ⊥ = λ n h e. let z : number ≡ n = cc in omega arith in
    let faulty : (n : ℕ) → number + 1 ≤ n → FaultyRecord number ≡ FaultyRecord n → ⊥ = λ n h e. let z : number ≡ n = cc in omega arith in
    let no : (n : ℕ) → OtherJob number ≡ FaultyRecord n → ⊥ = λ n e. omega (arith, ap number_of e) in (
      (no number, records_differ form (OtherJob number) job (number + 1) _ _ records other (λ n h. no n)),
      (
        records_differ form (FaultyRecord number) job (number + 1) _ _ records (λ n h e. omega (arith, ap number_of e)) faulty,
        records_apart form job (number + 1) (r.pin + 1) (with_pin_of form earlier r) records,
      ),
    )

-- The refusals of a map, with a record's number.
abbrev of_map : ℕ → List Row
of_map n = given true MapLength ∷ given true (OtherJob n) ∷ given true (FaultyRecord n) ∷ []

-- The number of a refusal is none of a map's: 13, 14 or 15.
unfoldable pub not_of_map : Refusal → Bool
not_of_map v = unlike v (of_map 0)

-- Such a refusal differs from the rows of a map,
pub map-differs : (form : Form) (map : List ℕ) (job : ℕ) (v : Refusal) → not_of_map v ≡ true → Differs v (map_rows form map job)
unfolding Differs unlike not_of_map
map-differs form map job v t =
    let d : (n : ℕ) → Differs v (of_map n) = λ n. differs_by v (of_map n) t in
    ((d 0).0, records_differ form v job 0 0 no_pins (records_of form map) (λ n h. (d n).1.0) (λ n h. (d n).1.1.0))

-- which are apart.
pub map_apart : (form : Form) (map : List ℕ) (job : ℕ) → Apart (map_rows form map job)
unfolding Apart
map_apart form map job = (
  records_differ form MapLength job 0 0 no_pins (records_of form map) (λ n h e. omega (arith, ap number_of e)) (λ n h e. omega (arith, ap number_of e)),
  records_apart form job 0 0 no_pins (records_of form map),
)
