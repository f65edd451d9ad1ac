-- Reading a pin map in the old form or the new: its records, the pins that they give, and what reading it under a job comes to.
use Rattle.std.specs.Prelude.{Bool, not, List, [], ◌∷◌, ◌++◌, ℕ, zero, suc, ◌+◌, ◌/◌, ◌%◌, eqb, ltb, length, take, drop, set, Result, Ok}
use Rattle.std.specs.Result.{result_unwrap_or}
use Rattle.basics.specs.Tests.{either}
use Rattle.refusal.specs.declared.Refusal.{Refusal}
use Rattle.refusal.specs.declared.Refusal.TheVariants.{JobZero, MapLength}
use Rattle.refusal.specs.Rows.{Row, given, first_of, granted}
use Rattle.drawing.specs.Pins.{Pin, no_pins, there, spots_of}
use Rattle.pinmap.specs.declared.Form.{Form}
use Rattle.pinmap.specs.Map.{record_size, most_bytes}
use Rattle.records.specs.declared.MapRecord.{MapRecord}
use Rattle.records.specs.Record.{record_of, held_of, record_rows}

-- Each record is read from its own part of the map: so many of them.
unfoldable pub records_in : Form → ℕ → List ℕ → List MapRecord
records_in form zero map = []
records_in form (suc left) map = record_of form (take (record_size form) map) ∷ records_in form left (drop (record_size form) map)

-- All records of a map.
abbrev pub records_of : Form → List ℕ → List MapRecord
records_of form map = records_in form (length map / record_size form) map

-- The pins with that of a record.
unfoldable pub with_pin_of : Form → List Pin → MapRecord → List Pin
with_pin_of form l r = set l r.pin (there (held_of form r))

-- The pins with those of some records.
unfoldable pub with_pins_of : Form → List Pin → List MapRecord → List Pin
with_pins_of form l [] = l
with_pins_of form l (r ∷ records) = with_pins_of form (with_pin_of form l r) records

-- Record by record: the first of them has this number, `next` is one more than the pin before (0 at first), and these are the pins of the earlier records.
unfoldable pub rows_from : Form → ℕ → ℕ → ℕ → List Pin → List MapRecord → List Row
rows_from form job number next earlier [] = []
rows_from form job number next earlier (r ∷ records) =
    record_rows form job number next (spots_of earlier) r ++ rows_from form job (number + 1) (r.pin + 1) (with_pin_of form earlier r) records

-- Map length not a multiple of 12, or above 384, in the old form; of 16, or above 512, in the new.
unfoldable pub wrong_length : Form → List ℕ → Bool
wrong_length form map = either (ltb (most_bytes form) (length map)) (not (eqb (length map % record_size form) 0))

-- Reading a map of a form under a job: 13, then the first faulty record, 14 before 15.
abbrev pub map_rows : Form → List ℕ → ℕ → List Row
map_rows form map job = given (wrong_length form map) MapLength ∷ rows_from form job 0 0 no_pins (records_of form map)

-- Reading it where nothing else is looked at: 4 before these.
abbrev pub under_rows : Form → List ℕ → ℕ → List Row
under_rows form map job = given (eqb job 0) JobZero ∷ map_rows form map job

-- A reading that these rows decide: the pins of the map's records, or the refusal.
abbrev pub read_by : List Row → Form → List ℕ → Result (List Pin) Refusal
read_by rows form map = granted (first_of rows) (with_pins_of form no_pins (records_of form map))

-- A reading that is accepted, with these pins.
abbrev pub read_as : List Pin → Result (List Pin) Refusal
read_as l = Ok l

-- Reading a map of a form under a job. An empty map is a drawing without pins.
unfoldable pub read_map : Form → List ℕ → ℕ → Result (List Pin) Refusal
read_map form map job = read_by (map_rows form map job) form map

-- The pins that a reading hands back: no pins where it is refused.
abbrev pub pins_of : Result (List Pin) Refusal → List Pin
pins_of reading = result_unwrap_or reading no_pins
