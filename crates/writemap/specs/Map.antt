-- The map that a drawing is written as, in the old form or the new, and what writing it into a lent buffer comes to.
use Rattle.std.specs.Prelude.{List, [], ◌∷◌, ◌++◌, ℕ, ◌+◌, ltb, length, drop, Result, Ok, Err}
use Rattle.std.specs.Result.{result_unwrap_or}
use Rattle.basics.specs.Tests.{choose}
use Rattle.refusal.specs.declared.Refusal.{Refusal}
use Rattle.refusal.specs.declared.Refusal.TheVariants.{RoomTooSmall}
use Rattle.refusal.specs.Refusals.{Verdict, accepted}
use Rattle.refusal.specs.Rows.{Row, given, first_of, granted}
use Rattle.drawing.specs.Pins.{Pin}
use Rattle.pinmap.specs.declared.Form.{Form}
use Rattle.writemap.specs.Record.{pin_bytes}

-- The records of the pins numbered `from` and above.
unfoldable pub map_from : Form → ℕ → ℕ → List Pin → List ℕ
map_from form job from [] = []
map_from form job from (q ∷ l) = pin_bytes form job from q ++ map_from form job (from + 1) l

-- The map of a drawing in a form: ascending by pin number, each pin once.
unfoldable pub map_of : Form → ℕ → List Pin → List ℕ
map_of form job l = map_from form job 0 l

-- Writing leaves bytes after the last record as they were.
unfoldable pub written : List ℕ → List ℕ → List ℕ
written map buffer = map ++ drop (length map) buffer

-- Lent room smaller than needed.
abbrev pub room_rows : Form → ℕ → List Pin → ℕ → List Row
room_rows form job l room = given (ltb room (length (map_of form job l))) RoomTooSmall ∷ []

-- A writing that these rows decide: the number of bytes of the map, or the refusal;
abbrev pub write_by : List Row → List ℕ → Result ℕ Refusal
write_by rows map = granted (first_of rows) (length map)

-- the buffer after it, untouched where it is refused.
abbrev pub buffer_by : List Row → List ℕ → List ℕ → List ℕ
buffer_by rows map buffer = choose (accepted (first_of rows)) (written map buffer) buffer

-- Writing a map in a form: 19, else the number of bytes written.
unfoldable pub write_map : Form → List Pin → ℕ → List ℕ → Result ℕ Refusal
write_map form l job buffer = write_by (room_rows form job l (length buffer)) (map_of form job l)

-- The buffer after writing.
unfoldable pub buffer_after : Form → List Pin → ℕ → List ℕ → List ℕ
buffer_after form l job buffer = buffer_by (room_rows form job l (length buffer)) (map_of form job l) buffer

-- How many bytes a writing wrote: none where it was refused.
abbrev pub bytes_of : Result ℕ Refusal → ℕ
bytes_of answer = result_unwrap_or answer 0

-- The verdict of an answer that gives a value where it is accepted.
abbrev pub verdict_of : {A : Type 0} → Result A Refusal → Verdict
verdict_of (Ok a) = Ok tt
verdict_of (Err r) = Err r
