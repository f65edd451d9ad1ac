-- Moving a map over, from the old form to the new, and back, from the new to the old: its rows of refusals, the bytes, and the lent buffer.
use Rattle.std.specs.Prelude.{not, List, [], ◌∷◌, ◌++◌, ℕ, length, take, Result}
use Rattle.basics.specs.Tests.{each_of}
use Rattle.refusal.specs.declared.Refusal.{Refusal}
use Rattle.refusal.specs.declared.Refusal.TheVariants.{OtherNetOrPart}
use Rattle.refusal.specs.Rows.{Row, given}
use Rattle.drawing.specs.Pins.{Pin, no_pins}
use Rattle.pinmap.specs.declared.Form.{Form}
use Rattle.pinmap.specs.declared.Form.TheVariants.{Old, New}
use Rattle.pinmap.specs.Map.{holds}
use Rattle.readmap.specs.Map.{records_of, with_pins_of, under_rows}
use Rattle.writemap.specs.Map.{map_of, room_rows, write_by, buffer_by, bytes_of}

-- The form of a map that is moved to this one: the other.
abbrev pub other_than : Form → Form
other_than Old = New
other_than New = Old

-- Moving back: 22 where it meets a pin of another net than 1 or with a part number other than 0, which the old form can't hold. Moving over: no such row.
abbrev pub form_rows : Form → List Pin → List Row
form_rows Old l = given (not (each_of (holds Old) l)) OtherNetOrPart ∷ []
form_rows New l = []

-- The pins that the records of a map give which is moved to a form.
abbrev pub pins_moved : Form → List ℕ → List Pin
pins_moved to map = with_pins_of (other_than to) no_pins (records_of (other_than to) map)

-- What is asked once a map can be read: 22 on the way back, then 19.
abbrev pub later_rows : Form → ℕ → List Pin → ℕ → List Row
later_rows to job l room = form_rows to l ++ room_rows to job l room

-- Moving a map to a form under a job, into so much lent room: 4, 13, 14 and 15 as opening does, then 22, then 19.
abbrev pub moving_rows : Form → ℕ → List ℕ → ℕ → List Row
moving_rows to job map room = under_rows (other_than to) map job ++ later_rows to job (pins_moved to map) room

-- What a map becomes in the other form: that of its pins.
abbrev pub map_moved : Form → ℕ → List ℕ → List ℕ
map_moved to job map = map_of to job (pins_moved to map)

-- Moving a map to a form, into a lent buffer: the answer, and the number of bytes written.
unfoldable pub moved_of : Form → ℕ → List ℕ → List ℕ → Result ℕ Refusal
moved_of to job map buffer = write_by (moving_rows to job map (length buffer)) (map_moved to job map)

-- The lent buffer afterwards: untouched where it is refused, and after the last byte.
unfoldable pub buffer_moved : Form → ℕ → List ℕ → List ℕ → List ℕ
buffer_moved to job map buffer = buffer_by (moving_rows to job map (length buffer)) (map_moved to job map) buffer

-- The bytes that a moving wrote: so many of the lent buffer.
abbrev pub bytes_moved : Form → ℕ → List ℕ → List ℕ → List ℕ
bytes_moved to job map buffer = take (bytes_of (moved_of to job map buffer)) (buffer_moved to job map buffer)
