-- Seats: what one is as calls leave it, and the jobs that are open.
use Rattle.std.specs.Prelude.{Bool, true, false, not, List, [], map, ℕ, ◌+◌, ◌-◌, eqb, length, get_or}
use Rattle.basics.specs.Tests.{both, choose, any_of, no_two}
use Rattle.edits.specs.declared.Edit.{Edit}
use Rattle.drawing.specs.Pins.{Pin, no_pins}
use Rattle.edits.specs.Edits.{made, unmade}
use Rattle.journal.specs.Journal.{no_edit}
use Rattle.seats.specs.declared.Seat.{Seat}

-- A closed seat, as calls leave it.
abbrev pub closed_seat : Seat
closed_seat = record { opened = false; job = 0; pins = no_pins; standing = 0 }

-- What a list of seats has past its end.
abbrev pub no_seat : Seat
no_seat = record { opened = false; job = 0; pins = []; standing = 0 }

-- A seat that is open for a job with these pins and no edits.
abbrev pub open_seat : ℕ → List Pin → Seat
open_seat job l = record { opened = true; job = job; pins = l; standing = 0 }

-- A seat with other pins and another number of standing edits.
abbrev pub with_pins : Seat → List Pin → ℕ → Seat
with_pins t l n = record { opened = t.opened; job = t.job; pins = l; standing = n }

-- How many of a seat's edits are taken back: all but those that stand.
abbrev pub taken_back_count : Seat → List Edit → ℕ
taken_back_count t edits = length edits - t.standing

-- A seat after a new edit, which stands.
abbrev pub edited_seat : Seat → Edit → Seat
edited_seat t e = with_pins t (made t.pins e) (t.standing + 1)

-- A seat with these edits after undo: the latest standing one is taken back.
abbrev pub undone_seat : Seat → List Edit → Seat
undone_seat t edits = with_pins t (unmade t.pins (get_or edits (t.standing - 1) no_edit)) (t.standing - 1)

-- A seat with these edits after redo: the most recently taken-back one is made again.
abbrev pub redone_seat : Seat → List Edit → Seat
redone_seat t edits = with_pins t (made t.pins (get_or edits t.standing no_edit)) (t.standing + 1)

-- The job of an open seat, 0 for a closed one.
unfoldable pub job_of : Seat → ℕ
job_of t = choose t.opened t.job 0

-- The jobs of these seats.
abbrev pub jobs_in : List Seat → List ℕ
jobs_in l = map job_of l

-- Two jobs are the same, and not 0, which stands for a closed seat.
unfoldable pub same_job : ℕ → ℕ → Bool
same_job i j = both (not (eqb i 0)) (eqb i j)

-- A job is open at one of these seats.
abbrev pub job_among : ℕ → List ℕ → Bool
job_among j l = any_of (same_job j) l

-- No job is repeated.
abbrev pub jobs_apart : List ℕ → Bool
jobs_apart l = no_two same_job l
