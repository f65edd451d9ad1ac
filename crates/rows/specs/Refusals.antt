-- What is turned away: for each call its rows of refusals in the order of documents 01 and 02, over what the call looks at.
use Rattle.std.specs.Prelude.{Bool, not, List, [], ◌∷◌, ◌++◌, ℕ, ◌-◌, eqb, leb}
use Rattle.refusal.specs.Rows.{Row, given}
use Rattle.refusal.specs.declared.Refusal.TheVariants.{SeatAbove, NotOpen, OpenAlready, JobZero, JobElsewhere, NothingStands, NothingTakenBack, JournalFull, DeskBroken}
use Rattle.drawing.specs.Pins.{Pin, feed_of}
use Rattle.pinmap.specs.declared.Form.TheVariants.{New}
use Rattle.readmap.specs.Map.{map_rows}
use Rattle.writemap.specs.Map.{room_rows}
use Rattle.drops.specs.Drops.{drop_rows}
use Rattle.wiring.specs.Answer.{feed_rows}
use Rattle.mill.specs.Answer.{mill_rows}
use Rattle.journal.specs.Journal.{most_seats, most_records}
use Rattle.seats.specs.Seats.{job_among}
use Rattle.pinrows.specs.PinRows.{net_row, making_rows}
use Rattle.rows.specs.Calls.{Call, opening, closing, making, undoing, redoing, asking, Asking, writing, wiring, milling, dropping}

-- What a call looks at: whether the desk is broken; of the seat that it names whether it is open, its job, pins, standing and
-- taken-back edits; the jobs of the open seats (0 for a closed one); the used records.
pub record Look : Type 0 where
  pub broken : Bool
  pub seat : ℕ
  pub opened : Bool
  pub job : ℕ
  pub pins : List Pin
  pub standing : ℕ
  pub taken_back : ℕ
  pub jobs : List ℕ
  pub used : ℕ

-- Every call naming a seat, but opening: 28, 1, 2.
abbrev pub naming_rows : Bool → ℕ → Bool → List Row
naming_rows broken seat opened = given broken DeskBroken ∷ given (leb most_seats seat) SeatAbove ∷ given (not opened) NotOpen ∷ []

-- Opening a seat for a job: 28, 1, 3, 4, 5.
abbrev pub taking_rows : Bool → ℕ → Bool → ℕ → List ℕ → List Row
taking_rows broken seat opened job jobs =
    given broken DeskBroken
    ∷ given (leb most_seats seat) SeatAbove
    ∷ given opened OpenAlready
    ∷ given (eqb job 0) JobZero
    ∷ given (job_among job jobs) JobElsewhere
    ∷ []

-- Every call that asks for a net of a seat: 28, 1, 2, 21.
abbrev pub naming_net_rows : Bool → ℕ → Bool → ℕ → List Row
naming_net_rows broken seat opened net = naming_rows broken seat opened ++ (net_row net ∷ [])

-- An edit takes a record. 12: used records, less this seat's taken-back ones, are 256.
abbrev pub full_row : ℕ → ℕ → List Row
full_row used taken_back = given (eqb (used - taken_back) most_records) JournalFull ∷ []

-- Undo: 10.
abbrev pub undoing_row : ℕ → List Row
undoing_row standing = given (eqb standing 0) NothingStands ∷ []

-- Redo: 11.
abbrev pub redoing_row : ℕ → List Row
redoing_row taken_back = given (eqb taken_back 0) NothingTakenBack ∷ []

-- Writing, in the new form: 19. Wiring a net: 21, 17, 19. Milling one: 21, 17, 19, counted in segments. Volts lost to one: 21, 17, 20.
abbrev pub asking_rows : ℕ → List Pin → Asking → List Row
asking_rows job l (writing room) = room_rows New job l room
asking_rows job l (wiring net room favour) = net_row net ∷ feed_rows (feed_of l net) room favour
asking_rows job l (milling net room favour) = net_row net ∷ mill_rows (feed_of l net) room favour
asking_rows job l (dropping net loads sheet) = net_row net ∷ drop_rows (feed_of l net) loads sheet

-- The rows of each call.
abbrev pub rows_of : Look → Call → List Row
rows_of l (opening s job form map) = taking_rows l.broken l.seat l.opened job l.jobs ++ map_rows form map job
rows_of l (closing s) = naming_rows l.broken l.seat l.opened
rows_of l (making s m) = naming_rows l.broken l.seat l.opened ++ (making_rows l.pins m ++ full_row l.used l.taken_back)
rows_of l (undoing s) = naming_rows l.broken l.seat l.opened ++ undoing_row l.standing
rows_of l (redoing s) = naming_rows l.broken l.seat l.opened ++ redoing_row l.taken_back
rows_of l (asking s a) = naming_rows l.broken l.seat l.opened ++ asking_rows l.job l.pins a
