-- When seats and the journal that they share are sound, in the words of document 01's list of what breaks a desk.
use Rattle.std.specs.Prelude.{Bool, true, not, List, reverse, ℕ, zero, suc, eqb, leb, length, take, drop, get_or}
use Rattle.basics.specs.Tests.{both, choose}
use Rattle.edits.specs.declared.Edit.{Edit}
use Rattle.drawing.specs.Pins.{lawful}
use Rattle.journal.specs.declared.Journal.{Journal}
use Rattle.journal.specs.declared.Record.{Record}
use Rattle.journal.specs.Journal.{most_seats, most_records, in_use, own, seated, makeable_all, takeable_all}
use Rattle.seats.specs.declared.Seat.{Seat}
use Rattle.seats.specs.Seats.{no_seat, jobs_in, jobs_apart}

-- Of a seat's edits those that stand, the latest first.
abbrev pub standing_among : Seat → List Edit → List Edit
standing_among t edits = reverse (take t.standing edits)

-- Of a seat's edits those taken back, the most recently taken back first.
abbrev pub taken_back_among : Seat → List Edit → List Edit
taken_back_among t edits = drop t.standing edits

-- An open seat with these edits is sound: its job is not 0, it has no more standing edits than records, its pins keep the rules, and
-- undoing its standing edits from those pins, or redoing its taken-back ones, meets none that could not have been made there.
unfoldable pub sound_open : Seat → List Edit → Bool
sound_open t edits =
    both (not (eqb t.job 0))
    (both (leb t.standing (length edits))
    (both (lawful t.pins)
    (both (takeable_all t.pins (standing_among t edits)) (makeable_all t.pins (taken_back_among t edits)))))

-- A closed seat with these edits is sound: it owns no records, and its number of standing edits agrees with that.
unfoldable pub sound_closed : Seat → List Edit → Bool
sound_closed t edits = both (eqb (length edits) 0) (eqb t.standing 0)

-- A seat is sound, as an open one or as a closed one.
unfoldable pub sound_seat : Seat → List Edit → Bool
sound_seat t edits = choose t.opened (sound_open t edits) (sound_closed t edits)

-- The first n of these seats are sound, each with its own edits among the records in use.
unfoldable pub sound_to : ℕ → List Seat → List Record → Bool
sound_to zero l used = true
sound_to (suc n) l used = both (sound_to n l used) (sound_seat (get_or l n no_seat) (own n used))

-- Seats and their journal are sound: eight seats, a journal of 256 records, the used count in its range, each used record's seat too,
-- no job repeated, and each seat sound.
unfoldable pub sound_all : List Seat → Journal → Bool
sound_all l j =
    both (eqb (length l) most_seats)
    (both (eqb (length j.records) most_records)
    (both (leb j.used most_records)
    (both (seated (in_use j)) (both (jobs_apart (jobs_in l)) (sound_to most_seats l (in_use j))))))
