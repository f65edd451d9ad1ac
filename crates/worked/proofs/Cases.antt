-- Further cases, each computed: moves to the place where the pin already stands and near it, a pin too near another, places at the board's ends, and desks
-- broken in each way of document 01's list. Assumes nothing.
use mathlib.Core.Path.{◌≡◌, refl}
use mathlib.Core.Bool.{true}
use mathlib.Core.List.{List, [], ◌∷◌, map}
use Prim.Native.Nat.{ℕ, ◌+◌}
use lib.IntN.{ℤ, pos, negsuc}
use lib.ListN.{replicate}
use Rattle.basics.specs.Tests.{both, either, choose, any_of, each_of, no_two}
use Rattle.basics.specs.Lists.{padded, numbered}
use Rattle.refusal.specs.Refusals.{accepted, Verdict}
use Rattle.refusal.specs.Rows.{first_of}
use Rattle.refusal.specs.declared.Refusal.TheVariants.{PinThere, Outside, PinTooNear, NoSuchNet, DeskBroken}
use Rattle.std.specs.Prelude.{Ok, Err}
use Rattle.board.specs.Place.{place, limit, on_board, inside, difference, closer, too_near, same_number, same_place}
use Rattle.board.specs.declared.Place.{Place}
use Rattle.drawing.specs.declared.Held.{Held}
use Rattle.drawing.specs.Pins.{Pin, absent, there, holding, is_net, has_net, is_there, same_held, same_pin, same_pins, lawful, spot_of, spots_of, stands_at, held_by}
use Rattle.edits.specs.declared.Edit.TheVariants.{Placed}
use Rattle.edits.specs.declared.stated.Making.TheVariants.{Placing, Moving}
use Rattle.board.specs.Spots.{most_pins, spots_too_near, crowded, within, too_near_other}
use Rattle.edits.specs.Edits.{moved_pin, pin_made, pin_unmade, made, unmade, found_as, all_found, proper, makeable, takeable}
use Rattle.pinmap.specs.declared.Form.TheVariants.{Old, New}
use Rattle.readmap.specs.Map.{records_in, with_pins_of, rows_from, wrong_length, read_map}
use Rattle.journal.specs.declared.Record.{Record}
use Rattle.journal.specs.Journal.{most_seats, recorded, own, kept, filled, in_turn}
use Rattle.seats.specs.declared.Seat.{Seat}
use Rattle.desk.specs.declared.Desk.{Desk}
use Rattle.seats.specs.Seats.{same_job}
use Rattle.rows.specs.Calls.{Call, opening, making, undoing}
use Rattle.desk.specs.Desk.{closed_seat, with_pins, job_of, sound_open, sound_closed, sound_seat, sound_to, sound, edited, effect, answer_of, step, empty_desk}
use Rattle.history.specs.History.{answers}

-- What a pin of net 1 with part number 0 holds at a place.
abbrev pub held : Place → Held
held at = holding at 1 0

-- A pin of net 1 that stands at x and y.
abbrev pub pin_at : ℤ → ℤ → Pin
pin_at a b = there (held (place a b))

-- A drawing of these pins and no others.
abbrev pub drawn : List Pin → List Pin
drawn l = padded most_pins absent l

-- Placing a pin of net 1 at a place,
abbrev pub placing : ℕ → ℕ → Place → Call
placing s p at = making s (Placing p (held at))

-- and moving one.
abbrev pub moving : ℕ → ℕ → Place → Call
moving s p to = making s (Moving p to)

-- Pin 0 is placed at (20,20). A move to (20,20) is 9, one to (21,20), near its own former place, is accepted. Pin 1 at (40,39) is 9, 19 steps from pin 0 in x
-- and in y; at (41,39) it is accepted.
pub nearness : answers empty_desk (opening 0 7 Old [] ∷ placing 0 0 (place (pos 20) (pos 20)) ∷ moving 0 0 (place (pos 20) (pos 20))
    ∷ moving 0 0 (place (pos 21) (pos 20))
    ∷ placing 0 1 (place (pos 40) (pos 39)) ∷ placing 0 1 (place (pos 41) (pos 39)) ∷ [])
    ≡ Ok tt ∷ Ok tt ∷ Err PinTooNear ∷ Ok tt ∷ Err PinTooNear ∷ Ok tt ∷ []
unfolding answers both either choose accepted first_of on_board inside difference closer too_near same_number same_place is_there same_held same_pin same_pins
    spots_too_near too_near_other crowded within spot_of spots_of lawful has_net is_net moved_pin pin_made pin_unmade made unmade stands_at found_as all_found
    proper makeable takeable numbered held_by records_in with_pins_of rows_from wrong_length read_map own kept filled in_turn same_job job_of sound_open
    sound_closed sound_seat sound_to sound edited effect answer_of step empty_desk any_of each_of no_two
nearness = refl

-- Pin 0 of net 1 is placed at (20,20). A pin of net 2 near it is 9: nearness looks at all nets. Pin 0 again, of net 9, is 7; pin 1 of net 9 outside the board
-- is 21, of net 0 too; of net 8 it is 8.
pub nets : answers empty_desk (opening 0 7 New [] ∷ placing 0 0 (place (pos 20) (pos 20)) ∷ making 0 (Placing 1 (holding (place (pos 39) (pos 1)) 2 0))
    ∷ making 0 (Placing 0 (holding (place (pos 60001) (pos 0)) 9 0)) ∷ making 0 (Placing 1 (holding (place (pos 60001) (pos 0)) 9 0))
    ∷ making 0 (Placing 1 (holding (place (pos 60001) (pos 0)) 0 0)) ∷ making 0 (Placing 1 (holding (place (pos 60001) (pos 0)) 8 0)) ∷ [])
    ≡ Ok tt ∷ Ok tt ∷ Err PinTooNear ∷ Err PinThere ∷ Err NoSuchNet ∷ Err NoSuchNet ∷ Err Outside ∷ []
unfolding answers both either choose accepted first_of on_board inside difference closer too_near same_number same_place is_there same_held same_pin same_pins
    spots_too_near too_near_other crowded within spot_of spots_of lawful has_net is_net moved_pin pin_made pin_unmade made unmade stands_at found_as all_found
    proper makeable takeable numbered held_by records_in with_pins_of rows_from wrong_length read_map own kept filled in_turn same_job job_of sound_open
    sound_closed sound_seat sound_to sound edited effect answer_of step empty_desk any_of each_of no_two
nets = refl

-- Pins are placed at (60000,-60000) and at (20001,20001), an ordinary place. x 60,001 and y 60,001 are 8, placed and moved to; (-60000,60000) is accepted.
pub edges : answers empty_desk (opening 0 7 Old [] ∷ placing 0 0 (place (pos 60000) (negsuc 59999)) ∷ placing 0 1 (place (pos 60001) (pos 0))
    ∷ placing 0 1 (place (pos 0) (pos 60001)) ∷ placing 0 1 (place (pos 20001) (pos 20001)) ∷ moving 0 1 (place (pos 60001) (pos 0))
    ∷ moving 0 1 (place (pos 0) (pos 60001)) ∷ moving 0 1 (place (negsuc 59999) (pos 60000)) ∷ [])
    ≡ Ok tt ∷ Ok tt ∷ Err Outside ∷ Err Outside ∷ Ok tt ∷ Err Outside ∷ Err Outside ∷ Ok tt ∷ []
unfolding answers both either choose accepted first_of on_board inside difference closer too_near same_number same_place is_there same_held same_pin same_pins
    spots_too_near too_near_other crowded within spot_of spots_of lawful has_net is_net moved_pin pin_made pin_unmade made unmade stands_at found_as all_found
    proper makeable takeable numbered held_by records_in with_pins_of rows_from wrong_length read_map own kept filled in_turn same_job job_of sound_open
    sound_closed sound_seat sound_to sound edited effect answer_of step empty_desk any_of each_of no_two
edges = refl

-- A seat open for a job, with these pins and so many standing edits.
abbrev pub opened : ℕ → List Pin → ℕ → Seat
opened job l n = record { opened = true; job = job; pins = drawn l; standing = n }

-- A desk with these first seats, the others closed, these records, and so many said to be in use.
abbrev pub desk_of : List Seat → List Record → ℕ → Desk
desk_of l m n = record { seats = padded most_seats closed_seat l; journal = record { records = filled m; used = n } }

-- A pin at (20,20).
abbrev pub here : Pin
here = pin_at (pos 20) (pos 20)

-- The record of its placing as pin 0, which stands,
abbrev pub stands : Record
stands = recorded 0 (Placed 0 (held (place (pos 20) (pos 20))))

-- and that of a placing of pin 1 at (40,40), which is taken back.
abbrev pub taken_back : Record
taken_back = recorded 0 (Placed 1 (held (place (pos 40) (pos 40))))

-- The desk with these two records, open at seat 0 for job 7.
abbrev pub whole : Desk
whole = desk_of (opened 7 (here ∷ []) 1 ∷ []) (stands ∷ taken_back ∷ []) 2

-- Broken desks: job 0; a repeated job; a closed seat with a record; a pin outside the board; two pins too near, of different nets; a pin of net 0; one of net
-- 9; a standing edit that could not have been made, at another place, with another part number; a taken-back one that could not be redone; 257 used records;
-- a record of seat 8; more standing edits than records; a closed seat that counts a standing edit.
abbrev pub broken : List Desk
broken =
    desk_of (opened 0 (here ∷ []) 1 ∷ []) (stands ∷ taken_back ∷ []) 2
    ∷ desk_of (opened 7 (here ∷ []) 1 ∷ opened 7 [] 0 ∷ []) (stands ∷ taken_back ∷ []) 2
    ∷ desk_of (opened 7 (here ∷ []) 1 ∷ []) (stands ∷ taken_back ∷ recorded 1 (Placed 0 (held (place (pos 20) (pos 20)))) ∷ []) 3
    ∷ desk_of (opened 7 (here ∷ pin_at (pos (limit + 1)) (pos 0) ∷ []) 0 ∷ []) [] 0
    ∷ desk_of (opened 7 (here ∷ there (holding (place (pos 39) (pos 1)) 2 0) ∷ []) 0 ∷ []) [] 0
    ∷ desk_of (opened 7 (here ∷ there (holding (place (pos 100) (pos 0)) 0 0) ∷ []) 0 ∷ []) [] 0
    ∷ desk_of (opened 7 (here ∷ there (holding (place (pos 100) (pos 0)) 9 0) ∷ []) 0 ∷ []) [] 0
    ∷ desk_of (opened 7 (here ∷ []) 1 ∷ []) (recorded 0 (Placed 0 (held (place (pos 100) (pos 100)))) ∷ taken_back ∷ []) 2
    ∷ desk_of (opened 7 (here ∷ []) 1 ∷ []) (recorded 0 (Placed 0 (holding (place (pos 20) (pos 20)) 1 7)) ∷ taken_back ∷ []) 2
    ∷ desk_of (opened 7 (here ∷ []) 1 ∷ []) (stands ∷ recorded 0 (Placed 1 (held (place (pos 1) (pos 39)))) ∷ []) 2
    ∷ desk_of (opened 7 (here ∷ []) 1 ∷ []) (stands ∷ taken_back ∷ []) 257
    ∷ desk_of (opened 7 (here ∷ []) 1 ∷ []) (stands ∷ taken_back ∷ recorded 8 (Placed 0 (held (place (pos 20) (pos 20)))) ∷ []) 3
    ∷ desk_of (opened 7 (here ∷ []) 3 ∷ []) (stands ∷ taken_back ∷ []) 2
    ∷ desk_of (opened 7 (here ∷ []) 1 ∷ with_pins closed_seat closed_seat.pins 1 ∷ []) (stands ∷ taken_back ∷ []) 2
    ∷ []

-- What undo at seat 0 is answered.
abbrev pub undo : Desk → Verdict
undo d = answer_of d (undoing 0)

-- Undo is accepted on the sound desk, and 28 on every broken one.
pub broken_refused : (undo whole ≡ Ok tt) × (map undo broken ≡ replicate 14 (Err DeskBroken))
unfolding both either choose first_of on_board inside difference closer too_near same_number same_place is_there same_held same_pin same_pins spots_too_near
    too_near_other crowded within spot_of spots_of lawful has_net is_net moved_pin pin_made pin_unmade made unmade stands_at found_as all_found proper
    makeable takeable numbered own kept filled in_turn same_job job_of sound_open sound_closed sound_seat sound_to sound answer_of any_of each_of no_two
broken_refused = (refl, refl)
