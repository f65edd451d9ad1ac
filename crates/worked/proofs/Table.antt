-- W1 to W8 and D1 to D3 of document 01, as one statement over a table: the boards by the definition of bare wiring, the desks by the
-- definition of a call from the empty desk. Assumes nothing.
use mathlib.Core.Path.{◌≡◌, refl, ap}
use mathlib.Core.List.{List, [], ◌∷◌, ◌++◌, map}
use Prim.Native.Nat.{ℕ}
use lib.IntN.{pos, negsuc}
use lib.ListN.{take, drop, replicate}
use Rattle.basics.specs.Lists.{numbered}
use Rattle.basics.specs.Tests.{both, either, choose, any_of, each_of, no_two}
use Rattle.refusal.specs.Refusals.{accepted, Verdict}
use Rattle.refusal.specs.Rows.{first_of}
use Rattle.refusal.specs.declared.Refusal.TheVariants.{NothingStands, NothingTakenBack}
use Rattle.std.specs.Prelude.{Ok, Err}
use Rattle.board.specs.declared.Place.{Place}
use Rattle.board.specs.Boards.{W2, boards}
use Rattle.pinmap.specs.Number.{four_bytes, first_byte, second_byte, third_byte, fourth_byte}
use Rattle.board.specs.Place.{place, on_board, inside, difference, closer, too_near, same_number, same_place}
use Rattle.drawing.specs.Pins.{Pin, is_net, has_net, is_there, same_held, same_pin, same_pins, lawful, spot_of, spots_of, stands_at, held_by}
use Rattle.board.specs.Spots.{spots_too_near, crowded, within, too_near_other}
use Rattle.edits.specs.Edits.{moved_pin, pin_made, pin_unmade, made, unmade, found_as, all_found, proper, makeable, takeable}
use Rattle.pinmap.specs.declared.Form.TheVariants.{Old}
use Rattle.writemap.specs.Record.{record_bytes, pin_bytes}
use Rattle.readmap.specs.Map.{records_in, with_pins_of, rows_from, wrong_length, read_map}
use Rattle.writemap.specs.Map.{map_from, map_of, written}
use Rattle.journal.specs.Journal.{own, kept, filled, in_turn}
use Rattle.rows.specs.Calls.{Call, opening, undoing, redoing}
use Rattle.seats.specs.Seats.{same_job}
use Rattle.desk.specs.Desk.{seat_of, job_of, sound_open, sound_closed, sound_seat, sound_to, sound, edited, effect, answer_of, step, empty_desk}
use Rattle.asked.specs.Asked.{written_of, buffer_of}
use Rattle.copper.specs.declared.Favour.{Favour}
use Rattle.wiring.specs.declared.Wiring.{Wiring}
use Rattle.worked.proofs.Boards as boarded
use Rattle.history.specs.History.{after, answers}
use Rattle.worked.proofs.Cases.{pin_at, drawn, placing, moving}

-- A case: boards with what is said of the shape to favour and their answers; calls from the empty desk with what they are answered and the pins that they
-- leave at seats 0 and 1; or calls, a buffer lent for writing seat 0 then, how many bytes are written, and what the buffer holds afterwards.
pub data Case : Type 0 where
  wired : Favour → List (List Place) → List Wiring → Case
  session : List Call → List Verdict → List Pin → List Pin → Case
  writes : List Call → List ℕ → ℕ → List ℕ → Case

-- What a case says.
unfoldable pub Holds : Case → Type 0
Holds (wired favour l w) = map (boarded.wiring_of_board favour) l ≡ w
Holds (session calls verdicts first second) =
    (answers empty_desk calls ≡ verdicts) × ((seat_of (after empty_desk calls) 0).pins ≡ first) × ((seat_of (after empty_desk calls) 1).pins ≡ second)
Holds (writes calls buffer bytes later) =
    ((written_of (after empty_desk calls) 0 buffer).answer ≡ Ok bytes)
    × (buffer_of (after empty_desk calls) 0 buffer ≡ later)

-- What a table of cases says.
unfoldable pub AllHold : List Case → Type 0
AllHold [] = Unit {0}
AllHold (c ∷ table) = Holds c × AllHold table

-- D1, up to the first undo: both seats opened empty, a pin placed at each, seat 0 undone.
abbrev D1 : List Call
D1 = opening 0 7 Old [] ∷ opening 1 9 Old [] ∷ placing 0 0 (place (pos 20) (pos 20)) ∷ placing 1 0 (place (pos 40) (pos 40)) ∷ undoing 0 ∷ []

-- D2: pin 0 placed and moved, the move undone, pin 1 placed; the redo is 11.
abbrev D2 : List Call
D2 =
    opening 0 7 Old [] ∷ placing 0 0 (place (pos 20) (pos 20)) ∷ moving 0 0 (place (pos 80) (pos 80)) ∷ undoing 0
    ∷ placing 0 1 (place (pos 40) (pos 40)) ∷ redoing 0 ∷ []

-- D3: job 7, pin 0 at (20,-20), of net 1 with part number 0. Written into 18 bytes that hold 9, the last two stay.
abbrev D3 : List Call
D3 = opening 0 7 Old [] ∷ placing 0 0 (place (pos 20) (negsuc 19)) ∷ []

-- The table: the boards with lower asked for, W2 with upper and with nothing said, D1 up to its first undo and to its end, D2, D3.
abbrev pub table : List Case
table =
    wired Favour.Lower boards boarded.answers
    ∷ wired Favour.Upper (W2 ∷ []) (boarded.upper_answer ∷ [])
    ∷ wired Favour.Unsaid (W2 ∷ []) (boarded.upper_answer ∷ [])
    ∷ session D1 (Ok tt ∷ Ok tt ∷ Ok tt ∷ Ok tt ∷ Ok tt ∷ []) (drawn []) (drawn (pin_at (pos 40) (pos 40) ∷ []))
    ∷ session (D1 ++ (undoing 0 ∷ redoing 0 ∷ [])) (Ok tt ∷ Ok tt ∷ Ok tt ∷ Ok tt ∷ Ok tt ∷ Err NothingStands ∷ Ok tt ∷ [])
    (drawn (pin_at (pos 20) (pos 20) ∷ [])) (drawn (pin_at (pos 40) (pos 40) ∷ []))
    ∷ session D2 (Ok tt ∷ Ok tt ∷ Ok tt ∷ Ok tt ∷ Ok tt ∷ Err NothingTakenBack ∷ [])
    (drawn (pin_at (pos 20) (pos 20) ∷ pin_at (pos 40) (pos 40) ∷ [])) (drawn [])
    ∷ writes D3 (replicate 18 9) 16 (0 ∷ 7 ∷ 0 ∷ 1 ∷ 0 ∷ 0 ∷ 0 ∷ 20 ∷ 255 ∷ 255 ∷ 255 ∷ 236 ∷ 0 ∷ 0 ∷ 0 ∷ 0 ∷ 9 ∷ 9 ∷ [])
    ∷ []

-- W1 TO W8 AND D1 TO D3 HOLD.
pub worked : AllHold table
unfolding Holds AllHold after answers both either choose accepted first_of on_board inside difference closer too_near same_number same_place is_there
    same_held same_pin same_pins spots_too_near too_near_other crowded within spot_of spots_of lawful has_net is_net moved_pin pin_made pin_unmade made unmade
    stands_at found_as all_found proper makeable takeable numbered held_by records_in with_pins_of rows_from wrong_length read_map own kept filled in_turn
    same_job job_of sound_open sound_closed sound_seat sound_to sound edited effect answer_of step empty_desk map_from map_of record_bytes pin_bytes
    four_bytes first_byte second_byte third_byte fourth_byte written written_of buffer_of any_of each_of no_two
worked = (
  (boarded.worked).0,
  (ap (take 1) (boarded.worked).1, (ap (drop 1) (boarded.worked).1, ((refl, refl, refl), ((refl, refl, refl), ((refl, refl, refl), ((refl, refl), tt)))))),
)
