-- Logs of a few lines with what they print, by the definitions alone. Assumes nothing.
use mathlib.Core.Path.{◌≡◌, refl}
use mathlib.Core.List.{List, [], ◌∷◌, ◌++◌}
use Prim.Native.Nat.{ℕ, ◌+◌}
use Prim.Native.String.{String}
use Rattle.basics.specs.Sums.{how_many}
use Rattle.basics.specs.Lists.{numbered}
use Rattle.basics.specs.Tests.{both, either, choose, any_of, each_of, no_two}
use Rattle.refusal.specs.Refusals.{accepted}
use Rattle.refusal.specs.Rows.{first_of}
use Rattle.pinmap.specs.Number.{bits_at, number_at, first_byte, second_byte, third_byte, fourth_byte, four_bytes}
use Rattle.board.specs.Place.{on_board, inside, difference, is_straight, closer, too_near, same_number, same_place}
use Rattle.board.specs.Spots.{spots_too_near, crowded, within, too_near_other}
use Rattle.drawing.specs.Pins.{is_there, is_net, is_of, feed_spot, feed_of, has_net, same_held, same_pin, same_pins, lawful, spot_of, spots_of, stands_at, held_by}
use Rattle.edits.specs.Edits.{moved_pin, pin_made, pin_unmade, made, unmade, found_as, all_found, proper, makeable, takeable}
use Rattle.tree.specs.Growth.{pair_at, kept_if, pins_from, without, runs_from, runs_between, earliest, earliest_of, next_run, grown, runs_among, pins_of, runs_of}
use Rattle.tree.specs.Bends.{bent}
use Rattle.copper.specs.Shapes.{legs_of}
use Rattle.wiring.specs.Choices.{shapes_of, with_shape, with_shapes, choices_of, legs_of_choice, length_of_choice, shortest, shortest_of, best_choice}
use Rattle.laying.specs.Entries.{leg_entries}
use Rattle.spans.specs.Spans.{insert, add, add_all}
use Rattle.mill.specs.Numbered.{counted, uncounted, row_number, span_of, place_of, segments_of}
use Rattle.mill.specs.Answer.{copper_of, cut_with}
use Rattle.records.specs.Record.{record_of, faulty}
use Rattle.writemap.specs.Record.{record_bytes, pin_bytes}
use Rattle.pinmap.specs.Map.{plain}
use Rattle.readmap.specs.Map.{records_in, with_pin_of, with_pins_of, rows_from, wrong_length, read_map}
use Rattle.writemap.specs.Map.{map_from, map_of, written}
use Rattle.forms.specs.Moving.{moved_of, buffer_moved}
use Rattle.journal.specs.Journal.{own, kept, filled, in_turn}
use Rattle.desk.specs.declared.Desk.{Desk}
use Rattle.seats.specs.Seats.{same_job}
use Rattle.desk.specs.Desk.{job_of, sound_open, sound_closed, sound_seat, sound_to, sound, edited, effect, answer_of, step, empty_desk}
use Rattle.asked.specs.Asked.{written_of, buffer_of, milled_of}
use Rattle.text.specs.Text.{text, text_for_each, same}
use Rattle.text.specs.Words.{end_of, before_first, pieces, non_empty, words_of}
use Rattle.text.specs.Numbers.{between, value_from, is_number, has_minus, is_coordinate, signed, is_hex, hex_value, all_pairs, bytes_of, is_spelled, is_map, spelled}
use Rattle.script.specs.Said.{only, is_seat_alone, is_pair, is_placing, seat_call, pair_call, place_call, favour_in, ends_in_favour, is_form, form_in, open_call, moving_call, is_lending, lending_call, said_as, call_in, is_skipped, said_in, is_long, said_by, map_given, favour_given}
use Rattle.text.specs.Digits.{digits, integer, place_text, hex_digit, hex}
use Rattle.printed.specs.Answers.{carried_text, told_line, hex_part, written_line, milled_line, leg_line, drawing_line, pin_line, not_a_call_line}
use Rattle.shown.specs.Shown.{pin_text, pins_text, leg_text, milled_text, cut_text, drawn_text}
use Rattle.answer.specs.Answered.{followed, played, call_text, written_text, writing_text, moving_text, seat_text, printed, answered}

-- What lines print one after the other, numbered from a number on.
told : Desk → ℕ → List String → List ℕ
told d number [] = []
told d number (line ∷ rest) = answered d number (text line) ++ told (played d (text line)) (number + 1) rest

-- D3 and what a log does beside: undo, `pins` of seats of each kind, a line that is not a call.
worked :
    told empty_desk 1
    ("# D3" ∷ "open 0 7 new -" ∷ "place 0 0 20 -20 1 0" ∷ "write 0 17" ∷ "pins 0" ∷ "undo 0" ∷ "pins 0" ∷ "undo 0" ∷ "pins 1" ∷ "pins 8" ∷ "draw 0" ∷ [])
    ≡ text "0\n0\n0 16 0007000100000014ffffffec00000000ee\njob 7 pins 1 standing 1 taken 0\npin 0 20 -20 1 0\n0\n"
    ++ text "job 7 pins 0 standing 0 taken 1\nrefused 10\nclosed\nrefused 1\nline 11: not a call\n"
unfolding told both either choose accepted first_of on_board inside difference closer too_near same_number same_place is_there is_net has_net same_held same_pin same_pins spots_too_near
    too_near_other crowded within spot_of spots_of lawful moved_pin pin_made pin_unmade made unmade stands_at found_as all_found proper makeable takeable numbered held_by first_byte second_byte
    third_byte fourth_byte four_bytes record_bytes pin_bytes records_in with_pins_of rows_from wrong_length read_map map_from map_of written own kept filled in_turn same_job job_of sound_open sound_closed sound_seat sound_to sound edited effect answer_of step empty_desk written_of
    buffer_of same end_of before_first pieces non_empty words_of between each_of value_from is_number has_minus is_coordinate signed is_hex hex_value all_pairs bytes_of
    is_spelled is_map spelled only is_seat_alone is_pair is_placing seat_call pair_call place_call is_form form_in open_call said_as call_in is_skipped said_in is_long map_given digits integer place_text
    hex_digit hex carried_text told_line hex_part written_line drawing_line pin_line not_a_call_line pin_text pins_text how_many drawn_text followed played call_text
    written_text writing_text seat_text printed answered said_by any_of no_two
worked = refl

-- The map of D3 moved over, with a byte of the lent room left as it was, and without room; moved back; its pin of another net, and with a part; no job.
moved :
    told empty_desk 1
    ("over 7 17 0007000000000014ffffffec" ∷ "over 7 15 0007000000000014ffffffec" ∷ "back 7 12 0007000100000014ffffffec00000000"
    ∷ "back 7 12 0007000200000014ffffffec00000000" ∷ "back 7 12 0007000100000014ffffffec00000005" ∷ "over 0 17 -" ∷ [])
    ≡ text "0 16 0007000100000014ffffffec00000000ee\nrefused 19\n0 12 0007000000000014ffffffec\nrefused 22\nrefused 22\nrefused 4\n"
unfolding told both either choose accepted first_of on_board inside difference closer too_near same_number is_net is_there spots_too_near crowded within spot_of spots_of
    bits_at number_at first_byte second_byte third_byte fourth_byte four_bytes record_of faulty record_bytes pin_bytes records_in with_pin_of with_pins_of rows_from wrong_length read_map map_from
    map_of written plain moved_of buffer_moved empty_desk same end_of before_first pieces non_empty words_of between each_of value_from is_number is_hex hex_value all_pairs bytes_of is_spelled
    is_map spelled only moving_call said_as call_in is_skipped said_in is_long map_given digits hex_digit hex carried_text told_line hex_part written_line followed played
    written_text moving_text printed answered said_by any_of
moved = refl

-- Two pins in a row, milled: no pins to wire, one pin without copper, no room, a segment, a net without pins, no such net, and a seat that is not open.
milled :
    told empty_desk 1
    ("open 0 7 old -" ∷ "mill 0 3 0" ∷ "place 0 0 20 -20 3 0" ∷ "mill 0 3 0" ∷ "place 0 1 0 -20 3 9" ∷ "mill 0 3 0 lower" ∷ "mill 0 3 1" ∷ "mill 0 1 64"
    ∷ "mill 0 9 64" ∷ "mill 1 3 64" ∷ [])
    ≡ text "0\nrefused 17\n0\n0 segments 0\n0\nrefused 19\n0 segments 1\nsegment 0 -20 20 -20\nrefused 17\nrefused 21\nrefused 2\n"
unfolding told both either choose accepted first_of on_board inside difference is_straight closer too_near same_number same_place is_there is_net is_of feed_spot feed_of has_net same_held same_pin same_pins
    spots_too_near too_near_other crowded within spot_of spots_of lawful pin_made pin_unmade made unmade stands_at found_as all_found proper makeable takeable numbered held_by
    pair_at kept_if pins_from without runs_from runs_between earliest earliest_of next_run grown runs_among pins_of runs_of bent legs_of shapes_of with_shape with_shapes choices_of
    legs_of_choice length_of_choice shortest shortest_of best_choice leg_entries insert add add_all counted uncounted row_number span_of place_of segments_of copper_of cut_with
    records_in with_pins_of rows_from wrong_length read_map own kept filled in_turn same_job job_of sound_open sound_closed sound_seat sound_to sound edited effect answer_of step
    empty_desk milled_of same end_of before_first pieces non_empty words_of between each_of value_from is_number has_minus is_coordinate signed is_hex hex_value all_pairs bytes_of
    is_spelled is_map spelled only is_placing place_call favour_in ends_in_favour is_form form_in open_call is_lending lending_call said_as call_in is_skipped said_in is_long map_given favour_given
    digits integer place_text carried_text told_line milled_line leg_line text_for_each leg_text milled_text cut_text followed played call_text printed answered said_by any_of
    no_two
milled = refl
