-- The job of inputs of each length, W3, and maps with a faulty record, computed from the definitions. Assumes nothing.
use mathlib.Core.Path.{◌≡◌, refl}
use mathlib.Core.List.{List, [], ◌∷◌, ◌++◌, map}
use Prim.Native.Nat.{ℕ}
use Rattle.basics.specs.Tests.{both, either, choose, any_of, each_of, no_two}
use Rattle.basics.specs.Sums.{sum, different}
use Rattle.refusal.specs.Refusals.{accepted}
use Rattle.refusal.specs.Rows.{first_of}
use Rattle.refusal.specs.declared.Refusal.TheVariants.{OtherJob, FaultyRecord}
use Rattle.std.specs.Prelude.{Ok, Err}
use Rattle.pinmap.specs.Number.{bits_at, number_at}
use Rattle.board.specs.Place.{difference, larger, same_number, same_place, on_board, inside, closer, too_near, is_straight}
use Rattle.tree.specs.Weight.{weight_of, pair_of, by_part, by_number, comes_before}
use Rattle.board.specs.Place.{distance_of}
use Rattle.board.specs.Spots.{spots_too_near, crowded, within, too_near_other}
use Rattle.drawing.specs.Pins.{is_there, lawful, has_net, is_net, is_of, feed_spot, feed_of, spot_of, spots_of}
use Rattle.tree.specs.Growth.{pair_at, sooner, kept_if, pins_from, without, runs_from, runs_between, earliest, earliest_of, next_run, grown, runs_among, pins_of, runs_of}
use Rattle.tree.specs.Bends.{bent}
use Rattle.basics.specs.Sums.{how_many}
use Rattle.copper.specs.Shapes.{lower_corner, upper_corner, legs_of}
use Rattle.copper.specs.Length.{same_step, steps_across, steps_up, steps_of, steps_of_all, length_of}
use Rattle.board.specs.Place.{smaller}
use Rattle.wiring.specs.Choices.{bent_shapes, shapes_of, with_shape, with_shapes, choices_of, legs_of_choice, length_of_choice, shortest, shortest_of, best_choice, weighed_at, weighed_of}
use Rattle.wiring.specs.Answer.{shaped_runs, turned_away, answer_with, wiring_with, wiring_favouring, wiring_of}
use Rattle.laying.specs.Entries.{run_entries, leg_entries}
use Rattle.journal.specs.Journal.{own, filled, in_turn}
use Rattle.records.specs.Record.{record_of, faulty}
use Rattle.readmap.specs.Map.{records_in, with_pin_of, with_pins_of, rows_from, wrong_length, read_map}
use Rattle.seats.specs.Seats.{same_job}
use Rattle.desk.specs.Desk.{job_of, sound_open, sound_closed, sound_seat, sound_to, sound, effect, answer_of, step, empty_desk}
use Rattle.asked.specs.Asked.{wired_of}
use Rattle.text.specs.Text.{text, text_for_each}
use Rattle.text.specs.Digits.{digits}
use Rattle.printed.specs.Answers.{carried_text, told_line, job_line, run_line}
use Rattle.shown.specs.Shown.{entry_line, job_text, map_text}
use Rattle.mapped.specs.Mapped.{job_of_map, opened_with, wired_with, map_answer}
use Rattle.mapped.proofs.Opening.{opened, printed-refused}

-- The job of no byte, of one byte, of two, and of more.
jobs : map job_of_map ([] ∷ (7 ∷ []) ∷ (0 ∷ []) ∷ (0 ∷ 0 ∷ []) ∷ (1 ∷ 2 ∷ []) ∷ (255 ∷ 255 ∷ 0 ∷ []) ∷ []) ≡ 1 ∷ 1 ∷ 1 ∷ 0 ∷ 258 ∷ 65535 ∷ []
unfolding job_of_map
jobs = refl

-- A record of job 7: its pin, and the last byte of its x; y follows.
abbrev placed : ℕ → ℕ → List ℕ → List ℕ
placed pin x y = 0 ∷ 7 ∷ pin ∷ 0 ∷ 0 ∷ 0 ∷ 0 ∷ x ∷ y

-- W3 as a map of job 7: pins (0,0), (80,40) and (80,-40).
abbrev W3 : List ℕ
W3 = placed 0 0 (0 ∷ 0 ∷ 0 ∷ 0 ∷ []) ++ placed 1 80 (0 ∷ 0 ∷ 0 ∷ 40 ∷ []) ++ placed 2 80 (255 ∷ 255 ∷ 255 ∷ 216 ∷ [])

-- For W3 exactly these three lines are printed.
W3-holds : map_answer W3 ≡ text "job 7 length 160 runs 2 weighed 5\n0 1 lower\n1 2 straight\n"
unfolding job_of_map opened_with wired_with map_answer map_text job_text text_for_each entry_line run_line job_line digits wired_of step effect answer_of
    same_job sound sound_to sound_seat sound_open sound_closed job_of empty_desk read_map wrong_length rows_from records_in with_pins_of record_of number_at bits_at faulty
    with_pin_of own filled in_turn is_there spots_too_near too_near_other crowded within spot_of spots_of lawful has_net is_net is_of feed_spot feed_of wiring_of wiring_favouring wiring_with
    answer_with turned_away leg_entries run_entries shaped_runs weighed_of sum weighed_at how_many bent best_choice shortest_of shortest length_of_choice legs_of_choice choices_of
    with_shapes with_shape shapes_of bent_shapes length_of different steps_of_all steps_of smaller steps_up steps_across same_step legs_of lower_corner upper_corner
    is_straight runs_of pins_of runs_among grown next_run earliest_of earliest runs_between runs_from without
    pins_from kept_if sooner pair_at comes_before by_part by_number pair_of weight_of distance_of difference larger same_number same_place on_board inside closer too_near
    accepted first_of both either choose any_of no_two each_of
W3-holds = refl

-- The third record has another job: 14.
abbrev third_other : List ℕ
third_other = placed 0 0 (0 ∷ 0 ∷ 0 ∷ 0 ∷ []) ++ placed 1 80 (0 ∷ 0 ∷ 0 ∷ 40 ∷ []) ++ (0 ∷ 8 ∷ 2 ∷ 0 ∷ 0 ∷ 0 ∷ 0 ∷ 80 ∷ 255 ∷ 255 ∷ 255 ∷ 216 ∷ [])

-- It is refused with 14 and that record.
other_job : map_answer third_other ≡ text "refused 14 record 2\n"
unfolding job_of_map wrong_length rows_from records_in record_of number_at bits_at faulty with_pin_of spots_too_near any_of too_near_other crowded spot_of spots_of difference closer
    too_near inside on_board accepted first_of both either choose told_line carried_text digits
other_job = printed-refused third_other {v = Err (OtherJob 2)} (opened third_other) refl

-- The second record's pin is not above the one before: 15.
abbrev pin_twice : List ℕ
pin_twice = placed 0 0 (0 ∷ 0 ∷ 0 ∷ 0 ∷ []) ++ placed 0 80 (0 ∷ 0 ∷ 0 ∷ 40 ∷ [])

-- It is refused with 15 and the second record.
pin_twice_lem : map_answer pin_twice ≡ text "refused 15 record 1\n"
unfolding job_of_map wrong_length rows_from records_in record_of number_at bits_at faulty with_pin_of spots_too_near any_of too_near_other crowded spot_of spots_of difference closer
    too_near inside on_board accepted first_of both either choose told_line carried_text digits
pin_twice_lem = printed-refused pin_twice {v = Err (FaultyRecord 1)} (opened pin_twice) refl
