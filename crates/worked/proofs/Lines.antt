-- The lines of W3, of its segments, of refused maps and of a small drawing, computed from the definitions. Assumes nothing.
use mathlib.Core.Path.{◌≡◌, refl}
use mathlib.Core.List.{List, [], ◌∷◌, ◌++◌}
use lib.IntN.{pos, negsuc}
use Rattle.basics.specs.Tests.{both, either, choose, any_of}
use Rattle.basics.specs.Sums.{sum, different, how_many}
use Rattle.refusal.specs.Refusals.{accepted}
use Rattle.refusal.specs.Rows.{first_of}
use Rattle.refusal.specs.declared.Refusal.TheVariants.{RoomTooSmall, MapLength, OtherJob}
use Rattle.std.specs.Prelude.{Ok, Err, Some}
use Rattle.drawing.specs.Pins.{Pin, absent, there, holding, is_there}
use Rattle.board.specs.Place.{difference, larger, same_number, is_straight, distance_of, smaller}
use Rattle.tree.specs.Weight.{weight_of, pair_of, by_part, by_number, comes_before}
use Rattle.tree.specs.Growth.{pair_at, sooner, kept_if, pins_from, without, runs_from, runs_between, earliest, earliest_of, next_run, grown, runs_among, pins_of, runs_of}
use Rattle.tree.specs.Bends.{bent}
use Rattle.copper.specs.declared.Favour.{Favour}
use Rattle.copper.specs.Shapes.{lower_corner, upper_corner, legs_of}
use Rattle.copper.specs.Length.{same_step, steps_across, steps_up, steps_of, steps_of_all, length_of}
use Rattle.wiring.specs.declared.Laid.{Laid}
use Rattle.wiring.specs.Choices.{bent_shapes, shapes_of, with_shape, with_shapes, choices_of, legs_of_choice, length_of_choice, shortest, shortest_of, best_choice, weighed_at, weighed_of}
use Rattle.wiring.specs.Answer.{shaped_runs, turned_away, answer_with, wiring_with, wiring_favouring, wiring_of}
use Rattle.laying.specs.Entries.{no_leg, run_entries, leg_entries}
use Rattle.text.specs.Text.{text, text_for_each}
use Rattle.text.specs.Digits.{digits, integer, place_text}
use Rattle.printed.specs.Answers.{carried_text, told_line, wired_line, milled_line, job_line, run_line, leg_line, drawing_line, pin_line}
use Rattle.shown.specs.Shown.{entry_line, leg_text, pin_text, pins_text, wired_text, laid_text, milled_text, cut_text, job_text, map_text, drawn_text}

-- W3: (0,0), (80,40), (80,-40).
abbrev w3 : Laid
w3 =
    wiring_of (Some (record { x = pos 0; y = pos 0 }) ∷ Some (record { x = pos 80; y = pos 40 }) ∷ Some (record { x = pos 80; y = negsuc 39 }) ∷ [])
    62 Favour.Lower

-- W3 as a map of job 7.
pub map_of_w3 : map_text 7 w3.wiring ≡ text "job 7 length 160 runs 2 weighed 5\n0 1 lower\n1 2 straight\n"
unfolding wiring_of wiring_favouring wiring_with answer_with turned_away leg_entries run_entries shaped_runs weighed_of sum weighed_at how_many bent
    best_choice shortest_of shortest length_of_choice legs_of_choice choices_of with_shapes with_shape shapes_of bent_shapes length_of different any_of
    steps_of_all steps_of smaller steps_up steps_across same_step legs_of lower_corner upper_corner is_straight runs_of pins_of runs_among grown next_run
    earliest_of earliest runs_between runs_from without pins_from kept_if sooner pair_at comes_before by_part by_number pair_of weight_of distance_of
    difference larger same_number accepted first_of both either choose digits job_line run_line entry_line text_for_each job_text map_text
map_of_w3 = refl

-- W3 with its legs.
pub laid_w3 : laid_text w3 ≡ text "0 length 160 runs 2 legs 3 weighed 5\n0 1 lower\n1 2 straight\nleg 0 0 80 0\nleg 80 0 80 40\nleg 80 40 80 -40\n"
unfolding wiring_of wiring_favouring wiring_with answer_with turned_away leg_entries run_entries shaped_runs weighed_of sum weighed_at
    how_many bent best_choice shortest_of shortest length_of_choice legs_of_choice choices_of with_shapes with_shape shapes_of bent_shapes length_of different
    any_of steps_of_all steps_of smaller steps_up steps_across same_step legs_of lower_corner upper_corner is_straight
    runs_of pins_of runs_among grown next_run earliest_of earliest runs_between runs_from without pins_from kept_if sooner
    pair_at comes_before by_part by_number pair_of weight_of distance_of difference larger same_number accepted first_of both either choose digits integer
    place_text wired_line run_line leg_line entry_line text_for_each leg_text wired_text laid_text
laid_w3 = refl

-- The segments of W3, the entry after them not printed; and a milling without room.
pub cut_w3 :
    cut_text
    (record {
      milling = record { verdict = Ok tt; segments = 2 };
      list =
          record { from = record { x = pos 0; y = pos 0 }; to = record { x = pos 80; y = pos 0 } }
          ∷ record { from = record { x = pos 80; y = negsuc 39 }; to = record { x = pos 80; y = pos 40 } } ∷ no_leg ∷ [];
    })
    ++ cut_text (record { milling = record { verdict = Err RoomTooSmall; segments = 0 }; list = no_leg ∷ [] })
    ≡ text "0 segments 2\nsegment 0 0 80 0\nsegment 80 -40 80 40\nrefused 19\n"
unfolding accepted choose digits integer place_text carried_text told_line milled_line leg_line text_for_each leg_text milled_text cut_text
cut_w3 = refl

-- Refused maps: of a wrong length, and with a record of another job.
pub refused_maps : map_text 7 (turned_away (Err MapLength)).wiring ++ map_text 7 (turned_away (Err (OtherJob 2))).wiring
    ≡ text "refused 13\nrefused 14 record 2\n"
unfolding turned_away run_entries accepted choose digits carried_text told_line map_text
refused_maps = refl

-- A drawing whose pins 1 and 2 are there: (20,-20) of net 1 and part 0, and (20000,-20000) of net 8 and part 4294967295.
abbrev two : List Pin
two =
    absent ∷ there (holding (record { x = pos 20; y = negsuc 19 }) 1 0) ∷ there (holding (record { x = pos 20000; y = negsuc 19999 }) 8 4294967295)
    ∷ absent ∷ []

-- It is printed with its two pins counted and a line for each.
pub drawn_two : drawn_text 7 two 2 1 ≡ text "job 7 pins 2 standing 2 taken 1\npin 1 20 -20 1 0\npin 2 20000 -20000 8 4294967295\n"
unfolding choose digits integer place_text drawing_line pin_line pin_text pins_text is_there how_many drawn_text
drawn_two = refl
