-- Boards worked by hand, W1 to W8: computed from the definition of bare wiring. Assumes nothing.
use mathlib.Core.Path.{◌≡◌, refl}
use mathlib.Core.List.{List, [], ◌∷◌, map}
use Prim.Native.Nat.{ℕ}
use lib.ListN.{length}
use Rattle.basics.specs.Tests.{both, either, choose, any_of, each_of, no_two}
use Rattle.basics.specs.Lists.{padded, values_from}
use Rattle.basics.specs.Sums.{sum, different, how_many}
use Rattle.refusal.specs.Refusals.{accepted}
use Rattle.refusal.specs.Rows.{first_of}
use Rattle.std.specs.Prelude.{Ok}
use Rattle.board.specs.declared.Place.{Place}
use Rattle.board.specs.Boards.{W2, boards}
use Rattle.board.specs.Place.{difference, larger, same_number, on_board, inside, closer, too_near, is_straight, distance_of, smaller}
use Rattle.tree.specs.Weight.{weight_of, pair_of, by_part, by_number, comes_before}
use Rattle.board.specs.Spots.{within, spots_too_near}
use Rattle.tree.specs.Growth.{pair_at, sooner, kept_if, pins_from, without, runs_from, runs_between, earliest, earliest_of, next_run, grown, runs_among, pins_of, runs_of}
use Rattle.tree.specs.Bends.{bent}
use Rattle.tree.specs.Trees.{most_runs}
use Rattle.copper.specs.declared.Favour.{Favour}
use Rattle.copper.specs.declared.Shape.TheVariants.{Straight, Lower, Upper}
use Rattle.copper.specs.Shapes.{lower_corner, upper_corner, legs_of}
use Rattle.copper.specs.Length.{same_step, steps_across, steps_up, steps_of, steps_of_all, length_of}
use Rattle.laying.specs.declared.RunEntry.{RunEntry}
use Rattle.wiring.specs.declared.Wiring.{Wiring}
use Rattle.wiring.specs.Choices.{bent_shapes, shapes_of, with_shape, with_shapes, choices_of, legs_of_choice, length_of_choice, shortest, shortest_of, best_choice, weighed_at, weighed_of}
use Rattle.laying.specs.Entries.{run_entry, no_run, most_legs, run_entries, leg_entries}
use Rattle.wiring.specs.Answer.{shaped_runs, turned_away, answer_with, wiring_with, wiring_favouring, wiring_of}
use Rattle.bare.specs.Bare.{feed_of_lists, wrong_lengths, bare_of}

-- Bare wiring of a board: its x and its y, pin by pin, with room for all legs, and what is said of the shape to favour.
abbrev pub wiring_of_board : Favour → List Place → Wiring
wiring_of_board favour board = (bare_of (map (λ (p : Place). p.x) board) (map (λ (p : Place). p.y) board) most_legs favour).wiring

-- An answer: the length, the runs and their shapes, the legs, the choices weighed.
abbrev pub answer : ℕ → List RunEntry → ℕ → ℕ → Wiring
answer long runs legs weighed =
    record {
      verdict = Ok tt;
      length = long;
      runs = length runs;
      entries = padded most_runs no_run runs;
      legs = legs;
      weighed = weighed;
    }

-- What W1 to W8 are answered with lower asked for: their lengths, runs and shapes, legs and choices weighed.
abbrev pub answers : List Wiring
answers =
    answer 0 [] 0 1
    ∷ answer 100 (run_entry 0 1 Lower ∷ []) 2 4
    ∷ answer 160 (run_entry 0 1 Lower ∷ run_entry 1 2 Straight ∷ []) 3 5
    ∷ answer 160 (run_entry 0 1 Upper ∷ run_entry 1 2 Straight ∷ []) 3 5
    ∷ answer 80 (run_entry 0 1 Straight ∷ run_entry 0 3 Lower ∷ run_entry 0 2 Lower ∷ []) 5 9
    ∷ answer 120 (run_entry 0 2 Upper ∷ run_entry 2 1 Upper ∷ []) 4 8
    ∷ answer 140 (run_entry 0 1 Straight ∷ []) 1 2
    ∷ answer 120 (run_entry 0 3 Straight ∷ run_entry 0 1 Straight ∷ run_entry 0 2 Straight ∷ []) 3 4
    ∷ []

-- What W2 is answered with upper asked for.
abbrev pub upper_answer : Wiring
upper_answer = answer 100 (run_entry 0 1 Upper ∷ []) 2 4

-- W1 to W8 with lower asked for; W2 with upper, and with nothing said.
pub worked : (map (wiring_of_board Favour.Lower) boards ≡ answers)
    × (map (λ favour. wiring_of_board favour W2) (Favour.Upper ∷ Favour.Unsaid ∷ []) ≡ upper_answer ∷ upper_answer ∷ [])
unfolding bare_of wrong_lengths feed_of_lists values_from within no_two any_of spots_too_near wiring_of wiring_favouring wiring_with answer_with turned_away
    leg_entries run_entries shaped_runs weighed_of sum weighed_at how_many bent best_choice shortest_of shortest length_of_choice legs_of_choice choices_of
    with_shapes with_shape shapes_of bent_shapes length_of different steps_of_all steps_of smaller steps_up steps_across same_step legs_of lower_corner
    upper_corner is_straight runs_of pins_of runs_among grown next_run earliest_of earliest runs_between runs_from without pins_from kept_if sooner pair_at
    each_of comes_before by_part by_number pair_of weight_of distance_of difference larger same_number on_board inside closer too_near accepted first_of both
    either choose
worked = (refl, refl)
