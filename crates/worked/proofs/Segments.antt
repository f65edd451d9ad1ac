-- Lists of segments worked by hand, computed from the definition. Assumes nothing.
use mathlib.Core.Path.{◌≡◌, refl}
use mathlib.Core.List.{List, [], ◌∷◌, map}
use Prim.Native.Nat.{◌-◌}
use lib.IntN.{ℤ, pos}
use Rattle.basics.specs.Tests.{both, either, choose, any_of}
use Rattle.basics.specs.Lists.{padded}
use Rattle.basics.specs.Sums.{sum, different}
use Rattle.refusal.specs.Refusals.{accepted}
use Rattle.refusal.specs.Rows.{first_of}
use Rattle.refusal.specs.declared.Refusal.TheVariants.{RoomTooSmall}
use Rattle.std.specs.Prelude.{Ok, Err, None, Some}
use Rattle.board.specs.declared.Place.{Place}
use Rattle.board.specs.Spots.{Spot, most_pins}
use Rattle.board.specs.Place.{limit, place, difference, same_number, is_straight, larger, smaller, distance_of}
use Rattle.board.specs.Boards.{below, W3}
use Rattle.tree.specs.Weight.{weight_of, pair_of, by_part, by_number, comes_before}
use Rattle.tree.specs.Growth.{pair_at, sooner, kept_if, pins_from, without, runs_from, runs_between, earliest, earliest_of, next_run, grown, runs_among, pins_of, runs_of}
use Rattle.tree.specs.Bends.{bent}
use Rattle.copper.specs.declared.Favour.{Favour}
use Rattle.copper.specs.declared.Leg.{Leg}
use Rattle.copper.specs.Shapes.{lower_corner, upper_corner, legs_of}
use Rattle.copper.specs.Length.{same_step, steps_across, steps_up, steps_of, steps_of_all, length_of}
use Rattle.spans.specs.Spans.{left, carried, with_left, insert, add, add_all}
use Rattle.wiring.specs.Choices.{bent_shapes, shapes_of, with_shape, with_shapes, choices_of, legs_of_choice, length_of_choice, shortest, shortest_of, best_choice}
use Rattle.mill.specs.Segments.{total_length}
use Rattle.mill.specs.Numbered.{counted, uncounted, row_number, column_number, span_of, place_of, segments_of}
use Rattle.mill.specs.Answer.{copper_of, cut_with, cut_of}

-- A leg by its numbers.
abbrev leg : ℤ → ℤ → ℤ → ℤ → Leg
leg x y v w = record { from = place x y; to = place v w }

-- Copper that overlaps, touches, repeats, goes back and crosses; a leg of no length.
abbrev tangled : List Leg
tangled =
    leg (pos 2) (pos 4) (pos 2) (pos 6)
    ∷ leg (pos 5) (pos 0) (pos 0) (pos 0)
    ∷ leg (pos 8) (pos 0) (pos 9) (pos 0)
    ∷ leg (pos 2) (below 1) (pos 2) (pos 4)
    ∷ leg (pos 1) (pos 1) (pos 1) (pos 1)
    ∷ leg (pos 3) (pos 0) (pos 8) (pos 0)
    ∷ leg (pos 0) (below 2) (pos 1) (below 2)
    ∷ leg (pos 3) (below 2) (pos 4) (below 2)
    ∷ leg (pos 0) (pos 0) (pos 5) (pos 0)
    ∷ []

-- Two stretches of the row below, one of row 0, and the column.
abbrev untangled : List Leg
untangled =
    leg (pos 0) (below 2) (pos 1) (below 2)
    ∷ leg (pos 3) (below 2) (pos 4) (below 2)
    ∷ leg (pos 0) (pos 0) (pos 9) (pos 0)
    ∷ leg (pos 2) (below 1) (pos 2) (pos 6)
    ∷ []

-- Its segments are these, 18 steps in all.
tangle : (segments_of tangled ≡ untangled) × (total_length untangled ≡ 18) × (length_of tangled ≡ 18)
unfolding both either choose any_of sum different difference same_number smaller distance_of same_step steps_across steps_up steps_of steps_of_all length_of
    left carried with_left insert add add_all total_length counted uncounted row_number column_number span_of place_of segments_of
tangle = (refl, refl, refl)

-- Whole lines at the ends of the board that follow each other are only put in order: none is joined to the next, nor the last row to the first column.
rims : segments_of (leg (below limit) (pos limit) (pos limit) (pos limit)
    ∷ leg (below limit) (below limit) (below limit) (pos limit)
    ∷ leg (pos limit) (pos (limit - 1)) (below limit) (pos (limit - 1))
    ∷ [])
    ≡ leg (below limit) (pos (limit - 1)) (pos limit) (pos (limit - 1))
    ∷ leg (below limit) (pos limit) (pos limit) (pos limit)
    ∷ leg (below limit) (below limit) (below limit) (pos limit)
    ∷ []
unfolding both either choose difference same_number left carried with_left insert add add_all counted uncounted row_number column_number span_of place_of
    segments_of
rims = refl

-- A feed of 32 spots that begins with the pins of a board.
abbrev feed : List Place → List Spot
feed board = padded most_pins None (map Some board)

-- W3 with lower favoured: room for two segments is enough, room for one is not.
w3 : (cut_of (feed W3) 2 Favour.Lower ≡ cut_with (Ok tt) (leg (pos 0) (pos 0) (pos 80) (pos 0) ∷ leg (pos 80) (below 40) (pos 80) (pos 40) ∷ []))
    × (cut_of (feed W3) 1 Favour.Lower ≡ cut_with (Err RoomTooSmall) [])
unfolding both either choose any_of different accepted first_of difference same_number is_straight larger smaller distance_of
    weight_of pair_of by_part by_number comes_before pair_at sooner kept_if pins_from without runs_from runs_between earliest earliest_of next_run
    grown runs_among pins_of runs_of bent
    lower_corner upper_corner legs_of same_step steps_across steps_up steps_of steps_of_all length_of
    bent_shapes shapes_of with_shape with_shapes choices_of legs_of_choice length_of_choice shortest shortest_of best_choice
    left carried with_left insert add add_all counted uncounted row_number column_number span_of place_of segments_of copper_of cut_of
w3 = (refl, refl)
