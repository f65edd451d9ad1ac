-- The runs of the boards worked by hand, W1 to W8, in the order in which they are taken; computed from the definition; no pins; boxes that touch.
-- Assumes nothing.
use mathlib.Core.Path.{◌≡◌, refl}
use mathlib.Core.Bool.{true, false}
use mathlib.Core.List.{List, [], ◌∷◌, map}
use lib.IntN.{pos}
use lib.ListN.{replicate}
use Rattle.basics.specs.Tests.{both, either, choose, any_of, each_of, no_two}
use Rattle.basics.specs.Lists.{padded}
use Rattle.refusal.specs.Rows.{first_of}
use Rattle.refusal.specs.declared.Refusal.TheVariants.{NoPins}
use Rattle.std.specs.Prelude.{None, Some, Ok, Err}
use Rattle.board.specs.Spots.{Spot}
use Rattle.board.specs.declared.Place.{Place}
use Rattle.board.specs.Boards.{below, boards}
use Rattle.board.specs.Place.{place, on_board, inside, difference, larger}
use Rattle.tree.specs.Weight.{weight_of, pair_of, by_part, by_number, comes_before}
use Rattle.board.specs.Place.{distance_of}
use Rattle.tree.specs.declared.Run.{Run}
use Rattle.board.specs.Spots.{most_pins, within, all_within}
use Rattle.tree.specs.Growth.{run, pair_at, sooner, kept_if, pins_from, without, runs_from, runs_between, earliest, earliest_of, next_run, grown, runs_among, pins_of, runs_of}
use Rattle.tree.specs.Boxes.{below_both, under, overlap, boxes_share, is_end, common, clash, boxes_apart}
use Rattle.tree.specs.Trees.{entries, tree_with, tree_of}

-- A feed of 32 spots that begins with the pins of a board.
abbrev feed : List Place → List Spot
feed board = padded most_pins None (map Some board)

-- The runs of W1 to W8.
abbrev runs : List (List Run)
runs =
    []
    ∷ (run 0 1 ∷ [])
    ∷ (run 0 1 ∷ run 1 2 ∷ [])
    ∷ (run 0 1 ∷ run 1 2 ∷ [])
    ∷ (run 0 1 ∷ run 0 3 ∷ run 0 2 ∷ [])
    ∷ (run 0 2 ∷ run 2 1 ∷ [])
    ∷ (run 0 1 ∷ [])
    ∷ (run 0 3 ∷ run 0 1 ∷ run 0 2 ∷ [])
    ∷ []

-- THE RUNS ARE THOSE WORKED BY HAND.
pub worked : map (λ board. tree_of (feed board)) boards ≡ map (λ l. Ok (tree_with l)) runs
unfolding tree_of tree_with first_of entries runs_of pins_of runs_among grown next_run earliest_of earliest runs_between runs_from without pins_from
    kept_if sooner pair_at comes_before by_part by_number pair_of weight_of distance_of difference larger both choose
worked = refl

-- A feed with no pins: 17.
pub nothing : tree_of (feed []) ≡ Err NoPins
unfolding tree_of first_of pins_of pins_from kept_if choose
nothing = refl

-- What the code asks of a feed can be met: every board stands on the board's range.
pub met : map (λ board. all_within (feed board)) boards ≡ replicate 8 true
unfolding each_of within inside on_board both
met = refl

-- Boxes that only touch share a point: these touch at a corner,
pub touching : boxes_share (place (pos 0) (pos 0)) (place (pos 1) (pos 1)) (place (pos 2) (pos 2)) (place (pos 1) (pos 1)) ≡ true
unfolding boxes_share overlap under below_both both choose
touching = refl

-- these along a side,
pub sides : boxes_share (place (below 1) (pos 0)) (place (pos 1) (pos 1)) (place (pos 5) (below 2)) (place (pos 1) (pos 7)) ≡ true
unfolding boxes_share overlap under below_both both choose
sides = refl

-- and these, a step apart, do not.
pub a_step_apart : boxes_share (place (below 1) (pos 0)) (place (pos 1) (pos 1)) (place (pos 5) (below 2)) (place (pos 2) (pos 7)) ≡ false
unfolding boxes_share overlap under below_both both choose
a_step_apart = refl

-- Four pins, whose boxes, of the first two and of the last two, touch at a corner.
abbrev corner : List Spot
corner = feed (place (pos 0) (pos 0) ∷ place (pos 20) (pos 20) ∷ place (pos 40) (pos 20) ∷ place (pos 20) (pos 40) ∷ [])

-- Two runs between these pins would not be apart; two with a common pin are, wherever their boxes lie.
pub would_meet : (boxes_apart corner (run 0 1 ∷ run 2 3 ∷ []) ≡ false) × (boxes_apart corner (run 0 1 ∷ run 1 3 ∷ []) ≡ true)
unfolding no_two any_of clash common is_end boxes_share overlap under below_both both either choose
would_meet = (refl, refl)
