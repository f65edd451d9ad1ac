-- The wiring of a feed: its refusals and its answer, with the legs.
use Rattle.std.specs.Prelude.{Bool, List, [], ◌∷◌, ◌++◌, ℕ, ltb, length, Ok}
use Rattle.basics.specs.Tests.{choose}
use Rattle.refusal.specs.Refusals.{Verdict, accepted}
use Rattle.refusal.specs.Rows.{Row, given, first_of}
use Rattle.refusal.specs.declared.Refusal.TheVariants.{RoomTooSmall}
use Rattle.board.specs.Spots.{Spot}
use Rattle.tree.specs.declared.Run.{Run}
use Rattle.tree.specs.Growth.{pins_of, runs_of}
use Rattle.tree.specs.Trees.{tree_rows}
use Rattle.copper.specs.declared.Shape.{Shape}
use Rattle.copper.specs.declared.Favour.{Favour}
use Rattle.copper.specs.declared.Leg.{Leg}
use Rattle.copper.specs.Shapes.{favours_upper}
use Rattle.laying.specs.declared.RunEntry.{RunEntry}
use Rattle.wiring.specs.declared.Laid.{Laid}
use Rattle.laying.specs.Entries.{run_entry, run_entries, leg_entries}
use Rattle.wiring.specs.Choices.{best_choice, legs_of_choice, length_of_choice, weighed_of}

-- The runs with their shapes.
unfoldable pub shaped_runs : List Run → List Shape → List RunEntry
shaped_runs [] shapes = []
shaped_runs (r ∷ runs) [] = []
shaped_runs (r ∷ runs) (s ∷ shapes) = run_entry r.near r.far s ∷ shaped_runs runs shapes

-- A verdict with a length, runs with their shapes, the choices weighed, and legs.
abbrev pub laid_with : Verdict → ℕ → List RunEntry → ℕ → List Leg → Laid
laid_with v length' runs weighed legs =
    record {
      wiring = record { verdict = v; length = length'; runs = length runs; entries = run_entries runs; legs = length legs; weighed = weighed };
      list = leg_entries legs;
    }

-- A refused wiring has length, runs, legs and choices zero, and every run entry 0, 0, straight.
unfoldable pub turned_away : Verdict → Laid
turned_away v = laid_with v 0 [] 0 []

-- The answer where the runs of a feed take these shapes.
unfoldable pub answer_with : List Spot → List Shape → Laid
answer_with feed shapes =
    let runs : List Run = runs_of feed in
    laid_with (Ok tt) (length_of_choice feed runs shapes) (shaped_runs runs shapes) (weighed_of feed runs (pins_of feed)) (legs_of_choice feed runs shapes)

-- Wiring: 17, which is the tree's, then 19: lent room smaller than needed.
abbrev pub wiring_rows : List Spot → List Shape → ℕ → List Row
wiring_rows feed shapes room = tree_rows feed ++ (given (ltb room (length (legs_of_choice feed (runs_of feed) shapes))) RoomTooSmall ∷ [])

-- The wiring of a feed whose runs take these shapes, with room for so many legs.
unfoldable pub wiring_with : List Spot → List Shape → ℕ → Laid
wiring_with feed shapes room =
    let verdict : Verdict = first_of (wiring_rows feed shapes room) in
    choose (accepted verdict) (answer_with feed shapes) (turned_away verdict)

-- The wiring of a feed where one shape is favoured, false for lower and true for upper.
unfoldable pub wiring_favouring : Bool → List Spot → ℕ → Laid
wiring_favouring favoured feed room = wiring_with feed (best_choice favoured feed (runs_of feed)) room

-- The wiring of a feed, where this is said of the shape to favour.
unfoldable pub wiring_of : List Spot → ℕ → Favour → Laid
wiring_of feed room favour = wiring_favouring (favours_upper favour) feed room

-- The rows of such a wiring.
abbrev pub feed_rows : List Spot → ℕ → Favour → List Row
feed_rows feed room favour = wiring_rows feed (best_choice (favours_upper favour) feed (runs_of feed)) room
