-- The copper of a feed as segments: its refusals and its answer.
use Rattle.std.specs.Prelude.{List, [], ◌∷◌, ◌++◌, ℕ, ltb, length}
use Rattle.basics.specs.Tests.{choose}
use Rattle.refusal.specs.Refusals.{accepted}
use Rattle.refusal.specs.Rows.{Row, given, first_of}
use Rattle.refusal.specs.Refusals.{Verdict}
use Rattle.refusal.specs.declared.Refusal.TheVariants.{RoomTooSmall}
use Rattle.board.specs.Spots.{Spot}
use Rattle.tree.specs.Growth.{runs_of}
use Rattle.tree.specs.Trees.{tree_rows}
use Rattle.copper.specs.declared.Favour.{Favour}
use Rattle.copper.specs.declared.Leg.{Leg}
use Rattle.copper.specs.Shapes.{favours_upper}
use Rattle.laying.specs.declared.Strip.{Strip}
use Rattle.wiring.specs.Choices.{best_choice, legs_of_choice}
use Rattle.laying.specs.Entries.{leg_entries}
use Rattle.mill.specs.declared.Cut.{Cut}
use Rattle.mill.specs.Numbered.{segments_of}

-- The segments of the copper of a feed, where this is said of the shape to favour: of the legs of its wiring.
unfoldable pub copper_of : List Spot → Favour → List Leg
copper_of feed favour = segments_of (legs_of_choice feed (runs_of feed) (best_choice (favours_upper favour) feed (runs_of feed)))

-- 17 as for wiring, then 19 as before, counted in segments.
abbrev pub mill_rows : List Spot → ℕ → Favour → List Row
mill_rows feed room favour = tree_rows feed ++ (given (ltb room (length (copper_of feed favour))) RoomTooSmall ∷ [])

-- A verdict with so many segments.
unfoldable pub cut_with : Verdict → List Leg → Cut
cut_with v segments = record { milling = record { verdict = v; segments = length segments }; list = leg_entries segments }

-- The answer that these rows decide: the segments, none where it is refused.
abbrev pub cut_by : List Row → List Leg → Cut
cut_by rows segments = cut_with (first_of rows) (choose (accepted (first_of rows)) segments [])

-- The copper of a feed as segments, with room for so many, where this is said of the shape to favour.
unfoldable pub cut_of : List Spot → ℕ → Favour → Cut
cut_of feed room favour = cut_by (mill_rows feed room favour) (copper_of feed favour)

-- The segments of an answer, with their number.
abbrev pub strip_of_cut : Cut → Strip
strip_of_cut cut = record { count = cut.milling.segments; list = cut.list }
