-- What demand 2 and document 01 say of an accepted wiring of a feed: its runs are the tree, its shapes the first of the shortest, its length is counted
-- by steps, its choices by the sum over pins, no copper lies diagonal, and the boxes of two runs without a common pin are apart; and of a refused one.
use Rattle.std.specs.Prelude.{◌≡◌, Bool, true, false, List, ◌∷◌, ◌++◌, map, ◌⊎◌, ℕ, ◌*◌, ◌-◌, ◌≤◌, ◌<◌, length, take, drop, replicate}
use Rattle.basics.specs.Lists.{Among}
use Rattle.refusal.specs.Refusals.{accepted}
use Rattle.board.specs.Spots.{Spot}
use Rattle.board.specs.Place.{distance_of}
use Rattle.board.specs.Spots.{place_at}
use Rattle.tree.specs.declared.Run.{Run}
use Rattle.tree.specs.Growth.{run, pins_of, runs_of}
use Rattle.tree.specs.Boxes.{boxes_apart}
use Rattle.tree.specs.Spanning.{IsTree}
use Rattle.tree.specs.Trees.{most_runs}
use Rattle.copper.specs.declared.Shape.{Shape}
use Rattle.copper.specs.declared.Shape.TheVariants.{Straight}
use Rattle.copper.specs.declared.Leg.{Leg}
use Rattle.copper.specs.Shapes.{legs_of}
use Rattle.copper.specs.Length.{steps_of_all, length_of}
use Rattle.laying.specs.declared.RunEntry.{RunEntry}
use Rattle.wiring.specs.declared.Wiring.{Wiring}
use Rattle.wiring.specs.declared.Laid.{Laid}
use Rattle.wiring.specs.Choices.{choices_of, legs_of_choice, length_of_choice, weighed_of}
use Rattle.laying.specs.Entries.{run_entry, no_run}
use Rattle.wiring.specs.Answer.{turned_away}

-- The run entries of an answer: as many as it has runs.
abbrev pub listed_in : Wiring → List RunEntry
listed_in w = take w.runs w.entries

-- The runs of an answer, near and far.
unfoldable pub runs_in : Wiring → List Run
runs_in w = map (λ e. run e.near e.far) (listed_in w)

-- Their shapes.
unfoldable pub shapes_in : Wiring → List Shape
shapes_in w = map (λ e. e.shape) (listed_in w)

-- The legs of an answer: as many as it says.
abbrev pub legs_in : Laid → List Leg
legs_in l = take l.wiring.legs l.list

-- A leg lies in one row or in one column.
abbrev pub InLine : Leg → Type 0
InLine l = (l.from.y ≡ l.to.y) ⊎ (l.from.x ≡ l.to.x)

-- An answer that is refused is its verdict and nothing else.
abbrev pub Alone : Laid → Type 0
Alone l = accepted l.wiring.verdict ≡ false → l ≡ turned_away l.wiring.verdict

-- Length, runs, legs and choices zero, and every run entry 0, 0, straight.
pub record Empty (w : Wiring) : Type 0 where
  pub length_zero : w.length ≡ 0
  pub runs_zero : w.runs ≡ 0
  pub legs_zero : w.legs ≡ 0
  pub choices_zero : w.weighed ≡ 0
  pub entries_blank : w.entries ≡ replicate most_runs (run_entry 0 0 Straight)

-- One of some choices of shapes: those before it are longer, and none after it is shorter.
pub record First (long : List Shape → ℕ) (choices : List (List Shape)) (best : List Shape) : Type 0 where
  pub before : List (List Shape)
  pub after : List (List Shape)
  pub listed : choices ≡ before ++ (best ∷ after)
  pub longer : (c : List Shape) → Among c before → long best < long c
  pub as_long : (c : List Shape) → Among c after → long best ≤ long c

-- THE ANSWER OF A WIRING where one shape is favoured, false for lower and true for upper:
pub record BestWiring (favoured : Bool) (feed : List Spot) (laid : Laid) : Type 0 where
  -- its runs are the tree of the pins that are there,
  pub tree : IsTree feed (runs_in laid.wiring)
  -- listed as they are taken when growing from the lowest-numbered pin;
  pub taken : runs_in laid.wiring ≡ runs_of feed
  -- the boxes of two runs without a common pin never share a point (document 02, [8]);
  pub boxes_are_apart : boxes_apart feed (runs_in laid.wiring) ≡ true
  -- run entries after the last are 0, 0, straight;
  pub blank_after : drop laid.wiring.runs laid.wiring.entries ≡ replicate (most_runs - laid.wiring.runs) no_run
  -- its shapes are, of all choices of one shape for each run, the first of the shortest;
  pub shapes : First (length_of_choice feed (runs_in laid.wiring)) (choices_of favoured feed (runs_in laid.wiring)) (shapes_in laid.wiring)
  -- its legs are those of its runs in these shapes, run by run, near to far,
  pub legs : legs_in laid ≡ legs_of_choice feed (runs_in laid.wiring) (shapes_in laid.wiring)
  -- and so many;
  pub leg_count : laid.wiring.legs ≡ length (legs_in laid)
  -- its length is the number of unit grid steps that at least one of them covers,
  pub covered : laid.wiring.length ≡ length_of (legs_in laid)
  -- at most that of every choice of shapes of these runs;
  pub least : (c : List Shape) → Among c (choices_of favoured feed (runs_in laid.wiring)) → laid.wiring.length ≤ length_of_choice feed (runs_in laid.wiring) c
  -- choices weighed are the sum over its pins,
  pub weighed : laid.wiring.weighed ≡ weighed_of feed (runs_in laid.wiring) (pins_of feed)
  -- at most 64 times the number of pins;
  pub weighed_few : laid.wiring.weighed ≤ 64 * length (pins_of feed)
  -- every leg lies in one row or in one column,
  pub in_line : (l : Leg) → Among l (legs_in laid) → InLine l
  -- and the legs of each run are together as long as its distance.
  pub run_long : (e : RunEntry) → Among e (listed_in laid.wiring)
      → length (steps_of_all (legs_of e.shape (place_at feed e.near) (place_at feed e.far))) ≡ distance_of (place_at feed e.near) (place_at feed e.far)

-- Two answers are the same but for the shapes of their runs and where their legs bend.
pub record SameButShapes (v w : Wiring) : Type 0 where
  -- They have the same verdict,
  pub verdict_same : v.verdict ≡ w.verdict
  -- the same length,
  pub length_same : v.length ≡ w.length
  -- as many runs,
  pub runs_same : v.runs ≡ w.runs
  -- with the same near and far ends, in run order,
  pub ends_same : runs_in v ≡ runs_in w
  -- as many legs,
  pub legs_same : v.legs ≡ w.legs
  -- and as many choices weighed.
  pub weighed_same : v.weighed ≡ w.weighed
