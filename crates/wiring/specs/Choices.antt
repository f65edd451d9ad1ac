-- The shapes of the runs: every choice of them in order, and the first of the shortest; the choices that are weighed.
use Rattle.std.specs.Prelude.{Bool, List, [], ◌∷◌, ◌++◌, map, ℕ, ◌*◌, ◌^◌, eqb, ltb}
use Rattle.basics.specs.Tests.{choose}
use Rattle.basics.specs.Sums.{sum}
use Rattle.board.specs.Spots.{Spot}
use Rattle.tree.specs.declared.Run.{Run}
use Rattle.tree.specs.Bends.{bent, bent_from, bent_into}
use Rattle.copper.specs.declared.Shape.{Shape}
use Rattle.copper.specs.declared.Shape.TheVariants.{Straight, Lower, Upper}
use Rattle.copper.specs.declared.Leg.{Leg}
use Rattle.copper.specs.Shapes.{legs_of}
use Rattle.copper.specs.Length.{length_of}
use Rattle.laying.specs.Entries.{near_end, far_end}

-- The two shapes of a bent run, the favoured first: false favours lower, true upper.
unfoldable pub bent_shapes : Bool → List Shape
bent_shapes favoured = choose favoured (Upper ∷ Lower ∷ []) (Lower ∷ Upper ∷ [])

-- The shapes that a run may have.
unfoldable pub shapes_of : Bool → List Spot → Run → List Shape
shapes_of favoured feed r = choose (bent feed r) (bent_shapes favoured) (Straight ∷ [])

-- One shape before each of some choices.
unfoldable pub with_shape : Shape → List (List Shape) → List (List Shape)
with_shape s [] = []
with_shape s (c ∷ choices) = (s ∷ c) ∷ with_shape s choices

-- Each of some shapes before each of some choices, shape by shape.
unfoldable pub with_shapes : List Shape → List (List Shape) → List (List Shape)
with_shapes [] choices = []
with_shapes (s ∷ shapes) choices = with_shape s choices ++ with_shapes shapes choices

-- Every choice of one shape for each run. Write the shapes in run order, and the favoured shape before the other.
unfoldable pub choices_of : Bool → List Spot → List Run → List (List Shape)
choices_of favoured feed [] = [] ∷ []
choices_of favoured feed (r ∷ runs) = with_shapes (shapes_of favoured feed r) (choices_of favoured feed runs)

-- The legs of a choice: run by run, near to far.
unfoldable pub legs_of_choice : List Spot → List Run → List Shape → List Leg
legs_of_choice feed [] shapes = []
legs_of_choice feed (r ∷ runs) [] = []
legs_of_choice feed (r ∷ runs) (s ∷ shapes) = legs_of s (near_end feed r) (far_end feed r) ++ legs_of_choice feed runs shapes

-- The length of a choice: the steps that at least one run covers.
unfoldable pub length_of_choice : List Spot → List Run → List Shape → ℕ
length_of_choice feed runs shapes = length_of (legs_of_choice feed runs shapes)

-- The first of the shortest of a choice and those that come later: it gives way to a shorter one only.
unfoldable pub shortest : List Spot → List Run → List Shape → List (List Shape) → List Shape
shortest feed runs c [] = c
shortest feed runs c (d ∷ later) =
    shortest feed runs (choose (ltb (length_of_choice feed runs d) (length_of_choice feed runs c)) d c) later

-- The first of the shortest of some choices.
unfoldable pub shortest_of : List Spot → List Run → List (List Shape) → List Shape
shortest_of feed runs [] = []
shortest_of feed runs (c ∷ later) = shortest feed runs c later

-- The answer is a choice of shapes of least length. Among equals, take the first.
unfoldable pub best_choice : Bool → List Spot → List Run → List Shape
best_choice favoured feed runs = shortest_of feed runs (choices_of favoured feed runs)

-- 2 to the power of the bent runs leading on from that pin, doubled if the run that reached it is bent.
unfoldable pub weighed_at : List Spot → List Run → ℕ → ℕ
weighed_at feed runs pin = 2 ^ bent_from feed runs pin * choose (eqb (bent_into feed runs pin) 0) 1 2

-- Choices weighed is a sum over pins.
unfoldable pub weighed_of : List Spot → List Run → List ℕ → ℕ
weighed_of feed runs pins = sum (map (weighed_at feed runs) pins)
