-- The runs of a feed: always the earliest pair between a reached pin and one not reached.
use Rattle.std.specs.Prelude.{Bool, true, false, not, List, [], ◌∷◌, ◌++◌, ℕ, zero, suc, eqb, length}
use Rattle.basics.specs.Tests.{choose}
use Rattle.board.specs.Spots.{present, place_at}
use Rattle.board.specs.Spots.{Spot}
use Rattle.tree.specs.declared.Pair.{Pair}
use Rattle.tree.specs.Weight.{pair_of, comes_before}
use Rattle.tree.specs.declared.Run.{Run}

-- The pair of two pins of a feed.
unfoldable pub pair_at : List Spot → ℕ → ℕ → Pair
pair_at feed i j = pair_of i (place_at feed i) j (place_at feed j)

-- A run from its near pin to its far pin.
abbrev pub run : ℕ → ℕ → Run
run near far = record { near = near; far = far }

-- The pair of a run comes before that of another.
unfoldable pub sooner : List Spot → Run → Run → Bool
sooner feed r s = comes_before (pair_at feed r.near r.far) (pair_at feed s.near s.far)

-- A number before others, where a test holds.
unfoldable pub kept_if : Bool → ℕ → List ℕ → List ℕ
kept_if true n l = n ∷ l
kept_if false n l = l

-- The numbers of the pins that are there, ascending; the spots are those from number i on.
unfoldable pub pins_from : ℕ → List Spot → List ℕ
pins_from i [] = []
pins_from i (s ∷ feed) = kept_if (present s) i (pins_from (suc i) feed)

-- The pins without one of them.
unfoldable pub without : ℕ → List ℕ → List ℕ
without n [] = []
without n (m ∷ l) = kept_if (not (eqb m n)) m (without n l)

-- The runs from one near pin.
unfoldable pub runs_from : ℕ → List ℕ → List Run
runs_from near [] = []
runs_from near (far ∷ fars) = run near far ∷ runs_from near fars

-- Every run between a reached pin (near) and one not reached (far).
unfoldable pub runs_between : List ℕ → List ℕ → List Run
runs_between [] fars = []
runs_between (near ∷ nears) fars = runs_from near fars ++ runs_between nears fars

-- The earliest of a run and some others.
unfoldable pub earliest : List Spot → Run → List Run → Run
earliest feed r [] = r
earliest feed r (s ∷ others) = earliest feed (choose (sooner feed s r) s r) others

-- The earliest of some runs; 0 to 0 stands in where there are none.
unfoldable pub earliest_of : List Spot → List Run → Run
earliest_of feed [] = run 0 0
earliest_of feed (r ∷ others) = earliest feed r others

-- The run that is taken next: the earliest between a reached pin and one not reached.
unfoldable pub next_run : List Spot → List ℕ → List ℕ → Run
next_run feed reached left = earliest_of feed (runs_between reached left)

-- Runs are listed as they are taken, as many as there are pins left to reach.
unfoldable pub grown : List Spot → ℕ → List ℕ → List ℕ → List Run
grown feed zero reached left = []
grown feed (suc turns) reached left =
    let r : Run = next_run feed reached left in
    r ∷ grown feed turns (r.far ∷ reached) (without r.far left)

-- The runs when growing from the first of some pins.
unfoldable pub runs_among : List Spot → List ℕ → List Run
runs_among feed [] = []
runs_among feed (first ∷ left) = grown feed (length left) (first ∷ []) left

-- The pins of a feed, ascending.
unfoldable pub pins_of : List Spot → List ℕ
pins_of feed = pins_from 0 feed

-- The runs of a feed, grown from the lowest-numbered pin.
unfoldable pub runs_of : List Spot → List Run
runs_of feed = runs_among feed (pins_of feed)
