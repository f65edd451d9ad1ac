-- What it means that runs are the tree of a feed: they join all pins, one run fewer than pins; take any away and the pins fall into two groups, and it
-- comes before every other pair joining them; and such a tree is unique.
use Rattle.std.specs.Prelude.{◌≡◌, true, List, ◌∷◌, ◌⊎◌, ℕ, suc, length}
use Rattle.basics.specs.Lists.{Among}
use Rattle.board.specs.Spots.{Spot}
use Rattle.tree.specs.declared.Run.{Run}
use Rattle.tree.specs.Weight.{comes_before}
use Rattle.tree.specs.Growth.{pair_at, pins_of}

-- a and b are the two ends of a run.
abbrev pub EndsAre : Run → ℕ → ℕ → Type 0
EndsAre r a b = ((a ≡ r.near) × (b ≡ r.far)) ⊎ ((a ≡ r.far) × (b ≡ r.near))

-- A way from a to b along some runs, in either direction of each.
pub data Way (runs : List Run) : ℕ → ℕ → Type 0 where
  stay : {a b : ℕ} → a ≡ b → Way runs a b
  along : {a b : ℕ} (r : Run) (m : ℕ) → Among r runs → EndsAre r a m → Way runs m b → Way runs a b

-- A run is taken away from some; the rest are left.
pub data Out (r : Run) : List Run → List Run → Type 0 where
  top : {l : List Run} → Out r (r ∷ l) l
  under : {q : Run} {l m : List Run} → Out r l m → Out r (q ∷ l) (q ∷ m)

-- Some runs join all of some pins: each joins two different ones, and there is a way between any two.
pub record JoinsAll (pins : List ℕ) (runs : List Run) : Type 0 where
  pub near_there : (r : Run) → Among r runs → Among r.near pins
  pub far_there : (r : Run) → Among r runs → Among r.far pins
  pub ends_differ : (r : Run) → Among r runs → r.near ≡ r.far → ⊥
  pub ways : (a b : ℕ) → Among a pins → Among b pins → Way runs a b

-- Take any run away and the pins fall into two groups: each has a way to one end of the run, and the ends have none to each other.
pub record TwoGroups (pins : List ℕ) (runs : List Run) : Type 0 where
  pub to_an_end : (r : Run) (rest : List Run) → Out r runs rest → (a : ℕ) → Among a pins → Way rest a r.near ⊎ Way rest a r.far
  pub no_way_across : (r : Run) (rest : List Run) → Out r runs rest → Way rest r.near r.far → ⊥

-- Take any run away, and it comes before every other pair of a pin that has a way to its near end and one that has a way to its far end.
unfoldable pub CutBefore : List Spot → List ℕ → List Run → Type 0
CutBefore feed pins runs =
    (r : Run) (rest : List Run) → Out r runs rest → (a b : ℕ) → Among a pins → Among b pins
    → Way rest a r.near → Way rest b r.far → (EndsAre r a b → ⊥) → comes_before (pair_at feed r.near r.far) (pair_at feed a b) ≡ true

-- A run is one of some others, perhaps the other way round.
pub record EitherWay (r : Run) (l : List Run) : Type 0 where
  pub q : Run
  pub is_in : Among q l
  pub ends : EndsAre q r.near r.far

-- The runs of two lists are the same, each perhaps the other way round.
pub record SameRuns (l m : List Run) : Type 0 where
  pub there : (r : Run) → Among r l → EitherWay r m
  pub back : (r : Run) → Among r m → EitherWay r l

-- The tree joins all pins and has one pair fewer than pins. Take any of its pairs away and the pins fall into two groups; that pair comes before every
-- other pair joining the groups. Such a tree is unique.
pub record IsTree (feed : List Spot) (runs : List Run) : Type 0 where
  pub joins : JoinsAll (pins_of feed) runs
  pub one_fewer : suc (length runs) ≡ length (pins_of feed)
  pub two_groups : TwoGroups (pins_of feed) runs
  pub before_others : CutBefore feed (pins_of feed) runs
  pub unique : (others : List Run) → JoinsAll (pins_of feed) others → CutBefore feed (pins_of feed) others → SameRuns runs others
