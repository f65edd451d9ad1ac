-- How the least cost is found: what a pin costs is asked of the runs below it, and what a run costs of the pin at its far end. No entry point's promise rests on these.
-- Pins are numbered by when they were reached: 0 is the first, and run r reaches pin r + 1 from pin `near r`; `at` tells where pins stand.
-- A shape is a Bool: false is lower, true is upper. A cost is a length and a mask of shapes as one number, of which the length decides.
use Rattle.std.specs.Prelude.{◌≡◌, Bool, true, false, not, ℕ, zero, suc, ◌+◌, ◌-◌, ◌*◌, ◌^◌, ◌≤◌, ◌<◌, min, List, Option, None, Some, eqb, get_or}
use Rattle.basics.specs.Tests.{choose}
use Rattle.board.specs.declared.Place.{Place}
use Rattle.board.specs.Place.{limit, inside}
use Rattle.board.specs.Spots.{place_in}
use Rattle.tree.specs.Trees.{most_runs}
use Rattle.copper.specs.declared.Tally.{Tally}
use Rattle.copper.specs.Arms.{owed, Bounded}
use Rattle.copper.specs.Least.{lesser_of, best, is_bent, first_tally, next_tally}
use Rattle.least.specs.declared.Asked.{Asked}
use Rattle.least.specs.declared.Costs.{Costs}
use Rattle.least.specs.declared.Ends.{Ends}
use Rattle.least.specs.declared.Least.{Least}

-- More than any mask of 31 shapes: 2 ^ 31.
abbrev pub base : ℕ
base = 2147483648

-- The near pin of a run, told by those of all runs.
abbrev pub near_pin : List ℕ → ℕ → ℕ
near_pin near r = get_or near r 0

-- What is kept for a run that was not asked.
abbrev pub unasked : Costs
unasked = record { lower = 0; upper = 0 }

-- The cost that is kept for a run in this shape, false for lower and true for upper.
abbrev pub kept : List Costs → ℕ → Bool → ℕ
kept asked r false = (get_or asked r unasked).lower
kept asked r true = (get_or asked r unasked).upper

-- Two shapes are not the same.
abbrev pub differs : Bool → Bool → Bool
differs true b = not b
differs false b = b

-- The mark of run r in a mask of shapes: 2 ^ 30 for the first run, and half as much for each run after it.
abbrev pub mark_at : ℕ → ℕ
mark_at r = 2 ^ (most_runs - 1 - r)

-- What run r adds to the mask: nothing in the favoured shape, and in the other its mark.
unfoldable pub mark_of : Bool → ℕ → Bool → ℕ
mark_of favoured r upper = choose (differs upper favoured) (mark_at r) 0

-- Twice as many, where a test holds.
unfoldable pub doubled_if : Bool → ℕ → ℕ
doubled_if t n = choose t (n + n) n

-- What is found where no run is to come: what the pin's arms owe, and one choice was weighed.
abbrev pub owed_alone : Tally → Least
owed_alone tally = record { cost = owed tally * base; weighed = 1 }

-- What is found with one run more in one shape: its cost is added to what was found without it, and as many choices were weighed.
abbrev pub with_run : ℕ → Least → Least
with_run asked rest = record { cost = asked + rest.cost; weighed = rest.weighed }

-- The lesser of what is found for either shape; the choices of both were weighed.
abbrev pub lesser_found : Least → Least → Least
lesser_found lower upper = record { cost = min lower.cost upper.cost; weighed = lower.weighed + upper.weighed }

module _ (at : ℕ → Place) (near : ℕ → ℕ) where
  -- Where a run begins, and where it ends.
  abbrev pub ends_of : ℕ → Ends
  ends_of r = record { near = at (near r); far = at (suc r) }

  -- The run that reached a pin is bent; no run reached the first.
  unfoldable pub is_bent_into : ℕ → Bool
  is_bent_into zero = false
  is_bent_into (suc r) = is_bent at near r

  module _ (favoured : Bool) where
    -- What pin i costs at least with all below it, where it shows `tally` and the k runs from `next` on are to come.
    unfoldable pub pin_cost : ℕ → ℕ → ℕ → Tally → ℕ
    pin_cost k i next tally = best Tally (first_tally at near) (next_tally at near) (λ t. owed t * base) near (is_bent at near) (mark_of favoured) k i next tally

    -- What pin i of a tree of n runs costs at least with all below it, where the run that reached it has this shape.
    unfoldable pub pin_best : ℕ → ℕ → Bool → ℕ
    pin_best n i upper = pin_cost (n - i) i i (first_tally at near i upper)

    -- What run r costs in this shape: its mark, and what the pin at its far end costs.
    unfoldable pub run_best : ℕ → ℕ → Bool → ℕ
    run_best n r upper = mark_of favoured r upper + pin_best n (r + 1) upper

  -- How many choices are weighed at pin i: c of them, doubled for each bent run that leads on from it, of the k runs from `next` on.
  unfoldable pub choices_from : ℕ → ℕ → ℕ → ℕ → ℕ
  choices_from zero i next c = c
  choices_from (suc k) i next c = choose (eqb (near next) i) (choices_from k i (suc next) (doubled_if (is_bent at near next) c)) (choices_from k i (suc next) c)

  -- How many are weighed at pin i and at the pins below it, which begin with one each, doubled where a bent run reached the pin.
  unfoldable pub weighed_from : ℕ → ℕ → ℕ → ℕ → ℕ
  weighed_from zero i next c = c
  weighed_from (suc k) i next c =
      choose (eqb (near next) i)
      (weighed_from k (suc next) (suc next) (doubled_if (is_bent at near next) 1) + weighed_from k i (suc next) (doubled_if (is_bent at near next) c))
      (weighed_from k i (suc next) c)

  -- The same of a tree of n runs, where pin i begins so too.
  unfoldable pub weighed_below : ℕ → ℕ → ℕ
  weighed_below n i = weighed_from (n - i) i i (doubled_if (is_bent_into i) 1)

  -- What pin i answers: its least cost for either shape of the run that reached it, and how many choices are weighed at it and below it.
  unfoldable pub asked_pin : Bool → ℕ → ℕ → Asked
  asked_pin favoured n i = record { lower = pin_best favoured n i false; upper = pin_best favoured n i true; weighed = weighed_below n i }

  -- What run r answers: its least cost in either shape, and how many choices are weighed at its far pin and below it.
  unfoldable pub asked_run : Bool → ℕ → ℕ → Asked
  asked_run favoured n r = record { lower = run_best favoured n r false; upper = run_best favoured n r true; weighed = weighed_below n (r + 1) }

  -- What pin i costs at least, where it shows `tally`, the k runs from `next` on are to come, and a run costs what is kept for its shape.
  unfoldable pub cost_kept : (ℕ → Bool → ℕ) → ℕ → ℕ → ℕ → Tally → ℕ
  cost_kept cost zero i next tally = owed tally * base
  cost_kept cost (suc k) i next tally =
      choose (eqb (near next) i)
      (lesser_of (is_bent at near next)
      (cost next false + cost_kept cost k i (suc next) (next_tally at near tally next false))
      (cost next true + cost_kept cost k i (suc next) (next_tally at near tally next true)))
      (cost_kept cost k i (suc next) tally)

  -- What is found so at pin i of a tree of n runs: its least cost, and how many choices are weighed at it.
  unfoldable pub least_kept : (ℕ → Bool → ℕ) → ℕ → ℕ → ℕ → Tally → Least
  least_kept cost n i next tally = record { cost = cost_kept cost (n - next) i next tally; weighed = choices_from (n - next) i next 1 }

  -- What pin i answers so: its least cost for either shape of the run that reached it, and how many choices are weighed at it.
  unfoldable pub asked_kept : (ℕ → Bool → ℕ) → ℕ → ℕ → Asked
  asked_kept cost n i =
      record {
        lower = cost_kept cost (n - i) i i (first_tally at near i false);
        upper = cost_kept cost (n - i) i i (first_tally at near i true);
        weighed = choices_from (n - i) i i (doubled_if (is_bent_into i) 1);
      }

  -- What is found for a whole tree of n runs: the least cost of its first pin, and how many choices are weighed in all.
  unfoldable pub least_of_tree : Bool → ℕ → Least
  least_of_tree favoured n = record { cost = pin_best favoured n 0 false; weighed = weighed_below n 0 }

-- How many runs are below pin i: of the k runs from `next` on, those that lead on from it or from the pins below it.
unfoldable pub size_from : (ℕ → ℕ) → ℕ → ℕ → ℕ → ℕ
size_from near zero i next = 0
size_from near (suc k) i next =
    choose (eqb (near next) i) (1 + size_from near k (suc next) (suc next) + size_from near k i (suc next)) (size_from near k i (suc next))

-- The first of the k runs from `next` on that leads on from pin i, where there is one.
unfoldable pub own_from : (ℕ → ℕ) → ℕ → ℕ → ℕ → Option ℕ
own_from near zero i next = None
own_from near (suc k) i next = choose (eqb (near next) i) (Some next) (own_from near k i (suc next))

-- A pin shows arms as places on the board give them: none is longer than the board is wide.
abbrev pub Modest : Tally → Type 0
Modest tally = Bounded (2 * limit) tally

-- A tree of at most 31 runs, each from a pin that was reached before it, with all pins on the board.
pub record Grown (places : List Place) (near : List ℕ) (count : ℕ) : Type 0 where
  pub few : count ≤ most_runs
  pub near_first : (r : ℕ) → r < count → near_pin near r ≤ r
  pub on_board : (i : ℕ) → inside (place_in places i) ≡ true

-- So much, or less, is kept for a run: the costs of 31 runs, and what a pin owes, still fit a number together.
abbrev pub most_kept : ℕ
most_kept = 288230376151711744

-- What is kept for the runs is no more than that.
unfoldable pub KeptFits : List Costs → Type 0
KeptFits asked = (r : ℕ) (u : Bool) → kept asked r u ≤ most_kept

-- What weighing demands: costs that fit, and modest arms.
pub record Weighable (asked : List Costs) (tally : Tally) : Type 0 where
  pub fits : KeptFits asked
  pub modest : Modest tally

-- What a pin's answer demands: costs that fit, and a pin of the tree.
pub record Answerable (asked : List Costs) (count i : ℕ) : Type 0 where
  pub fits : KeptFits asked
  pub upto : i ≤ count

-- What asking a pin demands: a pin of the tree, and at most 31 runs below the pin.
pub record Askable (near : List ℕ) (count i : ℕ) : Type 0 where
  pub upto : i ≤ count
  pub small : size_from (near_pin near) (count - i) i i ≤ most_runs
