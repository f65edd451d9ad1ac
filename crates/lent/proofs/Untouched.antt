-- A refused wiring has no legs, and leaves the list that was lent as it was. Assumes nothing.
use mathlib.Core.Path.{◌≡◌, refl}
use mathlib.Core.Bool.{Bool, true, false, true≢false}
use mathlib.Core.List.{List}
use Prim.Native.Nat.{ℕ}
use Rattle.basics.specs.Tests.{choose}
use Rattle.refusal.specs.Refusals.{accepted}
use Rattle.refusal.specs.Rows.{first_of}
use Rattle.refusal.specs.Refusals.{Verdict}
use Rattle.board.specs.Spots.{Spot}
use Rattle.tree.specs.Growth.{runs_of}
use Rattle.copper.specs.declared.Favour.{Favour}
use Rattle.copper.specs.Shapes.{favours_upper}
use Rattle.copper.specs.declared.Shape.{Shape}
use Rattle.copper.specs.declared.Leg.{Leg}
use Rattle.wiring.specs.declared.Laid.{Laid}
use Rattle.laying.specs.declared.Strip.{Strip}
use Rattle.wiring.specs.Choices.{best_choice}
use Rattle.wiring.specs.Demand.{Alone, Empty}
use Rattle.laying.specs.Entries.{run_entries}
use Rattle.wiring.specs.Answer.{answer_with, turned_away, wiring_rows, wiring_with, wiring_favouring, wiring_of}
use Rattle.lent.specs.Lent.{strip_of, filled_with}

-- A wiring that was turned away has length, runs, legs and choices zero, and every run entry 0, 0, straight.
away_empty : (v : Verdict) → Empty (turned_away v).wiring
unfolding turned_away run_entries
away_empty v = record { length_zero = refl; runs_zero = refl; legs_zero = refl; choices_zero = refl; entries_blank = refl }

-- So has an answer that is its verdict and nothing else.
pub alone_empty : (l : Laid) → Alone l → accepted l.wiring.verdict ≡ false → Empty l.wiring
alone_empty l h e = rw (h e) (away_empty l.wiring.verdict)

-- One that may be turned away before it is given is so, if what is given is.
pub turned_by : (t : Bool) (v : Verdict) (l : Laid) → Alone l → Alone (choose t l (turned_away v))
unfolding choose turned_away
turned_by true v l h e = h e
turned_by false v l h e = refl

-- An answer that is given is such a one, since it is accepted.
answer_given : (feed : List Spot) (shapes : List Shape) → Alone (answer_with feed shapes)
unfolding answer_with accepted
answer_given feed shapes e = absurd (true≢false e)

-- The wiring of a feed is such a one.
pub wiring_turned : (feed : List Spot) (room : ℕ) (favour : Favour) → Alone (wiring_of feed room favour)
unfolding wiring_of wiring_favouring wiring_with
wiring_turned feed room favour =
    let shapes = best_choice (favours_upper favour) feed (runs_of feed) in
    let v = first_of (wiring_rows feed shapes room) in
    turned_by (accepted v) v (answer_with feed shapes) (answer_given feed shapes)

-- A strip without entries fills nothing.
pub none_filled : (strip : Strip) (lent : List Leg) → strip.count ≡ 0 → filled_with strip lent ≡ lent
unfolding filled_with
none_filled strip lent e = rw e refl

-- A refused answer leaves the list that was lent as it was.
pub untouched : (l : Laid) (lent : List Leg) → Alone l → accepted l.wiring.verdict ≡ false → filled_with (strip_of l) lent ≡ lent
untouched l lent h e = none_filled (strip_of l) lent (alone_empty l h e).legs_zero
