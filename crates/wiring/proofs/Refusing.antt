-- The verdict that the answer of a wiring carries: 17, 19, or accepted. From the law of rows; assumes nothing.
use mathlib.Core.Path.{◌≡◌, refl}
use mathlib.Core.List.{List, [], ◌++◌}
use Prim.Native.Nat.{ℕ}
use Rattle.basics.specs.Tests.{both, choose}
use Rattle.refusal.specs.Refusals.{accepted}
use Rattle.refusal.specs.Rows.{Row, first_of}
use Rattle.refusal.proofs.Rows.{distinct, unlike, Apart, apart_by, behind}
use Rattle.board.specs.Spots.{Spot}
use Rattle.tree.specs.Growth.{runs_of}
use Rattle.copper.specs.declared.Favour.{Favour}
use Rattle.copper.specs.Shapes.{favours_upper}
use Rattle.copper.specs.declared.Shape.{Shape}
use Rattle.wiring.specs.declared.Laid.{Laid}
use Rattle.wiring.specs.Choices.{best_choice}
use Rattle.wiring.specs.Answer.{answer_with, turned_away, wiring_rows, wiring_with, wiring_favouring, wiring_of, feed_rows}

-- An answer that may be turned away by rows before it carries what all rows are answered.
pub laid_behind : (rows more : List Row) → Apart rows → (l : Laid) → l.wiring.verdict ≡ first_of more
    → (choose (accepted (first_of rows)) l (turned_away (first_of rows))).wiring.verdict ≡ first_of (rows ++ more)
unfolding turned_away
laid_behind = behind (λ (m : Laid). m.wiring.verdict) turned_away (λ v. refl)

-- The rows of wiring are apart.
pub wiring_apart : (feed : List Spot) (shapes : List Shape) (room : ℕ) → Apart (wiring_rows feed shapes room)
unfolding distinct unlike both accepted
wiring_apart feed shapes room = apart_by (wiring_rows feed shapes room) refl

-- The wiring of a feed is answered by the first of its rows that holds.
pub wiring_verdict : (feed : List Spot) (room : ℕ) (favour : Favour) → (wiring_of feed room favour).wiring.verdict ≡ first_of (feed_rows feed room favour)
unfolding wiring_of wiring_favouring wiring_with
wiring_verdict feed room favour =
    let shapes = best_choice (favours_upper favour) feed (runs_of feed) in
    laid_behind (feed_rows feed room favour) [] (wiring_apart feed shapes room) (answer_with feed shapes) (unfold answer_with first_of in refl)
