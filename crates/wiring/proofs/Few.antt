-- No feed needs more than 62 legs, at most two a run, so that with room for these 19 never comes. From a feed of 32 spots.
use mathlib.Core.Path.{◌≡◌}
use mathlib.Core.Bool.{false}
use mathlib.Core.List.{List, [], ◌∷◌}
use Prim.Native.Nat.{◌*◌, ◌≤◌}
use native.Mathlib.Omega.{arith}
use lib.Dec.{ltb}
use lib.ListN.{length, length-append}
use borrow.Author.Tests.{le-ltb}
use Rattle.basics.specs.Tests.{choose}
use Rattle.refusal.specs.Rows.{first_of}
use Rattle.board.specs.Spots.{Spot}
use Rattle.board.specs.Spots.{most_pins}
use Rattle.tree.specs.declared.Run.{Run}
use Rattle.tree.specs.Growth.{runs_of}
use Rattle.tree.specs.Trees.{tree_rows}
use Rattle.tree.proofs.Answer.{runs_few}
use Rattle.copper.specs.declared.Favour.{Favour}
use Rattle.copper.specs.declared.Shape.{Shape}
use Rattle.copper.specs.Shapes.{legs_of, favours_upper}
use Rattle.wiring.specs.Choices.{best_choice, legs_of_choice}
use Rattle.laying.specs.Entries.{near_end, far_end, most_legs}
use Rattle.wiring.specs.Answer.{wiring_of}
use Rattle.laying.proofs.Filling.{legs_many, leg_small}
use Rattle.wiring.proofs.Refusing.{wiring_verdict}

-- The legs of a choice are at most twice as many as the runs.
choice_few : (feed : List Spot) (runs : List Run) (shapes : List Shape) → length (legs_of_choice feed runs shapes) ≤ 2 * length runs
unfolding legs_of_choice
choice_few feed [] shapes = omega arith
choice_few feed (r ∷ runs) [] = omega arith
choice_few feed (r ∷ runs) (s ∷ shapes) =
    let a = near_end feed r in
    let b = far_end feed r in
    omega (arith, length-append (legs_of s a b) (legs_of_choice feed runs shapes), leg_small s (legs_many s a b), choice_few feed runs shapes)

-- No feed needs more than 62 legs, whatever its shapes.
pub needed_few : (feed : List Spot) (shapes : List Shape) → length feed ≡ most_pins → length (legs_of_choice feed (runs_of feed) shapes) ≤ most_legs
needed_few feed shapes full = omega (arith, choice_few feed (runs_of feed) shapes, runs_few feed full)

-- Wiring with room for 62 legs is refused with 17 alone.
pub most_room_verdict : (feed : List Spot) (favour : Favour) → length feed ≡ most_pins → (wiring_of feed most_legs favour).wiring.verdict ≡ first_of (tree_rows feed)
unfolding first_of choose
most_room_verdict feed favour full =
    let shapes = best_choice (favours_upper favour) feed (runs_of feed) in
    let enough : ltb most_legs (length (legs_of_choice feed (runs_of feed) shapes)) ≡ false = le-ltb most_legs _ (needed_few feed shapes full) in
    rw (wiring_verdict feed most_legs favour, enough)
