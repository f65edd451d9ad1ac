-- Room for 62 legs is never too small: the program's wiring is never refused with 19. Assumes nothing.
use mathlib.Core.Path.{◌≡◌, refl, sym, ◌∙◌}
use mathlib.Core.Bool.{Bool, true, false}
use mathlib.Core.List.{List}
use Prim.Native.Nat.{ℕ}
use native.Mathlib.Omega.{arith}
use lib.ListN.{length}
use borrow.Author.Tests.{ltb-true}
use Rattle.basics.specs.Tests.{both, choose}
use Rattle.refusal.specs.Refusals.{accepted}
use Rattle.refusal.specs.Rows.{first_of, Given, refusal_at}
use Rattle.refusal.specs.declared.Refusal.TheVariants.{RoomTooSmall}
use Rattle.std.specs.Prelude.{Ok, Err}
use Rattle.refusal.proofs.Rows.{unlike, differs_by, never_first, exactly}
use Rattle.board.specs.Spots.{Spot}
use Rattle.board.specs.Spots.{most_pins}
use Rattle.tree.specs.Growth.{runs_of}
use Rattle.copper.specs.declared.Favour.{Favour}
use Rattle.copper.specs.Shapes.{favours_upper}
use Rattle.wiring.specs.Choices.{best_choice, legs_of_choice}
use Rattle.laying.specs.Entries.{most_legs}
use Rattle.wiring.specs.Answer.{turned_away, wiring_of, feed_rows}
use Rattle.wiring.proofs.Refusing.{wiring_apart, wiring_verdict}
use Rattle.wiring.proofs.Few.{needed_few}
use Rattle.desk.specs.declared.Desk.{Desk}
use Rattle.desk.specs.Desk.{naming_net_at, feed_at}
use Rattle.asked.specs.Asked.{wired_of}
use Rattle.desk.proofs.Sound.{feed_whole}
use Rattle.mapped.specs.Mapped.{opened_with, wired_with}

-- 28, 1, 2 and 21 are not 19.
naming_else : (d : Desk) (s net : ℕ) → first_of (naming_net_at d s net) ≡ Err RoomTooSmall → ⊥
unfolding unlike both accepted
naming_else d s net e = never_first RoomTooSmall (naming_net_at d s net) (differs_by RoomTooSmall (naming_net_at d s net) refl) (sym e)

-- A feed of 32 spots is not refused for its room: 19 is given only where it needs more than 62 legs.
feed_else : (feed : List Spot) (favour : Favour) → length feed ≡ most_pins → (wiring_of feed most_legs favour).wiring.verdict ≡ Err RoomTooSmall → ⊥
unfolding refusal_at Given
feed_else feed favour h e =
    let shapes = best_choice (favours_upper favour) feed (runs_of feed) in
    let g : Given (feed_rows feed most_legs favour) 1 =
    ((exactly (feed_rows feed most_legs favour) (wiring_apart feed shapes most_legs)).refused 1 (omega arith)).0 (sym (wiring_verdict feed most_legs favour) ∙ e) in
    omega (arith, ltb-true most_legs (length (legs_of_choice feed (runs_of feed) shapes)) g.1, needed_few feed shapes h)

-- No net of any seat of any desk is.
seat_else : (d : Desk) (s net : ℕ) (favour : Favour) → (wired_of d s net most_legs favour).answer.wiring.verdict ≡ Err RoomTooSmall → ⊥
unfolding wired_of choose turned_away
seat_else d s net favour = by (accepted (first_of (naming_net_at d s net))) refl
  where
    by : (t : Bool) → accepted (first_of (naming_net_at d s net)) ≡ t
        → (choose t (wiring_of (feed_at d s net) most_legs favour) (turned_away (first_of (naming_net_at d s net)))).wiring.verdict ≡ Err RoomTooSmall → ⊥
    by true e = feed_else (feed_at d s net) favour (feed_whole d s net e)
    by false e = naming_else d s net

-- THE ROOM IS ENOUGH FOR ANY MAP.
pub never_nineteen : (map : List ℕ) → (wired_with map).verdict ≡ Err RoomTooSmall → ⊥
unfolding wired_with
never_nineteen map = seat_else (opened_with map).desk 0 1 Favour.Lower
