-- The legs of a wiring fit: they are never more than 62, and never more than the room that is lent. From a feed of 32 spots.
use mathlib.Core.Path.{◌≡◌, refl}
use mathlib.Core.Bool.{Bool, true, false}
use mathlib.Core.List.{List}
use Prim.Native.Nat.{ℕ, ◌≤◌, zero-le}
use lib.ListN.{length}
use borrow.Author.Tests.{ltb-false}
use Rattle.basics.specs.Tests.{choose}
use Rattle.refusal.specs.Refusals.{accepted}
use Rattle.refusal.specs.Refusals.{Verdict}
use Rattle.refusal.specs.Rows.{first_of, NoneHolds}
use Rattle.refusal.proofs.Rows.{none-holds}
use Rattle.board.specs.Spots.{Spot}
use Rattle.board.specs.Spots.{most_pins}
use Rattle.tree.specs.declared.Run.{Run}
use Rattle.tree.specs.Growth.{runs_of}
use Rattle.copper.specs.declared.Favour.{Favour}
use Rattle.copper.specs.declared.Shape.{Shape}
use Rattle.copper.specs.Shapes.{favours_upper}
use Rattle.wiring.specs.declared.Laid.{Laid}
use Rattle.laying.specs.declared.Strip.{Strip}
use Rattle.wiring.specs.Choices.{legs_of_choice, best_choice}
use Rattle.laying.specs.Entries.{most_legs}
use Rattle.wiring.specs.Answer.{turned_away, answer_with, wiring_rows, wiring_with, wiring_favouring, wiring_of}
use Rattle.wiring.proofs.Few.{needed_few}
use Rattle.wiring.proofs.Refusing.{wiring_apart}
use Rattle.lent.specs.Lent.{strip_of}

module _ (feed : List Spot) (shapes : List Shape) (room : ℕ) where
  abbrev runs : List Run
  runs = runs_of feed

  -- An accepted wiring has room for its legs.
  pub room_kept : accepted (first_of (wiring_rows feed shapes room)) ≡ true → length (legs_of_choice feed runs shapes) ≤ room
  unfolding NoneHolds
  room_kept e =
      let n = none-holds (wiring_rows feed shapes room) (wiring_apart feed shapes room) e in
      ltb-false room (length (legs_of_choice feed runs shapes)) n.1.0

-- The entries of a strip are at most 62, and at most the room: so `fill` asks.
abbrev pub StripFits : ℕ → Strip → Type 0
StripFits room s = (s.count ≤ most_legs) × (s.count ≤ room)

-- So are the legs of an answer.
abbrev pub Fits : ℕ → Laid → Type 0
Fits room l = StripFits room (strip_of l)

-- What fits where it is accepted fits where it is turned away, which has no legs.
pub fits-either : (t : Bool) (v : Verdict) (room : ℕ) (l : Laid) → (t ≡ true → Fits room l) → Fits room (choose t l (turned_away v))
unfolding choose turned_away
fits-either true v room l h = h refl
fits-either false v room l h = (zero-le, zero-le)

-- The legs of a wiring are at most 62, and at most the room.
pub wiring_fits : (feed : List Spot) (room : ℕ) (favour : Favour) → length feed ≡ most_pins → Fits room (wiring_of feed room favour)
unfolding wiring_of wiring_favouring wiring_with answer_with
wiring_fits feed room favour full =
    let runs = runs_of feed in
    let shapes = best_choice (favours_upper favour) feed runs in
    let v = first_of (wiring_rows feed shapes room) in
    fits-either (accepted v) v room (answer_with feed shapes) (λ e. (needed_few feed shapes full, room_kept feed shapes room e))
