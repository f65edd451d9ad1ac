-- A feed that has a tree, and that has more legs than there is room for, is turned away for lack of room: by plain values, so that
-- rattle finds it for the test of the room, however the test is worded. From the laws of `Answering`; assumes nothing.
use mathlib.Core.Path.{◌≡◌, refl}
use mathlib.Core.Bool.{Bool, true}
use mathlib.Core.List.{List}
use Prim.Native.Nat.{ℕ, ◌%◌, ◌<◌}
use lib.ListN.{length, take}
use Rattle.std.specs.Prelude.{Ok, Err}
use Rattle.refusal.specs.declared.Refusal.TheVariants.{RoomTooSmall}
use Rattle.board.specs.Spots.{Spot, most_pins, place_in, all_within, all_apart}
use Rattle.tree.specs.declared.Run.{Run}
use Rattle.tree.specs.declared.Tree.{Tree}
use Rattle.tree.specs.Trees.{tree_of}
use Rattle.least.specs.declared.Least.{Least}
use Rattle.least.specs.Asking.{base, least_of_tree, near_pin}
use Rattle.laying.specs.declared.RunEntry.{RunEntry}
use Rattle.laying.specs.declared.Strip.{Strip}
use Rattle.laying.specs.Reaching.{places_of, nears_of, entries_in, legs_of_entries, strip}
use Rattle.wiring.specs.Answer.{turned_away, wiring_favouring}
use Rattle.wiring.proofs.Answering.{wire_room}

-- What is found for some runs.
abbrev found_for : Bool → List Spot → List Run → Least
found_for favoured feed runs = least_of_tree (place_in (places_of feed runs)) (near_pin (nears_of runs)) favoured (length runs)

-- Their run entries.
abbrev laid_for : Bool → List Spot → List Run → List RunEntry
laid_for favoured feed runs = entries_in feed favoured ((found_for favoured feed runs).cost % base) runs

-- The legs of a tree.
abbrev strip_for : Bool → List Spot → Tree → Strip
strip_for favoured feed t = strip (legs_of_entries feed (take t.count (laid_for favoured feed (take t.count t.runs))))

-- More legs than there is room for are refused.
pub room_short : (favoured : Bool) (feed : List Spot) (room : ℕ) (t : Tree) → length feed ≡ most_pins → all_within feed ≡ true → all_apart feed ≡ true
    → Ok t ≡ tree_of feed → room < (strip_for favoured feed t).count → turned_away (Err RoomTooSmall) ≡ wiring_favouring favoured feed room
room_short favoured feed room t full ok free e l = wire_room feed full ok free favoured room t e _ refl _ refl _ refl _ refl _ refl l
