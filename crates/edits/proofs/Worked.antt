-- Worked cases of the rules and of edits, each computed: a drawing without pins, and one with pin 0 at (20,20). Assumes nothing.
use mathlib.Core.Path.{◌≡◌, refl}
use mathlib.Core.Bool.{true, false}
use mathlib.Core.List.{List, [], ◌∷◌, map}
use Prim.Native.Nat.{ℕ, ◌+◌}
use lib.IntN.{pos, neg_ℤ}
use Rattle.basics.specs.Tests.{both, either, choose, any_of, each_of, no_two}
use Rattle.basics.specs.Lists.{numbered}
use Rattle.board.specs.Place.{place, limit, on_board, inside, difference, closer, too_near, same_number, same_place}
use Rattle.board.specs.declared.Place.{Place}
use Rattle.drawing.specs.declared.Held.{Held}
use Rattle.edits.specs.declared.Edit.TheVariants.{Placed, Moved, Removed}
use Rattle.board.specs.Spots.{spots_too_near, crowded, within, too_near_other}
use Rattle.drawing.specs.Pins.{Pin, holding, is_net, has_net, is_there, same_held, same_pin, same_pins, lawful, spot_of, spots_of, no_pins, stands_at}
use Rattle.edits.specs.Edits.{moved_pin, pin_made, pin_unmade, made, unmade, found_as, all_found, proper, makeable, takeable}

-- A pin of a net, with part number 7, at a place.
abbrev on : ℕ → Place → Held
on net at = holding at net 7

-- A drawing with pin 0 at (20,20).
abbrev one : List Pin
one = made no_pins (Placed 0 (on 1 (place (pos 20) (pos 20))))

-- Both drawings keep the rules; a pin outside the board, or two too near, break them.
rules : map lawful (no_pins ∷ one ∷ made no_pins (Placed 3 (on 1 (place (pos (limit + 1)) (pos 0)))) ∷ made one (Placed 1 (on 1 (place (pos 39) (pos 1)))) ∷ [])
    ≡ true ∷ true ∷ false ∷ false ∷ []
unfolding both either is_net has_net on_board inside difference closer too_near same_number same_place is_there same_held same_pin same_pins spots_too_near too_near_other crowded within spot_of spots_of lawful moved_pin pin_made pin_unmade made unmade stands_at found_as all_found proper makeable takeable choose numbered any_of each_of no_two
rules = refl

-- Placing: at the board's end; beyond it; a pin above 31; a pin that is there; a place too near pin 0; one 20 steps from it.
placing : map (makeable one) (Placed 1 (on 1 (place (neg_ℤ (pos limit)) (pos limit))) ∷ Placed 1 (on 1 (place (pos 0) (pos (limit + 1)))) ∷ Placed 32 (on 1 (place (pos 0) (pos 0)))
    ∷ Placed 0 (on 1 (place (pos 100) (pos 100))) ∷ Placed 1 (on 1 (place (pos 1) (pos 39))) ∷ Placed 1 (on 1 (place (pos 20) (pos 40))) ∷ [])
    ≡ true ∷ false ∷ false ∷ false ∷ false ∷ true ∷ []
unfolding both either is_net has_net on_board inside difference closer too_near same_number same_place is_there same_held same_pin same_pins spots_too_near too_near_other crowded within spot_of spots_of lawful moved_pin pin_made pin_unmade made unmade stands_at found_as all_found proper makeable takeable choose numbered any_of each_of no_two
placing = refl

-- Moving: a step away, near its own former place; to its own place; from where it does not stand. Removing: with what it holds; with another place.
moving : map (makeable one) (Moved 0 (place (pos 20) (pos 20)) (place (pos 20) (pos 21)) ∷ Moved 0 (place (pos 20) (pos 20)) (place (pos 20) (pos 20))
    ∷ Moved 0 (place (pos 40) (pos 20)) (place (pos 60) (pos 60)) ∷ Removed 0 (on 1 (place (pos 20) (pos 20))) ∷ Removed 0 (on 1 (place (pos 40) (pos 20))) ∷ [])
    ≡ true ∷ false ∷ false ∷ true ∷ false ∷ []
unfolding both either is_net has_net on_board inside difference closer too_near same_number same_place is_there same_held same_pin same_pins spots_too_near too_near_other crowded within spot_of spots_of lawful moved_pin pin_made pin_unmade made unmade stands_at found_as all_found proper makeable takeable choose numbered any_of each_of no_two
moving = refl

-- Taking back: the placing of pin 0; a placing elsewhere; a move from another place; from outside the board; a removal of pin 1; one from a place too near pin 0.
taking : map (takeable one) (Placed 0 (on 1 (place (pos 20) (pos 20))) ∷ Placed 0 (on 1 (place (pos 40) (pos 20))) ∷ Moved 0 (place (pos 40) (pos 20)) (place (pos 20) (pos 20))
    ∷ Moved 0 (place (pos (limit + 1)) (pos 20)) (place (pos 20) (pos 20)) ∷ Removed 1 (on 1 (place (pos 40) (pos 20))) ∷ Removed 1 (on 1 (place (pos 39) (pos 39))) ∷ [])
    ≡ true ∷ false ∷ true ∷ false ∷ true ∷ false ∷ []
unfolding both either is_net has_net on_board inside difference closer too_near same_number same_place is_there same_held same_pin same_pins spots_too_near too_near_other crowded within spot_of spots_of lawful moved_pin pin_made pin_unmade made unmade stands_at found_as all_found proper makeable takeable choose numbered any_of each_of no_two
taking = refl
