-- Taking an edit back is making the edit that takes it back: on each pin, on the pins of a drawing, and by the tests of both. Assumes nothing.
use mathlib.Core.Path.{◌≡◌, refl, ap, sym, ◌∙◌}
use mathlib.Core.Bool.{Bool, true, not}
use mathlib.Core.List.{List}
use Prim.Native.Nat.{ℕ}
use borrow.Author.Tests.{eq-eqb}
use lib.ListN.{get_or}
use Rattle.std.specs.Prelude.{None, Some}
use Rattle.basics.specs.Tests.{both}
use Rattle.basics.specs.Lists.{numbered}
use Rattle.basics.proofs.Tests.{same_test, both_true}
use Rattle.board.specs.declared.Place.{Place}
use Rattle.board.specs.Place.{same_place}
use Rattle.board.specs.Spots.{Spot}
use Rattle.board.proofs.Board.{place_same, place_self}
use Rattle.drawing.specs.Pins.{Pin, absent, there, is_there, same_held, same_pin, stands_at, lawful, spots_of}
use Rattle.drawing.proofs.Rules.{pin_same, pin_self}
use Rattle.edits.specs.declared.Edit.{Edit}
use Rattle.edits.specs.declared.Edit.TheVariants.{Placed, Moved, Removed}
use Rattle.edits.specs.Edits.{moved_pin, pin_made, pin_unmade, made, unmade, proper, makeable, takeable}
use Rattle.edits.specs.Changes.{pin_of, reversed, pin_fits, makeable_at, left_by, takeable_at}
use Rattle.edits.proofs.Changing.{placed_pin, moved_to, removed_pin, makeable_at_lem, takeable_at_lem}

-- The edit that takes an edit back names the same pin.
pub reversed_pin : (e : Edit) → pin_of (reversed e) ≡ pin_of e
reversed_pin (Placed p h) = refl
reversed_pin (Moved p a b) = refl
reversed_pin (Removed p h) = refl

-- What it makes of a pin is the pin with the edit taken back,
pub reversed_pin_made : (e : Edit) (n : ℕ) (q : Pin) → pin_made (reversed e) n q ≡ pin_unmade e n q
unfolding pin_made pin_unmade
reversed_pin_made (Placed p h) n q = refl
reversed_pin_made (Moved p a b) n q = refl
reversed_pin_made (Removed p h) n q = refl

-- and what it makes of the pins of a drawing is those with the edit taken back.
pub reversed_made : (l : List Pin) (e : Edit) → made l (reversed e) ≡ unmade l e
unfolding made unmade
reversed_made l e = λ i. numbered (λ n q. reversed_pin_made e n q i) 0 l

-- ---- its test

-- Which of two places comes first does not matter,
place_turned : (a b : Place) → same_place a b ≡ same_place b a
place_turned a b =
    same_test (same_place a b) (same_place b a)
    (λ t. rw (place_same a b t) (place_self b))
    (λ t. rw (place_same b a t) (place_self a))

-- nor which of two pins.
pin_turned : (q r : Pin) → same_pin q r ≡ same_pin r q
pin_turned q r =
    same_test (same_pin q r) (same_pin r q)
    (λ t. rw (pin_same q r t) (pin_self r))
    (λ t. rw (pin_same r q t) (pin_self q))

-- A pin is the absent one where it is not there.
absent_pin : (q : Pin) → same_pin absent q ≡ not (is_there q)
unfolding same_pin is_there
absent_pin None = refl
absent_pin (Some h) = refl

-- A pin moved to where a move began stands there; and it is the pin once it is moved on, where that stood where the move ended.
moved_on : (q : Pin) (a b : Place) (t : Bool) → both (stands_at (moved_pin q a) a) (both (same_pin (moved_pin (moved_pin q a) b) q) t) ≡ both (stands_at q b) t
unfolding both stands_at moved_pin same_pin same_held
moved_on None a b t = refl
moved_on (Some h) a b t = rw (place_self a, eq-eqb h.net h.net refl, eq-eqb h.part h.part refl, place_turned b h.place, both_true (same_place h.place b))

-- An edit could have been made where the edit that takes it back can be made.
pub reversed_test : (e : Edit) (q : Pin) (spots : List Spot) → makeable_at (reversed e) q spots ≡ takeable_at e q spots
unfolding both is_there proper makeable_at left_by takeable_at
reversed_test (Placed p h) q spots =
    let m = placed_pin {e = Placed p h} q refl in
    let n = placed_pin {e = Placed p h} absent refl in
    let r = removed_pin {e = Removed p h} q refl in
    rw (m.1, n.0, n.2, r.0, r.2, pin_turned q (there h))
reversed_test (Moved p a b) q spots =
    let m = moved_to {e = Moved p a b} q refl in
    let n = moved_to {e = Moved p a b} (moved_pin q a) refl in
    let r = moved_to {e = Moved p b a} q refl in
    rw (m.1, n.0, n.2, r.0, r.2, place_turned b a, moved_on q a b (pin_fits spots p (moved_pin q a)))
reversed_test (Removed p h) q spots =
    let m = removed_pin {e = Removed p h} q refl in
    let n = removed_pin {e = Removed p h} (there h) refl in
    let r = placed_pin {e = Placed p h} q refl in
    rw (m.1, n.0, n.2, r.0, r.2, pin_self (there h), absent_pin q)

-- So on pins that keep the rules the one is tested by the other.
pub reversed_makeable : (l : List Pin) (e : Edit) → lawful l ≡ true → makeable l (reversed e) ≡ takeable l e
reversed_makeable l e k =
    makeable_at_lem l k (reversed e)
    ∙ ap (λ (p : ℕ). makeable_at (reversed e) (get_or l p absent) (spots_of l)) (reversed_pin e)
    ∙ reversed_test e (get_or l (pin_of e) absent) (spots_of l)
    ∙ sym (takeable_at_lem l k e)
