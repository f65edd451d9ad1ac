-- Edits: one that can be made leaves a drawing that keeps the rules, and taking it back gives the pins before; one that can be taken back
-- gives the pins again when it is made again. From what an edit does pin by pin; assumes nothing.
use mathlib.Core.Path.{◌≡◌, refl, ap, sym}
use mathlib.Core.Bool.{Bool, true, false}
use mathlib.Core.List.{List}
use Prim.Native.Nat.{ℕ}
use borrow.Author.Tests.{not-true}
use Rattle.basics.specs.Tests.{choose}
use Rattle.basics.proofs.Tests.{both_left, both_right, both_of}
use Rattle.basics.proofs.Numbered.{numbered_back}
use Rattle.board.specs.declared.Place.{Place}
use Rattle.board.proofs.Board.{place_same}
use Rattle.drawing.specs.declared.Held.{Held}
use Rattle.std.specs.Prelude.{None, Some}
use Rattle.edits.specs.declared.Edit.{Edit}
use Rattle.edits.specs.declared.Edit.TheVariants.{Placed, Moved, Removed}
use Rattle.drawing.specs.Pins.{Pin, absent, there, is_there, lawful, stands_at}
use Rattle.edits.specs.Edits.{held_at, moved_pin, pin_made, pin_unmade, made, unmade, found_as, all_found, proper, makeable, takeable}
use Rattle.drawing.proofs.Rules.{pin_same, pins_same, pins_self}

-- ---- one pin

-- A pin that the test does not find there is the absent one.
pin_absent : (q : Pin) → is_there q ≡ false → q ≡ absent
unfolding is_there
pin_absent None e = refl
pin_absent (Some h) e = cc

-- What a pin holds, moved away and back to its place, is as it was,
held_back : (h : Held) (a b : Place) → h.place ≡ a → held_at (held_at h b) a ≡ h
held_back h a b e = λ i. record { place = sym e i; net = h.net; part = h.part }

-- and so is the pin.
pin_back : (q : Pin) (a b : Place) → stands_at q a ≡ true → moved_pin (moved_pin q b) a ≡ q
unfolding stands_at moved_pin
pin_back None a b e = cc
pin_back (Some h) a b e = ap there (held_back h a b (place_same h.place a e))

-- A change of a pin of one number and the change back, by whether it is that pin.
chosen_back : (t : Bool) (f g : Pin → Pin) (q : Pin) (found : Bool) → choose t found true ≡ true → (found ≡ true → g (f q) ≡ q)
    → choose t (g (choose t (f q) q)) (choose t (f q) q) ≡ q
unfolding choose
chosen_back true f g q found e back = back e
chosen_back false f g q found e back = refl

-- Where an edit finds a pin as it says, taking it back gives the pin as it was.
back_at : (e : Edit) (n : ℕ) (q : Pin) → found_as e n q ≡ true → pin_unmade e n (pin_made e n q) ≡ q
unfolding found_as pin_made pin_unmade
back_at (Placed p h) n q e = chosen_back _ (λ r. there h) (λ r. absent) q _ e (λ f. sym (pin_absent q (not-true _ f)))
back_at (Moved p a b) n q e = chosen_back _ (λ r. moved_pin r b) (λ r. moved_pin r a) q _ e (pin_back q a b)
back_at (Removed p h) n q e = chosen_back _ (λ r. absent) (λ r. there h) q _ e (λ f. sym (pin_same q (there h) f))

-- ---- an edit that can be made

module _ (l : List Pin) (e : Edit) (m : makeable l e ≡ true) where
  -- It is a proper one,
  pub makeable-proper : proper e ≡ true
  unfolding makeable
  makeable-proper = both_left _ _ m

  -- and finds every pin as it says.
  pub makeable_found : all_found l e ≡ true
  unfolding makeable
  makeable_found = both_left _ _ (both_right _ _ m)

  -- The drawing keeps the rules with it made.
  pub made-lawful : lawful (made l e) ≡ true
  unfolding makeable
  made-lawful = both_right _ _ (both_right _ _ m)

  -- Taking back what was made gives the pins before.
  pub unmade-made : unmade (made l e) e ≡ l
  unfolding made unmade all_found
  unmade-made = numbered_back (found_as e) (pin_made e) (pin_unmade e) (back_at e) 0 l makeable_found

  -- What was made can be taken back.
  pub made-takeable : lawful l ≡ true → takeable (made l e) e ≡ true
  unfolding takeable
  made-takeable k = rw unmade-made (both_of k (both_of m (pins_self (made l e))))

-- ---- an edit that can be taken back

module _ (l : List Pin) (e : Edit) (t : takeable l e ≡ true) where
  -- The pins with it taken back keep the rules,
  pub unmade-lawful : lawful (unmade l e) ≡ true
  unfolding takeable
  unmade-lawful = both_left _ _ t

  -- and on them it can be made.
  pub unmade-makeable : makeable (unmade l e) e ≡ true
  unfolding takeable
  unmade-makeable = both_left _ _ (both_right _ _ t)

  -- Making it again gives the pins as they are.
  pub made-unmade : made (unmade l e) e ≡ l
  unfolding takeable
  made-unmade = pins_same (made (unmade l e) e) l (both_right _ _ (both_right _ _ t))
