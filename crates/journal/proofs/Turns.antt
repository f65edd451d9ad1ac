-- Edits tested one after the other, one more at a time. From `in_turn`; assumes nothing.
use mathlib.Core.Path.{◌≡◌, refl}
use mathlib.Core.Bool.{Bool, true, false}
use mathlib.Core.List.{List, [], ◌∷◌}
use Rattle.basics.proofs.Tests.{both_left, both_right, both_of, both_yes, both_no}
use Rattle.drawing.specs.Pins.{Pin}
use Rattle.edits.specs.declared.Edit.{Edit}
use Rattle.journal.specs.Journal.{in_turn}

module _ (test : List Pin → Edit → Bool) (step : List Pin → Edit → List Pin) where
  -- No edit fails where there is none.
  pub turn_nil : (q : List Pin) → in_turn test step q [] ≡ true
  unfolding in_turn
  turn_nil q = refl

  module _ (q : List Pin) (e : Edit) (l : List Edit) where
    -- Where all pass, so does the first edit,
    pub turn_first : in_turn test step q (e ∷ l) ≡ true → test q e ≡ true
    unfolding in_turn
    turn_first h = both_left _ _ h

    -- and so do the rest after it;
    pub turn_rest : in_turn test step q (e ∷ l) ≡ true → in_turn test step (step q e) l ≡ true
    unfolding in_turn
    turn_rest h = both_right _ _ h

    -- where both do, all pass.
    pub turn_cons : test q e ≡ true → in_turn test step (step q e) l ≡ true → in_turn test step q (e ∷ l) ≡ true
    unfolding in_turn
    turn_cons p h = both_of p h

    -- The first edit decides: where it passes, what is left are the others;
    pub turn_yes : test q e ≡ true → in_turn test step q (e ∷ l) ≡ in_turn test step (step q e) l
    unfolding in_turn
    turn_yes p = both_yes _ p

    -- where it fails, all is said.
    pub turn_no : test q e ≡ false → in_turn test step q (e ∷ l) ≡ false
    unfolding in_turn
    turn_no p = both_no _ p
