-- An edit tried on pins that keep the rules, as the code takes it: its test, and the pin that it leaves. Assumes nothing.
use mathlib.Core.Path.{◌≡◌, sym, ◌∙◌}
use mathlib.Core.Bool.{Bool, true}
use mathlib.Core.List.{List}
use Prim.Native.Nat.{ℕ, ◌<◌}
use native.Mathlib.Omega.{arith}
use lib.ListN.{set}
use Rattle.board.specs.Spots.{Spot, most_pins}
use Rattle.drawing.specs.Pins.{Pin, pin_at, lawful, spot_of, spots_of}
use Rattle.drawing.proofs.Rules.{spots_put}
use Rattle.edits.specs.declared.Edit.{Edit}
use Rattle.edits.specs.Edits.{pin_made, made, makeable}
use Rattle.edits.specs.Changes.{pin_of, makeable_at}
use Rattle.edits.proofs.Making.{makeable-proper}
use Rattle.edits.proofs.Changing.{made_is, proper_number, makeable_at_lem}

-- An edit, the number n of the pin that it names, and what the pins l have there.
module _ (l : List Pin) (e : Edit) {n : ℕ} {q : Pin} (m : n ≡ pin_of e) (g : q ≡ pin_at l n) where
  -- The test of that pin says whether the edit can be made.
  pub made_test : {spots : List Spot} {b : Bool} → lawful l ≡ true → spots ≡ spots_of l → b ≡ makeable_at e q spots → b ≡ makeable l e
  made_test k t h = h ∙ rw (g, m, t) (sym (makeable_at_lem l k e))

  -- One that can be made names a pin from 0 to 31.
  pub made_number : makeable l e ≡ true → n < most_pins
  made_number t = omega (arith, m, proper_number e (makeable-proper l e t))

  -- What it makes of the pin, put there, is the edit made.
  pub pin_put : {r : Pin} → r ≡ pin_made e (pin_of e) q → set l n r ≡ made l e
  pin_put h = rw (h, g, m) (sym (made_is l e))

-- What stands at the numbers follows, once what stands at a changed pin's number is put there.
pub spot_put : (l : List Pin) {spots : List Spot} (n : ℕ) (r : Pin) {s : Spot} → spots ≡ spots_of l → s ≡ spot_of r → set spots n s ≡ spots_of (set l n r)
spot_put l n r t h = rw (t, h) (sym (spots_put l n r))
