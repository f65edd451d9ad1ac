-- Whether a run is straight, by tests of the bits of its ends. Assumes nothing.
use Rattle.std.proofs.Common.{◌≡◌, false, sym, ◌∙◌}
use borrow.Author.Tests.{ne_eqb}
use lib.Dec.{eqb}
use mir.Syntax.{w32}
use mir.Val.{SFits, of_z}
use Rattle.basics.specs.Tests.{either}
use Rattle.board.specs.declared.Place.{Place}
use Rattle.board.specs.Place.{same_number, is_straight}
use Rattle.board.proofs.Signed.{same_bits}

-- Where the x differ in their bits, a run is straight where the bits of the y do not.
pub straight_by_y : (a b : Place) → SFits w32 a.x → SFits w32 b.x → SFits w32 a.y → SFits w32 b.y → (of_z w32 a.x ≡ of_z w32 b.x → ⊥) → eqb (of_z w32 a.y) (of_z w32 b.y) ≡ is_straight a b
unfolding is_straight either
straight_by_y a b ax bx ay by differ =
    let e : same_number a.x b.x ≡ false = sym (same_bits ax bx) ∙ ne_eqb _ _ differ in
    rw e (same_bits ay by)
