-- What stays until a call of some kind: the kinds of calls, that none of a kind is accepted at a seat among any calls, and edits that still stand.
use Rattle.std.specs.Prelude.{◌≡◌, Bool, true, false, List, [], ◌∷◌, ◌++◌, ℕ, eqb}
use Rattle.basics.specs.Tests.{both}
use Rattle.refusal.specs.Refusals.{accepted}
use Rattle.edits.specs.declared.Edit.{Edit}
use Rattle.desk.specs.declared.Desk.{Desk}
use Rattle.rows.specs.Calls.{Call, seat_in, opening, closing, making, undoing, redoing, asking}
use Rattle.desk.specs.Desk.{step}

-- The call is an opening.
abbrev pub is_opening : Call → Bool
is_opening (opening t job form map) = true
is_opening (closing t) = false
is_opening (making t m) = false
is_opening (undoing t) = false
is_opening (redoing t) = false
is_opening (asking t a) = false

-- The call is a closing.
abbrev pub is_closing : Call → Bool
is_closing (opening t job form map) = false
is_closing (closing t) = true
is_closing (making t m) = false
is_closing (undoing t) = false
is_closing (redoing t) = false
is_closing (asking t a) = false

-- The call makes an edit (placing, moving, removing) or is a closing.
abbrev pub is_edit_or_closing : Call → Bool
is_edit_or_closing (opening t job form map) = false
is_edit_or_closing (closing t) = true
is_edit_or_closing (making t m) = true
is_edit_or_closing (undoing t) = false
is_edit_or_closing (redoing t) = false
is_edit_or_closing (asking t a) = false

-- The call is an undo.
abbrev pub is_undo : Call → Bool
is_undo (opening t job form map) = false
is_undo (closing t) = false
is_undo (making t m) = false
is_undo (undoing t) = true
is_undo (redoing t) = false
is_undo (asking t a) = false

-- On this desk the call is an accepted one of these, and names the seat.
abbrev pub is_one_at : (Call → Bool) → Desk → ℕ → Call → Bool
is_one_at these d s c = both (eqb s (seat_in c)) (both (accepted (step d c).verdict) (these c))

-- None of the calls, made one after the other from this desk, is an accepted one of these that names the seat.
unfoldable pub NoneAt : (Call → Bool) → Desk → ℕ → List Call → Type 0
NoneAt these d s [] = Unit {0}
NoneAt these d s (c ∷ calls) = (is_one_at these d s c ≡ false) × NoneAt these (step d c).desk s calls

-- Edits that stood still stand: of those that stand now, the latest first, they are the first that were made, and any others are newer.
pub record StillStand (stood stands : List Edit) : Type 0 where
  pub newer : List Edit
  pub are : stands ≡ newer ++ stood
