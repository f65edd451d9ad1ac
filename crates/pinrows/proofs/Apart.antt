-- The rows of the pins are apart; and what a `?` hands on. From the laws of rows; assumes nothing.
use mathlib.Core.Path.{◌≡◌, refl, ap, ◌∙◌}
use mathlib.Core.List.{List}
use Rattle.std.specs.Prelude.{Result, Err}
use Rattle.std.specs.Result.{IsErrAnd}
use Rattle.std.proofs.lemmas.Result.{err_from_is_err_and}
use Rattle.basics.specs.Tests.{both}
use Rattle.refusal.specs.declared.Refusal.{Refusal}
use Rattle.refusal.proofs.Rows.{unlike, distinct, Apart, apart_by}
use Rattle.drawing.specs.Pins.{Pin}
use Rattle.edits.specs.declared.stated.Making.{Making}
use Rattle.edits.specs.declared.stated.Making.TheVariants.{Placing, Moving, Removing}
use Rattle.pinrows.specs.PinRows.{making_rows}

-- What the pins say of an edit is apart.
pub making_apart : (l : List Pin) (m : Making) → Apart (making_rows l m)
unfolding distinct unlike both
making_apart l (Placing p h) = apart_by (making_rows l (Placing p h)) refl
making_apart l (Moving p to) = apart_by (making_rows l (Moving p to)) refl
making_apart l (Removing p) = apart_by (making_rows l (Removing p)) refl

-- What the exit of a `?` hands on is the refusal that was answered.
pub handed_on : {A : Type 0} (r : Result A Refusal) {e : Refusal} → IsErrAnd r (λ (x : Refusal). x ≡ e) → r ≡ Err e
handed_on r h = let p = err_from_is_err_and r h in p.1 ∙ ap Err p.2
