-- `edits::is_proper` meets its contract, by the edit's cases. Assumes nothing.
use mathlib.Core.Path.{sym, ap, ◌∙◌}
use mathlib.Core.Bool.{not}
use borrow.Author.Tests.{lt-ltb, le-ltb}
use Rattle.basics.proofs.Tests.{both_yes}
use Rattle.board.proofs.Board.{place_told}
use Rattle.edits.specs.Edits.{proper}
use Rattle.edits.proofs.Changing.{improper_number, proper_stays}
use Rattle.edits.proofs.is_proper.Goals as goal

pub returns-in-Moved : goal.returns-in-Moved
unfolding proper
returns-in-Moved c =
    rw c.in-Moved.is
    (c.ne.ensures ∙ ap not (place_told _ _) ∙ sym (both_yes _ (lt-ltb _ _ (rw (c.pin_of.ensures, c.in-Moved.is) at c.if-pin_of-lt-PINS.true))))

pub returns-in_default : goal.returns-in_default
returns-in_default c = sym (proper_stays c.args.edit c.in_default.not-Moved (rw c.pin_of.ensures at c.if-pin_of-lt-PINS.true))

pub returns-else-pin_of-lt-PINS : goal.returns-else-pin_of-lt-PINS
returns-else-pin_of-lt-PINS c =
    le-ltb _ _ c.if-pin_of-lt-PINS.false ∙ sym (improper_number c.args.edit (rw c.pin_of.ensures at c.if-pin_of-lt-PINS.false))
