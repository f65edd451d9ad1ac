-- `edits::is_found` meets its contract, by the edit's three cases. Assumes nothing.
use mathlib.Core.Path.{sym, ap, ◌∙◌}
use mathlib.Core.Bool.{not, not-not}
use Rattle.drawing.proofs.Rules.{pin_told, there_told}
use Rattle.edits.proofs.Changing.{placed_pin, moved_to, removed_pin}
use Rattle.edits.proofs.is_found.Goals as goal

pub returns-in-Placed : goal.returns-in-Placed
returns-in-Placed c = sym (not-not _) ∙ ap not (sym c.is_none.ensures ∙ there_told c.args.pin) ∙ sym (placed_pin _ c.in-Placed.is).2

pub returns-in-Moved : goal.returns-in-Moved
returns-in-Moved c = c.stands_at.ensures ∙ sym (moved_to _ c.in-Moved.is).2

pub returns-in-Removed : goal.returns-in-Removed
returns-in-Removed c = c.eq.ensures ∙ pin_told _ _ ∙ sym (removed_pin _ c.in-Removed.is).2
