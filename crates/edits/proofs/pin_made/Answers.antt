-- `edits::pin_made` meets its contract, by the edit's three cases. Assumes nothing.
use mathlib.Core.Path.{sym, ◌∙◌}
use Rattle.edits.proofs.Changing.{moved_to, removed_pin}
use Rattle.edits.proofs.pin_made.Goals as goal

pub returns-in-Moved : goal.returns-in-Moved
returns-in-Moved c = c.moved_pin.ensures ∙ sym (moved_to _ c.in-Moved.is).0

pub returns-in-Removed : goal.returns-in-Removed
returns-in-Removed c = sym (removed_pin _ c.in-Removed.is).0
