-- `edits::make` meets its contract: one pin is changed, or none where the edit names none. Assumes nothing.
use mathlib.Core.Path.{sym, ◌∙◌}
use native.Mathlib.Omega.{arith}
use lib.Seq.{set_out}
use Rattle.edits.proofs.Changing.{made_is}
use Rattle.edits.proofs.make.Goals as goal

pub returns-then-number-lt-PINS : goal.returns-then-number-lt-PINS
returns-then-number-lt-PINS c =
    rw (made_is c.args.pins.now c.args.edit, ← c.pin_of-number.ensures) (rw (c.pin_made.ensures, ← c.pin_of-number.ensures))

pub returns-else-number-lt-PINS : goal.returns-else-number-lt-PINS
returns-else-number-lt-PINS c =
    sym (made_is c.args.pins.now c.args.edit ∙ set_out c.args.pins.now _ _ (omega arith))
