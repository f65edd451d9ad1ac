-- What a call that makes an edit states, and the edit that it makes.
use Rattle.std.specs.Prelude.{List}
use Rattle.edits.specs.declared.Edit.{Edit}
use Rattle.edits.specs.declared.Edit.TheVariants.{Placed, Moved, Removed}
use Rattle.edits.specs.declared.stated.Making.{Making}
use Rattle.edits.specs.declared.stated.Making.TheVariants.{Placing, Moving, Removing}
use Rattle.drawing.specs.Pins.{Pin, pin_at, held_by}

-- The edit that such a call makes on these pins: a pin placed with what it will hold, moved from where it stands, or removed with what it holds.
abbrev pub edit_of : List Pin → Making → Edit
edit_of l (Placing p h) = Placed p h
edit_of l (Moving p to) = Moved p (held_by (pin_at l p)).place to
edit_of l (Removing p) = Removed p (held_by (pin_at l p))
