-- The calls that take a desk, as a type: each with the seat that it names and all that it states.
use Rattle.std.specs.Prelude.{List, ℕ}
use Rattle.edits.specs.declared.stated.Making.{Making}
use Rattle.copper.specs.declared.Favour.{Favour}
use Rattle.loads.specs.declared.Load.{Load}
use Rattle.loads.specs.declared.Sheet.{Sheet}
use Rattle.pinmap.specs.declared.Form.{Form}

-- What is asked of a drawing: to write its map into lent room (bytes), to wire a net into lent room (legs) with what is said of the shape to favour, to give that
-- net's copper as segments into lent room (segments) with the same said, or to tell the volts lost to the net's pins, for these loads and this board sheet. The net comes first, then the room.
pub data Asking : Type 0 where
  writing : ℕ → Asking
  wiring : ℕ → ℕ → Favour → Asking
  milling : ℕ → ℕ → Favour → Asking
  dropping : ℕ → List Load → Sheet → Asking

-- Opening from a pin map of a form, closing, making an edit (placing, moving, removing a pin), undo, redo, and asking.
pub data Call : Type 0 where
  opening : ℕ → ℕ → Form → List ℕ → Call
  closing : ℕ → Call
  making : ℕ → Making → Call
  undoing : ℕ → Call
  redoing : ℕ → Call
  asking : ℕ → Asking → Call

-- The seat that a call names.
abbrev pub seat_in : Call → ℕ
seat_in (opening s job form map) = s
seat_in (closing s) = s
seat_in (making s m) = s
seat_in (undoing s) = s
seat_in (redoing s) = s
seat_in (asking s a) = s
