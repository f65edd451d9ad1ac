-- The bytes that are written for a pin: its record in the old form or the new.
use Rattle.std.specs.Prelude.{List, [], ◌∷◌, ◌++◌, ℕ, ◌/◌, ◌%◌, None, Some}
use Rattle.drawing.specs.declared.Held.{Held}
use Rattle.drawing.specs.Pins.{Pin}
use Rattle.pinmap.specs.declared.Form.{Form}
use Rattle.pinmap.specs.declared.Form.TheVariants.{Old, New}
use Rattle.pinmap.specs.Number.{four_bytes, bits_of}

-- Byte 3 of the record of a pin of this net: zero in the old form.
abbrev pub byte_for : Form → ℕ → ℕ
byte_for Old net = 0
byte_for New net = net

-- What follows y in the record of a pin with this part number: nothing in the old form.
abbrev pub part_bytes : Form → ℕ → List ℕ
part_bytes Old part = []
part_bytes New part = four_bytes part

-- The bytes of a pin's record: twelve in the old form, sixteen in the new.
unfoldable pub record_bytes : Form → ℕ → ℕ → Held → List ℕ
record_bytes form job pin held =
    (job / 256 ∷ job % 256 ∷ pin ∷ byte_for form held.net ∷ [])
    ++ four_bytes (bits_of held.place.x) ++ four_bytes (bits_of held.place.y) ++ part_bytes form held.part

-- What a map has for a pin: its record, and nothing where it is absent.
unfoldable pub pin_bytes : Form → ℕ → ℕ → Pin → List ℕ
pin_bytes form job pin None = []
pin_bytes form job pin (Some held) = record_bytes form job pin held
