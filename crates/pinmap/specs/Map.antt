-- What a pin map is, in the old form or the new: how many bytes its records and itself have, and which pins a form can hold.
use Rattle.std.specs.Prelude.{Bool, true, List, ℕ, ◌<◌, eqb, ltb, get_or, None, Some}
use Rattle.basics.specs.Tests.{both, each_of}
use Rattle.drawing.specs.Pins.{Pin}
use Rattle.pinmap.specs.declared.Form.{Form}
use Rattle.pinmap.specs.declared.Form.TheVariants.{Old, New}

-- A list of bytes: each is below 256.
abbrev pub Bytes : List ℕ → Type 0
Bytes m = (i : ℕ) → get_or m i 0 < 256

-- Records of 12 bytes in the old form, of 16 in the new.
abbrev pub record_size : Form → ℕ
record_size Old = 12
record_size New = 16

-- A map has at most 384 bytes in the old form, 512 in the new.
abbrev pub most_bytes : Form → ℕ
most_bytes Old = 384
most_bytes New = 512

-- The pin, if it is there, has net 1 and part number 0.
unfoldable pub plain : Pin → Bool
plain None = true
plain (Some held) = both (eqb held.net 1) (eqb held.part 0)

-- A form can hold a pin of a drawing that keeps the rules: the old one a pin of net 1 with part number 0, the new one any.
abbrev pub holds : Form → Pin → Bool
holds Old q = plain q
holds New q = true

-- The part number of the pin, if it is there, takes at most the four bytes that a record has for it.
unfoldable pub part_fits : Pin → Bool
part_fits None = true
part_fits (Some held) = ltb held.part 4294967296

-- So does that of each pin.
abbrev pub parts_fit : List Pin → Bool
parts_fit l = each_of part_fits l
