-- What leaves the desk: the bytes that a writing wrote; and what calls state that fits into them.
use Rattle.std.specs.Prelude.{List, [], ◌∷◌, ℕ, ◌<◌, take}
use Rattle.edits.specs.declared.stated.Making.{Making}
use Rattle.edits.specs.declared.stated.Making.TheVariants.{Placing, Moving, Removing}
use Rattle.pinmap.specs.Map.{Bytes}
use Rattle.writemap.specs.Map.{bytes_of}
use Rattle.desk.specs.declared.Desk.{Desk}
use Rattle.rows.specs.Calls.{Call, opening, closing, making, undoing, redoing, asking}
use Rattle.asked.specs.Asked.{written_of, buffer_of}

-- The bytes that writing a seat wrote: so many of the lent buffer.
abbrev pub bytes_from : Desk → ℕ → List ℕ → List ℕ
bytes_from d s buffer = take (bytes_of (written_of d s buffer).answer) (buffer_of d s buffer)

-- The part number that a placing states has four bytes: it is a u32 wherever it enters.
abbrev pub MakingFits : Making → Type 0
MakingFits (Placing p h) = h.part < 4294967296
MakingFits (Moving p to) = Unit {0}
MakingFits (Removing p) = Unit {0}

-- The job that an opening states has two bytes, and its map is made of bytes: they are a u16 and u8s wherever they enter; the part number that a placing
-- states is a u32.
abbrev pub CallFits : Call → Type 0
CallFits (opening t job form map) = (job < 65536) × Bytes map
CallFits (closing t) = Unit {0}
CallFits (making t m) = MakingFits m
CallFits (undoing t) = Unit {0}
CallFits (redoing t) = Unit {0}
CallFits (asking t a) = Unit {0}

-- Each of the calls states what fits.
unfoldable pub CallsFit : List Call → Type 0
CallsFit [] = Unit {0}
CallsFit (c ∷ calls) = CallFits c × CallsFit calls
