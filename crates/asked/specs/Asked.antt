-- What is asked of a desk: what writing, wiring, milling and the call for volts lost hand back, and what they leave in what was lent.
use Rattle.std.specs.Prelude.{List, ℕ, length, Result}
use Rattle.refusal.specs.declared.Refusal.{Refusal}
use Rattle.pinmap.specs.declared.Form.TheVariants.{New}
use Rattle.writemap.specs.Map.{map_of, write_by, buffer_by}
use Rattle.copper.specs.declared.Favour.{Favour}
use Rattle.copper.specs.declared.Leg.{Leg}
use Rattle.loads.specs.declared.Load.{Load}
use Rattle.loads.specs.declared.Sheet.{Sheet}
use Rattle.drops.specs.declared.Lost.{Lost}
use Rattle.drops.specs.Drops.{drops_of, lost_by}
use Rattle.wiring.specs.declared.Laid.{Laid}
use Rattle.wiring.specs.declared.Wiring.{Wiring}
use Rattle.lent.specs.Lent.{strip_of, filled_with}
use Rattle.mill.specs.declared.Cut.{Cut}
use Rattle.mill.specs.declared.Milling.{Milling}
use Rattle.mill.specs.Answer.{copper_of, cut_by, strip_of_cut}
use Rattle.rows.specs.Calls.{asking, writing, milling, dropping}
use Rattle.rows.specs.Found.{wired_by}
use Rattle.desk.specs.declared.Desk.{Desk}
use Rattle.desk.specs.Desk.{seat_of, rows_at, naming_net_at, feed_at}
use Rattle.asked.specs.declared.Asked.{Asked}

-- What writing hands back: the desk, and the number of bytes written, or the refusal in its place.
abbrev pub Written : Type 0
Written = Asked (Result ℕ Refusal)

-- What wiring hands back: the desk, and the answer with its legs.
abbrev pub Wired : Type 0
Wired = Asked Laid

-- What wiring into a lent list of legs hands back: the desk, and the answer.
abbrev pub WiredSeat : Type 0
WiredSeat = Asked Wiring

-- What milling hands back: the desk, and the answer with its segments.
abbrev pub Milled : Type 0
Milled = Asked Cut

-- What milling into a lent list of segments hands back: the desk, and the answer.
abbrev pub MilledSeat : Type 0
MilledSeat = Asked Milling

-- What the call for volts lost hands back: the desk, and the answer.
abbrev pub Dropped : Type 0
Dropped = Asked Lost

-- The map of the drawing at a seat, in the new form.
abbrev pub map_at : Desk → ℕ → List ℕ
map_at d s = map_of New (seat_of d s).job (seat_of d s).pins

-- Writing: the desk as it is, and the answer, the number of bytes written or why not.
unfoldable pub written_of : Desk → ℕ → List ℕ → Written
written_of d s buffer = record { desk = d; answer = write_by (rows_at d (asking s (writing (length buffer)))) (map_at d s) }

-- The lent buffer after writing.
unfoldable pub buffer_of : Desk → ℕ → List ℕ → List ℕ
buffer_of d s buffer = buffer_by (rows_at d (asking s (writing (length buffer)))) (map_at d s) buffer

-- Wiring a net of a seat, with room for so many legs: the desk as it is, and the answer with its legs.
unfoldable pub wired_of : Desk → ℕ → ℕ → ℕ → Favour → Wired
wired_of d s net room favour = record { desk = d; answer = wired_by (naming_net_at d s net) (feed_at d s net) room favour }

-- Wiring into a lent list of legs: its length is the room. The desk as it is, and the answer.
unfoldable pub wired_seat_of : Desk → ℕ → ℕ → List Leg → Favour → WiredSeat
wired_seat_of d s net lent favour = record { desk = d; answer = (wired_of d s net (length lent) favour).answer.wiring }

-- The lent list of legs after wiring: filled with the legs, entries after these as they were; where it is refused, there are none.
unfoldable pub lent_of : Desk → ℕ → ℕ → List Leg → Favour → List Leg
lent_of d s net lent favour = filled_with (strip_of (wired_of d s net (length lent) favour).answer) lent

-- The copper of a net of a seat as segments, with room for so many: the desk as it is, and the answer with its segments.
unfoldable pub milled_of : Desk → ℕ → ℕ → ℕ → Favour → Milled
milled_of d s net room favour =
    record { desk = d; answer = cut_by (rows_at d (asking s (milling net room favour))) (copper_of (feed_at d s net) favour) }

-- The same into a lent list of segments: its length is the room. The desk as it is, and the answer.
unfoldable pub milled_seat_of : Desk → ℕ → ℕ → List Leg → Favour → MilledSeat
milled_seat_of d s net lent favour = record { desk = d; answer = (milled_of d s net (length lent) favour).answer.milling }

-- The lent list of segments afterwards: filled with the segments, entries after these as they were; where it is refused, there are none.
unfoldable pub segments_lent_of : Desk → ℕ → ℕ → List Leg → Favour → List Leg
segments_lent_of d s net lent favour = filled_with (strip_of_cut (milled_of d s net (length lent) favour).answer) lent

-- The volts lost to the pins of a net of a seat, for these loads and this board sheet: the desk as it is, and the answer.
unfoldable pub dropped_of : Desk → ℕ → ℕ → List Load → Sheet → Dropped
dropped_of d s net loads sheet =
    record { desk = d; answer = lost_by (rows_at d (asking s (dropping net loads sheet))) (drops_of (feed_at d s net) loads sheet) }
