-- One line of a log on a desk: the desk that follows, and the text that is printed.
use Rattle.std.specs.Prelude.{Bool, List, [], ℕ, eqb, replicate, Result}
use Rattle.basics.specs.Tests.{choose}
use Rattle.refusal.specs.Refusals.{accepted, told_of}
use Rattle.refusal.specs.Rows.{first_of}
use Rattle.refusal.specs.Refusals.{Verdict}
use Rattle.refusal.specs.declared.Refusal.{Refusal}
use Rattle.refusal.specs.declared.Refusal.TheVariants.{NotOpen}
use Rattle.std.specs.Prelude.{Ok, Err}
use Rattle.edits.specs.declared.stated.Making.TheVariants.{Placing, Moving, Removing}
use Rattle.drawing.specs.Pins.{holding}
use Rattle.bare.specs.Bare.{bare_of}
use Rattle.pinmap.specs.declared.Form.{Form}
use Rattle.forms.specs.Moving.{moved_of, buffer_moved}
use Rattle.rows.specs.Calls.{Call, opening, closing, making, undoing, redoing}
use Rattle.rows.specs.Refusals.{Look}
use Rattle.desk.specs.declared.Desk.{Desk}
use Rattle.desk.specs.Desk.{look_at, naming_at, step}
use Rattle.asked.specs.Asked.{written_of, buffer_of, wired_of, milled_of, dropped_of}
use Rattle.script.specs.declared.Said.{Said}
use Rattle.script.specs.Said.{said_by, map_given, xs_given, ys_given, favour_given, sheet_given, loads_given}
use Rattle.printed.specs.Answers.{verdict_line, written_line, closed_line, lost_line, not_a_call_line}
use Rattle.shown.specs.Shown.{laid_text, cut_text, drawn_text}

-- What the desk is after what a line says. Writing, wiring, milling, drops and showing leave the desk as it is, and so do moving a map and what is not a call.
unfoldable pub followed : Desk → List ℕ → Said → Desk
followed d line Said.Skip = d
followed d line Said.NotACall = d
followed d line (Said.Open s job form) = (step d (opening s job form (map_given 4 line))).desk
followed d line (Said.Close s) = (step d (closing s)).desk
followed d line (Said.Place s p at net part) = (step d (making s (Placing p (holding at net part)))).desk
followed d line (Said.Move s p to) = (step d (making s (Moving p to))).desk
followed d line (Said.Remove s p) = (step d (making s (Removing p))).desk
followed d line (Said.Undo s) = (step d (undoing s)).desk
followed d line (Said.Redo s) = (step d (redoing s)).desk
followed d line (Said.Write s room) = d
followed d line (Said.Wire s net room) = d
followed d line (Said.Mill s net room) = d
followed d line (Said.Bare room) = d
followed d line (Said.Drops s net) = d
followed d line (Said.Moved to job room) = d
followed d line (Said.Pins s) = d

-- What a line makes of the desk.
unfoldable pub played : Desk → List ℕ → Desk
played d line = followed d line (said_by line)

-- Opening, closing, edits, undo and redo print their verdict.
unfoldable pub call_text : Desk → Call → List ℕ
call_text d call = verdict_line (step d call).verdict

-- ROOM bytes are lent, each holding EE before the call.
abbrev pub lent_bytes : ℕ → List ℕ
lent_bytes room = replicate room 0xEE

-- What writes into a lent buffer prints the number of bytes written and the whole buffer after the call; where it is refused, its verdict.
unfoldable pub written_text : Result ℕ Refusal → List ℕ → List ℕ
written_text (Ok bytes) buffer = written_line bytes buffer
written_text (Err r) buffer = verdict_line (Err r)

-- Writing prints so,
unfoldable pub writing_text : Desk → ℕ → List ℕ → List ℕ
writing_text d s buffer = written_text (written_of d s buffer).answer (buffer_of d s buffer)

-- and so does moving a map to a form.
unfoldable pub moving_text : Form → ℕ → List ℕ → List ℕ → List ℕ
moving_text to job map buffer = written_text (moved_of to job map buffer) (buffer_moved to job map buffer)

-- A verdict is 2: the seat is not open.
abbrev pub is_not_open : Verdict → Bool
is_not_open v = eqb (told_of v).number (told_of (Err NotOpen)).number

-- `pins SEAT`, by 28, 1 and 2 as every call naming a seat: `closed` where it is 2, else the drawing, or the refusal.
unfoldable pub seat_text : Desk → ℕ → List ℕ
seat_text d s =
    let v : Verdict = first_of (naming_at d s) in
    let l : Look = look_at d s in
    choose (is_not_open v) closed_line (choose (accepted v) (drawn_text l.job l.pins l.standing l.taken_back) (verdict_line v))

-- What is printed for what the line of that number says. A skipped line prints nothing.
unfoldable pub printed : Desk → ℕ → List ℕ → Said → List ℕ
printed d number line Said.Skip = []
printed d number line Said.NotACall = not_a_call_line number
printed d number line (Said.Open s job form) = call_text d (opening s job form (map_given 4 line))
printed d number line (Said.Close s) = call_text d (closing s)
printed d number line (Said.Place s p at net part) = call_text d (making s (Placing p (holding at net part)))
printed d number line (Said.Move s p to) = call_text d (making s (Moving p to))
printed d number line (Said.Remove s p) = call_text d (making s (Removing p))
printed d number line (Said.Undo s) = call_text d (undoing s)
printed d number line (Said.Redo s) = call_text d (redoing s)
printed d number line (Said.Write s room) = writing_text d s (lent_bytes room)
printed d number line (Said.Wire s net room) = laid_text (wired_of d s net room (favour_given line)).answer
printed d number line (Said.Mill s net room) = cut_text (milled_of d s net room (favour_given line)).answer
printed d number line (Said.Bare room) = laid_text (bare_of (xs_given line) (ys_given line) room (favour_given line))
printed d number line (Said.Drops s net) = lost_line (dropped_of d s net (loads_given line) (sheet_given line)).answer
printed d number line (Said.Moved to job room) = moving_text to job (map_given 3 line) (lent_bytes room)
printed d number line (Said.Pins s) = seat_text d s

-- What the line of that number prints.
unfoldable pub answered : Desk → ℕ → List ℕ → List ℕ
answered d number line = printed d number line (said_by line)
