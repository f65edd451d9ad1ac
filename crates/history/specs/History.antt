-- The history of calls: what each seat's own calls come to, in demand 3's sentences, with the rows of refusals and 01's used count; and what they make of a
-- desk.
use Rattle.std.specs.Prelude.{Bool, true, false, List, [], ◌∷◌, map, ℕ, ◌+◌, length, replicate, get_or, set}
use Rattle.basics.specs.Tests.{choose}
use Rattle.basics.specs.Sums.{sum}
use Rattle.refusal.specs.Refusals.{accepted, Verdict}
use Rattle.refusal.specs.Rows.{first_of}
use Rattle.drawing.specs.Pins.{Pin}
use Rattle.edits.specs.declared.Edit.{Edit}
use Rattle.edits.specs.Edits.{made}
use Rattle.edits.specs.Stated.{edit_of}
use Rattle.readmap.specs.Map.{read_map, pins_of}
use Rattle.journal.specs.Journal.{most_seats}
use Rattle.desk.specs.declared.Desk.{Desk}
use Rattle.rows.specs.Calls.{Call, seat_in, opening, closing, making, undoing, redoing, asking}
use Rattle.rows.specs.Refusals.{Look, rows_of}
use Rattle.desk.specs.Desk.{step}

-- A seat is closed, or open with the job and the pins of its latest opening, its standing edits (the latest first) and its
-- taken-back edits (the most recently taken back first).
pub data Past : Type 0 where
  closed : Past
  opened : ℕ → List Pin → List Edit → List Edit → Past

-- The pins of an opening with the standing edits made in order.
unfoldable pub pins_by : List Pin → List Edit → List Pin
pins_by first [] = first
pins_by first (e ∷ earlier) = made (pins_by first earlier) e

-- The seat is open.
abbrev pub is_open : Past → Bool
is_open closed = false
is_open (opened job first standing taken_back) = true

-- The job of an open seat, 0 for a closed one.
abbrev pub job_in : Past → ℕ
job_in closed = 0
job_in (opened job first standing taken_back) = job

-- The pins of an open seat: those of its latest opening, with its standing edits made in order.
abbrev pub pins_in : Past → List Pin
pins_in closed = []
pins_in (opened job first standing taken_back) = pins_by first standing

-- The standing edits of a seat, the latest first; a closed one has none.
abbrev pub standing_in : Past → List Edit
standing_in closed = []
standing_in (opened job first standing taken_back) = standing

-- The taken-back edits of a seat, the most recently taken back first; a closed one has none.
abbrev pub taken_back_in : Past → List Edit
taken_back_in closed = []
taken_back_in (opened job first standing taken_back) = taken_back

-- Standing and taken-back edits both occupy records.
abbrev pub edits_in : Past → ℕ
edits_in t = length (standing_in t) + length (taken_back_in t)

-- The past of a seat; nothing is open above 7.
abbrev pub past_of : List Past → ℕ → Past
past_of h s = get_or h s closed

-- The used count is the sum, over open seats, of standing and taken-back edits.
abbrev pub used_in : List Past → ℕ
used_in h = sum (map edits_in h)

-- What a call looks at, as the history gives it. A history is never broken.
abbrev pub look_in : List Past → ℕ → Look
look_in h s =
    record {
      broken = false;
      seat = s;
      opened = is_open (past_of h s);
      job = job_in (past_of h s);
      pins = pins_in (past_of h s);
      standing = length (standing_in (past_of h s));
      taken_back = length (taken_back_in (past_of h s));
      jobs = map job_in h;
      used = used_in h;
    }

-- A new edit stands, and discards those taken back.
unfoldable pub anew : Edit → Past → Past
anew e closed = closed
anew e (opened job first standing taken_back) = opened job first (e ∷ standing) []

-- Undo takes back the latest standing edit.
unfoldable pub undone : Past → Past
undone closed = closed
undone (opened job first [] taken_back) = opened job first [] taken_back
undone (opened job first (e ∷ standing) taken_back) = opened job first standing (e ∷ taken_back)

-- Redo makes the most recently taken-back edit stand again.
unfoldable pub redone : Past → Past
redone closed = closed
redone (opened job first standing []) = opened job first standing []
redone (opened job first standing (e ∷ taken_back)) = opened job first (e ∷ standing) taken_back

-- What an accepted call makes of its own seat.
unfoldable pub next : Call → Past → Past
next (opening s job form map) t = opened job (pins_of (read_map form map job)) [] []
next (closing s) t = closed
next (making s m) t = anew (edit_of (pins_in t) m) t
next (undoing s) t = undone t
next (redoing s) t = redone t
next (asking s a) t = t

-- What a call is answered by the history.
unfoldable pub answer_in : List Past → Call → Verdict
answer_in h c = first_of (rows_of (look_in h (seat_in c)) c)

-- An accepted call changes its own seat, and nothing else; a refused one changes nothing.
unfoldable pub past_after : List Past → Call → List Past
past_after h c = choose (accepted (answer_in h c)) (set h (seat_in c) (next c (past_of h (seat_in c)))) h

-- Before any call all seats are closed.
abbrev pub nothing : List Past
nothing = replicate most_seats closed

-- The history after any calls, the first call first.
unfoldable pub history : List Past → List Call → List Past
history h [] = h
history h (c ∷ calls) = history (past_after h c) calls

-- The desk after any calls.
unfoldable pub after : Desk → List Call → Desk
after d [] = d
after d (c ∷ calls) = after (step d c).desk calls

-- What any calls are answered on a desk.
unfoldable pub answers : Desk → List Call → List Verdict
answers d [] = []
answers d (c ∷ calls) = (step d c).verdict ∷ answers (step d c).desk calls

-- What any calls are answered by the history.
unfoldable pub answers_in : List Past → List Call → List Verdict
answers_in h [] = []
answers_in h (c ∷ calls) = answer_in h c ∷ answers_in (past_after h c) calls
