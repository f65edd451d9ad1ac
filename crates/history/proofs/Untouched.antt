-- What a call leaves as it is, on ANY desk, broken or not: the other seats and their edits; the desk itself where the call is refused, writes a map or wires;
-- the buffer where writing is refused; the journal where the call undoes or redoes. From the definition of a step; assumes nothing.
use mathlib.Core.Path.{◌≡◌, refl, ap, ◌∙◌}
use mathlib.Core.Bool.{Bool, true, false}
use mathlib.Core.List.{List}
use Prim.Native.Nat.{ℕ}
use lib.ListN.{length}
use lib.Seq.{get_or-set_other}
use Rattle.basics.specs.Tests.{choose}
use Rattle.std.specs.Prelude.{Result, Ok, Err, is_ok}
use Rattle.refusal.specs.declared.Refusal.{Refusal}
use Rattle.refusal.specs.Refusals.{accepted}
use Rattle.basics.proofs.Tests.{choose_yes, choose_no, choose-same}
use Rattle.writemap.specs.Map.{verdict_of, bytes_of}
use Rattle.writemap.proofs.Written.{verdict_is, refused_stays}
use Rattle.journal.specs.declared.Record.{Record}
use Rattle.journal.specs.Journal.{own}
use Rattle.journal.proofs.Own.{own_other, other_added}
use Rattle.journal.proofs.Filled.{take-filled}
use Rattle.seats.specs.declared.Seat.{Seat}
use Rattle.desk.specs.declared.Desk.{Desk}
use Rattle.rows.specs.Calls.{Call, seat_in, opening, closing, making, undoing, redoing, asking, Asking, writing}
use Rattle.desk.specs.Desk.{no_seat, seat_of, in_use, edits_of, with_seat, with_records, edited, rows_at, effect, answer_of, step}
use Rattle.asked.specs.Asked.{map_at}
use Rattle.asked.specs.Asked.{written_of, buffer_of, wired_of}
use Rattle.history.specs.AsPast.{Untouched}
use Rattle.copper.specs.declared.Favour.{Favour}

-- The same seat with the same edits has the same of them standing and taken back.
untouched_by : (d e : Desk) (t : ℕ) → seat_of e t ≡ seat_of d t → edits_of e t ≡ edits_of d t → Untouched d e t
untouched_by d e t p q = record { seat = p; edits = q; standing = rw (p, q); taken_back = rw (p, q) }

module _ (d : Desk) (s t : ℕ) (apart : t ≡ s → ⊥) where
  -- Another seat changed leaves it so,
  other_seat : (r : Seat) → Untouched d (with_seat d s r) t
  other_seat r = untouched_by d (with_seat d s r) t (get_or-set_other d.seats s t r no_seat apart) refl

  -- also where that one's own records change.
  other_records : (r : Seat) (m : List Record) → own t m ≡ own t (in_use d) → Untouched d (with_records d s r m) t
  other_records r m e =
      untouched_by d (with_records d s r m) t (get_or-set_other d.seats s t r no_seat apart) (ap (own t) (take-filled m) ∙ e)

-- What a call makes of the desk leaves the seats that it does not name,
other_effect : (d : Desk) (c : Call) (t : ℕ) → (t ≡ seat_in c → ⊥) → Untouched d (effect d c) t
unfolding effect edited
other_effect d (opening s job form map) t n = other_seat d s t n _
other_effect d (closing s) t n = other_records d s t n _ _ (own_other s t n 0 (in_use d))
other_effect d (making s m) t n = other_records d s t n _ _ (other_added s (seat_of d s).standing _ (in_use d) t n)
other_effect d (undoing s) t n = other_seat d s t n _
other_effect d (redoing s) t n = other_seat d s t n _
other_effect d (asking s a) t n = untouched_by d d t refl refl

-- and a refused one leaves all.
other_by : (d e : Desk) (t : ℕ) (b : Bool) → Untouched d e t → Untouched d (choose b e d) t
unfolding choose
other_by d e t true u = u
other_by d e t false u = untouched_by d d t refl refl

-- A call that names one seat leaves every other seat as it is: it opens or closes none, and changes no job, no pins, no standing and no taken-back edits there.
pub other_seats_untouched : (d : Desk) (c : Call) (t : ℕ) → (t ≡ seat_in c → ⊥) → Untouched d (step d c).desk t
unfolding step
other_seats_untouched d c t n = other_by d (effect d c) t (accepted (answer_of d c)) (other_effect d c t n)

-- An accepted call makes of the desk what its effect says.
pub accepted_takes_effect : (d : Desk) (c : Call) → accepted (step d c).verdict ≡ true → (step d c).desk ≡ effect d c
unfolding step
accepted_takes_effect d c e = choose_yes _ _ e

-- A refused call returns the very desk that it was given.
pub refused_leaves_the_desk : (d : Desk) (c : Call) → accepted (step d c).verdict ≡ false → (step d c).desk ≡ d
unfolding step
refused_leaves_the_desk d c e = choose_no _ _ e

-- Writing and wiring leave the desk as it is, accepted or not.
pub asking_leaves_the_desk : (d : Desk) (s : ℕ) (a : Asking) → (step d (asking s a)).desk ≡ d
unfolding step effect
asking_leaves_the_desk d s a = choose-same (accepted (answer_of d (asking s a))) d

-- ---- what is asked of a desk

-- An answer is a value where its verdict is accepted.
pub value_accepted : {A : Type 0} (a : Result A Refusal) → accepted (verdict_of a) ≡ is_ok a
unfolding accepted
value_accepted (Ok a) = refl
value_accepted (Err r) = refl

-- The answer of wiring hands back the desk that it was given,
pub wired_leaves_the_desk : (d : Desk) (s net room : ℕ) (favour : Favour) → (wired_of d s net room favour).desk ≡ d
unfolding wired_of
wired_leaves_the_desk d s net room favour = refl

-- and so does that of writing.
pub written_leaves_the_desk : (d : Desk) (s : ℕ) (buffer : List ℕ) → (written_of d s buffer).desk ≡ d
unfolding written_of
written_leaves_the_desk d s buffer = refl

-- The verdict in the answer of writing is what the call is answered.
pub written_verdict : (d : Desk) (s : ℕ) (buffer : List ℕ) → verdict_of (written_of d s buffer).answer ≡ answer_of d (asking s (writing (length buffer)))
unfolding written_of answer_of
written_verdict d s buffer = verdict_is _ _

-- A refused writing leaves the lent buffer as it was, and writes no bytes;
pub refused_leaves_the_buffer : (d : Desk) (s : ℕ) (buffer : List ℕ) → is_ok (written_of d s buffer).answer ≡ false
    → (buffer_of d s buffer ≡ buffer) × (bytes_of (written_of d s buffer).answer ≡ 0)
unfolding written_of buffer_of
refused_leaves_the_buffer d s buffer e =
    let r = refused_stays (rows_at d (asking s (writing (length buffer)))) (map_at d s) buffer e in (r.1, r.0)

-- and it answers the refusal.
pub refused_writing_says_why : (d : Desk) (s : ℕ) (buffer : List ℕ) (r : Refusal) → answer_of d (asking s (writing (length buffer))) ≡ Err r
    → (written_of d s buffer).answer ≡ Err r
unfolding written_of answer_of
refused_writing_says_why d s buffer r e = rw e refl

-- Where one seat alone changes, or nothing does, the journal stays as it is.
seat_alone_lem : (d : Desk) (s : ℕ) (r : Seat) (b : Bool) → (choose b (with_seat d s r) d).journal ≡ d.journal
unfolding choose
seat_alone_lem d s r true = refl
seat_alone_lem d s r false = refl

-- Undo needs no further record: the journal stays as it is, its records and its used count,
pub undo_keeps_the_journal : (d : Desk) (s : ℕ) → (step d (undoing s)).desk.journal ≡ d.journal
unfolding step effect
undo_keeps_the_journal d s = seat_alone_lem d s _ (accepted (answer_of d (undoing s)))

-- and redo needs none.
pub redo_keeps_the_journal : (d : Desk) (s : ℕ) → (step d (redoing s)).desk.journal ≡ d.journal
unfolding step effect
redo_keeps_the_journal d s = seat_alone_lem d s _ (accepted (answer_of d (redoing s)))
