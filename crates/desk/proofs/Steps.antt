-- What the code of each call leaves and answers is the step of that call, once its answer is known. Assumes nothing.
use mathlib.Core.Path.{◌≡◌, ap}
use mathlib.Core.Bool.{true}
use Prim.Native.Nat.{ℕ, ◌<◌}
use lib.ListN.{length, set}
use Rattle.std.specs.Prelude.{Ok, Err}
use Rattle.std.specs.Result.{IsErrAnd}
use Rattle.basics.specs.Tests.{choose}
use Rattle.refusal.specs.Refusals.{Verdict, accepted}
use Rattle.refusal.specs.declared.Refusal.{Refusal}
use Rattle.edits.specs.declared.Edit.{Edit}
use Rattle.journal.specs.declared.Journal.{Journal}
use Rattle.journal.specs.Journal.{most_records, recorded, kept, compacted, appended}
use Rattle.journal.proofs.Filled.{appended-compacted}
use Rattle.seats.specs.declared.Seat.{Seat}
use Rattle.seats.specs.Seats.{edited_seat}
use Rattle.pinrows.proofs.Apart.{handed_on}
use Rattle.rows.specs.Calls.{Call}
use Rattle.desk.specs.declared.Desk.{Desk}
use Rattle.desk.specs.Desk.{seat_of, in_use, handed_back, edited, effect, answer_of, step}

-- A step whose answer is known.
module _ (d : Desk) (c : Call) {v : Verdict} (e : answer_of d c ≡ v) where
  -- Refused, it leaves the desk as it was, and the refusal is handed on;
  pub step-refused : {r : Refusal} {w : Verdict} → v ≡ Err r → IsErrAnd w (λ (x : Refusal). x ≡ r) → handed_back d w ≡ step d c
  unfolding step choose accepted
  step-refused f h = rw (e, f, handed_on _ h)

  -- accepted, it is what the call makes of it.
  pub step-accepted : {a : Unit {0}} {t : Desk} → v ≡ Ok a → t ≡ effect d c → handed_back t (Ok tt) ≡ step d c
  unfolding step choose accepted
  step-accepted f g = rw (e, f, g)

-- An answer that is a value was accepted.
pub went : {v : Verdict} {a : Unit {0}} → v ≡ Ok a → accepted v ≡ true
unfolding accepted
went f = ap accepted f

-- An edit at a seat, once the seat's taken-back records are freed: recorded after all others, and made on the pins.
pub edited_done : (d : Desk) (s : ℕ) (e : Edit) {q t : Seat} {x j : Journal} → q ≡ seat_of d s
    → length (kept s q.standing (in_use d)) < most_records → x ≡ compacted (kept s q.standing (in_use d))
    → j ≡ appended x (recorded s e) → t ≡ edited_seat (seat_of d s) e
    → ◌≡◌ {A = Desk} (record { seats = set d.seats s t; journal = j }) (edited d s e)
unfolding edited
edited_done d s e {q} i h f a b =
    let m : length (kept s (seat_of d s).standing (in_use d)) < most_records = rw i at h in
    rw (a, b, f, i, appended-compacted (kept s (seat_of d s).standing (in_use d)) (recorded s e) m)
