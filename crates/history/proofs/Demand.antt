-- DEMAND 3: after any calls from the empty desk the desk is sound and is as the history of the calls says, seat by seat; and every call is
-- answered as the history answers it. From Sane, Simulation and Steps; assumes nothing.
use mathlib.Core.Path.{◌≡◌, refl}
use mathlib.Core.List.{List, [], ◌∷◌}
use native.Mathlib.Omega.{arith}
use lib.ListN.{length-replicate, get_or-replicate}
use Rattle.basics.specs.Tests.{each_of}
use Rattle.journal.specs.Journal.{most_seats, most_records, blank, own}
use Rattle.basics.specs.Sums.{sum}
use Rattle.desk.specs.declared.Desk.{Desk}
use Rattle.rows.specs.Calls.{Call}
use Rattle.desk.specs.Desk.{closed_seat, no_seat, seat_of, edits_of, step, empty_desk}
use Rattle.history.specs.History.{Past, closed, past_of, past_after, nothing, history, after, answers, answers_in}
use Rattle.history.specs.AsPast.{DeskAsPast}
use Rattle.history.proofs.Sane.{Sane, sane_after, sane_nothing, sane_history}
use Rattle.history.proofs.Simulation.{At, Agrees, used_same, shown_open, shown_job, shown_pins, shown_standing, shown_taken_back}
use Rattle.history.proofs.Steps.{agrees_sound, step_answer, step_agrees}

-- The empty desk agrees with the history of no calls.
agrees_empty : Agrees empty_desk nothing
unfolding empty_desk own each_of sum At
agrees_empty =
    record {
      whole = length-replicate most_records blank;
      room = omega arith;
      holds =
          record {
            eight = length-replicate most_seats closed_seat;
            named = refl;
            pasts = length-replicate most_seats closed;
            sized = refl;
            at = λ s k. rw (get_or-replicate most_seats s closed_seat no_seat k, get_or-replicate most_seats s closed closed k) (refl, (refl, refl));
          };
    }

-- A desk that agrees with a sane history agrees with it after any calls,
pub agrees_after : (calls : List Call) (d : Desk) (h : List Past) → Agrees d h → Sane h → Agrees (after d calls) (history h calls)
unfolding after history
agrees_after [] d h g f = g
agrees_after (c ∷ calls) d h g f = agrees_after calls (step d c).desk (past_after h c) (step_agrees d h g f c) (sane_after h f c)

-- and answers them all as the history does.
pub answers-after : (calls : List Call) (d : Desk) (h : List Past) → Agrees d h → Sane h → answers d calls ≡ answers_in h calls
unfolding answers answers_in
answers-after [] d h g f = refl
answers-after (c ∷ calls) d h g f =
    rw (step_answer d h g f c, answers-after calls (step d c).desk (past_after h c) (step_agrees d h g f c) (sane_after h f c))

-- A desk that agrees with a sane history is as that history says.
pub seats_as_past : (d : Desk) (h : List Past) → Agrees d h → Sane h → DeskAsPast d h
seats_as_past d h g f =
    record {
      unbroken = agrees_sound d h g f;
      used = used_same d h g;
      seat = λ s k.
          let a : At (seat_of d s) (edits_of d s) (past_of h s) = g.holds.at s k in
          record {
            opened = shown_open _ _ _ a;
            job = shown_job _ _ _ a;
            pins = shown_pins _ _ _ a;
            standing = shown_standing _ _ _ a;
            taken_back = shown_taken_back _ _ _ a;
          };
    }

-- After any calls from the empty desk, the desk is sound and as the history of the calls says.
pub desk_as_past : (calls : List Call) → DeskAsPast (after empty_desk calls) (history nothing calls)
desk_as_past calls =
    seats_as_past (after empty_desk calls) (history nothing calls) (agrees_after calls empty_desk nothing agrees_empty sane_nothing)
    (sane_history calls nothing sane_nothing)

-- Every one of any calls from the empty desk is answered as the history answers it.
pub answers_as_past : (calls : List Call) → answers empty_desk calls ≡ answers_in nothing calls
answers_as_past calls = answers-after calls empty_desk nothing agrees_empty sane_nothing
