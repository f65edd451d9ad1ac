-- AN ACCEPTED EDIT STANDS UNTIL TAKEN BACK OR ITS DRAWING CLOSES: where no undo and no closing of a seat is accepted among any calls, the standing edits before
-- them are the first of those after. From the history of a sound desk; assumes nothing.
use mathlib.Core.Path.{◌≡◌, refl, sym, ap, ◌∙◌}
use mathlib.Core.Bool.{Bool, true, false, true≢false}
use mathlib.Core.List.{List, [], ◌∷◌, ◌++◌, append-nil, append_assoc}
use mathlib.Core.Logic.{⊎_elim}
use Prim.Native.Nat.{ℕ, ◌<◌, ◌≤◌}
use native.Mathlib.Omega.{arith}
use lib.Dec.{eqb}
use lib.ListN.{length, set, get_or-eq_default}
use lib.Seq.{get_or-set_same, get_or-set_other}
use borrow.Author.Tests.{eqb-true, eqb-false}
use Rattle.basics.specs.Tests.{both, choose}
use Rattle.refusal.specs.Refusals.{accepted}
use Rattle.board.proofs.Flat.{order}
use Rattle.edits.specs.declared.Edit.{Edit}
use Rattle.journal.specs.Journal.{most_seats}
use Rattle.desk.specs.declared.Desk.{Desk}
use Rattle.rows.specs.Calls.{Call, seat_in, opening, closing, making, undoing, redoing, asking}
use Rattle.rows.proofs.Rows.{seat_low}
use Rattle.rows.proofs.Passed.{Passes, passes}
use Rattle.desk.specs.Desk.{no_seat, seat_of, standing_of, sound, step, empty_desk}
use Rattle.desk.proofs.Sound.{eight_seats}
use Rattle.history.specs.History.{Past, closed, opened, is_open, standing_in, past_of, look_in, anew, redone, next, answer_in, past_after, history, after}
use Rattle.history.specs.AsPast.{history_of}
use Rattle.history.specs.Until.{NoneAt, is_closing, is_undo, StillStand}
use Rattle.history.proofs.Sane.{Sane, sane_after}
use Rattle.history.proofs.Simulation.{Agrees}
use Rattle.history.proofs.Steps.{step_answer, step_agrees}
use Rattle.history.proofs.Demand.{desk_as_past}
use Rattle.history.proofs.Sounding.{sound_agrees, sound_sane, sound_desk_as_past}

-- ---- edits that still stand
-- Those that stand still stand,
stand_same : {a b : List Edit} → b ≡ a → StillStand a b
stand_same e = record { newer = []; are = e }

-- one more may stand,
stand_more : (e : Edit) (a : List Edit) → StillStand a (e ∷ a)
stand_more e a = record { newer = e ∷ []; are = refl }

-- where none stood there is nothing to keep,
stand_none : {a : List Edit} (b : List Edit) → a ≡ [] → StillStand a b
stand_none b e = record { newer = b; are = rw (e, append-nil b) }

-- and what still stands at one time and then at another still stands.
stand_on : {a b c : List Edit} → StillStand a b → StillStand b c → StillStand a c
stand_on {a} p q = record { newer = q.newer ++ p.newer; are = q.are ∙ ap (λ (l : List Edit). q.newer ++ l) p.are ∙ sym (append_assoc q.newer p.newer a) }

-- ---- one call
-- A closed seat has no standing edits.
none_closed : (t : Past) → is_open t ≡ false → standing_in t ≡ []
none_closed closed e = refl
none_closed (opened job first standing taken_back) e = absurd (true≢false e)

-- A new edit leaves those that stand,
anew_stands : (e : Edit) (t : Past) → StillStand (standing_in t) (standing_in (anew e t))
unfolding anew
anew_stands e closed = stand_same refl
anew_stands e (opened job first standing taken_back) = stand_more e standing

-- and so does redo.
redone_stands : (t : Past) → StillStand (standing_in t) (standing_in (redone t))
unfolding redone
redone_stands closed = stand_same refl
redone_stands (opened job first standing []) = stand_same refl
redone_stands (opened job first standing (e ∷ taken_back)) = stand_more e standing

-- What an accepted call that is no undo and no closing makes of its own seat: the edits that stood there still stand.
next_stands : (h : List Past) (c : Call) → accepted (answer_in h c) ≡ true → is_undo c ≡ false → is_closing c ≡ false
    → StillStand (standing_in (past_of h (seat_in c))) (standing_in (next c (past_of h (seat_in c))))
unfolding next answer_in Passes
next_stands h (opening s job form map) z u k = stand_none [] (none_closed (past_of h s) (passes (look_in h s) (opening s job form map) z).shown)
next_stands h (closing s) z u k = absurd (true≢false k)
next_stands h (making s m) z u k = anew_stands _ (past_of h s)
next_stands h (undoing s) z u k = absurd (true≢false u)
next_stands h (redoing s) z u k = redone_stands (past_of h s)
next_stands h (asking s a) z u k = stand_same refl

module _ (h : List Past) (g : Sane h) (s : ℕ) (c : Call) where
  -- At the seat that the call names,
  here_stands : accepted (answer_in h c) ≡ true → (b : Bool) → eqb s (seat_in c) ≡ b → both b (is_undo c) ≡ false → both b (is_closing c) ≡ false
      → StillStand (standing_in (past_of h s)) (standing_in (past_of (set h (seat_in c) (next c (past_of h (seat_in c)))) s))
  unfolding both answer_in
  here_stands z true e u k =
      let w : seat_in c < length h = omega (arith, g.eight, (seat_low (look_in h (seat_in c)) c z).1) in
      rw (eqb-true s (seat_in c) e, get_or-set_same h (seat_in c) (next c (past_of h (seat_in c))) closed w) (next_stands h c z u k)
  here_stands z false e u k = stand_same (ap standing_in (get_or-set_other h (seat_in c) s (next c (past_of h (seat_in c))) closed (eqb-false s (seat_in c) e)))

  -- accepted or not,
  stands_by : (b : Bool) → accepted (answer_in h c) ≡ b → both (eqb s (seat_in c)) (both b (is_undo c)) ≡ false
      → both (eqb s (seat_in c)) (both b (is_closing c)) ≡ false
      → StillStand (standing_in (past_of h s)) (standing_in (past_of (choose b (set h (seat_in c) (next c (past_of h (seat_in c)))) h) s))
  unfolding choose both
  stands_by true z u k = here_stands z (eqb s (seat_in c)) refl u k
  stands_by false z u k = stand_same refl

  -- one call leaves the edits that stand.
  call_stands : both (eqb s (seat_in c)) (both (accepted (answer_in h c)) (is_undo c)) ≡ false
      → both (eqb s (seat_in c)) (both (accepted (answer_in h c)) (is_closing c)) ≡ false
      → StillStand (standing_in (past_of h s)) (standing_in (past_of (past_after h c) s))
  unfolding past_after
  call_stands = stands_by (accepted (answer_in h c)) refl

-- ---- any calls
-- So do all of them.
calls_stand : (calls : List Call) (d : Desk) (h : List Past) → Agrees d h → Sane h → (s : ℕ) → NoneAt is_undo d s calls → NoneAt is_closing d s calls
    → StillStand (standing_in (past_of h s)) (standing_in (past_of (history h calls) s))
unfolding NoneAt history
calls_stand [] d h g f s u k = stand_same refl
calls_stand (c ∷ calls) d h g f s u k =
    let e = step_answer d h g f c in
    stand_on (call_stands h f s c (rw e at u.0) (rw e at k.0))
    (calls_stand calls (step d c).desk (past_after h c) (step_agrees d h g f c) (sane_after h f c) s u.1 k.1)

-- Above 7 nothing stands.
none_above : (d : Desk) (s : ℕ) → sound d ≡ true → most_seats ≤ s → standing_of d s ≡ []
none_above d s h k =
    let w : length d.seats ≤ s = omega (arith, eight_seats d h) in
    let e : seat_of d s ≡ no_seat = get_or-eq_default d.seats no_seat w in
    rw e

module _ (d : Desk) (h : sound d ≡ true) (calls : List Call) (s : ℕ) (u : NoneAt is_undo d s calls) (k : NoneAt is_closing d s calls) where
  -- The standing edits of one of the eight seats, before and after, are those of its past.
  seat_stands : s < most_seats → StillStand (standing_of d s) (standing_of (after d calls) s)
  unfolding after history
  seat_stands l =
      let p : standing_of d s ≡ standing_in (past_of (history_of d) s) = ((sound_desk_as_past d h []).seat s l).standing in
      let q : standing_of (after d calls) s ≡ standing_in (past_of (history (history_of d) calls) s) = ((sound_desk_as_past d h calls).seat s l).standing in
      rw (p, q) (calls_stand calls d (history_of d) (sound_agrees d h) (sound_sane d h) s u k)

  -- On any sound desk: with no accepted undo and no accepted closing of a seat among the calls, the edits that stood there still stand.
  pub edits_still_stand : StillStand (standing_of d s) (standing_of (after d calls) s)
  edits_still_stand =
      ⊎_elim (λ (a : most_seats ≤ s). stand_none (standing_of (after d calls) s) (none_above d s h a))
      (λ (l : s < most_seats). seat_stands l) (order most_seats s)

-- Some calls, then more.
after_more : (before more : List Call) (d : Desk) → after d (before ++ more) ≡ after (after d before) more
unfolding after
after_more [] more d = refl
after_more (c ∷ before) more d = after_more before more (step d c).desk

-- AN ACCEPTED EDIT STANDS UNTIL TAKEN BACK OR ITS DRAWING CLOSES: after any calls from the empty desk and any more, with no accepted undo and no accepted
-- closing of a seat among these, the edits that stood there still stand.
pub edits_still_stand_after_calls : (before more : List Call) (s : ℕ) → NoneAt is_undo (after empty_desk before) s more
    → NoneAt is_closing (after empty_desk before) s more
    → StillStand (standing_of (after empty_desk before) s) (standing_of (after empty_desk (before ++ more)) s)
edits_still_stand_after_calls before more s u k =
    rw (after_more before more empty_desk) (edits_still_stand (after empty_desk before) (desk_as_past before).unbroken more s u k)
