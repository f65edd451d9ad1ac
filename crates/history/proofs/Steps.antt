-- A desk that agrees with a sane history is sound, answers each call as the history does, and agrees with it after the call.
-- From Sane and Simulation; assumes nothing.
use mathlib.Core.Path.{◌≡◌, refl, ap, sym, ◌∙◌}
use mathlib.Core.Bool.{Bool, true, false, not, true≢false, false≢true}
use mathlib.Core.List.{List, [], ◌∷◌, ◌++◌, map, reverse_aux-eq}
use mathlib.Core.Logic.{⊎_elim}
use Prim.Native.Nat.{ℕ, zero, suc, ◌+◌, ◌-◌, ◌<◌, ◌≤◌}
use native.Mathlib.Omega.{arith}
use borrow.Author.Tests.{eq-eqb, ne_eqb, le-leb}
use lib.ListN.{length, get_or, set, take, get_or-eq_default}
use lib.Seq.{set-get_or}
use Rattle.basics.specs.Tests.{choose}
use Rattle.refusal.specs.Refusals.{accepted}
use Rattle.refusal.specs.Rows.{first_of}
use Rattle.basics.proofs.Tests.{both_of}
use Rattle.board.proofs.Flat.{order}
use Rattle.drawing.specs.Pins.{Pin}
use Rattle.edits.specs.declared.Edit.{Edit}
use Rattle.edits.specs.Edits.{made, unmade}
use Rattle.edits.specs.Stated.{edit_of}
use Rattle.edits.proofs.Making.{unmade-made}
use Rattle.readmap.specs.Map.{read_map, pins_of}
use Rattle.journal.specs.Journal.{most_seats, most_records, no_edit, kept, added}
use Rattle.journal.proofs.Own.{own-kept, own_other, own-added, other_added, added-length, kept-length}
use Rattle.journal.proofs.Seated.{seated-kept, seated-added}
use Rattle.seats.specs.declared.Seat.{Seat}
use Rattle.desk.specs.declared.Desk.{Desk}
use Rattle.rows.specs.Calls.{Call, seat_in, opening, closing, making, undoing, redoing, asking}
use Rattle.rows.specs.Refusals.{Look, rows_of}
use Rattle.rows.proofs.Passed.{Passes, passes}
use Rattle.desk.specs.Desk.{closed_seat, no_seat, seat_of, in_use, edits_of, open_seat, with_pins, sound_open, sound_closed, sound_seat, sound_to, sound, look_at, edited, effect, answer_of, step}
use Rattle.history.specs.History.{Past, closed, opened, pins_by, is_open, pins_in, standing_in, taken_back_in, edits_in, past_of, used_in, look_in, anew, undone, redone, next, answer_in, past_after}
use Rattle.history.proofs.Stood.{stood, stood_lawful, stood_takeable}
use Rattle.history.proofs.Sane.{sane, Sane}
use Rattle.history.proofs.Simulation.{At, Agrees, zip_take, zip_at, shown_open, shown_job, shown_pins, shown_count, shown_standing, shown_taken_back, shown_length, agrees_seat, agrees_records, used_in_use, jobs_same, used_same}

-- ---- one seat after each call

-- A closed seat that is opened holds the past of an opening,
at_opened : (q : Seat) (l : List Edit) (t : Past) (job : ℕ) (p : List Pin) → At q l t → is_open t ≡ false → At (open_seat job p) l (opened job p [] [])
unfolding At pins_by
at_opened q l closed job p a o = record { shown = refl; job = refl; pins = refl; count = refl; edits = a.1.1 }
at_opened q l (opened i first standing taken_back) job p a o = absurd (true≢false o)

-- which has as many edits as before: none.
edits_opened : (t : Past) → is_open t ≡ false → 0 ≡ edits_in t
edits_opened closed o = refl
edits_opened (opened i first standing taken_back) o = cc

-- A new edit stands: the seat holds its past with that edit,
at_anew : (e : Edit) (q : Seat) (l : List Edit) (t : Past) → At q l t → is_open t ≡ true
    → At (with_pins q (made q.pins e) (q.standing + 1)) (take q.standing l ++ (e ∷ [])) (anew e t)
unfolding At anew pins_by
at_anew e q l closed a o = absurd (false≢true o)
at_anew e q l (opened job first standing taken_back) a o =
    record {
      shown = a.shown;
      job = a.job;
      pins = rw a.pins;
      count = omega (arith, a.count);
      edits = rw (zip_take l standing taken_back q.standing a.edits a.count) (sym (reverse_aux-eq standing (e ∷ [])));
    }

-- which has one edit more, and none of those taken back.
edits_anew : (e : Edit) (t : Past) → is_open t ≡ true → edits_in (anew e t) + length (taken_back_in t) ≡ edits_in t + 1
unfolding anew
edits_anew e closed o = cc
edits_anew e (opened job first standing taken_back) o = omega arith

-- Undo takes back the latest standing edit: the seat holds its past undone,
at_undone : (q : Seat) (l : List Edit) (t : Past) → At q l t → sane t → (length (standing_in t) ≡ 0 → ⊥)
    → At (with_pins q (unmade q.pins (get_or l (q.standing - 1) no_edit)) (q.standing - 1)) l (undone t)
unfolding At sane undone stood pins_by
at_undone q l closed a g n = absurd (n refl)
at_undone q l (opened job first [] taken_back) a g n = absurd (n refl)
at_undone q l (opened job first (e ∷ standing) taken_back) a g n =
    let k : q.standing - 1 ≡ length standing = omega (arith, a.count) in
    record {
      shown = a.shown;
      job = a.job;
      pins = rw (zip_at l standing taken_back e (q.standing - 1) a.edits k, a.pins) (unmade-made (pins_by first standing) e g.stands.0);
      count = k;
      edits = a.edits;
    }

-- which has as many edits as before.
edits_undone : (t : Past) → edits_in (undone t) ≡ edits_in t
unfolding undone
edits_undone closed = refl
edits_undone (opened job first [] taken_back) = refl
edits_undone (opened job first (e ∷ standing) taken_back) = omega arith

-- Redo makes the most recently taken-back edit again: the seat holds its past redone,
at_redone : (q : Seat) (l : List Edit) (t : Past) → At q l t → (length (taken_back_in t) ≡ 0 → ⊥)
    → At (with_pins q (made q.pins (get_or l q.standing no_edit)) (q.standing + 1)) l (redone t)
unfolding At redone pins_by
at_redone q l closed a n = absurd (n refl)
at_redone q l (opened job first standing []) a n = absurd (n refl)
at_redone q l (opened job first standing (e ∷ taken_back)) a n =
    record {
      shown = a.shown;
      job = a.job;
      pins = rw (zip_at l standing taken_back e q.standing a.edits a.count, a.pins);
      count = omega (arith, a.count);
      edits = a.edits;
    }

-- which has as many edits as before.
edits_redone : (t : Past) → edits_in (redone t) ≡ edits_in t
unfolding redone
edits_redone closed = refl
edits_redone (opened job first standing []) = refl
edits_redone (opened job first standing (e ∷ taken_back)) = omega arith

-- A closed seat without records holds a closed past.
at_closed : (l : List Edit) → l ≡ [] → At closed_seat l closed
unfolding At
at_closed l e = (refl, (refl, e))

-- ---- such a desk is sound

module _ (d : Desk) (h : List Past) (g : Agrees d h) (f : Sane h) where
  -- A seat that holds a sane past is sound,
  seat_by : (s : ℕ) (t : Past) → At (seat_of d s) (edits_of d s) t → sane t → sound_seat (seat_of d s) (edits_of d s) ≡ true
  unfolding sound_seat sound_open sound_closed sane choose
  seat_by s closed a e =
      rw (shown_open _ _ _ a) (both_of (eq-eqb _ _ (shown_length _ _ _ a)) (eq-eqb _ _ (shown_count _ _ _ a)))
  seat_by s (opened job first standing taken_back) a e =
      let n : (seat_of d s).standing ≤ length (edits_of d s) =
      omega (arith, shown_length _ _ _ a, shown_count _ _ _ a) in
      rw (
        shown_open _ _ _ a,
        shown_job _ _ _ a refl,
        shown_standing _ _ _ a,
        shown_taken_back _ _ _ a,
        shown_pins _ _ _ a refl,
      )
      (both_of (ap not (ne_eqb _ _ e.numbered))
      (both_of (le-leb _ _ n)
      (both_of (stood_lawful first standing e.start e.stands)
      (both_of (stood_takeable first standing e.start e.stands) e.redoes))))

  -- and so are all of them,
  seats_sound : (n : ℕ) → n ≤ most_seats → sound_to n d.seats (in_use d) ≡ true
  unfolding sound_to
  seats_sound zero k = refl
  seats_sound (suc n) k = both_of (seats_sound n (omega arith)) (seat_by n (past_of h n) (g.holds.at n k) (f.each n))

  -- so the desk is sound.
  pub agrees_sound : sound d ≡ true
  unfolding sound
  agrees_sound =
      both_of (eq-eqb _ _ g.holds.eight)
      (both_of (eq-eqb _ _ g.whole)
      (both_of (le-leb _ _ g.room)
      (both_of g.holds.named
      (both_of (rw (jobs_same d h g) f.jobs) (seats_sound most_seats (omega arith))))))

-- ---- it answers as the history does

-- At a closed seat nothing is looked at but the seat's number and the jobs.
closed_verdict : (k m : Look) (c : Call) → k.broken ≡ false → m.broken ≡ false → k.seat ≡ m.seat → k.opened ≡ false → m.opened ≡ false
    → k.jobs ≡ m.jobs → first_of (rows_of k c) ≡ first_of (rows_of m c)
unfolding first_of choose
closed_verdict k m (opening s job form map) a b e o p j = rw (a, b, e, o, p, j)
closed_verdict k m (closing s) a b e o p j = rw (a, b, e, o, p)
closed_verdict k m (making s q) a b e o p j = rw (a, b, e, o, p)
closed_verdict k m (undoing s) a b e o p j = rw (a, b, e, o, p)
closed_verdict k m (redoing s) a b e o p j = rw (a, b, e, o, p)
closed_verdict k m (asking s q) a b e o p j = rw (a, b, e, o, p)

module _ (d : Desk) (h : List Past) (g : Agrees d h) (f : Sane h) where
  -- Row 28 is passed.
  unbroken : not (sound d) ≡ false
  unbroken = ap not (agrees_sound d h g f)

  -- What a call looks at at an open seat.
  pub look_same : (s : ℕ) → s < most_seats → is_open (past_of h s) ≡ true → look_at d s ≡ look_in h s
  look_same s k o =
      let a : At (seat_of d s) (edits_of d s) (past_of h s) = g.holds.at s k in
      let p = shown_open _ _ _ a in
      let q = shown_job _ _ _ a o in
      let r = shown_pins _ _ _ a o in
      let c = shown_count _ _ _ a in
      let b : length (edits_of d s) - (seat_of d s).standing ≡ length (taken_back_in (past_of h s)) =
      omega (arith, shown_length _ _ _ a, c) in
      let j = jobs_same d h g in
      let u = used_same d h g in
      let z = unbroken in
      λ i. record {
        broken = z i;
        seat = s;
        opened = p i;
        job = q i;
        pins = r i;
        standing = c i;
        taken_back = b i;
        jobs = j i;
        used = u i;
      }

  -- So the answers are the same at one of the eight seats, open or closed,
  answer_open : (c : Call) → seat_in c < most_seats → (b : Bool) → is_open (past_of h (seat_in c)) ≡ b → answer_of d c ≡ answer_in h c
  unfolding answer_of answer_in
  answer_open c k true o = ap (λ (l : Look). first_of (rows_of l c)) (look_same (seat_in c) k o)
  answer_open c k false o =
      closed_verdict (look_at d (seat_in c)) (look_in h (seat_in c)) c unbroken refl refl
      (shown_open _ _ _ (g.holds.at (seat_in c) k) ∙ o) o (jobs_same d h g)

  -- and above 7, where no seat is open.
  answer_above : (c : Call) → most_seats ≤ seat_in c → answer_of d c ≡ answer_in h c
  unfolding answer_of answer_in
  answer_above c k =
      let n : length d.seats ≤ seat_in c = omega (arith, g.holds.eight) in
      let m : length h ≤ seat_in c = omega (arith, g.holds.pasts) in
      closed_verdict (look_at d (seat_in c)) (look_in h (seat_in c)) c unbroken refl refl
      (ap (λ (q : Seat). q.opened) (get_or-eq_default d.seats no_seat n)) (ap is_open (get_or-eq_default h closed m)) (jobs_same d h g)

  -- Every call is answered alike.
  pub answer_same : (c : Call) → answer_of d c ≡ answer_in h c
  answer_same c =
      ⊎_elim (λ k. answer_above c k) (λ k. answer_open c k (is_open (past_of h (seat_in c))) refl) (order most_seats (seat_in c))

-- ---- it agrees after the call

module _ (d : Desk) (h : List Past) (g : Agrees d h) (f : Sane h) where
  module _ (s : ℕ) (k : s < most_seats) where
    -- Each seat holds its past.
    at_seat : At (seat_of d s) (edits_of d s) (past_of h s)
    at_seat = g.holds.at s k

    -- A new edit takes one record, after those taken back were freed.
    edited-length : (e : Edit) → is_open (past_of h s) ≡ true
        → length (added s (seat_of d s).standing e (in_use d)) + length (taken_back_in (past_of h s)) ≡ length (in_use d) + 1
    edited-length e o =
        let n = shown_length _ _ _ at_seat in
        let c = shown_count _ _ _ at_seat in
        omega (arith, added-length s (seat_of d s).standing e (in_use d), kept-length s (seat_of d s).standing (in_use d), n, c)

    -- So after a new edit the desk agrees,
    agrees_edited : (e : Edit) → is_open (past_of h s) ≡ true → (used_in h - length (taken_back_in (past_of h s)) ≡ most_records → ⊥)
        → Agrees (edited d s e) (set h s (anew e (past_of h s)))
    unfolding edited
    agrees_edited e o n =
        let r : used_in h - length (taken_back_in (past_of h s)) < most_records = omega (arith, n, used_same d h g, g.room) in
        agrees_records d h s _ _ g k (added s (seat_of d s).standing e (in_use d))
        (omega (arith, edited-length e o, r, g.holds.sized))
        (seated-added s (seat_of d s).standing e (in_use d) k g.holds.named)
        (other_added s (seat_of d s).standing e (in_use d))
        (omega (arith, edited-length e o, edits_anew e (past_of h s) o))
        (rw (own-added s (seat_of d s).standing e (in_use d)) (at_anew e (seat_of d s) (edits_of d s) (past_of h s) at_seat o))

    -- and after a closing, which frees all of the seat's records.
    agrees_closed : Agrees (effect d (closing s)) (set h s closed)
    unfolding effect
    agrees_closed =
        agrees_records d h s _ _ g k (kept s 0 (in_use d))
        (omega (arith, kept-length s 0 (in_use d), used_in_use d h g, g.room))
        (seated-kept s 0 (in_use d) g.holds.named)
        (λ u e. own_other s u e 0 (in_use d))
        (omega (arith, kept-length s 0 (in_use d), shown_length _ _ _ at_seat))
        (at_closed _ (own-kept s 0 (in_use d)))

    -- The pins that the call looked at are the seat's.
    pins_same : is_open (past_of h s) ≡ true → (seat_of d s).pins ≡ pins_in (past_of h s)
    pins_same o = shown_pins _ _ _ at_seat o

  -- After any accepted call the desk agrees,
  agrees_next : (c : Call) → accepted (answer_in h c) ≡ true → Agrees (effect d c) (set h (seat_in c) (next c (past_of h (seat_in c))))
  unfolding effect next answer_in Passes
  agrees_next (opening s job form map) z =
      let o = passes (look_in h s) (opening s job form map) z in
      agrees_seat d h s _ _ g o.low (edits_opened (past_of h s) o.shown)
      (at_opened _ _ (past_of h s) job (pins_of (read_map form map job)) (at_seat s o.low) o.shown)
  agrees_next (closing s) z = agrees_closed s (passes (look_in h s) (closing s) z).low
  agrees_next (making s m) z =
      let p = passes (look_in h s) (making s m) z in
      rw (pins_same s p.reaches.low p.reaches.shown)
      (agrees_edited s p.reaches.low (edit_of (pins_in (past_of h s)) m) p.reaches.shown p.room)
  agrees_next (undoing s) z =
      let m = passes (look_in h s) (undoing s) z in
      agrees_seat d h s _ _ g m.0.low (edits_undone (past_of h s))
      (at_undone _ _ (past_of h s) (at_seat s m.0.low) (f.each s) m.1)
  agrees_next (redoing s) z =
      let m = passes (look_in h s) (redoing s) z in
      agrees_seat d h s _ _ g m.0.low (edits_redone (past_of h s)) (at_redone _ _ (past_of h s) (at_seat s m.0.low) m.1)
  agrees_next (asking s a) z = rw (set-get_or h s closed) g

  -- and after a refused one, which changes nothing.
  agrees_by : (c : Call) (b : Bool) → accepted (answer_in h c) ≡ b
      → Agrees (choose b (effect d c) d) (choose b (set h (seat_in c) (next c (past_of h (seat_in c)))) h)
  unfolding choose
  agrees_by c true z = agrees_next c z
  agrees_by c false z = g

  -- ONE CALL: the desk answers as the history,
  pub step_answer : (c : Call) → (step d c).verdict ≡ answer_in h c
  unfolding step
  step_answer c = answer_same d h g f c

  -- and agrees with it afterwards.
  pub step_agrees : (c : Call) → Agrees (step d c).desk (past_after h c)
  unfolding step past_after
  step_agrees c = rw (answer_same d h g f c) (agrees_by c (accepted (answer_in h c)) refl)
