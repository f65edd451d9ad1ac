-- Undo and redo answer each other: after an accepted undo redo is accepted and gives the very desk before, and the other way round.
-- From the parts of `sound` and the laws of edits; assumes nothing.
use mathlib.Core.Path.{◌≡◌, ap, ◌∙◌}
use mathlib.Core.Bool.{true, false, not}
use mathlib.Core.List.{List}
use Prim.Native.Nat.{ℕ, ◌+◌, ◌-◌, ◌<◌, ◌≤◌}
use native.Mathlib.Omega.{arith}
use borrow.Author.Tests.{not-false, ne_eqb, lt-leb}
use lib.ListN.{length, get_or, set}
use lib.Seq.{get_or-set_same, set-set, set-get_or}
use Rattle.basics.specs.Tests.{choose}
use Rattle.refusal.specs.Refusals.{accepted}
use Rattle.refusal.specs.Rows.{first_of}
use Rattle.std.specs.Prelude.{Ok}
use Rattle.drawing.specs.Pins.{Pin}
use Rattle.edits.specs.declared.Edit.{Edit}
use Rattle.edits.specs.Edits.{made, unmade, makeable, takeable}
use Rattle.edits.proofs.Making.{made-unmade, unmade-made}
use Rattle.journal.specs.Journal.{most_seats, no_edit}
use Rattle.journal.proofs.Turns.{turn_first}
use Rattle.seats.specs.declared.Seat.{Seat}
use Rattle.desk.specs.declared.Desk.{Desk}
use Rattle.rows.specs.Calls.{Call, undoing, redoing}
use Rattle.rows.specs.Refusals.{Look, rows_of}
use Rattle.rows.proofs.Passed.{Passes}
use Rattle.desk.specs.Desk.{no_seat, seat_of, edits_of, with_seat, with_pins, sound, look_at, effect, answer_of, step}
use Rattle.desk.proofs.Sound.{eight_seats, standing_within, standing_takeable, taken_back_replayable, latest_first, next_first}
use Rattle.history.proofs.Untouched.{accepted_takes_effect}
use Rattle.history.proofs.Opened.{call_passes}
use Rattle.history.proofs.Sounding.{sound-step}

-- Undo is accepted where no row applies,
undo_accepted : (l : Look) (s : ℕ) → l.broken ≡ false → l.seat < most_seats → l.opened ≡ true → (l.standing ≡ 0 → ⊥) → first_of (rows_of l (undoing s)) ≡ Ok tt
unfolding first_of choose
undo_accepted l s a b c n = rw (a, lt-leb most_seats l.seat b, c, ne_eqb _ _ n)

-- and redo.
redo_accepted : (l : Look) (s : ℕ) → l.broken ≡ false → l.seat < most_seats → l.opened ≡ true → (l.taken_back ≡ 0 → ⊥)
    → first_of (rows_of l (redoing s)) ≡ Ok tt
unfolding first_of choose
redo_accepted l s a b c n = rw (a, lt-leb most_seats l.seat b, c, ne_eqb _ _ n)

-- A step that is accepted.
step_is : (d : Desk) (c : Call) → answer_of d c ≡ Ok tt → step d c ≡ record { desk = effect d c; verdict = Ok tt }
unfolding step accepted choose
step_is d c e = rw e

-- A seat changed and changed back is as it was,
seat_back : (q : Seat) (l : List Pin) (n : ℕ) → l ≡ q.pins → n ≡ q.standing → with_pins q l n ≡ q
seat_back q l n e f = λ i. record { opened = q.opened; job = q.job; pins = e i; standing = f i }

-- and so is the desk.
desk_back : (d : Desk) (s : ℕ) (r q : Seat) → q ≡ seat_of d s → with_seat (with_seat d s r) s q ≡ d
desk_back d s r q e =
    let p : set (set d.seats s r) s q ≡ d.seats = rw (set-set, e, set-get_or) in
    λ i. record { seats = p i; journal = d.journal }

module _ (d : Desk) (s : ℕ) (h : sound d ≡ true) (k : s < most_seats) (o : (seat_of d s).opened ≡ true) where
  -- The latest standing edit,
  abbrev latest : Edit
  latest = get_or (edits_of d s) ((seat_of d s).standing - 1) no_edit

  -- and the next to redo.
  abbrev next_one : Edit
  next_one = get_or (edits_of d s) (seat_of d s).standing no_edit

  -- The latest can be taken back,
  latest_takeable : ((seat_of d s).standing ≡ 0 → ⊥) → takeable (seat_of d s).pins latest ≡ true
  latest_takeable n = turn_first takeable unmade (seat_of d s).pins _ _ (rw (latest_first d h s k o n) at (standing_takeable d h s k o))

  -- and the next be made.
  next-makeable : (seat_of d s).standing < length (edits_of d s) → makeable (seat_of d s).pins next_one ≡ true
  next-makeable b = turn_first makeable made (seat_of d s).pins _ _ (rw (next_first d h s k o b) at (taken_back_replayable d h s k o))

  -- The seat is one of the desk's.
  low : s < length d.seats
  low = omega (arith, eight_seats d h)

  module _ (r : Seat) (g : sound (with_seat d s r) ≡ true) where
    -- The changed seat is there.
    here : seat_of (with_seat d s r) s ≡ r
    here = get_or-set_same d.seats s r no_seat low

    -- Redo at the changed seat gives the desk before, where making the next edit gives the seat before.
    redo_here : r.opened ≡ true → (length (edits_of d s) - r.standing ≡ 0 → ⊥)
        → with_pins r (made r.pins (get_or (edits_of d s) r.standing no_edit)) (r.standing + 1) ≡ seat_of d s
        → step (with_seat d s r) (redoing s) ≡ record { desk = d; verdict = Ok tt }
    unfolding answer_of effect
    redo_here p n e =
        step_is (with_seat d s r) (redoing s)
        (redo_accepted (look_at (with_seat d s r) s) s (ap not g) k (rw here p) (rw here n))
        ∙ ap (λ (x : Desk). record { desk = x; verdict = Ok tt }) (rw here (desk_back d s r _ e))

    -- So does undo, where taking the latest edit back does.
    undo_here : r.opened ≡ true → (r.standing ≡ 0 → ⊥)
        → with_pins r (unmade r.pins (get_or (edits_of d s) (r.standing - 1) no_edit)) (r.standing - 1) ≡ seat_of d s
        → step (with_seat d s r) (undoing s) ≡ record { desk = d; verdict = Ok tt }
    unfolding answer_of effect
    undo_here p n e =
        step_is (with_seat d s r) (undoing s)
        (undo_accepted (look_at (with_seat d s r) s) s (ap not g) k (rw here p) (rw here n))
        ∙ ap (λ (x : Desk). record { desk = x; verdict = Ok tt }) (rw here (desk_back d s r _ e))

  -- An undo, and the redo after it.
  redo_undone : ((seat_of d s).standing ≡ 0 → ⊥) → sound (effect d (undoing s)) ≡ true
      → step (effect d (undoing s)) (redoing s) ≡ record { desk = d; verdict = Ok tt }
  unfolding effect
  redo_undone n g =
      let w : (seat_of d s).standing ≤ length (edits_of d s) = standing_within d h s k o in
      redo_here (with_pins (seat_of d s) (unmade (seat_of d s).pins latest) ((seat_of d s).standing - 1)) g o (λ e. omega arith)
      (seat_back (seat_of d s) _ _ (made-unmade (seat_of d s).pins latest (latest_takeable n)) (omega arith))

  -- A redo, and the undo after it.
  undo_redone : (seat_of d s).standing < length (edits_of d s) → sound (effect d (redoing s)) ≡ true
      → step (effect d (redoing s)) (undoing s) ≡ record { desk = d; verdict = Ok tt }
  unfolding effect
  undo_redone b g =
      let w : (seat_of d s).standing + 1 - 1 ≡ (seat_of d s).standing = omega arith in
      undo_here (with_pins (seat_of d s) (made (seat_of d s).pins next_one) ((seat_of d s).standing + 1)) g o (λ e. omega arith)
      (seat_back (seat_of d s) _ _ (rw w (unmade-made (seat_of d s).pins next_one (next-makeable b))) w)

-- After an accepted undo, redo is accepted and gives the very desk before: the same drawing, the same journal.
pub redo_after_undo : (d : Desk) (s : ℕ) → accepted (step d (undoing s)).verdict ≡ true
    → step (step d (undoing s)).desk (redoing s) ≡ record { desk = d; verdict = Ok tt }
unfolding Passes
redo_after_undo d s z =
    let m = call_passes d (undoing s) z in
    let h : sound d ≡ true = not-false _ m.0.unbroken in
    let e : (step d (undoing s)).desk ≡ effect d (undoing s) = accepted_takes_effect d (undoing s) z in
    rw e (redo_undone d s h m.0.low m.0.shown m.1 (rw e at (sound-step d h (undoing s))))

-- After an accepted redo, undo is accepted and gives the very desk before.
pub undo_after_redo : (d : Desk) (s : ℕ) → accepted (step d (redoing s)).verdict ≡ true
    → step (step d (redoing s)).desk (undoing s) ≡ record { desk = d; verdict = Ok tt }
unfolding Passes
undo_after_redo d s z =
    let m = call_passes d (redoing s) z in
    let h : sound d ≡ true = not-false _ m.0.unbroken in
    let n : length (edits_of d s) - (seat_of d s).standing ≡ 0 → ⊥ = m.1 in
    let e : (step d (redoing s)).desk ≡ effect d (redoing s) = accepted_takes_effect d (redoing s) z in
    rw e (undo_redone d s h m.0.low m.0.shown (omega arith) (rw e at (sound-step d h (redoing s))))
