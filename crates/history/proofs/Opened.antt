-- A seat is open from an accepted opening, with the job and the pins stated there, until an accepted closing; opening begins a new history. On ANY desk.
-- From the rows of the calls and the definition of a step; assumes nothing.
use mathlib.Core.Path.{◌≡◌, refl, ap, sym, ◌∙◌}
use mathlib.Core.Bool.{Bool, true, false, true≢false}
use mathlib.Core.List.{List, [], ◌∷◌, reverse}
use Prim.Native.Nat.{ℕ, zero, suc, ◌<◌}
use native.Mathlib.Omega.{arith}
use borrow.Author.Tests.{not-false, eqb-true, eqb-false}
use lib.Dec.{eqb}
use lib.ListN.{length, take, drop, get_or, set}
use lib.Seq.{get_or-set_same}
use Rattle.std.specs.Prelude.{is_ok}
use Rattle.basics.specs.Tests.{both}
use Rattle.refusal.specs.Refusals.{accepted}
use Rattle.basics.proofs.Lists.{empty}
use Rattle.drawing.specs.Pins.{Pin, lawful}
use Rattle.edits.specs.declared.Edit.{Edit}
use Rattle.pinmap.specs.declared.Form.{Form}
use Rattle.readmap.specs.Map.{read_map, pins_of}
use Rattle.journal.specs.Journal.{own, kept}
use Rattle.journal.proofs.Own.{own-kept}
use Rattle.journal.proofs.Filled.{take-filled}
use Rattle.seats.specs.declared.Seat.{Seat}
use Rattle.desk.specs.declared.Desk.{Desk}
use Rattle.rows.specs.Calls.{Call, seat_in, opening, closing, making, undoing, redoing, asking}
use Rattle.rows.proofs.Passed.{OpenSeat, Opens, Passes, passes}
use Rattle.desk.specs.Desk.{closed_seat, no_seat, seat_of, in_use, edits_of, standing_of, taken_back_of, open_seat, with_pins, sound, look_at, edited, effect, answer_of, step}
use Rattle.desk.proofs.Sound.{eight_seats, closed_owns_none, pins_lawful}
use Rattle.history.specs.History.{after}
use Rattle.history.specs.AsPast.{Untouched}
use Rattle.history.specs.Until.{NoneAt, is_opening, is_closing, is_edit_or_closing}
use Rattle.history.proofs.Untouched.{other_seats_untouched, accepted_takes_effect, refused_leaves_the_desk, asking_leaves_the_desk, value_accepted}

-- ---- calls that leave a seat as it is

-- What a seat that is untouched has, and every accepted call at its own seat but one of these keeps, stays where none of these comes.
module _ {A : Type 0} (part : Desk → ℕ → A) (a : A) (these : Call → Bool)
    (alike : (d e : Desk) (s : ℕ) → Untouched d e s → part e s ≡ part d s)
    (keeps : (d : Desk) (c : Call) → part d (seat_in c) ≡ a → accepted (step d c).verdict ≡ true → these c ≡ false
    → part (step d c).desk (seat_in c) ≡ a) where
  -- At the seat that the call names,
  stays_here : (d : Desk) (c : Call) (b : Bool) → accepted (step d c).verdict ≡ b → part d (seat_in c) ≡ a → both b (these c) ≡ false
      → part (step d c).desk (seat_in c) ≡ a
  unfolding both
  stays_here d c true z p n = keeps d c p z n
  stays_here d c false z p n = ap (λ (x : Desk). part x (seat_in c)) (refused_leaves_the_desk d c z) ∙ p

  -- and at any seat, one call keeps it,
  stays_by : (d : Desk) (c : Call) (s : ℕ) (b : Bool) → eqb s (seat_in c) ≡ b → part d s ≡ a
      → both b (both (accepted (step d c).verdict) (these c)) ≡ false → part (step d c).desk s ≡ a
  unfolding both
  stays_by d c s true h p n =
      let e : s ≡ seat_in c = eqb-true s (seat_in c) h in
      rw e (stays_here d c (accepted (step d c).verdict) refl (rw e at p) n)
  stays_by d c s false h p n = alike d (step d c).desk s (other_seats_untouched d c s (eqb-false s (seat_in c) h)) ∙ p

  -- and so do all of them.
  pub stays : (calls : List Call) (d : Desk) (s : ℕ) → part d s ≡ a → NoneAt these d s calls → part (after d calls) s ≡ a
  unfolding NoneAt after
  stays [] d s p n = p
  stays (c ∷ calls) d s p n = stays calls (step d c).desk s (stays_by d c s (eqb s (seat_in c)) refl p n.0) n.1

-- An accepted call has passed all that its rows ask.
pub call_passes : (d : Desk) (c : Call) → accepted (step d c).verdict ≡ true → Passes (look_at d (seat_in c)) c
unfolding step answer_of
call_passes d c z = passes (look_at d (seat_in c)) c z

-- An open seat is not opened again.
not_again : {A : Type 0} (d : Desk) (t job : ℕ) (form : Form) (map : List ℕ) → (seat_of d t).opened ≡ true
    → accepted (step d (opening t job form map)).verdict ≡ true → A
unfolding Passes
not_again d t job form map o z = absurd (true≢false (sym o ∙ (call_passes d (opening t job form map) z).shown))

-- ---- open until a closing

-- A seat changed keeps what its new value keeps.
part_set : {A : Type 0} (part : Seat → A) (l : List Seat) (s : ℕ) (q : Seat) → part q ≡ part (get_or l s no_seat)
    → part (get_or (set l s q) s no_seat) ≡ part (get_or l s no_seat)
part_set part [] s q e = refl
part_set part (r ∷ l) zero q e = e
part_set part (r ∷ l) (suc s) q e = part_set part l s q e

-- Open, and for which job.
abbrev open_for : Seat → Bool × ℕ
open_for q = (q.opened, q.job)

module _ (d : Desk) (c : Call) (z : accepted (step d c).verdict ≡ true) where
  -- Its own seat is what its effect leaves there,
  here_is : seat_of (step d c).desk (seat_in c) ≡ seat_of (effect d c) (seat_in c)
  here_is = ap (λ (x : Desk). seat_of x (seat_in c)) (accepted_takes_effect d c z)

  -- and where only pins and the number of standing edits change, it stays open for its job.
  same_job_lem : (l : List Pin) (n : ℕ) → (effect d c).seats ≡ set d.seats (seat_in c) (with_pins (seat_of d (seat_in c)) l n)
      → open_for (seat_of (step d c).desk (seat_in c)) ≡ open_for (seat_of d (seat_in c))
  same_job_lem l n e = ap open_for (here_is ∙ ap (λ (x : List Seat). get_or x (seat_in c) no_seat) e) ∙ part_set open_for d.seats (seat_in c) _ refl

-- No accepted call but closing changes that.
keeps_open : (job : ℕ) (d : Desk) (c : Call) → open_for (seat_of d (seat_in c)) ≡ (true, job) → accepted (step d c).verdict ≡ true → is_closing c ≡ false
    → open_for (seat_of (step d c).desk (seat_in c)) ≡ (true, job)
unfolding effect edited
keeps_open job d (opening t j form map) p z n = not_again d t j form map (ap (λ (x : Bool × ℕ). x.0) p) z
keeps_open job d (closing t) p z n = absurd (true≢false n)
keeps_open job d (making t m) p z n = same_job_lem d (making t m) z _ _ refl ∙ p
keeps_open job d (undoing t) p z n = same_job_lem d (undoing t) z _ _ refl ∙ p
keeps_open job d (redoing t) p z n = same_job_lem d (redoing t) z _ _ refl ∙ p
keeps_open job d (asking t a) p z n = ap (λ (x : Desk). open_for (seat_of x t)) (asking_leaves_the_desk d t a) ∙ p

-- A seat that is open stays open, for the same job, until an accepted closing.
pub open_until_closing : (calls : List Call) (d : Desk) (s : ℕ) → (seat_of d s).opened ≡ true → NoneAt is_closing d s calls
    → ((seat_of (after d calls) s).opened ≡ true) × ((seat_of (after d calls) s).job ≡ (seat_of d s).job)
open_until_closing calls d s o n =
    let e : open_for (seat_of (after d calls) s) ≡ (true, (seat_of d s).job) =
    stays (λ (x : Desk) (t : ℕ). open_for (seat_of x t)) (true, (seat_of d s).job) is_closing (λ x y t u. ap open_for u.seat) (keeps_open (seat_of d s).job)
    calls d s (λ i. (o i, (seat_of d s).job)) n in
    (ap (λ (x : Bool × ℕ). x.0) e, ap (λ (x : Bool × ℕ). x.1) e)

-- ---- as it was opened until an edit

-- A seat, and its edits.
abbrev whole : Desk → ℕ → Seat × List Edit
whole d s = (seat_of d s, edits_of d s)

module _ (q : Seat) (o : q.opened ≡ true) (none : q.standing ≡ 0) where
  -- No accepted call but an edit or a closing changes it: undo and redo are refused without edits (10 and 11), and opening at an open seat.
  keeps_whole : (d : Desk) (c : Call) → whole d (seat_in c) ≡ (q, []) → accepted (step d c).verdict ≡ true → is_edit_or_closing c ≡ false
      → whole (step d c).desk (seat_in c) ≡ (q, [])
  unfolding Passes
  keeps_whole d (opening t job form map) p z n = not_again d t job form map (ap (λ (x : Seat × List Edit). x.0.opened) p ∙ o) z
  keeps_whole d (closing t) p z n = absurd (true≢false n)
  keeps_whole d (making t m) p z n = absurd (true≢false n)
  keeps_whole d (undoing t) p z n = absurd ((call_passes d (undoing t) z).1 (ap (λ (x : Seat × List Edit). x.0.standing) p ∙ none))
  keeps_whole d (redoing t) p z n =
      let e : length (edits_of d t) ≡ 0 = ap (λ (x : Seat × List Edit). length x.1) p in
      absurd ((call_passes d (redoing t) z).1 (omega (arith, e)))
  keeps_whole d (asking t a) p z n = ap (λ (x : Desk). whole x t) (asking_leaves_the_desk d t a) ∙ p

-- A seat that is open, without edits, stays as it is until an accepted edit or closing.
pub same_until_edit : (calls : List Call) (d : Desk) (s : ℕ) → (seat_of d s).opened ≡ true → (seat_of d s).standing ≡ 0 → edits_of d s ≡ []
    → NoneAt is_edit_or_closing d s calls → seat_of (after d calls) s ≡ seat_of d s
same_until_edit calls d s o m e n =
    ap (λ (x : Seat × List Edit). x.0)
    (stays whole (seat_of d s, []) is_edit_or_closing (λ x y t u i. (u.seat i, u.edits i)) (keeps_whole (seat_of d s) o m)
    calls d s (λ i. (seat_of d s, e i)) n)

-- ---- closed until an opening

-- An accepted call but opening finds its seat open.
found_open : (d : Desk) (c : Call) → accepted (step d c).verdict ≡ true → is_opening c ≡ false → (seat_of d (seat_in c)).opened ≡ true
unfolding Passes
found_open d (opening t job form map) z n = absurd (true≢false n)
found_open d (closing t) z n = (call_passes d (closing t) z).shown
found_open d (making t m) z n = (call_passes d (making t m) z).reaches.shown
found_open d (undoing t) z n = (call_passes d (undoing t) z).0.shown
found_open d (redoing t) z n = (call_passes d (redoing t) z).0.shown
found_open d (asking t a) z n = (call_passes d (asking t a) z).0.shown

-- No accepted call but opening opens a closed seat: no other is accepted there.
keeps_closed : (d : Desk) (c : Call) → (seat_of d (seat_in c)).opened ≡ false → accepted (step d c).verdict ≡ true → is_opening c ≡ false
    → (seat_of (step d c).desk (seat_in c)).opened ≡ false
keeps_closed d c p z n = absurd (true≢false (sym (found_open d c z n) ∙ p))

-- A seat that is closed stays closed until an accepted opening.
pub closed_until_opening : (calls : List Call) (d : Desk) (s : ℕ) → (seat_of d s).opened ≡ false → NoneAt is_opening d s calls
    → (seat_of (after d calls) s).opened ≡ false
closed_until_opening calls d s o n =
    stays (λ (x : Desk) (t : ℕ). (seat_of x t).opened) false is_opening (λ x y t u. ap (λ (q : Seat). q.opened) u.seat) keeps_closed calls d s o n

-- The pins of a seat that a call finds open keep the rules.
pub open_lawful : (d : Desk) (s : ℕ) → OpenSeat (look_at d s) → lawful (seat_of d s).pins ≡ true
open_lawful d s o = pins_lawful d (not-false _ o.unbroken) s o.low o.shown

-- ---- opening and closing

module _ (d : Desk) (s job : ℕ) (form : Form) (map : List ℕ) (z : accepted (step d (opening s job form map)).verdict ≡ true) where
  -- What the opening has passed.
  opens_here : Opens (look_at d s) job form map
  unfolding Passes
  opens_here = call_passes d (opening s job form map) z

  -- The map of an accepted opening is read.
  pub opened_map_read : is_ok (read_map form map job) ≡ true
  opened_map_read = sym (value_accepted _) ∙ opens_here.read

  -- An accepted opening leaves the seat open, with the job and the map's pins;
  pub opened_seat : seat_of (step d (opening s job form map)).desk s ≡ open_seat job (pins_of (read_map form map job))
  unfolding effect
  opened_seat =
      let h : sound d ≡ true = not-false _ opens_here.unbroken in
      let k : s < length d.seats = omega (arith, eight_seats d h, opens_here.low) in
      here_is d (opening s job form map) z ∙ get_or-set_same d.seats s (open_seat job (pins_of (read_map form map job))) no_seat k

  -- it begins a new history: the seat has no edits,
  pub opened_without_edits : edits_of (step d (opening s job form map)).desk s ≡ []
  unfolding effect
  opened_without_edits =
      ap (λ (x : Desk). edits_of x s) (accepted_takes_effect d (opening s job form map) z)
      ∙ empty (edits_of d s) (closed_owns_none d (not-false _ opens_here.unbroken) s opens_here.low opens_here.shown)

  -- none stands, and none is taken back.
  pub opened_anew : (standing_of (step d (opening s job form map)).desk s ≡ []) × (taken_back_of (step d (opening s job form map)).desk s ≡ [])
  opened_anew =
      let e = opened_without_edits in
      let n : (seat_of (step d (opening s job form map)).desk s).standing ≡ 0 = ap (λ (x : Seat). x.standing) opened_seat in
      (λ i. reverse (take (n i) (e i)), λ i. drop (n i) (e i))

-- An accepted closing leaves the seat closed, and frees all of its records.
pub closed_seat_lem : (d : Desk) (s : ℕ) → accepted (step d (closing s)).verdict ≡ true
    → (seat_of (step d (closing s)).desk s ≡ closed_seat) × (edits_of (step d (closing s)).desk s ≡ [])
unfolding Passes effect
closed_seat_lem d s z =
    let r = call_passes d (closing s) z in
    let k : s < length d.seats = omega (arith, eight_seats d (not-false _ r.unbroken), r.low) in (
      here_is d (closing s) z ∙ get_or-set_same d.seats s closed_seat no_seat k,
      ap (λ (x : Desk). edits_of x s) (accepted_takes_effect d (closing s) z) ∙ ap (own s) (take-filled (kept s 0 (in_use d))) ∙ own-kept s 0 (in_use d),
    )
