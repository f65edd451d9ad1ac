-- A desk that agrees with a history: each seat holds its past, and its records in use are all accounted for. What one changed seat
-- keeps of that, and what the seats show. From the laws of records; assumes nothing.
use mathlib.Core.Path.{◌≡◌, refl, ap, sym, ◌∙◌}
use mathlib.Core.Bool.{true, false}
use mathlib.Core.List.{List, [], ◌∷◌, map, reverse, reverse_aux, reverse_aux-eq, reverse-reverse}
use mathlib.Core.Logic.{⊎_elim}
use Prim.Native.Nat.{ℕ, zero, suc, ◌+◌, ◌<◌, ◌≤◌}
use native.Mathlib.Omega.{arith}
use lib.ListN.{length, get_or, set, take, drop, length-set, length-map, length-reverse, length-reverse_aux, get_or-map}
use lib.Seq.{get_or-set_same, get_or-set_other, ext_get_or, take_at, drop_at, get_or_at, take-nil, drop-nil, length-take-le}
use Rattle.basics.specs.Sums.{sum}
use Rattle.basics.specs.Tests.{choose}
use Rattle.basics.proofs.Tests.{choose_yes, choose_no}
use Rattle.board.proofs.Flat.{same_or_not}
use Rattle.drawing.specs.Pins.{Pin}
use Rattle.edits.specs.declared.Edit.{Edit}
use Rattle.journal.specs.declared.Record.{Record}
use Rattle.journal.specs.Journal.{most_seats, most_records, no_edit, own, seated}
use Rattle.journal.proofs.Filled.{take-filled, filled-length}
use Rattle.seats.specs.declared.Seat.{Seat}
use Rattle.desk.specs.declared.Desk.{Desk}
use Rattle.desk.specs.Desk.{no_seat, in_use, job_of, jobs_of, with_seat, with_records}
use Rattle.history.specs.History.{Past, closed, opened, pins_by, is_open, job_in, pins_in, standing_in, taken_back_in, edits_in, past_of, used_in}

-- An open seat with its own edits of the journal holds its past.
pub record HoldsPast (q : Seat) (l : List Edit) (j : ℕ) (p : List Pin) (standing taken_back : List Edit) : Type 0 where
  pub shown : q.opened ≡ true
  pub job : q.job ≡ j
  pub pins : q.pins ≡ p
  pub count : q.standing ≡ length standing
  pub edits : l ≡ reverse_aux standing taken_back

-- A seat holds its past; a closed one has no standing edits and owns no records.
unfoldable pub At : Seat → List Edit → Past → Type 0
At q l closed = (q.opened ≡ false) × ((q.standing ≡ 0) × (l ≡ []))
At q l (opened job first standing taken_back) = HoldsPast q l job (pins_by first standing) standing taken_back

-- Seats and records in use hold a history.
pub record Holds (q : List Seat) (l : List Record) (h : List Past) : Type 0 where
  pub eight : length q ≡ most_seats
  pub named : seated l ≡ true
  pub pasts : length h ≡ most_seats
  pub sized : length l ≡ used_in h
  pub at : (s : ℕ) → s < most_seats → At (get_or q s no_seat) (own s l) (past_of h s)

-- A desk agrees with a history.
pub record Agrees (d : Desk) (h : List Past) : Type 0 where
  pub whole : length d.journal.records ≡ most_records
  pub room : d.journal.used ≤ most_records
  pub holds : Holds d.seats (in_use d) h

-- ---- what a seat shows

-- A seat's own records: first those of the edits that stand, in the order in which they were made,
pub zip_take : (l st bk : List Edit) (n : ℕ) → l ≡ reverse_aux st bk → n ≡ length st → take n l ≡ reverse st
zip_take l st bk n e f = rw (e ∙ reverse_aux-eq st bk) (take_at (reverse st) bk n (length-reverse st ∙ sym f))

-- then those taken back, the next to redo first.
zip_drop : (l st bk : List Edit) (n : ℕ) → l ≡ reverse_aux st bk → n ≡ length st → drop n l ≡ bk
zip_drop l st bk n e f = rw (e ∙ reverse_aux-eq st bk) (drop_at (reverse st) bk n (length-reverse st ∙ sym f))

-- The first of those taken back comes right after those that stand.
pub zip_at : (l st bk : List Edit) (x : Edit) (n : ℕ) → l ≡ reverse_aux st (x ∷ bk) → n ≡ length st → get_or l n no_edit ≡ x
zip_at l st bk x n e f = rw (e ∙ reverse_aux-eq st (x ∷ bk)) (get_or_at (reverse st) x bk no_edit n (length-reverse st ∙ sym f))

-- A seat that holds its past is open where the past says so;
pub shown_open : (q : Seat) (l : List Edit) (t : Past) → At q l t → q.opened ≡ is_open t
unfolding At
shown_open q l closed a = a.0
shown_open q l (opened job first standing taken_back) a = a.shown

-- an open one has the job,
pub shown_job : (q : Seat) (l : List Edit) (t : Past) → At q l t → is_open t ≡ true → q.job ≡ job_in t
unfolding At
shown_job q l closed a o = cc
shown_job q l (opened job first standing taken_back) a o = a.job

-- and the pins of its past.
pub shown_pins : (q : Seat) (l : List Edit) (t : Past) → At q l t → is_open t ≡ true → q.pins ≡ pins_in t
unfolding At
shown_pins q l closed a o = cc
shown_pins q l (opened job first standing taken_back) a o = a.pins

-- As many of its edits stand as of its past's.
pub shown_count : (q : Seat) (l : List Edit) (t : Past) → At q l t → q.standing ≡ length (standing_in t)
unfolding At
shown_count q l closed a = a.1.0
shown_count q l (opened job first standing taken_back) a = a.count

-- Its standing edits are those of its past,
pub shown_standing : (q : Seat) (l : List Edit) (t : Past) → At q l t → reverse (take q.standing l) ≡ standing_in t
unfolding At
shown_standing q l closed a = rw (a.1.1, take-nil q.standing)
shown_standing q l (opened job first standing taken_back) a =
    ap reverse (zip_take l standing taken_back q.standing a.edits a.count) ∙ reverse-reverse standing

-- and so are its taken-back ones.
pub shown_taken_back : (q : Seat) (l : List Edit) (t : Past) → At q l t → drop q.standing l ≡ taken_back_in t
unfolding At
shown_taken_back q l closed a = rw (a.1.1, drop-nil q.standing)
shown_taken_back q l (opened job first standing taken_back) a = zip_drop l standing taken_back q.standing a.edits a.count

-- A seat owns a record for each standing and each taken-back edit.
pub shown_length : (q : Seat) (l : List Edit) (t : Past) → At q l t → length l ≡ edits_in t
unfolding At
shown_length q l closed a = rw a.1.1
shown_length q l (opened job first standing taken_back) a = ap length a.edits ∙ length-reverse_aux standing taken_back

-- The job that it counts for is its past's: 0 where it is closed.
pub shown_job_of : (q : Seat) (l : List Edit) (t : Past) → At q l t → job_of q ≡ job_in t
unfolding At job_of
shown_job_of q l closed a = choose_no _ _ a.0
shown_job_of q l (opened job first standing taken_back) a = choose_yes _ _ a.shown ∙ a.job

-- ---- one seat changed

-- The sum of the edits changes by those of the changed seat.
sum-set : (h : List Past) (s : ℕ) (t : Past) → s < length h → used_in (set h s t) + edits_in (past_of h s) ≡ used_in h + edits_in t
unfolding sum
sum-set [] s t k = absurd (omega arith)
sum-set (r ∷ h) zero t k = omega arith
sum-set (r ∷ h) (suc s) t k = omega (arith, sum-set h s t (omega arith))

module _ (q : List Seat) (l m : List Record) (h : List Past) (s : ℕ) (r : Seat) (t : Past) (g : Holds q l h) (k : s < most_seats)
    (n : seated m ≡ true) (o : (u : ℕ) → (u ≡ s → ⊥) → own u m ≡ own u l) (z : length m + edits_in (past_of h s) ≡ length l + edits_in t)
    (a : At r (own s m) t) where
  -- Every seat still holds its past,
  at_set : (u : ℕ) → u < most_seats → At (get_or (set q s r) u no_seat) (own u m) (past_of (set h s t) u)
  at_set u i =
      let w : s < length q = omega (arith, g.eight) in
      let v : s < length h = omega (arith, g.pasts) in
      ⊎_elim
      (λ (e : u ≡ s). rw (e, get_or-set_same q s r no_seat w, get_or-set_same h s t closed v) a)
      (λ (d : u ≡ s → ⊥). rw (get_or-set_other q s u r no_seat d, get_or-set_other h s u t closed d, o u d) (g.at u i))
      (same_or_not u s)

  -- and the seats and records hold the history with that seat changed.
  pub holds-set : Holds (set q s r) m (set h s t)
  holds-set =
      record {
        eight = length-set q s r ∙ g.eight;
        named = n;
        pasts = length-set h s t ∙ g.pasts;
        sized = omega (arith, sum-set h s t (omega (arith, g.pasts)), g.sized);
        at = at_set;
      }

-- As many records are in use as the used count says.
pub used_in_use : (d : Desk) (h : List Past) → Agrees d h → length (in_use d) ≡ d.journal.used
used_in_use d h g =
    let w : d.journal.used ≤ length d.journal.records = omega (arith, g.whole, g.room) in length-take-le d.journal.used d.journal.records w

-- The desk agrees with the history that has this seat changed:
module _ (d : Desk) (h : List Past) (s : ℕ) (r : Seat) (t : Past) (g : Agrees d h) (k : s < most_seats) where
  -- where the journal is as it was, and the seat has as many edits as before;
  pub agrees_seat : edits_in t ≡ edits_in (past_of h s) → At r (own s (in_use d)) t → Agrees (with_seat d s r) (set h s t)
  agrees_seat z a =
      record {
        whole = g.whole;
        room = g.room;
        holds = holds-set d.seats (in_use d) (in_use d) h s r t g.holds k g.holds.named (λ u e. refl) (omega arith) a;
      }

  -- where the records in use are others, but those of the other seats.
  pub agrees_records : (m : List Record) → length m ≤ most_records → seated m ≡ true → ((u : ℕ) → (u ≡ s → ⊥) → own u m ≡ own u (in_use d))
      → length m + edits_in (past_of h s) ≡ length (in_use d) + edits_in t → At r (own s m) t → Agrees (with_records d s r m) (set h s t)
  agrees_records m i n o z a =
      record {
        whole = filled-length m i;
        room = i;
        holds = rw (take-filled m) (holds-set d.seats (in_use d) m h s r t g.holds k n o z a);
      }

-- ---- what the seats show together

module _ (d : Desk) (h : List Past) (g : Agrees d h) where
  -- The jobs that are open.
  pub jobs_same : jobs_of d ≡ map job_in h
  unfolding job_of choose
  jobs_same =
      ext_get_or 0 (map job_of d.seats) (map job_in h)
      (length-map d.seats job_of ∙ g.holds.eight ∙ sym (length-map h job_in ∙ g.holds.pasts))
      (λ i k. get_or-map job_of d.seats i no_seat
      ∙ shown_job_of _ _ _ (g.holds.at i (omega (arith, k, length-map d.seats job_of, g.holds.eight)))
      ∙ sym (get_or-map job_in h i closed))

  -- The used count is the sum, over the seats, of standing and taken-back edits.
  pub used_same : d.journal.used ≡ used_in h
  used_same = sym (used_in_use d h g) ∙ g.holds.sized
