-- What every history keeps: jobs are set and not repeated, openings keep the rules, and every edit could be made in its turn.
-- From what an accepted call has passed; assumes nothing.
use mathlib.Core.Path.{◌≡◌, refl, ◌∙◌}
use mathlib.Core.Bool.{Bool, true, false}
use mathlib.Core.List.{List, [], ◌∷◌, map}
use mathlib.Core.Logic.{⊎_elim}
use Prim.Native.Nat.{ℕ, ◌<◌}
use native.Mathlib.Omega.{arith}
use lib.ListN.{length, set, length-set, length-replicate}
use lib.Seq.{get_or-set_same, get_or-set_other, map-set_same}
use Rattle.basics.specs.Tests.{both, either, choose, any_of, no_two}
use Rattle.refusal.specs.Refusals.{accepted}
use Rattle.basics.proofs.Lists.{blank_at}
use Rattle.board.proofs.Flat.{same_or_not}
use Rattle.drawing.specs.Pins.{Pin, lawful}
use Rattle.edits.specs.declared.Edit.{Edit}
use Rattle.edits.specs.Edits.{makeable, made}
use Rattle.edits.specs.Stated.{edit_of}
use Rattle.drawing.proofs.Rules.{map-set}
use Rattle.roundtrip.proofs.RoundTrip.{read_lawful}
use Rattle.journal.specs.Journal.{most_seats, makeable_all}
use Rattle.journal.proofs.Turns.{turn_nil, turn_first, turn_rest, turn_cons}
use Rattle.seats.specs.Seats.{same_job, job_among}
use Rattle.rows.specs.Calls.{Call, seat_in, opening, closing, making, undoing, redoing, asking}
use Rattle.rows.proofs.Rows.{seat_low}
use Rattle.rows.proofs.Passed.{Passes, passes}
use Rattle.desk.specs.Desk.{jobs_apart}
use Rattle.history.specs.History.{Past, closed, opened, pins_by, job_in, pins_in, past_of, look_in, anew, undone, redone, next, answer_in, past_after, nothing, history}
use Rattle.history.proofs.Jobs.{none-among, apart_set}
use Rattle.history.proofs.Stood.{stood, stood_lawful}

-- An open seat: its job is set, its opening keeps the rules, its standing edits stood, its taken-back ones can be made again.
pub record Drawn (job : ℕ) (first : List Pin) (standing taken_back : List Edit) : Type 0 where
  pub numbered : job ≡ 0 → ⊥
  pub start : lawful first ≡ true
  pub stands : stood first standing
  pub redoes : makeable_all (pins_by first standing) taken_back ≡ true

-- What a past keeps: nothing where the seat is closed.
unfoldable pub sane : Past → Type 0
sane closed = Unit {0}
sane (opened job first standing taken_back) = Drawn job first standing taken_back

-- What a history keeps: a past for each seat, each of them sane, and no job repeated.
pub record Sane (h : List Past) : Type 0 where
  pub eight : length h ≡ most_seats
  pub each : (s : ℕ) → sane (past_of h s)
  pub jobs : jobs_apart (map job_in h) ≡ true

-- ---- one seat

-- A new edit that can be made keeps a past sane,
sane_anew : (e : Edit) (t : Past) → sane t → (lawful (pins_in t) ≡ true → makeable (pins_in t) e ≡ true) → sane (anew e t)
unfolding sane anew stood
sane_anew e closed g m = tt
sane_anew e (opened job first standing taken_back) g m =
    record { numbered = g.numbered; start = g.start; stands = (m (stood_lawful first standing g.start g.stands), g.stands); redoes = turn_nil makeable made _ }

-- and so does undo,
sane_undone : (t : Past) → sane t → sane (undone t)
unfolding sane undone stood pins_by
sane_undone closed g = tt
sane_undone (opened job first [] taken_back) g = g
sane_undone (opened job first (e ∷ standing) taken_back) g =
    record {
      numbered = g.numbered;
      start = g.start;
      stands = g.stands.1;
      redoes = turn_cons makeable made (pins_by first standing) e taken_back g.stands.0 g.redoes;
    }

-- and redo.
sane_redone : (t : Past) → sane t → sane (redone t)
unfolding sane redone stood pins_by
sane_redone closed g = tt
sane_redone (opened job first standing []) g = g
sane_redone (opened job first standing (e ∷ taken_back)) g =
    record {
      numbered = g.numbered;
      start = g.start;
      stands = (turn_first makeable made (pins_by first standing) e taken_back g.redoes, g.stands);
      redoes = turn_rest makeable made (pins_by first standing) e taken_back g.redoes;
    }

-- A new edit changes no job,
pub job_anew : (e : Edit) (t : Past) → job_in (anew e t) ≡ job_in t
unfolding anew
job_anew e closed = refl
job_anew e (opened job first standing taken_back) = refl

-- nor does undo,
pub job_undone : (t : Past) → job_in (undone t) ≡ job_in t
unfolding undone
job_undone closed = refl
job_undone (opened job first [] taken_back) = refl
job_undone (opened job first (e ∷ standing) taken_back) = refl

-- nor redo.
pub job_redone : (t : Past) → job_in (redone t) ≡ job_in t
unfolding redone
job_redone closed = refl
job_redone (opened job first standing []) = refl
job_redone (opened job first standing (e ∷ taken_back)) = refl

-- ---- one call

module _ (h : List Past) (g : Sane h) where
  -- What an accepted call makes of its own seat is sane.
  sane_next : (c : Call) → accepted (answer_in h c) ≡ true → sane (next c (past_of h (seat_in c)))
  unfolding next answer_in Passes sane stood
  sane_next (opening s job form map) z =
      record {
        numbered = (passes (look_in h s) (opening s job form map) z).set;
        start = read_lawful form job map;
        stands = tt;
        redoes = turn_nil makeable made _;
      }
  sane_next (closing s) z = tt
  sane_next (making s m) z = sane_anew (edit_of (pins_in (past_of h s)) m) (past_of h s) (g.each s) (passes (look_in h s) (making s m) z).fits
  sane_next (undoing s) z = sane_undone (past_of h s) (g.each s)
  sane_next (redoing s) z = sane_redone (past_of h s) (g.each s)
  sane_next (asking s a) z = g.each s

  -- A seat that keeps its job repeats none,
  jobs_kept : (s : ℕ) (t : Past) → job_in t ≡ job_in (past_of h s) → jobs_apart (map job_in (set h s t)) ≡ true
  jobs_kept s t e = rw (map-set_same job_in h s t closed e) g.jobs

  -- nor does one with a job that is open nowhere.
  jobs_set : (s : ℕ) (t : Past) → job_among (job_in t) (map job_in h) ≡ false → jobs_apart (map job_in (set h s t)) ≡ true
  jobs_set s t e = rw (map-set job_in h s t) (apart_set (job_in t) (map job_in h) s g.jobs e)

  -- So no accepted call makes a job repeat,
  jobs_next : (c : Call) → accepted (answer_in h c) ≡ true → jobs_apart (map job_in (set h (seat_in c) (next c (past_of h (seat_in c))))) ≡ true
  unfolding next answer_in Passes
  jobs_next (opening s job form map) z = jobs_set s _ (passes (look_in h s) (opening s job form map) z).fresh
  jobs_next (closing s) z = jobs_set s _ (none-among _)
  jobs_next (making s m) z = jobs_kept s _ (job_anew _ (past_of h s))
  jobs_next (undoing s) z = jobs_kept s _ (job_undone (past_of h s))
  jobs_next (redoing s) z = jobs_kept s _ (job_redone (past_of h s))
  jobs_next (asking s a) z = jobs_kept s _ refl

  -- and every past is sane after it.
  each_next : (c : Call) → accepted (answer_in h c) ≡ true → seat_in c < most_seats → (t : ℕ)
      → sane (past_of (set h (seat_in c) (next c (past_of h (seat_in c)))) t)
  each_next c z k t =
      let w : seat_in c < length h = omega (arith, g.eight) in
      ⊎_elim
      (λ (e : t ≡ seat_in c). rw (e, get_or-set_same h (seat_in c) (next c (past_of h (seat_in c))) closed w) (sane_next c z))
      (λ (d : t ≡ seat_in c → ⊥). rw (get_or-set_other h (seat_in c) t (next c (past_of h (seat_in c))) closed d) (g.each t))
      (same_or_not t (seat_in c))

  -- An accepted call names one of the eight seats.
  low : (c : Call) → accepted (answer_in h c) ≡ true → seat_in c < most_seats
  unfolding answer_in
  low c z = (seat_low (look_in h (seat_in c)) c z).1

  -- So an accepted call keeps the history sane; a refused one leaves it as it is.
  sane_by : (c : Call) (b : Bool) → accepted (answer_in h c) ≡ b → Sane (choose b (set h (seat_in c) (next c (past_of h (seat_in c)))) h)
  unfolding choose
  sane_by c true z = record { eight = length-set h (seat_in c) _ ∙ g.eight; each = λ t. each_next c z (low c z) t; jobs = jobs_next c z }
  sane_by c false z = g

  -- A call keeps a history sane.
  pub sane_after : (c : Call) → Sane (past_after h c)
  unfolding past_after
  sane_after c = sane_by c (accepted (answer_in h c)) refl

-- ---- any calls

-- Before any call the history is sane.
pub sane_nothing : Sane nothing
unfolding sane no_two any_of same_job both either
sane_nothing = record { eight = length-replicate most_seats closed; each = λ s. rw (blank_at most_seats s closed) tt; jobs = refl }

-- Any calls keep a history sane.
pub sane_history : (calls : List Call) (h : List Past) → Sane h → Sane (history h calls)
unfolding history
sane_history [] h g = g
sane_history (c ∷ calls) h g = sane_history calls (past_after h c) (sane_after h g c)
