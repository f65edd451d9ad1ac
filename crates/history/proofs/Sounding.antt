-- Every sound desk has a history that it agrees with, so that a step from any sound desk leaves a sound one. From the parts of `sound`, the laws of
-- records and Steps; assumes nothing.
use mathlib.Core.Path.{◌≡◌, refl, sym, ◌∙◌}
use mathlib.Core.Bool.{Bool, true, false}
use mathlib.Core.List.{List, [], ◌∷◌, ◌++◌, reverse_aux, reverse_aux-eq, reverse-reverse}
use mathlib.Core.Logic.{⊎_elim}
use Prim.Native.Nat.{ℕ, zero, suc, ◌+◌, ◌<◌, ◌≤◌}
use native.Mathlib.Omega.{arith}
use lib.ListN.{length, take, length-append, length-reverse, take-append-drop, get_or-append, get_or-eq_default}
use lib.Seq.{get_or_at, length-take-le}
use Rattle.basics.specs.Sums.{sum}
use Rattle.basics.specs.Tests.{choose}
use Rattle.basics.proofs.Lists.{empty}
use Rattle.board.proofs.Flat.{order, same_or_not}
use Rattle.journal.specs.Journal.{most_seats}
use Rattle.journal.proofs.Seated.{owned_below, owned_all}
use Rattle.desk.specs.declared.Desk.{Desk}
use Rattle.rows.specs.Calls.{Call}
use Rattle.desk.specs.Desk.{seat_of, in_use, edits_of, standing_of, taken_back_of, sound, step}
use Rattle.desk.proofs.Sound.{eight_seats, whole_journal, used_within, all_seated_lem, jobs_apart_lem, closed_owns_none, closed_stands_none, job_not_zero, standing_within, pins_lawful, standing_takeable, taken_back_replayable}
use Rattle.history.specs.History.{Past, closed, edits_in, past_of, used_in, past_after, history, after, answers, answers_in}
use Rattle.history.specs.AsPast.{DeskAsPast, open_past, past_at, pasts_below, history_of}
use Rattle.history.proofs.Stood.{Traced, traced}
use Rattle.history.proofs.Sane.{sane, Sane, sane_after, sane_history}
use Rattle.history.proofs.Simulation.{At, Agrees, shown_length, jobs_same}
use Rattle.history.proofs.Steps.{agrees_sound, step_agrees}
use Rattle.history.proofs.Demand.{seats_as_past, agrees_after, answers-after}

-- ---- one seat

module _ (d : Desk) (h : sound d ≡ true) (s : ℕ) (k : s < most_seats) where
  -- An open seat of a sound desk holds the past that it has, which is sane; a closed one has no standing edits and owns no records.
  past_by : (b : Bool) → (seat_of d s).opened ≡ b
      → At (seat_of d s) (edits_of d s) (choose b (open_past d s) closed) × sane (choose b (open_past d s) closed)
  unfolding choose At sane
  past_by true o =
      let n : (seat_of d s).standing ≤ length (edits_of d s) = standing_within d h s k o in
      let t : Traced (seat_of d s).pins (standing_of d s) =
      traced (standing_of d s) (seat_of d s).pins (pins_lawful d h s k o) (standing_takeable d h s k o) in
      let c : (seat_of d s).standing ≡ length (standing_of d s) =
      sym (length-reverse (take (seat_of d s).standing (edits_of d s)) ∙ length-take-le (seat_of d s).standing (edits_of d s) n) in
      let e : edits_of d s ≡ reverse_aux (standing_of d s) (taken_back_of d s) =
      rw (reverse_aux-eq (standing_of d s) (taken_back_of d s), reverse-reverse (take (seat_of d s).standing (edits_of d s)))
      (sym (take-append-drop (seat_of d s).standing (edits_of d s))) in (
        record { shown = o; job = refl; pins = sym t.ends; count = c; edits = e },
        record {
          numbered = job_not_zero d h s k o;
          start = t.start;
          stands = t.stands;
          redoes = rw t.ends (taken_back_replayable d h s k o);
        },
      )
  past_by false o = ((o, (closed_stands_none d h s k o, empty _ (closed_owns_none d h s k o))), tt)

  -- Each seat holds its past,
  past_at_lem : At (seat_of d s) (edits_of d s) (past_at d s)
  unfolding past_at
  past_at_lem = (past_by (seat_of d s).opened refl).0

  -- and that past is sane.
  past_sane : sane (past_at d s)
  unfolding past_at
  past_sane = (past_by (seat_of d s).opened refl).1

-- ---- all seats

-- There are as many pasts as seats,
pasts_length : (n : ℕ) (d : Desk) → length (pasts_below n d) ≡ n
unfolding pasts_below
pasts_length zero d = refl
pasts_length (suc n) d = length-append (pasts_below n d) _ ∙ omega (arith, pasts_length n d)

-- each at its seat's number.
pasts_seat : (n : ℕ) (d : Desk) (s : ℕ) → s < n → past_of (pasts_below n d) s ≡ past_at d s
unfolding pasts_below
pasts_seat zero d s k = absurd (omega arith)
pasts_seat (suc n) d s k =
    ⊎_elim
    (λ (e : s ≡ n). rw e (get_or_at (pasts_below n d) (past_at d n) [] closed n (pasts_length n d)))
    (λ (a : s ≡ n → ⊥).
    let m : s < n = omega arith in
    let w : s < length (pasts_below n d) = omega (arith, pasts_length n d) in
    get_or-append (pasts_below n d) (past_at d n ∷ []) closed s w ∙ pasts_seat n d s m)
    (same_or_not s n)

-- One past more adds its edits to the sum.
used_more : (h : List Past) (t : Past) → used_in (h ++ (t ∷ [])) ≡ used_in h + edits_in t
unfolding sum
used_more [] t = omega arith
used_more (r ∷ h) t = omega (arith, used_more h t)

module _ (d : Desk) (h : sound d ≡ true) where
  -- The edits of the first n seats are as many as the records that these own.
  pasts_used : (n : ℕ) → n ≤ most_seats → used_in (pasts_below n d) ≡ owned_below n (in_use d)
  unfolding pasts_below owned_below sum
  pasts_used zero k = refl
  pasts_used (suc n) k =
      omega (
        arith,
        used_more (pasts_below n d) (past_at d n),
        pasts_used n (omega arith),
        shown_length (seat_of d n) (edits_of d n) (past_at d n) (past_at_lem d h n k),
      )

  -- Every sound desk agrees with the history that it has,
  pub sound_agrees : Agrees d (history_of d)
  sound_agrees =
      record {
        whole = whole_journal d h;
        room = used_within d h;
        holds =
            record {
              eight = eight_seats d h;
              named = all_seated_lem d h;
              pasts = pasts_length most_seats d;
              sized = sym (pasts_used most_seats (omega arith) ∙ owned_all (in_use d) (all_seated_lem d h));
              at = λ s k. rw (pasts_seat most_seats d s k) (past_at_lem d h s k);
            };
      }

  -- and that history is sane.
  pub sound_sane : Sane (history_of d)
  unfolding sane
  sound_sane =
      record {
        eight = pasts_length most_seats d;
        each = λ s.
            ⊎_elim
            (λ (k : most_seats ≤ s).
            let w : length (history_of d) ≤ s = omega (arith, pasts_length most_seats d) in
            rw (get_or-eq_default (history_of d) closed w) tt)
            (λ (k : s < most_seats). rw (pasts_seat most_seats d s k) (past_sane d h s k)) (order most_seats s);
        jobs = rw (← jobs_same d (history_of d) sound_agrees) (jobs_apart_lem d h);
      }

  -- No call breaks a desk that is sound.
  pub sound-step : (c : Call) → sound (step d c).desk ≡ true
  sound-step c =
      agrees_sound (step d c).desk (past_after (history_of d) c) (step_agrees d (history_of d) sound_agrees sound_sane c)
      (sane_after (history_of d) sound_sane c)

  -- Any calls from any sound desk leave a desk as the history says that goes on from the one that it has,
  pub sound_desk_as_past : (calls : List Call) → DeskAsPast (after d calls) (history (history_of d) calls)
  sound_desk_as_past calls =
      seats_as_past (after d calls) (history (history_of d) calls) (agrees_after calls d (history_of d) sound_agrees sound_sane)
      (sane_history calls (history_of d) sound_sane)

  -- and every one of them is answered as that history answers it.
  pub sound_answers_as_past : (calls : List Call) → answers d calls ≡ answers_in (history_of d) calls
  sound_answers_as_past calls = answers-after calls d (history_of d) sound_agrees sound_sane
