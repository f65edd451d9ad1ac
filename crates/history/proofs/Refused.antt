-- DEMAND 1: each refusal exactly under its condition, and after those before it: the rows of each call in the order of documents 01 and 02, on any desk.
-- From the rows of each call, which are apart, and the law of rows; assumes nothing.
use mathlib.Core.Path.{◌≡◌, refl, ap, sym, ◌∙◌}
use mathlib.Core.Bool.{Bool, true, false, not, true≢false}
use mathlib.Core.List.{List, [], ◌∷◌}
use mathlib.Core.Logic.{◌⊎◌, inl, inr, ⊎_elim, ◌↔◌}
use Prim.Native.Nat.{ℕ, suc, ◌<◌}
use native.Mathlib.Omega.{arith}
use borrow.Author.Tests.{not-true}
use lib.ListN.{length}
use Rattle.basics.specs.Tests.{both}
use Rattle.refusal.specs.Rows.{Row, Given, NoneHolds, refusal_at, Exactly}
use Rattle.refusal.specs.declared.Refusal.TheVariants.{JournalFull, DeskBroken}
use Rattle.std.specs.Prelude.{Ok, Err}
use Rattle.refusal.proofs.Rows.{unlike, differs_by, never_first, exactly}
use Rattle.rows.specs.Calls.{Call, seat_in, undoing, redoing}
use Rattle.rows.proofs.Rows.{rows_apart, rows_begin}
use Rattle.desk.specs.declared.Desk.{Desk}
use Rattle.desk.specs.Desk.{sound, look_at, rows_at, answer_of, step, empty_desk}
use Rattle.history.specs.History.{after}
use Rattle.history.proofs.Demand.{desk_as_past}

-- On any desk, each refusal of a call is given exactly where its condition holds and none before it does; where none holds, the call is accepted.
pub each_refusal_exactly : (d : Desk) (c : Call) → Exactly (rows_at d c) (step d c).verdict
unfolding step answer_of
each_refusal_exactly d c = exactly (rows_at d c) (rows_apart (look_at d (seat_in c)) c)

-- Some row is given, or no condition holds.
one_or_none : (rows : List Row) → ((i : ℕ) × (i < length rows) × Given rows i) ⊎ NoneHolds rows
unfolding Given NoneHolds
one_or_none [] = inr tt
one_or_none (r ∷ rows) = by r.condition refl (one_or_none rows)
  where
    -- The first row is given, or one after it, or none.
    by : (b : Bool) → r.condition ≡ b → ((i : ℕ) × (i < length rows) × Given rows i) ⊎ NoneHolds rows
        → ((i : ℕ) × (i < length (r ∷ rows)) × Given (r ∷ rows) i) ⊎ NoneHolds (r ∷ rows)
    by true e k = inl (0, omega arith, e)
    by false e k = ⊎_elim (λ g. inl (suc g.0, omega (arith, g.1), (e, g.2))) (λ n. inr (e, n)) k

-- No other refusal is given: the answer is the refusal of one of the call's rows, or accepted.
pub no_other_refusal : (d : Desk) (c : Call)
    → ((i : ℕ) × (i < length (rows_at d c)) × ((step d c).verdict ≡ refusal_at (rows_at d c) i))
    ⊎ ((step d c).verdict ≡ Ok tt)
no_other_refusal d c =
    let x : Exactly (rows_at d c) (step d c).verdict = each_refusal_exactly d c in
    ⊎_elim (λ g. inl (g.0, g.1, (x.refused g.0 g.1).1 g.2)) (λ n. inr (x.passes.1 n)) (one_or_none (rows_at d c))

-- Undo never needs a further record: it is not refused with 12,
pub undo_never_full : (d : Desk) (s : ℕ) → (step d (undoing s)).verdict ≡ Err JournalFull → ⊥
unfolding step answer_of unlike both
undo_never_full d s e = never_first JournalFull (rows_at d (undoing s)) (differs_by JournalFull (rows_at d (undoing s)) refl) (sym e)

-- nor is redo.
pub redo_never_full : (d : Desk) (s : ℕ) → (step d (redoing s)).verdict ≡ Err JournalFull → ⊥
unfolding step answer_of unlike both
redo_never_full d s e = never_first JournalFull (rows_at d (redoing s)) (differs_by JournalFull (rows_at d (redoing s)) refl) (sym e)

-- 28 comes first in the rows of every call.
broken_given : (d : Desk) (c : Call) → ((step d c).verdict ≡ Err DeskBroken) ↔ (not (sound d) ≡ true)
unfolding refusal_at Given
broken_given d c = (rw (rows_begin (look_at d (seat_in c)) c).1 at (each_refusal_exactly d c)).refused 0 (omega arith)

-- A broken desk is answered 28 by every call, and a sound one by none.
pub broken_exactly : (d : Desk) (c : Call) → ((step d c).verdict ≡ Err DeskBroken) ↔ (sound d ≡ false)
broken_exactly d c = (λ e. not-true _ ((broken_given d c).0 e), λ e. (broken_given d c).1 (ap not e))

-- After any calls from the empty desk no call is answered 28.
pub never_broken : (calls : List Call) (c : Call) → (step (after empty_desk calls) c).verdict ≡ Err DeskBroken → ⊥
never_broken calls c e =
    true≢false (sym (desk_as_past calls).unbroken ∙ (broken_exactly (after empty_desk calls) c).0 e)
