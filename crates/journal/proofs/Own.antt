-- A seat's edits among the records, and what dropping and appending leave of them. From the definitions of `own` and `kept`; assumes nothing.
use mathlib.Core.Path.{◌≡◌, refl, ap, sym, ◌∙◌}
use mathlib.Core.List.{List, [], ◌∷◌, ◌++◌, append-nil}
use mathlib.Core.Logic.{⊎_elim}
use Prim.Native.Nat.{ℕ, zero, suc, ◌+◌, ◌-◌, ◌≤◌}
use native.Mathlib.Omega.{arith}
use borrow.Author.Tests.{eq-eqb, ne_eqb}
use lib.ListN.{length, take, length-append}
use lib.Seq.{take-nil}
use Rattle.basics.proofs.Tests.{choose_yes, choose_no}
use Rattle.board.proofs.Flat.{same_or_not}
use Rattle.edits.specs.declared.Edit.{Edit}
use Rattle.journal.specs.declared.Record.{Record}
use Rattle.journal.specs.Journal.{recorded, own, kept, added}

-- Where there are no records:
module _ (s : ℕ) where
  -- a seat has no edits,
  pub own_nil : own s [] ≡ []
  unfolding own
  own_nil = refl

  -- and dropping leaves none.
  pub kept_nil : (k : ℕ) → kept s k [] ≡ []
  unfolding kept
  kept_nil k = refl

-- One record more at the front: of this seat, or of another.
module _ (s : ℕ) (r : Record) (l : List Record) where
  -- This seat's adds an edit to those of the seat,
  pub own_here : r.seat ≡ s → own s (r ∷ l) ≡ r.edit ∷ own s l
  unfolding own
  own_here e = choose_yes _ _ (eq-eqb _ _ e)

  -- another's does not.
  pub own_past : (r.seat ≡ s → ⊥) → own s (r ∷ l) ≡ own s l
  unfolding own
  own_past d = choose_no _ _ (ne_eqb _ _ d)

  -- Where some of the seat's are kept, its first is one of them;
  pub kept_here : (k : ℕ) → r.seat ≡ s → kept s (suc k) (r ∷ l) ≡ r ∷ kept s k l
  unfolding kept
  kept_here k e = ap (λ (m : List Record). r ∷ m) (choose_yes _ _ (eq-eqb _ _ e))

  -- where none is, it is dropped;
  pub kept-none : r.seat ≡ s → kept s 0 (r ∷ l) ≡ kept s 0 l
  unfolding kept
  kept-none e = choose_yes _ _ (eq-eqb _ _ e)

  -- another's is kept.
  pub kept_past : (k : ℕ) → (r.seat ≡ s → ⊥) → kept s k (r ∷ l) ≡ r ∷ kept s k l
  unfolding kept
  kept_past zero d = choose_no _ _ (ne_eqb _ _ d)
  kept_past (suc k) d = ap (λ (m : List Record). r ∷ m) (choose_no _ _ (ne_eqb _ _ d))

-- The same record in front of records with the same edits of a seat.
same_head : (s : ℕ) (r : Record) (l m : List Record) → own s l ≡ own s m → own s (r ∷ l) ≡ own s (r ∷ m)
same_head s r l m h =
    ⊎_elim
    (λ e. rw (own_here s r l e, own_here s r m e, h))
    (λ d. rw (own_past s r l d, own_past s r m d, h))
    (same_or_not r.seat s)

-- The edits of records put together are those of the parts.
pub own-append : (s : ℕ) (l m : List Record) → own s (l ++ m) ≡ own s l ++ own s m
own-append s [] m = rw (own_nil s)
own-append s (r ∷ l) m =
    ⊎_elim
    (λ e. rw (own_here s r (l ++ m) e, own_here s r l e, own-append s l m))
    (λ d. rw (own_past s r (l ++ m) d, own_past s r l d, own-append s l m))
    (same_or_not r.seat s)

-- A seat has no more edits than there are records.
pub own-length : (s : ℕ) (l : List Record) → length (own s l) ≤ length l
own-length s [] = rw (own_nil s) (omega arith)
own-length s (r ∷ l) =
    ⊎_elim
    (λ e. rw (own_here s r l e) (omega (arith, own-length s l)))
    (λ d. rw (own_past s r l d) (omega (arith, own-length s l)))
    (same_or_not r.seat s)

-- Dropping leaves the seat's first k edits.
pub own-kept : (s k : ℕ) (l : List Record) → own s (kept s k l) ≡ take k (own s l)
own-kept s k [] = rw (kept_nil s k, own_nil s) (sym (take-nil k))
own-kept s zero (r ∷ l) =
    ⊎_elim
    (λ e. rw (kept-none s r l e) (own-kept s zero l))
    (λ d. rw (kept_past s r l zero d, own_past s r (kept s zero l) d) (own-kept s zero l))
    (same_or_not r.seat s)
own-kept s (suc k) (r ∷ l) =
    ⊎_elim
    (λ e. rw (kept_here s r l k e, own_here s r (kept s k l) e, own_here s r l e, own-kept s k l))
    (λ d. rw (kept_past s r l (suc k) d, own_past s r (kept s (suc k) l) d, own_past s r l d) (own-kept s (suc k) l))
    (same_or_not r.seat s)

-- Two seats that are not the same.
module _ (s t : ℕ) (apart : t ≡ s → ⊥) where
  -- No record is of both.
  not-both : {n : ℕ} → n ≡ s → n ≡ t → ⊥
  not-both p q = apart (sym q ∙ p)

  -- Dropping from the one, the other keeps all its edits.
  pub own_other : (k : ℕ) (l : List Record) → own t (kept s k l) ≡ own t l
  own_other k [] = rw (kept_nil s k)
  own_other zero (r ∷ l) =
      ⊎_elim
      (λ e. rw (kept-none s r l e, own_past t r l (not-both e)) (own_other zero l))
      (λ d. rw (kept_past s r l zero d) (same_head t r (kept s zero l) l (own_other zero l)))
      (same_or_not r.seat s)
  own_other (suc k) (r ∷ l) =
      ⊎_elim
      (λ e. rw (kept_here s r l k e) (same_head t r (kept s k l) l (own_other k l)))
      (λ d. rw (kept_past s r l (suc k) d) (same_head t r (kept s (suc k) l) l (own_other (suc k) l)))
      (same_or_not r.seat s)

-- Dropping frees as many records as the seat has edits beyond the first k.
pub kept-length : (s k : ℕ) (l : List Record) → length (kept s k l) + (length (own s l) - k) ≡ length l
kept-length s k [] = rw (kept_nil s k, own_nil s) (omega arith)
kept-length s zero (r ∷ l) =
    ⊎_elim
    (λ e. rw (kept-none s r l e, own_here s r l e) (omega (arith, kept-length s zero l)))
    (λ d. rw (kept_past s r l zero d, own_past s r l d) (omega (arith, kept-length s zero l)))
    (same_or_not r.seat s)
kept-length s (suc k) (r ∷ l) =
    ⊎_elim
    (λ e. rw (kept_here s r l k e, own_here s r l e) (omega (arith, kept-length s k l)))
    (λ d. rw (kept_past s r l (suc k) d, own_past s r l d) (omega (arith, kept-length s (suc k) l)))
    (same_or_not r.seat s)

-- The records after a new edit of the seat, of which the first k edits stood.
module _ (s k : ℕ) (e : Edit) (l : List Record) where
  -- The seat has its first k edits and the new one.
  pub own-added : own s (added s k e l) ≡ take k (own s l) ++ (e ∷ [])
  own-added = own-append s (kept s k l) _ ∙ rw (own-kept s k l, own_here s (recorded s e) [] refl, own_nil s)

  -- Another seat has the edits that it had.
  pub other_added : (t : ℕ) → (t ≡ s → ⊥) → own t (added s k e l) ≡ own t l
  other_added t d =
      own-append t (kept s k l) _
      ∙ rw (own_other s t d k l, own_past t (recorded s e) [] (λ (z : s ≡ t). d (sym z)), own_nil t) (append-nil _)

  -- One record more is in use than after the dropping.
  pub added-length : length (added s k e l) ≡ length (kept s k l) + 1
  added-length = length-append (kept s k l) _
