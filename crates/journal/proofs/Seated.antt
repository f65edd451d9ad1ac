-- Records whose seats are the desk's: dropping and appending keep them so, and the seats own all of them together. From `seated`; assumes nothing.
use mathlib.Core.Path.{◌≡◌, refl}
use mathlib.Core.Bool.{true}
use mathlib.Core.List.{List, [], ◌∷◌}
use mathlib.Core.Logic.{⊎_elim}
use Prim.Native.Nat.{ℕ, zero, suc, ◌+◌, ◌<◌, ◌≤◌}
use native.Mathlib.Omega.{arith}
use borrow.Author.Tests.{ltb-true, lt-ltb}
use lib.ListN.{length}
use Rattle.basics.proofs.Anyone.{each_end, each_first, each_rest, each_more, each_append}
use Rattle.board.proofs.Flat.{same_or_not}
use Rattle.edits.specs.declared.Edit.{Edit}
use Rattle.journal.specs.declared.Record.{Record}
use Rattle.journal.specs.Journal.{most_seats, recorded, kept, added, of_desk, seated, own}
use Rattle.journal.proofs.Own.{own_nil, own_here, own_past, kept_nil, kept_here, kept-none, kept_past}

-- One record more at the front.
module _ (r : Record) (l : List Record) where
  -- Where all are seated, so is the first;
  seated_first : seated (r ∷ l) ≡ true → r.seat < most_seats
  seated_first h = ltb-true _ _ (each_first of_desk r l h)

  -- where it is and the others are, all are.
  seated_cons : r.seat < most_seats → seated l ≡ true → seated (r ∷ l) ≡ true
  seated_cons p q = each_more of_desk r l (lt-ltb _ _ p) q

-- Dropping keeps records seated.
pub seated-kept : (s k : ℕ) (l : List Record) → seated l ≡ true → seated (kept s k l) ≡ true
seated-kept s k [] h = rw (kept_nil s k) h
seated-kept s zero (r ∷ l) h =
    let i : seated (kept s zero l) ≡ true = seated-kept s zero l (each_rest of_desk r l h) in
    ⊎_elim
    (λ e. rw (kept-none s r l e) i)
    (λ d. rw (kept_past s r l zero d) (seated_cons r (kept s zero l) (seated_first r l h) i))
    (same_or_not r.seat s)
seated-kept s (suc k) (r ∷ l) h =
    ⊎_elim
    (λ e. rw (kept_here s r l k e) (seated_cons r (kept s k l) (seated_first r l h) (seated-kept s k l (each_rest of_desk r l h))))
    (λ d. rw (kept_past s r l (suc k) d) (seated_cons r (kept s (suc k) l) (seated_first r l h) (seated-kept s (suc k) l (each_rest of_desk r l h))))
    (same_or_not r.seat s)

-- A new edit of one of the desk's seats keeps them so.
pub seated-added : (s k : ℕ) (e : Edit) (l : List Record) → s < most_seats → seated l ≡ true → seated (added s k e l) ≡ true
seated-added s k e l p h = each_append of_desk (kept s k l) _ (seated-kept s k l h) (seated_cons (recorded s e) [] p (each_end refl of_desk))

-- How many records the seats below n own together.
unfoldable pub owned_below : ℕ → List Record → ℕ
owned_below zero l = 0
owned_below (suc n) l = owned_below n l + length (own n l)

-- Of no records the seats own none.
owned_nil : (n : ℕ) → owned_below n [] ≡ 0
unfolding owned_below
owned_nil zero = refl
owned_nil (suc n) = rw (own_nil n) (omega (arith, owned_nil n))

-- A record is owned by none of the seats below its own,
owned_past : (n : ℕ) (r : Record) (l : List Record) → n ≤ r.seat → owned_below n (r ∷ l) ≡ owned_below n l
unfolding owned_below
owned_past zero r l h = refl
owned_past (suc n) r l h =
    rw (own_past n r l (λ (e : r.seat ≡ n). omega arith)) (omega (arith, owned_past n r l (omega arith)))

-- and once by those up to it.
owned_here : (n : ℕ) (r : Record) (l : List Record) → r.seat < n → owned_below n (r ∷ l) ≡ owned_below n l + 1
unfolding owned_below
owned_here zero r l h = absurd (omega arith)
owned_here (suc n) r l h =
    ⊎_elim
    (λ e. rw (own_here n r l e) (omega (arith, owned_past n r l (omega arith))))
    (λ d. rw (own_past n r l d) (omega (arith, owned_here n r l (omega arith))))
    (same_or_not r.seat n)

-- The seats own all records together: their edits' numbers add up to the number of records.
pub owned_all : (l : List Record) → seated l ≡ true → owned_below most_seats l ≡ length l
owned_all [] h = owned_nil most_seats
owned_all (r ∷ l) h =
    omega (arith, owned_here most_seats r l (seated_first r l h), owned_all l (each_rest of_desk r l h))
