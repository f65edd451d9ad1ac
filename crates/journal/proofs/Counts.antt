-- How many records each seat owns: each count is that of the seat's edits, and what one record more makes of them. From `counts_of`; assumes nothing.
use mathlib.Core.Path.{◌≡◌, refl, sym, ◌∙◌}
use mathlib.Core.List.{List, [], ◌∷◌, ◌++◌, append-nil}
use mathlib.Core.Logic.{⊎_elim}
use Prim.Native.Nat.{ℕ, ◌+◌, ◌<◌, ◌≤◌}
use native.Mathlib.Omega.{arith}
use lib.ListN.{length, take, get_or, set, replicate, length-append, length-set}
use lib.Seq.{length-take-le, get_or-set_same, get_or-set_other, ext_get_or}
use Rattle.basics.specs.Lists.{values_from}
use Rattle.basics.proofs.Lists.{first_more, values_long, value_at}
use Rattle.board.proofs.Flat.{same_or_not}
use Rattle.journal.specs.declared.Record.{Record}
use Rattle.journal.specs.Journal.{most_seats, blank, own, counts_of}
use Rattle.journal.proofs.Own.{own_nil, own_here, own_past, own-append, own-length}

-- Each seat of the desk has its count,
counts_length : (l : List Record) → length (counts_of l) ≡ most_seats
counts_length l = values_long (λ s. length (own s l)) 0 most_seats

-- which is how many edits are the seat's.
pub count_at : (l : List Record) (s : ℕ) → s < most_seats → get_or (counts_of l) s 0 ≡ length (own s l)
count_at l s h = value_at (λ t. length (own t l)) most_seats s 0 h

-- No count is above the number of records.
count_most : (l : List Record) (s : ℕ) → s < most_seats → get_or (counts_of l) s 0 ≤ length l
count_most l s h = omega (arith, count_at l s h, own-length s l)

-- Of no records no seat owns one.
pub counts_nil : counts_of [] ≡ replicate most_seats 0
unfolding values_from own
counts_nil = refl

-- One record more, after the others.
module _ (l : List Record) (r : Record) where
  -- Its seat owns one more;
  one_more : (s : ℕ) → r.seat ≡ s → length (own s (l ++ (r ∷ []))) ≡ length (own s l) + 1
  one_more s e = rw (own-append s l (r ∷ []), own_here s r [] e, own_nil s) (length-append (own s l) _)

  -- any other owns what it owned.
  no_more : (s : ℕ) → (r.seat ≡ s → ⊥) → length (own s (l ++ (r ∷ []))) ≡ length (own s l)
  no_more s d = rw (own-append s l (r ∷ []), own_past s r [] d, own_nil s, append-nil (own s l))

  -- Its seat's count, and one more.
  abbrev n : ℕ
  n = get_or (counts_of l) r.seat 0 + 1

  -- The counts after it are those of the desk's seats.
  after : (i : ℕ) → i < length (counts_of (l ++ (r ∷ []))) → i < most_seats
  after i k = omega (arith, counts_length (l ++ (r ∷ [])))

  -- The count of its seat is one more and the others stay,
  counts_more : r.seat < most_seats → counts_of (l ++ (r ∷ [])) ≡ set (counts_of l) r.seat n
  counts_more h = ext_get_or 0 (counts_of (l ++ (r ∷ []))) _ (counts_length _ ∙ sym (length-set (counts_of l) _ _ ∙ counts_length l)) each
    where
      here : length (own r.seat (l ++ (r ∷ []))) ≡ get_or (set (counts_of l) r.seat n) r.seat 0
      here =
          let b : r.seat < length (counts_of l) = omega (arith, counts_length l) in
          omega (arith, one_more r.seat refl, count_at l r.seat h, get_or-set_same (counts_of l) r.seat n 0 b)

      past : (i : ℕ) → i < most_seats → (r.seat ≡ i → ⊥) → length (own i (l ++ (r ∷ []))) ≡ get_or (set (counts_of l) r.seat n) i 0
      past i g d = no_more i d ∙ sym (get_or-set_other (counts_of l) r.seat i n 0 (λ (z : i ≡ r.seat). d (sym z)) ∙ count_at l i g)

      each : (i : ℕ) → i < length (counts_of (l ++ (r ∷ []))) → get_or (counts_of (l ++ (r ∷ []))) i 0 ≡ get_or (set (counts_of l) r.seat n) i 0
      each i k = count_at _ i (after i k) ∙ ⊎_elim (λ (z : r.seat ≡ i). rw (← z) here) (past i (after i k)) (same_or_not r.seat i)

  -- or all stay, where it is none of the desk's.
  counts_same : most_seats ≤ r.seat → counts_of (l ++ (r ∷ [])) ≡ counts_of l
  counts_same h = ext_get_or 0 (counts_of (l ++ (r ∷ []))) (counts_of l) (counts_length _ ∙ sym (counts_length l)) each
    where
      each : (i : ℕ) → i < length (counts_of (l ++ (r ∷ []))) → get_or (counts_of (l ++ (r ∷ []))) i 0 ≡ get_or (counts_of l) i 0
      each i k =
          let g : i < most_seats = after i k in
          count_at _ i g ∙ no_more i (λ (z : r.seat ≡ i). omega arith) ∙ sym (count_at l i g)

-- A pass over the records: the counts are those of the records before i.
module _ (j : List Record) (i : ℕ) (c : List ℕ) (f : i < length j) (e : c ≡ counts_of (take i j)) where
  -- Where it is of a seat of the desk, that seat's count is one more;
  pub pass_more : (get_or j i blank).seat < most_seats
      → set c (get_or j i blank).seat (get_or c (get_or j i blank).seat 0 + 1) ≡ counts_of (take (i + 1) j)
  pass_more h = rw (← first_more blank j i f, e) (sym (counts_more (take i j) (get_or j i blank) h))

  -- where it is not, all stay.
  pub pass_same : most_seats ≤ (get_or j i blank).seat → c ≡ counts_of (take (i + 1) j)
  pass_same h = rw (← first_more blank j i f, e) (sym (counts_same (take i j) (get_or j i blank) h))

  -- A count so far is at most i.
  pub pass_most : (s : ℕ) → s < most_seats → get_or c s 0 ≤ i
  pass_most s h = rw e (omega (arith, count_most (take i j) s h, length-take-le i j (omega arith)))

-- What the pass takes, one record after the other.
pub ruleset passing = (counts_nil, pass_more, pass_same, pass_most)
