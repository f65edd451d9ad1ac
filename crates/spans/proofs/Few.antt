-- The clean list has no more spans than were put in. Assumes nothing.
use mathlib.Core.Bool.{Bool, true, false}
use mathlib.Core.List.{List, [], ◌∷◌}
use Prim.Native.Nat.{suc, ◌+◌, ◌≤◌}
use native.Mathlib.Omega.{arith}
use lib.Dec.{ltb}
use Rattle.std.proofs.Common.{Option, Some, None}
use lib.ListN.{length}
use Rattle.basics.specs.Tests.{choose}
use Rattle.spans.specs.declared.Span.{Span}
use Rattle.spans.specs.Spans.{left, carried, with_left, insert, add, add_all, cleaned}

-- What is left behind makes a list longer by at most one.
with_left_few : (o : Option Span) (l : List Span) → length (with_left o l) ≤ suc (length l)
unfolding with_left
with_left_few None l = omega arith
with_left_few (Some s) l = omega arith

-- A span put in makes the list longer by at most one,
insert_few : (s : Span) (l : List Span) → length (insert s l) ≤ suc (length l)
unfolding insert
insert_few s [] = omega arith
insert_few s (t ∷ l) =
    omega (arith, with_left_few (left s t) (insert (carried s t) l), insert_few (carried s t) l)

-- and so does a span added,
add_few : (s : Span) (l : List Span) → length (add s l) ≤ suc (length l)
unfolding add choose
add_few s l = by_test (ltb s.low s.high)
  where
    by_test : (b : Bool) → length (choose b (insert s l) l) ≤ suc (length l)
    by_test true = insert_few s l
    by_test false = omega arith

-- and spans added one after another make it longer by at most as many as they are:
all_few : (ss l : List Span) → length (add_all ss l) ≤ length ss + length l
unfolding add_all
all_few [] l = omega arith
all_few (s ∷ ss) l = omega (arith, all_few ss (add s l), add_few s l)

-- the clean list has no more spans than were put in.
pub cleaned_few : (ss : List Span) → length (cleaned ss) ≤ length ss
cleaned_few ss = omega (arith, all_few ss [])
