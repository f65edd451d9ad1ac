-- Which of two pairs comes before the other is what their derived order says: part by part, then number by number. Assumes nothing.
use Rattle.std.proofs.Common.{◌≡◌, ℕ, Bool, true, false, cond, ltb, Option, Some, Less, Equal, Greater, Ordering, refl, arith}
use Rattle.std.specs.Ordering.{partial_lt, partial_ordering_then, is_some_and, is_lt, nat_cmp}
use Rattle.std.proofs.lemmas.Bool.Decides.{nat_tests}
use Rattle.basics.specs.Tests.{choose}
use Rattle.tree.specs.declared.Pair.{Pair}
use Rattle.tree.specs.Weight.{by_part, by_number, comes_before}
use Rattle.tree.specs.contracts.PairPartialOrd.TheImpl.{partial_cmp-value}

-- How two parts compare, by whether the first is less and whether the second is.
abbrev compared : Bool → Bool → Option Ordering
compared less more = Some (cond less Less (cond more Greater Equal))

-- Three parts and then the rest.
by_weight : (a a' b b' c c' : Bool) (rest : Option Ordering)
    → is_some_and is_lt (partial_ordering_then (partial_ordering_then (compared a a') (partial_ordering_then (compared b b') (compared c c'))) rest)
    ≡ choose a true (choose a' false (choose b true (choose b' false (choose c true (choose c' false (is_some_and is_lt rest))))))
unfolding choose
by_weight true a' b b' c c' rest = refl
by_weight false true b b' c c' rest = refl
by_weight false false true b' c c' rest = refl
by_weight false false false true c c' rest = refl
by_weight false false false false true c' rest = refl
by_weight false false false false false true rest = refl
by_weight false false false false false false rest = refl

-- The smaller numbers and then the larger.
by_numbers : (i j k l : ℕ) → is_some_and is_lt (partial_ordering_then (Some (nat_cmp i j)) (Some (nat_cmp k l))) ≡ by_number i j (ltb k l)
unfolding by_number choose
by_numbers i j k l = grind (arith, nat_tests)

-- THE DERIVED ORDER OF PAIRS IS `comes_before`.
pub derived_order : (p q : Pair) → partial_lt partial_cmp-value.it p q ≡ comes_before p q
unfolding comes_before by_part
derived_order p q = rw (by_weight _ _ _ _ _ _ _, by_numbers p.low q.low p.high q.high)
