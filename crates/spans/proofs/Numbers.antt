-- The numbers of spans as a list; the lengths of a clean list add up to how many different numbers it covers. Assumes nothing.
use mathlib.Core.Path.{◌≡◌, refl, sym, ap, ◌∙◌}
use mathlib.Core.List.{List, [], ◌∷◌, ◌++◌}
use mathlib.Core.Logic.{◌⊎◌, inl, inr}
use Prim.Native.Nat.{ℕ, zero, suc, ◌+◌, ◌-◌, ◌≤◌, ◌<◌}
use native.Mathlib.Omega.{arith}
use native.Mathlib.Decide.{ℕ_discrete}
use lib.Dec.{eqb}
use Rattle.basics.specs.Tests.{choose}
use Rattle.basics.specs.Lists.{Among, first, later}
use Rattle.basics.specs.Sums.{different}
use Rattle.basics.proofs.Members.{in_front, in_back, in_either}
use Rattle.basics.proofs.Different.{not-among, same-different}
use Rattle.spans.specs.declared.Span.{Span}
use Rattle.spans.specs.Spans.{cleaned}
use Rattle.spans.proofs.Lists as Lists
use Rattle.spans.proofs.Lists.{Covered, CleanFrom, done, next, covered_from}
use Rattle.spans.proofs.Insert.{cleaned_clean, cleaned_alike}

-- So many numbers from one on.
unfoldable pub up_from : ℕ → ℕ → List ℕ
up_from a zero = []
up_from a (suc k) = a ∷ up_from (suc a) k

-- How many numbers a span has.
abbrev pub long_of : Span → ℕ
long_of s = s.high - s.low

-- The numbers of a span.
abbrev pub numbers_of : Span → List ℕ
numbers_of s = up_from s.low (long_of s)

-- The numbers of spans, one after another.
unfoldable pub numbers_of_all : List Span → List ℕ
numbers_of_all [] = []
numbers_of_all (s ∷ l) = numbers_of s ++ numbers_of_all l

-- The lengths of spans added up.
unfoldable pub total : List Span → ℕ
total [] = 0
total (s ∷ l) = long_of s + total l

-- A number from a on that is below a + k is one of the k numbers from a on,
pub up_in : (a k n : ℕ) → a ≤ n → n < a + k → Among n (up_from a k)
unfolding up_from
up_in a zero n h m = absurd (omega arith)
up_in a (suc k) n h m = by_test (ℕ_discrete n a) (λ v. up_in (suc a) k n v (omega arith))
  where
    by_test : Dec (n ≡ a) → (suc a ≤ n → Among n (up_from (suc a) k)) → Among n (a ∷ up_from (suc a) k)
    by_test (yes e) rest = first e
    by_test (no e) rest = later (rest (omega arith))

-- and no other number is.
pub up_only : {n : ℕ} (a k : ℕ) → Among n (up_from a k) → (a ≤ n) × (n < a + k)
unfolding up_from
up_only {n = n} a zero h = elim h [ ]
up_only a (suc k) (first e) = omega arith
up_only a (suc k) (later h) = omega (arith, up_only (suc a) k h)

-- A number that spans cover is one of their numbers,
pub covered_in : {n : ℕ} {l : List Span} → Covered n l → Among n (numbers_of_all l)
unfolding numbers_of_all
covered_in {n} (Lists.here {s = s} {l = l} h) = in_front (numbers_of_all l) (up_in s.low (long_of s) n h.from (omega arith))
covered_in (Lists.later {s = s} h) = in_back (numbers_of s) (covered_in h)

-- and each of their numbers is covered.
pub in_covered : {n : ℕ} (l : List Span) → Among n (numbers_of_all l) → Covered n l
unfolding numbers_of_all
in_covered {n = n} [] h = elim h [ ]
in_covered {n} (s ∷ l) h = by_part (in_either (numbers_of s) h) (λ k. in_covered l k)
  where
    by_part : Among n (numbers_of s) ⊎ Among n (numbers_of_all l) → (Among n (numbers_of_all l) → Covered n l) → Covered n (s ∷ l)
    by_part (inl k) rest = Lists.here {s = s} (let b : (s.low ≤ n) × (n < s.low + long_of s) = up_only s.low (long_of s) k in omega arith)
    by_part (inr k) rest = Lists.later (rest k)

-- The k numbers from a on, before larger ones, are all different, and none of them comes again.
up_different : (a k : ℕ) (l : List ℕ) → ((n : ℕ) → Among n l → a + k ≤ n) → different eqb (up_from a k ++ l) ≡ k + different eqb l
unfolding up_from different choose
up_different a zero l h = omega arith
up_different a (suc k) l h =
    rw (not-among {n = a} (up_from (suc a) k ++ l) absent, up_different (suc a) k l (λ n m. omega (arith, h n m))) (omega arith)
  where
    larger : (n : ℕ) → Among n (up_from (suc a) k) ⊎ Among n l → a < n
    larger n (inl m) = omega (arith, up_only (suc a) k m)
    larger n (inr m) = omega (arith, h n m)

    absent : Among a (up_from (suc a) k ++ l) → ⊥
    absent m = omega (arith, larger a (in_either (up_from (suc a) k) m))

-- A clean list's numbers are all different: its lengths add up to how many it has.
pub clean_total : {b : ℕ} {l : List Span} → CleanFrom b l → different eqb (numbers_of_all l) ≡ total l
unfolding numbers_of_all total different
clean_total done = refl
clean_total (next {s = s} {l = l} p q c) =
    up_different s.low (long_of s) (numbers_of_all l) (λ n h. omega (arith, covered_from c (in_covered l h)))
    ∙ ap (λ (n : ℕ). long_of s + n) (clean_total c)

-- The lengths of the clean list of some spans add up to how many different numbers the spans have.
pub cleaned_total : (ss : List Span) → total (cleaned ss) ≡ different eqb (numbers_of_all ss)
cleaned_total ss =
    sym (clean_total (cleaned_clean ss))
    ∙ same-different (numbers_of_all (cleaned ss)) (numbers_of_all ss)
    (λ n h. covered_in ((cleaned_alike ss).there n (in_covered (cleaned ss) h)))
    (λ n h. covered_in ((cleaned_alike ss).back n (in_covered ss h)))
