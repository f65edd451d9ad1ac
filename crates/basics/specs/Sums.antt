-- Sums and counts.
use Rattle.std.specs.Prelude.{Bool, true, false, List, [], ◌∷◌, ℕ, suc, ◌+◌}
use Rattle.basics.specs.Tests.{choose, any_of}

-- The sum of some numbers.
unfoldable pub sum : List ℕ → ℕ
sum [] = 0
sum (n ∷ l) = n + sum l

-- 1 where a test holds, else 0.
abbrev pub one_if : Bool → ℕ
one_if true = 1
one_if false = 0

-- How many members of a list pass a test.
unfoldable pub how_many : {A : Type 0} → (A → Bool) → List A → ℕ
how_many test [] = 0
how_many test (a ∷ l) = one_if (test a) + how_many test l

-- How many different ones a list has, by a test of being the same: one that comes again later is not counted here.
unfoldable pub different : {A : Type 0} → (A → A → Bool) → List A → ℕ
different same [] = 0
different same (a ∷ l) = choose (any_of (same a) l) (different same l) (suc (different same l))
