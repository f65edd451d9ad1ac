-- How many different numbers a list has depends on nothing but which they are. Assumes nothing.
use mathlib.Core.Path.{◌≡◌, refl, sym, ap, ◌∙◌}
use mathlib.Core.Bool.{Bool, true, false}
use mathlib.Core.List.{List, [], ◌∷◌}
use mathlib.Core.Logic.{◌≢◌}
use Prim.Native.Nat.{ℕ, suc, ◌+◌, ◌<◌, ◌≤◌}
use native.Mathlib.Omega.{arith}
use lib.Dec.{eqb}
use borrow.Author.Tests.{eqb-true, eq-eqb, ne_eqb}
use Rattle.basics.specs.Tests.{choose, either, any_of}
use Rattle.basics.specs.Lists.{Among, first, later}
use Rattle.basics.specs.Sums.{one_if, sum, different}
use Rattle.basics.proofs.Tests.{either_left, either_second, fails_if, same_test, opposite}
use Rattle.basics.proofs.Sums.{sum_below, sum_same, sum-none, sum_but_one}

-- ---- membership by a test
-- What passes the test is a member, where the test tells the same from the other,
pub test_among : {A : Type 0} (same : A → A → Bool) → ((a b : A) → same a b ≡ true → a ≡ b) → {a : A} (l : List A) → any_of (same a) l ≡ true → Among a l
unfolding any_of either
test_among same tells [] e = absurd (opposite e refl)
test_among {A} same tells {a} (b ∷ l) e = go (same a b) refl e (λ k. test_among same tells l k)
  where
    go : (t : Bool) → same a b ≡ t → either t (any_of (same a) l) ≡ true → (any_of (same a) l ≡ true → Among a l) → Among a (b ∷ l)
    go true f g rest = first (tells a b f)
    go false f g rest = later (rest g)

-- and a member passes it.
pub among_test : {A : Type 0} (same : A → A → Bool) → ((a : A) → same a a ≡ true) → {a : A} {l : List A} → Among a l → any_of (same a) l ≡ true
unfolding any_of
among_test same self {a} (first {b = b} e) = either_left _ (ap (same a) (sym e) ∙ self a)
among_test same self {a} (later {b = b} h) = either_second (same a b) (among_test same self h)

-- ---- numbers
-- A number is one of these, by the test.
abbrev among : ℕ → List ℕ → Bool
among n l = any_of (eqb n) l

-- What passes it is one of them,
in_list : {n : ℕ} (l : List ℕ) → among n l ≡ true → Among n l
in_list l e = test_among eqb (λ a b h. eqb-true a b h) l e

-- and one of them passes it.
is_among : {n : ℕ} {l : List ℕ} → Among n l → among n l ≡ true
is_among h = among_test eqb (λ a. eq-eqb a a refl) h

-- What is none of them fails it.
pub not-among : {n : ℕ} (l : List ℕ) → (Among n l → ⊥) → among n l ≡ false
not-among {n} l h = fails_if (among n l) (λ e. h (in_list l e))

-- Lists with the same members pass the same tests.
same-among : (l m : List ℕ) → ((n : ℕ) → Among n l → Among n m) → ((n : ℕ) → Among n m → Among n l) → (n : ℕ) → among n l ≡ among n m
same-among l m f g n = same_test (among n l) (among n m) (λ e. is_among (f n (in_list l e))) (λ e. is_among (g n (in_list m e)))

-- No member is larger than the sum.
below-sum : {n : ℕ} {l : List ℕ} → Among n l → n ≤ sum l
unfolding sum
below-sum (first e) = omega arith
below-sum (later h) = omega (arith, below-sum h)

-- A number once more: where it is there already, no test changes;
once_more : (x : ℕ) (l : List ℕ) → among x l ≡ true → (n : ℕ) → among n (x ∷ l) ≡ among n l
unfolding any_of either
once_more x l e n = go (eqb n x) refl
  where
    go : (t : Bool) → eqb n x ≡ t → either t (among n l) ≡ among n l
    go true f = let same : n ≡ x = eqb-true n x f in sym (rw same e)
    go false f = refl

-- where it is not, its own does and no other.
alone : (x : ℕ) (l : List ℕ) (n : ℕ) → n ≢ x → among n (x ∷ l) ≡ among n l
unfolding any_of either
alone x l n d = rw (ne_eqb n x d)

-- How many different numbers a list has is how many numbers below a bound are among them.
different-below : (l : List ℕ) (bound : ℕ) → sum l < bound → different eqb l ≡ sum_below bound (λ n. one_if (among n l))
unfolding different sum choose
different-below [] bound h = sym (sum-none bound (λ n. one_if (among n [])) (λ n k. ap one_if (not-among {n = n} [] (elim [ ]))))
different-below (x ∷ l) bound h = go (among x l) refl (different-below l bound (omega arith))
  where
    go : (t : Bool) → among x l ≡ t → different eqb l ≡ sum_below bound (λ n. one_if (among n l))
        → choose t (different eqb l) (suc (different eqb l)) ≡ sum_below bound (λ n. one_if (among n (x ∷ l)))
    go true e ih = ih ∙ sym (sum_same bound (λ n. one_if (among n (x ∷ l))) (λ n. one_if (among n l)) (λ n k. ap one_if (once_more x l e n)))
    go false e ih =
        let one : one_if (among x (x ∷ l)) ≡ 1 = ap one_if (is_among (first refl)) in
        let none : one_if (among x l) ≡ 0 = ap one_if e in
        let s = sum_but_one bound x (λ n. one_if (among n (x ∷ l))) (λ n. one_if (among n l)) (omega arith) (λ n k d. ap one_if (alone x l n d)) in
        omega (arith, s, one, none, ih)

-- How many different numbers a list has depends only on which they are.
pub same-different : (l m : List ℕ) → ((n : ℕ) → Among n l → Among n m) → ((n : ℕ) → Among n m → Among n l) → different eqb l ≡ different eqb m
same-different l m f g =
    different-below l (suc (sum l + sum m)) (omega arith)
    ∙ sum_same (suc (sum l + sum m)) (λ n. one_if (among n l)) (λ n. one_if (among n m)) (λ n h. ap one_if (same-among l m f g n))
    ∙ sym (different-below m (suc (sum l + sum m)) (omega arith))
