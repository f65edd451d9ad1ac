-- Tests of one of a list, of each of it and of any two of it: what the first says, what is left after it, and what a change at one number
-- leaves. Assumes nothing.
use mathlib.Core.Path.{◌≡◌, refl, sym, ap, ◌∙◌}
use mathlib.Core.Bool.{Bool, true, false, not}
use mathlib.Core.List.{List, [], ◌∷◌, ◌++◌}
use Prim.Native.Nat.{ℕ, zero, suc, ◌<◌, ◌≤◌}
use native.Mathlib.Omega.{arith}
use borrow.Author.Tests.{not-true}
use lib.ListN.{length, get_or, set}
use Rattle.basics.specs.Tests.{any_of, each_of, no_two, either}
use Rattle.basics.proofs.Tests.{both_left, both_right, both_of, both_no, both_yes, either_left, either_right, either-false, either_no, either-joined}

-- ---- a list from its front
-- What is left to look through has a first entry.
module _ {A : Type 0} {m l : List A} {a : A} (front : m ≡ a ∷ l) where
  module _ (test : A → Bool) {b : Bool} (e : b ≡ test a) where
    -- An entry that passes is one that does;
    pub any_hit : b ≡ true → any_of test m ≡ true
    unfolding any_of
    any_hit t = rw front (either_left _ (sym e ∙ t))

    -- one that does not is left to the others.
    pub any_miss : b ≡ false → any_of test m ≡ any_of test l
    unfolding any_of
    any_miss t = rw front (either_right _ (sym e ∙ t))

    -- Where the first passes, the others decide whether each does;
    pub each_next : b ≡ true → each_of test m ≡ each_of test l
    unfolding each_of
    each_next t = rw front (both_yes _ (sym e ∙ t))

    -- where it does not, not each does.
    pub each_stop : b ≡ false → each_of test m ≡ false
    unfolding each_of
    each_stop t = rw front (both_no _ (sym e ∙ t))

  module _ (meets : A → A → Bool) {b : Bool} (e : b ≡ any_of (meets a) l) where
    -- Where the first meets none of the others, these decide whether two meet;
    pub two_next : b ≡ false → no_two meets m ≡ no_two meets l
    unfolding no_two
    two_next t = rw front (both_yes _ (ap not (sym e ∙ t)))

    -- where it meets one, two do.
    pub two_stop : b ≡ true → no_two meets m ≡ false
    unfolding no_two
    two_stop t = rw front (both_no _ (ap not (sym e ∙ t)))

-- Nothing is left.
module _ {A : Type 0} {m : List A} (none : m ≡ []) where
  -- None of it passes,
  pub any_end : (test : A → Bool) → any_of test m ≡ false
  unfolding any_of
  any_end test = rw none

  -- each of it does,
  pub each_end : (test : A → Bool) → each_of test m ≡ true
  unfolding each_of
  each_end test = rw none

  -- and no two of it meet.
  pub two_end : (meets : A → A → Bool) → no_two meets m ≡ true
  unfolding no_two
  two_end meets = rw none

-- ---- one of a list
module _ {A : Type 0} (test : A → Bool) where
  -- Where nothing passes, none of a list does.
  pub none_ever : ((a : A) → test a ≡ false) → (l : List A) → any_of test l ≡ false
  unfolding any_of
  none_ever never [] = refl
  none_ever never (a ∷ l) = either_no (never a) (none_ever never l)

  -- Where none passes, none does after a change to one that does not.
  pub none-set : (l : List A) (p : ℕ) (t : A) → any_of test l ≡ false → test t ≡ false → any_of test (set l p t) ≡ false
  unfolding any_of
  none-set [] p t e m = refl
  none-set (a ∷ l) zero t e m = either_no m (either-false _ _ e).1
  none-set (a ∷ l) (suc p) t e m = either_no (either-false _ _ e).0 (none-set l p t (either-false _ _ e).1 m)

  -- Then what stands at any number does not pass, if what stands past the end does not.
  pub none_at : (d : A) (l : List A) (p : ℕ) → any_of test l ≡ false → (length l ≤ p → test d ≡ false) → test (get_or l p d) ≡ false
  unfolding any_of
  none_at d [] p e past = past (omega arith)
  none_at d (a ∷ l) zero e past = (either-false _ _ e).0
  none_at d (a ∷ l) (suc p) e past = none_at d l p (either-false _ _ e).1 (λ k. past (omega arith))

  -- And the other way round.
  pub none_by : (d : A) (l : List A) → ((p : ℕ) → test (get_or l p d) ≡ false) → any_of test l ≡ false
  unfolding any_of
  none_by d [] f = refl
  none_by d (a ∷ l) f = either_no (f 0) (none_by d l (λ p. f (suc p)))

  -- ---- each of a list
  -- Where each passes, each does after a change to one that does.
  pub each_set : (l : List A) (p : ℕ) (t : A) → each_of test l ≡ true → test t ≡ true → each_of test (set l p t) ≡ true
  unfolding each_of
  each_set [] p t e m = refl
  each_set (a ∷ l) zero t e m = both_of m (both_right _ _ e)
  each_set (a ∷ l) (suc p) t e m = both_of (both_left _ _ e) (each_set l p t (both_right _ _ e) m)

  -- Then what stands at any number passes, if what stands past the end does.
  pub each_at : (d : A) (l : List A) (p : ℕ) → each_of test l ≡ true → (length l ≤ p → test d ≡ true) → test (get_or l p d) ≡ true
  unfolding each_of
  each_at d [] p e past = past (omega arith)
  each_at d (a ∷ l) zero e past = both_left _ _ e
  each_at d (a ∷ l) (suc p) e past = each_at d l p (both_right _ _ e) (λ k. past (omega arith))

  module _ (a : A) (l : List A) where
    -- Where each passes, the first does,
    pub each_first : each_of test (a ∷ l) ≡ true → test a ≡ true
    unfolding each_of
    each_first e = both_left _ _ e

    -- and each of the others;
    pub each_rest : each_of test (a ∷ l) ≡ true → each_of test l ≡ true
    unfolding each_of
    each_rest e = both_right _ _ e

    -- and the other way round.
    pub each_more : test a ≡ true → each_of test l ≡ true → each_of test (a ∷ l) ≡ true
    unfolding each_of
    each_more p q = both_of p q

  -- Where each of two lists passes, each of them together does.
  pub each_append : (l m : List A) → each_of test l ≡ true → each_of test m ≡ true → each_of test (l ++ m) ≡ true
  each_append [] m e k = k
  each_append (a ∷ l) m e k = each_more a (l ++ m) (each_first a l e) (each_append l m (each_rest a l e) k)

-- One of two lists joined passes where one of the first does, or of the second.
pub any_append : {A : Type 0} (test : A → Bool) (k l : List A) → any_of test (k ++ l) ≡ either (any_of test k) (any_of test l)
unfolding any_of either
any_append test [] l = refl
any_append test (a ∷ k) l = ap (either (test a)) (any_append test k l) ∙ sym (either-joined (test a) (any_of test k) (any_of test l))

-- ---- any two of a list
module _ {A : Type 0} (meets : A → A → Bool) where
  -- Where no two meet, what stands at two numbers does not, if nothing meets what stands past the end.
  pub two_at : (d : A) (l : List A) (i j : ℕ) → no_two meets l ≡ true → i < j → (length l ≤ j → (a : A) → meets a d ≡ false)
      → meets (get_or l i d) (get_or l j d) ≡ false
  unfolding no_two
  two_at d [] i j e h past = past (omega arith) d
  two_at d (a ∷ l) i zero e h past = absurd (omega arith)
  two_at d (a ∷ l) zero (suc j) e h past = none_at (meets a) d l j (not-true _ (both_left _ _ e)) (λ k. past (omega arith) a)
  two_at d (a ∷ l) (suc i) (suc j) e h past = two_at d l i j (both_right _ _ e) (omega arith) (λ k. past (omega arith))

  -- Meeting goes both ways.
  module _ (turned : (a b : A) → meets a b ≡ meets b a) where
    -- Then one can be changed to another that meets none of the others.
    pub two_set : (d : A) (l : List A) (p : ℕ) (t : A) → no_two meets l ≡ true → any_of (meets t) (set l p d) ≡ false → no_two meets (set l p t) ≡ true
    unfolding no_two any_of
    two_set d [] p t e m = refl
    two_set d (a ∷ l) zero t e m = both_of (ap not (either-false _ _ m).1) (both_right _ _ e)
    two_set d (a ∷ l) (suc p) t e m =
        both_of (ap not (none-set (meets a) l p t (not-true _ (both_left _ _ e)) (turned a t ∙ (either-false _ _ m).0)))
        (two_set d l p t (both_right _ _ e) (either-false _ _ m).1)

    -- None meets another, where nothing meets what is put in its place.
    pub two_other : (d : A) → ((a : A) → meets a d ≡ false) → (l : List A) (p : ℕ) → no_two meets l ≡ true → any_of (meets (get_or l p d)) (set l p d) ≡ false
    unfolding no_two any_of
    two_other d clear [] p e = refl
    two_other d clear (a ∷ l) zero e = either_no (clear a) (not-true _ (both_left _ _ e))
    two_other d clear (a ∷ l) (suc p) e =
        either_no (turned (get_or l p d) a ∙ none_at (meets a) d l p (not-true _ (both_left _ _ e)) (λ k. clear a))
        (two_other d clear l p (both_right _ _ e))
