-- What `any` and `all` of a chain answer, where the closure is a test that leaves itself as it was. Assumes nothing.
use mathlib.Core.Path.{◌≡◌, refl, sym, ap₂, ◌∙◌}
use mathlib.Core.Bool.{Bool, true, false, not}
use mathlib.Core.List.{List, [], ◌∷◌}
use Prim.Native.Nat.{ℕ, zero, suc, ◌+◌, ◌<◌}
use native.Mathlib.Omega.{arith}
use lib.Dec.{eqb}
use borrow.Author.Tests.{eq-eqb, eqb-true}
use lib.ListN.{length, set}
use denote.Param.Members.{Mut}
use Rattle.std.specs.Bool.{MatchBool}
use Rattle.std.specs.Fn.{Called}
use Rattle.std.specs.Iterator.{YieldsThen}
use Rattle.std.specs.List.{FoldsTo, AllWithin, HoldsAt, enumerate_from}
use Rattle.std.specs.Option.{MatchOption}
use Rattle.std.specs.Prelude.{Option}
use Rattle.std.proofs.lemmas.Iterator.{YieldsList, cases_from_any, cases_from_all}
use Rattle.basics.specs.Tests.{any_of, each_of, both, either}
use Rattle.basics.proofs.Tests.{fails_if, both_of, both_no, both_second, either_left, either_second, either_no}

module _ {A : Type 0} (test : A → Bool) where
  -- A list with one at some number that passes.
  any_at : (l : List A) (k : ℕ) → k < length l → HoldsAt (λ a. test a ≡ true) l k → any_of test l ≡ true
  unfolding any_of
  any_at [] k h t = absurd (omega arith)
  any_at (a ∷ l) zero h t = either_left _ (t a)
  any_at (a ∷ l) (suc k) h t = either_second (test a) (any_at l k (omega arith) t)

  -- A list with none that passes.
  any_none : (l : List A) → AllWithin (λ a. test a ≡ false) l 0 (length l) → any_of test l ≡ false
  unfolding any_of
  any_none [] t = refl
  any_none (a ∷ l) t = either_no (t 0 a (omega arith) (omega arith)) (any_none l (λ k d low high. t (suc k) d (omega arith) (omega arith)))

  -- A list with one at some number that does not pass.
  each_but : (l : List A) (k : ℕ) → k < length l → HoldsAt (λ a. test a ≡ false) l k → each_of test l ≡ false
  unfolding each_of
  each_but [] k h t = absurd (omega arith)
  each_but (a ∷ l) zero h t = both_no _ (t a)
  each_but (a ∷ l) (suc k) h t = both_second (test a) (each_but l k (omega arith) t)

  -- A list that passes throughout.
  each_all : (l : List A) → AllWithin (λ a. test a ≡ true) l 0 (length l) → each_of test l ≡ true
  unfolding each_of
  each_all [] t = refl
  each_all (a ∷ l) t = both_of (t 0 a (omega arith) (omega arith)) (each_all l (λ k d low high. t (suc k) d (omega arith) (omega arith)))

  -- So what is found at numbers says what one of the list, or each of it, is tested to be.
  any_found : (l : List A) (r : Bool) → MatchBool r ((k : ℕ) × (k < length l) × HoldsAt (λ a. test a ≡ true) l k) (AllWithin (λ a. test a ≡ false) l 0 (length l)) → r ≡ any_of test l
  any_found l true m = sym (any_at l m.0 m.1 m.2)
  any_found l false m = sym (any_none l m)

  each_found : (l : List A) (r : Bool) → MatchBool r (AllWithin (λ a. test a ≡ true) l 0 (length l)) ((k : ℕ) × (k < length l) × HoldsAt (λ a. test a ≡ false) l k) → r ≡ each_of test l
  each_found l true m = sym (each_all l m)
  each_found l false m = sym (each_but l m.0 m.1 m.2)

-- ---- lists with their numbers
-- Two numbers that differ.
differs : (a b : ℕ) → (a ≡ b → ⊥) → eqb a b ≡ false
differs a b n = fails_if (eqb a b) (λ e. n (eqb-true a b e))

module _ {A : Type 0} (test : A → Bool) where
  -- An entry passes whose number is not k.
  abbrev pub passes_beside : ℕ → ℕ × A → Bool
  passes_beside k p = both (not (eqb p.0 k)) (test p.1)

  -- The entry with number k itself does not,
  stands_aside : (k n : ℕ) (a : A) → n ≡ k → passes_beside k (n, a) ≡ false
  unfolding both
  stands_aside k n a e = rw (eq-eqb n k e)

  -- any other does as it is.
  passes_alike : (k n : ℕ) (a : A) → (n ≡ k → ⊥) → passes_beside k (n, a) ≡ test a
  unfolding both
  passes_alike k n a e = rw (differs n k e)

  -- Where number k comes before those of a list, each is tested as it is.
  none_aside : (k n : ℕ) (l : List A) → k < n → any_of (passes_beside k) (enumerate_from n l) ≡ any_of test l
  unfolding any_of
  none_aside k n [] h = refl
  none_aside k n (a ∷ l) h = ap₂ either (passes_alike k n a (λ e. omega arith)) (none_aside k (n + 1) l (omega arith))

  -- So one beside number k passes, where one does once nothing that passes stands at that number.
  pub others_pass : (d : A) → test d ≡ false → (k i n : ℕ) (l : List A) → k ≡ n + i → any_of (passes_beside k) (enumerate_from n l) ≡ any_of test (set l i d)
  unfolding any_of
  others_pass d e k i n [] h = refl
  others_pass d e k zero n (a ∷ l) h = ap₂ either (stands_aside k n a (omega arith) ∙ sym e) (none_aside k (n + 1) l (omega arith))
  others_pass d e k (suc i) n (a ∷ l) h = ap₂ either (passes_alike k n a (λ q. omega arith)) (others_pass d e k i (n + 1) l (omega arith))

-- A chain that gives the list `all`, and a closure that answers a test of what it is given.
module _ {S A B F : Type 0} {steps : S → Option A → S → Type 0} {v : A → B} {g : Mut F (A × Unit {0}) Bool} {s : S} {all : List B} (u : S) (f : F) (test : B → Bool)
    (r : Bool) (yields : YieldsList steps v s all) (answers : (x : A) (b : Bool) (q : F) → Called g f (x, tt) b q → (q ≡ f) × (b ≡ test (v x))) where
  -- `any` answers whether one of the list passes,
  pub any_answers : (xs : List A) × (o : Option A) × (j : F) × YieldsThen steps s xs o u × FoldsTo (λ p x q. Called g p (x, tt) false q) f xs j
      × MatchOption o (r ≡ false) (λ x. (r ≡ true) × ((h : F) × Called g j (x, tt) true h)) → r ≡ any_of test all
  any_answers ran =
      any_found test all r (cases_from_any u f r (λ a. test a ≡ true) (λ a. test a ≡ false) ran yields
      (λ x q k. sym (answers x true q k).1)
      (λ x q k. ((answers x false q k).0, sym (answers x false q k).1)))

  -- `all` whether each does.
  pub each_answers : (xs : List A) × (o : Option A) × (j : F) × YieldsThen steps s xs o u × FoldsTo (λ p x q. Called g p (x, tt) true q) f xs j
      × MatchOption o (r ≡ true) (λ x. (r ≡ false) × ((h : F) × Called g j (x, tt) false h)) → r ≡ each_of test all
  each_answers ran =
      each_found test all r (cases_from_all u f r (λ a. test a ≡ true) (λ a. test a ≡ false) ran yields
      (λ x q k. ((answers x true q k).0, sym (answers x true q k).1))
      (λ x q k. sym (answers x false q k).1))
