-- Tests: each holds or fails, and what joined tests say of their parts. Assumes nothing.
use mathlib.Core.Path.{◌≡◌, refl, sym, ◌∙◌}
use mathlib.Core.Bool.{Bool, true, false, true≢false}
use mathlib.Core.Logic.{◌⊎◌, inl, inr}
use Rattle.basics.specs.Tests.{both, either, choose}

-- A test holds or fails,
pub decide : (t : Bool) → (t ≡ true) ⊎ (t ≡ false)
decide true = inl refl
decide false = inr refl

-- and none does both.
pub opposite : {t : Bool} → t ≡ true → t ≡ false → ⊥
opposite e f = true≢false (sym e ∙ f)

-- What does not hold fails.
pub fails_if : (t : Bool) → (t ≡ true → ⊥) → t ≡ false
fails_if true h = absurd (h refl)
fails_if false h = refl

-- Where both hold, the first holds,
pub both_left : (a b : Bool) → both a b ≡ true → a ≡ true
unfolding both
both_left true b e = refl
both_left false b e = e

-- and so does the second;
pub both_right : (a b : Bool) → both a b ≡ true → b ≡ true
unfolding both
both_right true b e = e
both_right false b e = cc

-- where each holds, both hold.
pub both_of : {a b : Bool} → a ≡ true → b ≡ true → both a b ≡ true
unfolding both
both_of p q = rw (p, q)

-- Where the first fails, they do not both hold;
pub both_no : {a : Bool} (b : Bool) → a ≡ false → both a b ≡ false
unfolding both
both_no b p = rw p

-- Where the second fails, both do not hold.
pub both_second : (a : Bool) {b : Bool} → b ≡ false → both a b ≡ false
unfolding both
both_second true e = e
both_second false e = refl

-- where it holds, the second decides.
pub both_yes : {a : Bool} (b : Bool) → a ≡ true → both a b ≡ b
unfolding both
both_yes b p = rw p

-- What comes second matters only where the first holds.
pub both_if : (a : Bool) {b c : Bool} → (a ≡ true → b ≡ c) → both a b ≡ both a c
unfolding both
both_if true h = h refl
both_if false h = refl

-- Where not both hold, one of them fails.
pub both_false : (a b : Bool) → both a b ≡ false → (a ≡ false) ⊎ (b ≡ false)
unfolding both
both_false true b e = inr e
both_false false b e = inl refl

-- A test with one that fails after it does not hold,
pub both-none : (a : Bool) → both a false ≡ false
unfolding both
both-none true = refl
both-none false = refl

-- with one that holds it is the test itself,
pub both_true : (a : Bool) → both a true ≡ a
unfolding both
both_true true = refl
both_true false = refl

-- and which comes first does not matter.
pub both_swap : (a b : Bool) → both a b ≡ both b a
unfolding both
both_swap true true = refl
both_swap true false = refl
both_swap false true = refl
both_swap false false = refl

-- Where one of two holds, the first does or the second.
pub either_which : (a b : Bool) → either a b ≡ true → (a ≡ true) ⊎ (b ≡ true)
unfolding either
either_which true b e = inl refl
either_which false b e = inr e

-- Where the first holds, one of them does;
pub either_left : {a : Bool} (b : Bool) → a ≡ true → either a b ≡ true
unfolding either
either_left b p = rw p

-- where the second does, so it is too;
pub either_second : (a : Bool) {b : Bool} → b ≡ true → either a b ≡ true
unfolding either
either_second true e = refl
either_second false e = e

-- where the first fails, the second decides,
pub either_right : {a : Bool} (b : Bool) → a ≡ false → either a b ≡ b
unfolding either
either_right b p = rw p

-- and where the second does, the first.
pub either-none : (a : Bool) → either a false ≡ a
unfolding either
either-none true = refl
either-none false = refl

-- One of three, whichever two are joined first.
pub either-joined : (a b c : Bool) → either (either a b) c ≡ either a (either b c)
unfolding either
either-joined true b c = refl
either-joined false b c = refl

-- Which comes first does not matter.
pub either_swap : (a b : Bool) → either a b ≡ either b a
unfolding either
either_swap true true = refl
either_swap true false = refl
either_swap false true = refl
either_swap false false = refl

-- Where neither holds, each fails,
pub either-false : (a b : Bool) → either a b ≡ false → (a ≡ false) × (b ≡ false)
unfolding either
either-false true b e = absurd (opposite refl e)
either-false false b e = (refl, e)

-- and the other way round.
pub either_no : {a b : Bool} → a ≡ false → b ≡ false → either a b ≡ false
unfolding either
either_no p q = rw (p, q)

-- Two tests that hold together are the same.
pub same_test : (a b : Bool) → (a ≡ true → b ≡ true) → (b ≡ true → a ≡ true) → a ≡ b
same_test true true f g = refl
same_test true false f g = sym (f refl)
same_test false true f g = g refl
same_test false false f g = refl

-- A choice by a test that holds is the first;
pub choose_yes : {A : Type 0} {t : Bool} (a b : A) → t ≡ true → choose t a b ≡ a
unfolding choose
choose_yes a b p = rw p

-- by one that fails, the second.
pub choose_no : {A : Type 0} {t : Bool} (a b : A) → t ≡ false → choose t a b ≡ b
unfolding choose
choose_no a b p = rw p

-- Of two that are the same it does not matter which is chosen.
pub choose-same : {A : Type 0} (t : Bool) (a : A) → choose t a a ≡ a
unfolding choose
choose-same true a = refl
choose-same false a = refl

-- What came out of a choice and is not its second thing is its first, and the test held;
pub first_chosen : {A : Type 0} {a b x : A} (t : Bool) → (x ≡ b → ⊥) → x ≡ choose t a b → (t ≡ true) × (x ≡ a)
unfolding choose
first_chosen true n e = (refl, e)
first_chosen false n e = absurd (n e)

-- what is not its first is its second, and the test failed.
pub second_chosen : {A : Type 0} {a b x : A} (t : Bool) → (x ≡ a → ⊥) → x ≡ choose t a b → (t ≡ false) × (x ≡ b)
unfolding choose
second_chosen true n e = absurd (n e)
second_chosen false n e = (refl, e)

-- Two tests made one after the other, the second only where the first holds.
pub both_arm : {s t a b : Bool} → s ≡ a → t ≡ b → s ≡ true → t ≡ both a b
unfolding both
both_arm p q h = rw (← p, h) q

-- Where the first fails, the second is not made.
pub both_stop : {s a : Bool} (b : Bool) → s ≡ a → s ≡ false → false ≡ both a b
unfolding both
both_stop b p h = rw (← p, h)
