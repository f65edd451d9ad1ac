-- Entries by their numbers: how many, a change at one number only, a test that matters at one number only, a change and the change back. Assumes nothing.
use mathlib.Core.Path.{◌≡◌, refl, sym, ap, ap₂, ◌∙◌}
use mathlib.Core.Bool.{Bool, true}
use mathlib.Core.List.{List, [], ◌∷◌}
use Prim.Native.Nat.{ℕ, zero, suc, ◌+◌, ◌<◌, ◌≤◌}
use native.Mathlib.Omega.{arith}
use lib.ListN.{length, get_or, set}
use Rattle.basics.specs.Tests.{each_of}
use Rattle.basics.specs.Lists.{numbered}
use Rattle.basics.proofs.Tests.{both_left, both_right, both_of, both_yes, both_true}

-- There are as many as entries.
pub numbered_long : {A B : Type 0} (f : ℕ → A → B) (i : ℕ) (l : List A) → length (numbered f i l) ≡ length l
unfolding numbered
numbered_long f i [] = refl
numbered_long f i (a ∷ l) = ap suc (numbered_long f (suc i) l)

-- A number from i on is not one before i.
later : {i n : ℕ} → suc i ≤ n → n ≡ i + 0 → ⊥
later h e = omega arith

module _ {A : Type 0} (f : ℕ → A → A) where
  -- Where f changes no entry from number i on, all stay.
  none_changed : (i : ℕ) (l : List A) → ((n : ℕ) (a : A) → i ≤ n → f n a ≡ a) → numbered f i l ≡ l
  unfolding numbered
  none_changed i [] same = refl
  none_changed i (a ∷ l) same = ap₂ (λ (x : A) (m : List A). x ∷ m) (same i a (omega arith)) (none_changed (suc i) l (λ n b h. same n b (omega arith)))

  -- Where it changes the k-th from i on alone, that one is changed.
  changed_from : (d : A) (i k : ℕ) (l : List A) → ((n : ℕ) (a : A) → (n ≡ i + k → ⊥) → f n a ≡ a) → numbered f i l ≡ set l k (f (i + k) (get_or l k d))
  unfolding numbered
  changed_from d i k [] same = refl
  changed_from d i zero (a ∷ l) same =
      let z : i ≡ i + 0 = omega arith in
      ap₂ (λ (x : A) (m : List A). x ∷ m) (ap (λ (n : ℕ). f n a) z) (none_changed (suc i) l (λ n b h. same n b (later h)))
  changed_from d i (suc k) (a ∷ l) same =
      let z : suc i + k ≡ i + suc k = omega arith in
      ap₂ (λ (x : A) (m : List A). x ∷ m) (same i a (λ e. omega arith))
      (changed_from d (suc i) k l (λ n b h. same n b (λ e. h (e ∙ sym z))) ∙ ap (λ (n : ℕ). set l k (f n (get_or l k d))) z)

  -- Where f changes the entry of one number alone, the list is changed there.
  pub one_number : (d : A) (p : ℕ) (l : List A) → ((n : ℕ) (a : A) → (n ≡ p → ⊥) → f n a ≡ a) → numbered f 0 l ≡ set l p (f p (get_or l p d))
  one_number d p l same =
      let z : 0 + p ≡ p = omega arith in
      changed_from d 0 p l (λ n a h. same n a (λ e. h (e ∙ sym z))) ∙ ap (λ (n : ℕ). set l p (f n (get_or l p d))) z

module _ {A : Type 0} (test : ℕ → A → Bool) where
  -- Where every entry from number i on passes, each does.
  each_passes : (i : ℕ) (l : List A) → ((n : ℕ) (a : A) → i ≤ n → test n a ≡ true) → each_of (λ t. t) (numbered test i l) ≡ true
  unfolding numbered each_of
  each_passes i [] good = refl
  each_passes i (a ∷ l) good = both_of (good i a (omega arith)) (each_passes (suc i) l (λ n b h. good n b (omega arith)))

  -- Where all but the k-th from i on pass, that one decides.
  decided_from : (d : A) (i k : ℕ) (l : List A) → k < length l → ((n : ℕ) (a : A) → (n ≡ i + k → ⊥) → test n a ≡ true)
      → each_of (λ t. t) (numbered test i l) ≡ test (i + k) (get_or l k d)
  unfolding numbered each_of
  decided_from d i k [] h good = absurd (omega arith)
  decided_from d i zero (a ∷ l) h good =
      let z : i ≡ i + 0 = omega arith in
      rw (each_passes (suc i) l (λ n b g. good n b (later g))) (both_true (test i a) ∙ ap (λ (n : ℕ). test n a) z)
  decided_from d i (suc k) (a ∷ l) h good =
      let z : suc i + k ≡ i + suc k = omega arith in
      both_yes _ (good i a (λ e. omega arith))
      ∙ decided_from d (suc i) k l (omega arith) (λ n b g. good n b (λ e. g (e ∙ sym z))) ∙ ap (λ (n : ℕ). test n (get_or l k d)) z

  -- Where only the entry of one number can fail, that one decides.
  pub one_decides : (d : A) (p : ℕ) (l : List A) → p < length l → ((n : ℕ) (a : A) → (n ≡ p → ⊥) → test n a ≡ true)
      → each_of (λ t. t) (numbered test 0 l) ≡ test p (get_or l p d)
  one_decides d p l h good =
      let z : 0 + p ≡ p = omega arith in
      decided_from d 0 p l h (λ n a g. good n a (λ e. g (e ∙ sym z))) ∙ ap (λ (n : ℕ). test n (get_or l p d)) z

  -- A change that is undone at each entry that passes is undone where each does.
  pub numbered_back : {B : Type 0} (f : ℕ → A → B) (g : ℕ → B → A) → ((n : ℕ) (a : A) → test n a ≡ true → g n (f n a) ≡ a)
      → (i : ℕ) (l : List A) → each_of (λ t. t) (numbered test i l) ≡ true → numbered g i (numbered f i l) ≡ l
  unfolding numbered each_of
  numbered_back f g back i [] e = refl
  numbered_back f g back i (a ∷ l) e =
      ap₂ (λ (x : A) (m : List A). x ∷ m) (back i a (both_left _ _ e)) (numbered_back f g back (suc i) l (both_right _ _ e))
