-- Lists as loops go over them and fill them: the rest from a number on, entries before blanks, entries laid over others, values one after the
-- other. Assumes nothing.
use mathlib.Core.Path.{◌≡◌, refl, sym, ap, ap₂, ◌∙◌}
use mathlib.Core.List.{List, [], ◌∷◌, ◌++◌, append-nil, map}
use Prim.Native.Nat.{ℕ, zero, suc, ◌+◌, ◌-◌, ◌<◌, ◌≤◌}
use native.Mathlib.Nat.{add-zero}
use native.Mathlib.Numerals.{add-one}
use native.Mathlib.Omega.{arith}
use lib.ListN.{length, get_or, set, take, drop, replicate, length-append, length-take, length-drop, length-replicate, length-map, get_or-map, drop_of_length-le}
use lib.Seq.{drop-cons, take-suc, take_all, take_at, set_at, get_or_at, get_or-take, length-take-le, append_snoc, sets}
use Rattle.basics.specs.Lists.{padded, values_from}

module _ {A : Type 0} where
  -- ---- the rest of a list
  -- A list without length is empty.
  pub empty : (l : List A) → length l ≡ 0 → l ≡ []
  empty l e = drop_of_length-le l {i = 0} (omega arith)

  -- The rest from i on is what stands at i before the rest from i + 1 on;
  pub front : (d : A) (l : List A) (i : ℕ) → i < length l → drop i l ≡ get_or l i d ∷ drop (i + 1) l
  front d l i h = rw add-one (drop-cons l i d h)

  -- so too among the first k,
  pub front_of : (d : A) (l : List A) (k i : ℕ) → k ≤ length l → i < k → drop i (take k l) ≡ get_or l i d ∷ drop (i + 1) (take k l)
  front_of d l k i few h =
      let n : i < length (take k l) = omega (arith, length-take-le k l few) in
      front d (take k l) i n ∙ ap (λ (a : A). a ∷ drop (i + 1) (take k l)) (get_or-take k l i d h)

  -- of which none is left from number k on.
  pub none_left : (l : List A) (k i : ℕ) → k ≤ i → drop i (take k l) ≡ []
  none_left l k i h = drop_of_length-le (take k l) (let n : length (take k l) ≤ i = omega (arith, length-take k l) in n)

  -- The first i entries and one more.
  pub first_more : (d : A) (l : List A) (i : ℕ) → i < length l → take i l ++ (get_or l i d ∷ []) ≡ take (i + 1) l
  first_more d l i h = rw (add-one i, take-suc l i d h)

  -- Entries stored right after others are stored with them.
  pub sets-append : (old : List A) (at : ℕ) (p q : List A) → sets (sets old at p) (at + length p) q ≡ sets old at (p ++ q)
  sets-append old at [] q = rw (add-zero at)
  sets-append old at (a ∷ p) q =
      let e : at + suc (length p) ≡ suc at + length p = omega arith in
      rw e (sets-append (set old at a) (suc at) p q)

  -- ---- entries before blanks
  -- Any entry of a list of blanks is blank,
  pub blank_at : (n i : ℕ) (d : A) → get_or (replicate n d) i d ≡ d
  blank_at zero i d = refl
  blank_at (suc n) zero d = refl
  blank_at (suc n) (suc i) d = blank_at n i d

  -- so that blanks after the last entry change none.
  blanks_after : (l : List A) (k i : ℕ) (d : A) → get_or (l ++ replicate k d) i d ≡ get_or l i d
  blanks_after [] k i d = blank_at k i d
  blanks_after (x ∷ l) k zero d = refl
  blanks_after (x ∷ l) k (suc i) d = blanks_after l k i d

  module _ (n : ℕ) (d : A) (l : List A) where
    -- A list filled up with blanks has its own entries, and blanks after them;
    pub padded_at : (i : ℕ) → get_or (padded n d l) i d ≡ get_or l i d
    padded_at i = blanks_after l (n - length l) i d

    -- it is as long as it is to be,
    pub padded_long : length l ≤ n → length (padded n d l) ≡ n
    padded_long h = length-append l _ ∙ omega (arith, length-replicate (n - length l) d)

    -- begins with its own entries,
    pub padded_first : {k : ℕ} → length l ≡ k → take k (padded n d l) ≡ l
    padded_first {k} e = take_at l _ k e

    -- and an entry stored after these is one of its own.
    pub padded_more : (a : A) → length l < n → set (padded n d l) (length l) a ≡ padded n d (l ++ (a ∷ []))
    padded_more a h =
        let e : n - length l ≡ suc (n - suc (length l)) = omega arith in
        let m : length (l ++ (a ∷ [])) ≡ suc (length l) = length-append l (a ∷ []) ∙ omega arith in
        rw (e, m)
        (set_at l d (replicate (n - suc (length l)) d) a (length l) refl ∙ sym (append_snoc l a (replicate (n - suc (length l)) d)))

  -- ---- an array that is filled from the front with the entries of another
  -- The first i entries of t, then those of l.
  unfoldable pub overlaid : List A → List A → ℕ → List A
  overlaid t l i = take i t ++ drop i l

  module _ (t l : List A) where
    -- At first nothing is filled in.
    pub overlaid_none : l ≡ overlaid t l 0
    unfolding overlaid
    overlaid_none = refl

    -- One entry more is filled in.
    pub overlaid_turn : (i : ℕ) (d : A) → i < length t → i < length l → set (overlaid t l i) i (get_or t i d) ≡ overlaid t l (i + 1)
    unfolding overlaid
    overlaid_turn i d h k =
        rw (front d l i k)
        (set_at (take i t) (get_or l i d) (drop (i + 1) l) (get_or t i d) i (length-take-le i t (omega arith))
        ∙ sym (append_snoc (take i t) (get_or t i d) (drop (i + 1) l))
        ∙ rw (first_more d t i h))

    -- The next entry is still the old one.
    pub overlaid_next : (i : ℕ) (d : A) → i ≤ length t → i < length l → get_or (overlaid t l i) i d ≡ get_or l i d
    unfolding overlaid
    overlaid_next i d h k = rw (front d l i k) (get_or_at (take i t) (get_or l i d) (drop (i + 1) l) d i (length-take-le i t h))

    -- Filling changes no length.
    pub overlaid_long : (i : ℕ) → i ≤ length t → i ≤ length l → length (overlaid t l i) ≡ length l
    unfolding overlaid
    overlaid_long i h k = simp (length-append, length-take, length-drop) (omega arith)

    -- In the end all entries are filled in.
    pub overlaid_end : (i : ℕ) → length t ≤ i → length l ≤ i → overlaid t l i ≡ t
    unfolding overlaid
    overlaid_end i h k = rw (drop_of_length-le l k, take_all i t h) (append-nil t)

-- An array o, before it l, that is filled with what f makes of each entry of m.
module _ {A B : Type 0} (f : A → B) (m : List A) (l o : List B) (i : ℕ) (so_far : o ≡ overlaid (map f m) l i) where
  -- One more of them ..
  pub mapped_turn : (d : A) (b : B) → i < length m → i < length l → b ≡ f (get_or m i d) → set o i b ≡ overlaid (map f m) l (i + 1)
  mapped_turn d b h k e =
      rw (so_far, e, ← get_or-map f m i d) (overlaid_turn (map f m) l i (f d) (omega (arith, length-map m f)) k)

  -- .. and all.
  pub mapped_all : length m ≤ i → length l ≤ i → o ≡ map f m
  mapped_all h k = so_far ∙ overlaid_end (map f m) l i (omega (arith, length-map m f)) k

-- ---- values one after the other
module _ {A : Type 0} (f : ℕ → A) where
  -- There are as many as are asked for,
  pub values_long : (i k : ℕ) → length (values_from f i k) ≡ k
  unfolding values_from
  values_long i zero = refl
  values_long i (suc k) = ap suc (values_long (suc i) k)

  -- each one where its number says;
  values_at : (i k j : ℕ) (d : A) → j < k → get_or (values_from f i k) j d ≡ f (i + j)
  unfolding values_from
  values_at i zero j d l = absurd (omega arith)
  values_at i (suc k) zero d l = ap f (let z : i ≡ i + 0 = omega arith in z)
  values_at i (suc k) (suc j) d l = values_at (suc i) k j d (omega arith) ∙ ap f (let z : suc i + j ≡ i + suc j = omega arith in z)

  -- from 0 on, value j is entry j,
  pub value_at : (k j : ℕ) (d : A) → j < k → get_or (values_from f 0 k) j d ≡ f j
  value_at k j d l = values_at 0 k j d l ∙ ap f (let z : 0 + j ≡ j = omega arith in z)

  -- and one more comes last,
  values_more : (i k : ℕ) → values_from f i (suc k) ≡ values_from f i k ++ (f (i + k) ∷ [])
  unfolding values_from
  values_more i zero = ap (λ (j : ℕ). f j ∷ []) (let z : i ≡ i + 0 = omega arith in z)
  values_more i (suc k) =
      ap (λ (l : List A). f i ∷ l)
      (values_more (suc i) k ∙ ap (λ (j : ℕ). values_from f (suc i) k ++ (f j ∷ [])) (let z : suc i + k ≡ i + suc k = omega arith in z))

  -- from 0 on too.
  pub value_more : (k : ℕ) → values_from f 0 (k + 1) ≡ values_from f 0 k ++ (f k ∷ [])
  value_more k =
      ap (values_from f 0) (add-one k) ∙ values_more 0 k
      ∙ ap (λ (j : ℕ). values_from f 0 k ++ (f j ∷ [])) (let z : 0 + k ≡ k = omega arith in z)

  -- Values from the next number on are those of the numbers after.
  pub values_shift : (i k : ℕ) → values_from f (suc i) k ≡ values_from (λ j. f (suc j)) i k
  unfolding values_from
  values_shift i zero = refl
  values_shift i (suc k) = ap (λ (l : List A). f (suc i) ∷ l) (values_shift (suc i) k)

  -- A list that is filled from the front with the values.
  module _ (m : ℕ) (l : List A) (d : A) (i : ℕ) (o : List A) (so_far : o ≡ overlaid (values_from f 0 m) l i) (long : length l ≡ m) where
    -- One value more ..
    pub values_turn : (v : A) → i < m → v ≡ f i → set o i v ≡ overlaid (values_from f 0 m) l (i + 1)
    values_turn v h e =
        rw (so_far, e, ← value_at m i d h) (overlaid_turn (values_from f 0 m) l i d (omega (arith, values_long 0 m)) (omega arith))

    -- .. and all of them.
    pub values_all : m ≤ i → o ≡ values_from f 0 m
    values_all h = so_far ∙ overlaid_end (values_from f 0 m) l i (omega (arith, values_long 0 m)) (omega arith)

-- Functions that are the same give the same values.
pub values_same : {A : Type 0} (f g : ℕ → A) (i k : ℕ) → ((j : ℕ) → f j ≡ g j) → values_from f i k ≡ values_from g i k
unfolding values_from
values_same f g i zero h = refl
values_same f g i (suc k) h = ap₂ (λ (x : _) (l : List _). x ∷ l) (h i) (values_same f g (suc i) k h)
