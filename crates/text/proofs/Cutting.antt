-- Where a line ends without its carriage return, where a separator is found, what passes for the same text, and words found one after another. Assumes nothing.
use mathlib.Core.Path.{◌≡◌, refl, sym, ◌∙◌, ap}
use mathlib.Core.Bool.{Bool, true, false}
use mathlib.Core.List.{List, [], ◌∷◌}
use Prim.Native.Nat.{ℕ, suc, ◌+◌, ◌-◌, ◌≤◌, ◌<◌, min}
use native.Mathlib.Nat.{le_refl, add-zero}
use native.Mathlib.Omega.{arith}
use lib.Dec.{eqb}
use lib.ListN.{length, take, drop, get_or, length-drop, drop_of_length-le}
use lib.Seq.{drop-drop, get_or-drop, length-take-le}
use borrow.Author.Tests.{eqb-true, eq-eqb, ne_eqb}
use Rattle.basics.specs.Tests.{choose}
use Rattle.basics.proofs.Lists.{front}
use Rattle.basics.proofs.Tests.{opposite, both_left, both_right}
use Rattle.text.specs.Text.{same}
use Rattle.text.specs.Words.{return, space, end_of, without_return, before_first, pieces, non_empty, words_of, word, spaces_of, index_after, index_of, stop_at}

module _ (l : List ℕ) where
  end_there : (length l - 1 ≤ end_of l) × (end_of l ≤ length l)
  unfolding end_of choose
  end_there = by (eqb (get_or l (length l - 1) 0) return)
    where
      by : (t : Bool) → (length l - 1 ≤ choose t (length l - 1) (length l)) × (choose t (length l - 1) (length l) ≤ length l)
      by true = (omega arith, omega arith)
      by false = (omega arith, omega arith)

  -- The bytes before its end are as many as the end says,
  pub end_whole : {end : ℕ} → end ≡ end_of l → end ≡ length (take end l)
  end_whole {end} h = sym (length-take-le end l (omega (arith, end_there.1)))

  -- and at most one fewer than there are.
  pub return-one : length l ≤ length (without_return l) + 1
  return-one = omega (arith, end_whole refl, end_there.0)

  -- A separator that stands at a position is found there,
  pub stop_here : (s i : ℕ) → i < length l → get_or l i 0 ≡ s → i ≡ stop_at s l i
  unfolding stop_at index_of index_after
  stop_here s i h e = rw (front 0 l i h, eq-eqb (get_or l i 0) s e) (omega arith)

  -- at any other byte it is found where it is found after that byte,
  pub stop_next : (s i : ℕ) → i < length l → (get_or l i 0 ≡ s → ⊥) → stop_at s l i ≡ stop_at s l (i + 1)
  unfolding stop_at index_of index_after
  stop_next s i h e = rw (front 0 l i h, ne_eqb (get_or l i 0) s e) (omega arith)

  -- and at the end of the text it is found nowhere else.
  pub stop_end : (s i : ℕ) → length l ≤ i → i ≡ stop_at s l i
  unfolding stop_at index_of
  stop_end s i h = rw (drop_of_length-le l h) (omega arith)

-- Texts that pass for the same are equal.
pub same_is : (u v : List ℕ) → same u v ≡ true → u ≡ v
unfolding same
same_is [] [] h = refl
same_is [] (b ∷ v) h = absurd (opposite h refl)
same_is (a ∷ u) [] h = absurd (opposite h refl)
same_is (a ∷ u) (b ∷ v) h = λ i. eqb-true a b (both_left _ _ h) i ∷ same_is u v (both_right _ _ h) i

-- A position one byte on is one more, at most.
count_after : (t : Bool) {m n : ℕ} → m ≤ n → index_after t m ≤ suc n
unfolding index_after
count_after true h = omega arith
count_after false h = omega arith

-- One byte more, and at most one more counted:
count_within : (t : Bool) {m n : ℕ} → m ≤ n → choose t (suc m) 0 ≤ suc n
unfolding choose
count_within true h = omega arith
count_within false h = omega arith

-- a text begins with no more spaces than it has bytes.
pub spaces_within : (l : List ℕ) → spaces_of l ≤ length l
unfolding spaces_of
spaces_within [] = le_refl 0
spaces_within (b ∷ rest) = count_within (eqb b space) (spaces_within rest)

-- A separator is found within a text, or at its end;
pub index_within : (s : ℕ) (l : List ℕ) → index_of s l ≤ length l
unfolding index_of
index_within s [] = le_refl 0
index_within s (b ∷ rest) = count_after (eqb b s) (index_within s rest)

-- so a search ends within it,
pub stop_within : (s : ℕ) (l : List ℕ) (at : ℕ) → at ≤ length l → stop_at s l at ≤ length l
unfolding stop_at
stop_within s l at h = omega (arith, index_within s (drop at l), length-drop at l)

-- and ends no earlier than it was looked for.
pub stop_from : (s : ℕ) (l : List ℕ) (at : ℕ) → at ≤ stop_at s l at
unfolding stop_at
stop_from s l at = omega arith

-- A byte put before the first piece changes that piece,
first_longer : (b : ℕ) (ps : List (List ℕ)) → get_or (before_first b ps) 0 [] ≡ b ∷ get_or ps 0 []
unfolding before_first
first_longer b [] = refl
first_longer b (p ∷ ps) = refl

-- and none of the others.
rest_longer : (b : ℕ) (ps : List (List ℕ)) → drop 1 (before_first b ps) ≡ drop 1 ps
unfolding before_first
rest_longer b [] = refl
rest_longer b (p ∷ ps) = refl

-- The first piece of a text with one byte more before it:
first_by : (s b : ℕ) (rest : List ℕ) (t : Bool) → get_or (pieces s rest) 0 [] ≡ take (index_of s rest) rest
    → get_or (choose t ([] ∷ pieces s rest) (before_first b (pieces s rest))) 0 [] ≡ take (index_after t (index_of s rest)) (b ∷ rest)
unfolding choose index_after
first_by s b rest true e = refl
first_by s b rest false e = first_longer b (pieces s rest) ∙ ap (λ (p : List ℕ). b ∷ p) e

-- the bytes before the first separator.
first_piece : (s : ℕ) (l : List ℕ) → get_or (pieces s l) 0 [] ≡ take (index_of s l) l
unfolding pieces index_of
first_piece s [] = refl
first_piece s (b ∷ rest) = first_by s b rest (eqb b s) (first_piece s rest)

-- Words are the pieces that hold something. A byte before pieces begins the first word,
filled-longer : (b : ℕ) (ps : List (List ℕ)) → non_empty (before_first b ps) ≡ (b ∷ get_or ps 0 []) ∷ non_empty (drop 1 ps)
unfolding non_empty before_first
filled-longer b [] = refl
filled-longer b (p ∷ ps) = refl

-- and what follows the first piece holds the others: one byte more,
rest_by : (b : ℕ) (rest : List ℕ) (t : Bool) → eqb b space ≡ t
    → non_empty (drop 1 (pieces space rest)) ≡ words_of (drop (index_of space rest) rest)
    → non_empty (drop 1 (pieces space (b ∷ rest))) ≡ words_of (drop (index_of space (b ∷ rest)) (b ∷ rest))
unfolding pieces index_of index_after choose non_empty words_of
rest_by b rest true e ih = rw (e, e)
rest_by b rest false e ih = rw (e, rest_longer b (pieces space rest)) ih

-- and any text.
rest_filled : (l : List ℕ) → non_empty (drop 1 (pieces space l)) ≡ words_of (drop (index_of space l) l)
unfolding pieces index_of non_empty words_of
rest_filled [] = refl
rest_filled (b ∷ rest) = rest_by b rest (eqb b space) refl (rest_filled rest)

-- Spaces before words do not count: one byte more,
skip_by : (b : ℕ) (rest : List ℕ) (t : Bool) → eqb b space ≡ t → words_of rest ≡ words_of (drop (spaces_of rest) rest)
    → words_of (b ∷ rest) ≡ words_of (drop (spaces_of (b ∷ rest)) (b ∷ rest))
unfolding pieces choose non_empty words_of spaces_of
skip_by b rest true e ih = rw e ih
skip_by b rest false e ih = rw (e, e)

-- and any text.
words_skip : (l : List ℕ) → words_of l ≡ words_of (drop (spaces_of l) l)
unfolding spaces_of
words_skip [] = refl
words_skip (b ∷ rest) = skip_by b rest (eqb b space) refl (words_skip rest)

-- Right behind the spaces that a text begins with stands none: one byte more,
done_by : (b : ℕ) (rest : List ℕ) (t : Bool) → eqb b space ≡ t → spaces_of (drop (spaces_of rest) rest) ≡ 0
    → spaces_of (drop (spaces_of (b ∷ rest)) (b ∷ rest)) ≡ 0
unfolding choose spaces_of
done_by b rest true e ih = rw e ih
done_by b rest false e ih = rw (e, e)

-- and any text.
spaces_done : (l : List ℕ) → spaces_of (drop (spaces_of l) l) ≡ 0
unfolding spaces_of
spaces_done [] = refl
spaces_done (b ∷ rest) = done_by b rest (eqb b space) refl (spaces_done rest)

-- A text that begins with no space: its first word, which has a byte where the text has one, the words after it, and whether there is one.
record Begun (l : List ℕ) : Type 0 where
  first : word 0 (words_of l) ≡ take (index_of space l) l
  rest : drop 1 (words_of l) ≡ words_of (drop (index_of space l) l)
  full : min 1 (index_of space l) ≡ min 1 (length l)
  some : min 1 (length l) ≡ min 1 (length (words_of l))

-- Where a text begins with no space, its first word begins there: one byte more,
begun_by : (b : ℕ) (rest : List ℕ) (t : Bool) → eqb b space ≡ t → spaces_of (b ∷ rest) ≡ 0 → Begun (b ∷ rest)
unfolding pieces choose non_empty words_of spaces_of index_of index_after
begun_by b rest true e h = absurd (omega (arith, rw e at h))
begun_by b rest false e h =
    record {
      first = rw (e, filled-longer b (pieces space rest), first_piece space rest);
      rest = rw (e, filled-longer b (pieces space rest)) (rest_filled rest);
      full = rw e (omega arith);
      some = rw (e, filled-longer b (pieces space rest)) (omega arith);
    }

-- and any text.
begun : (l : List ℕ) → spaces_of l ≡ 0 → Begun l
unfolding pieces non_empty words_of index_of
begun [] h = record { first = refl; rest = refl; full = refl; some = refl }
begun (b ∷ rest) h = begun_by b rest (eqb b space) refl h

-- What is left of a text behind so many of its words, and behind the spaces after them, begins with no space and holds the other words.
pub record Behind (text : List ℕ) (count : ℕ) (rest : List ℕ) : Type 0 where
  pub spaces : spaces_of rest ≡ 0
  pub words : drop count (words_of text) ≡ words_of rest

-- Behind its leading spaces a text has all its words;
pub behind_none : (text : List ℕ) {rest : List ℕ} → rest ≡ drop (spaces_of text) text → Behind text 0 rest
behind_none text h = record { spaces = rw h (spaces_done text); words = rw h (words_skip text) }

module _ (text : List ℕ) {count : ℕ} {rest : List ℕ} (b : Behind text count rest) {to : ℕ} (h : to ≡ stop_at space rest 0) where
  -- The next space stands at the end of the first word,
  first_end : to ≡ index_of space rest
  unfolding stop_at
  first_end = omega (arith, h)

  -- the bytes up to the next space are the next word,
  pub word_behind : take to rest ≡ word count (words_of text)
  word_behind =
      rw first_end (sym (begun rest b.spaces).first)
      ∙ ap (λ (ws : List (List ℕ)). word 0 ws) (sym b.words)
      ∙ get_or-drop count (words_of text) 0 []
      ∙ rw (add-zero count)

  -- and behind it there is one word fewer.
  pub behind_more : {next : List ℕ} → next ≡ drop (spaces_of (drop to rest)) (drop to rest) → Behind text (count + 1) next
  behind_more k =
      record {
        spaces = rw k (spaces_done (drop to rest));
        words = sym (drop-drop 1 count (words_of text))
            ∙ ap (λ (ws : List (List ℕ)). drop 1 ws) b.words
            ∙ (begun rest b.spaces).rest
            ∙ rw (← first_end) (words_skip (drop to rest))
            ∙ ap words_of (sym k);
      }

-- So many words were counted, each of a byte at least.
pub record Counted (text : List ℕ) (count : ℕ) (rest : List ℕ) : Type 0 where
  pub behind : Behind text count rest
  pub bytes : count + length rest ≤ length text
  pub words : count ≤ length (words_of text)

module _ (text : List ℕ) where
  -- None at first;
  pub count_none : {rest : List ℕ} → rest ≡ drop (spaces_of text) text → Counted text 0 rest
  count_none h =
      record { behind = behind_none text h; bytes = omega (arith, ap length h, length-drop (spaces_of text) text); words = omega arith }

  module _ {count : ℕ} {rest : List ℕ} (c : Counted text count rest) where
    -- something is left just where a word is,
    left : min 1 (length rest) ≡ min 1 (length (words_of text) - count)
    left =
        (begun rest c.behind.spaces).some
        ∙ ap (λ (ws : List (List ℕ)). min 1 (length ws)) (sym c.behind.words)
        ∙ ap (λ (n : ℕ). min 1 n) (length-drop count (words_of text))

    -- one more where something is left,
    pub count_more : {to : ℕ} {next : List ℕ} → 0 < length rest → to ≡ stop_at space rest 0 → next ≡ drop (spaces_of (drop to rest)) (drop to rest)
        → Counted text (count + 1) next × (length next < length rest)
    count_more {to} {next} h p q =
        let more : length next + to ≤ length rest = omega (arith, ap length q, length-drop (spaces_of (drop to rest)) (drop to rest), length-drop to rest, index_within space rest, first_end text c.behind p) in
        let some : 0 < to = omega (arith, (begun rest c.behind.spaces).full, first_end text c.behind p) in (
          record { behind = behind_more text c.behind p q; bytes = omega (arith, c.bytes); words = omega (arith, left) },
          omega arith,
        )

    -- and all of them at the end.
    pub count_done : length rest ≡ 0 → count ≡ length (words_of text)
    count_done h = omega (arith, left, c.words)
