-- What the library's calls on lists come to, in the words of the definitions: tests of each, cuts, searches and equality. Assumes nothing.
use mathlib.Core.Path.{◌≡◌, refl, sym, ◌∙◌}
use mathlib.Core.Bool.{Bool, true, false, cond, not, ◌&&◌}
use mathlib.Core.List.{List, [], ◌∷◌}
use Prim.Native.Nat.{ℕ, suc, ◌+◌, ◌-◌, ◌≤◌}
use native.Mathlib.Omega.{arith}
use lib.Dec.{eqb, ltb}
use lib.ListN.{length, take, drop, get_or, length-drop, drop_of_length-le}
use lib.Seq.{take_all}
use borrow.Author.Tests.{ltb-false}
use lib.Pointwise.{pointwise}
use Rattle.std.specs.Borrow.{Bor}
use Rattle.std.specs.Prelude.{Option, Some, None, unwrap_or, MatchOption}
use Rattle.basics.proofs.Tests.{choose_yes, choose_no}
use Rattle.std.proofs.lemmas.List.Recursion.{is_position_or_len}
use Rattle.std.specs.List.{slice_split, onto_first, list_all, position_or_len}
use Rattle.basics.specs.Tests.{both, choose, each_of}
use Rattle.text.specs.Text.{same}
use Rattle.text.specs.Words.{return, space, end_of, without_return, before_first, pieces, spaces_of, index_of, index_after}
use Rattle.text.proofs.Steps.{front}
use Rattle.text.proofs.Cutting.{index_within, spaces_within}

-- A choice is the library's choice,
pub choose_cond : {A : Type 0} (t : Bool) (a b : A) → cond t a b ≡ choose t a b
unfolding choose
choose_cond true a b = refl
choose_cond false a b = refl

-- and two tests joined are the library's two tests joined.
pub both_and : (a b : Bool) → (a && b) ≡ both a b
unfolding both
both_and true b = refl
both_and false b = refl

-- Each of a list passes a test where the library's test of all says so, its test of one being the same.
pub all_each : {A : Type 0} (test given : A → Bool) → ((a : A) → given a ≡ test a) → (l : List A) → list_all given l ≡ each_of test l
unfolding each_of
all_each test given e [] = refl
all_each test given e (a ∷ l) = both_and (given a) (list_all given l) ∙ rw (e a, all_each test given e l)

-- A byte put before the first piece,
onto_before : (b : ℕ) (ps : List (List ℕ)) → onto_first b ps ≡ before_first b ps
unfolding before_first
onto_before b [] = refl
onto_before b (p ∷ ps) = refl

-- and so the pieces of a text.
pub split_pieces : (s : ℕ) (l : List ℕ) → slice_split (λ b. eqb b s) l ≡ pieces s l
unfolding pieces
split_pieces s [] = refl
split_pieces s (b ∷ rest) = rw (split_pieces s rest, onto_before b (pieces s rest)) (choose_cond (eqb b s) _ _)

-- Equal bytes are the same bytes.
pub equal_same : (u v : List ℕ) → pointwise eqb u v ≡ same u v
unfolding same
equal_same [] [] = refl
equal_same [] (b ∷ v) = refl
equal_same (a ∷ u) [] = refl
equal_same (a ∷ u) (b ∷ v) = both_and (eqb a b) (pointwise eqb u v) ∙ rw (equal_same u v)

-- Where a separator is found, as a choice:
index_cond : (t : Bool) (n : ℕ) → index_after t n ≡ cond t 0 (1 + n)
unfolding index_after
index_cond true n = refl
index_cond false n = omega arith

-- the first place at which it stands, or the text's length.
pub index_position : (s : ℕ) (l : List ℕ) → index_of s l ≡ position_or_len (λ b. eqb b s) l
unfolding index_of
index_position s = is_position_or_len (index_of s) (λ b. eqb b s) refl (λ b rest. index_cond (eqb b s) (index_of s rest))

-- Where the first element that passes a test is looked for, and where none does the length taken, that is where it is.
found_first : {A : Type 0} (test : A → Bool) (l : List A) {at : ℕ} → at ≡ position_or_len test l → at ≤ length l
    → unwrap_or (cond (ltb (position_or_len test l) (length l)) (Some (position_or_len test l)) None) (length l) ≡ at
found_first test l {at} e h = rw (← e) (by (ltb at (length l)) refl)
  where
    by : (t : Bool) → ltb at (length l) ≡ t → unwrap_or (cond t (Some at) None) (length l) ≡ at
    by true q = refl
    by false q = omega (arith, ltb-false at (length l) q, h)

-- So a separator,
pub found_index : (s : ℕ) (l : List ℕ)
    → unwrap_or (cond (ltb (position_or_len (λ b. eqb b s) l) (length l)) (Some (position_or_len (λ b. eqb b s) l)) None) (length l) ≡ index_of s l
found_index s l = found_first (λ b. eqb b s) l (index_position s l) (index_within s l)

-- One byte before spaces, as a choice:
spaces_cond : (t : Bool) (n : ℕ) → choose t (suc n) 0 ≡ cond (not t) 0 (1 + n)
unfolding choose
spaces_cond true n = omega arith
spaces_cond false n = refl

-- a text begins with as many spaces as there are before its first other byte,
spaces_position : (l : List ℕ) → spaces_of l ≡ position_or_len (λ b. not (eqb b space)) l
unfolding spaces_of
spaces_position = is_position_or_len spaces_of (λ b. not (eqb b space)) refl (λ b rest. spaces_cond (eqb b space) (spaces_of rest))

-- and so that byte.
pub found_spaces : (l : List ℕ)
    → unwrap_or (cond (ltb (position_or_len (λ b. not (eqb b space)) l) (length l)) (Some (position_or_len (λ b. not (eqb b space)) l)) None) (length l)
    ≡ spaces_of l
found_spaces l = found_first (λ b. not (eqb b space)) l (spaces_position l) (spaces_within l)

-- What is left of a list from a position on is all that follows.
pub rest_from : {A : Type 0} (at : ℕ) (l : List A) → take (length l - at) (drop at l) ≡ drop at l
rest_from at l = take_all (length l - at) (drop at l) (omega (arith, length-drop at l))

-- A test joined with one that holds is that test.
pub with_true : (t : Bool) → (t && true) ≡ t
with_true true = refl
with_true false = refl

-- The last byte of a text is a carriage return where the text ends in one;
ends_return : (l : List ℕ) → pointwise eqb (drop (length l - 1) l) (return ∷ []) ≡ eqb (get_or l (length l - 1) 0) return
ends_return [] = refl
ends_return (a ∷ l) =
    rw
    (front 0 (a ∷ l) (length (a ∷ l) - 1) (omega arith), drop_of_length-le (a ∷ l) {i = length (a ∷ l) - 1 + 1} (omega arith))
    (with_true (eqb (get_or (a ∷ l) (length (a ∷ l) - 1) 0) return))

-- the line is what stands before it, and else the whole.
pub stripped : (l : Bor (List ℕ)) (r : Option (Bor (List ℕ)))
    → MatchOption r (pointwise eqb (drop (length l.now - 1) l.now) (return ∷ []) ≡ false)
    (λ x. (pointwise eqb (drop (length l.now - 1) l.now) (return ∷ []) ≡ true) × (x.now ≡ take (length l.now - 1) l.now) × (length x.now + 1 ≡ length l.now))
    → (unwrap_or r l).now ≡ without_return l.now
unfolding end_of
stripped l None h =
    rw (choose_no (length l.now - 1) (length l.now) (sym (ends_return l.now) ∙ h)) (sym (take_all (length l.now) l.now (omega arith)))
stripped l (Some x) h = rw (choose_yes (length l.now - 1) (length l.now) (sym (ends_return l.now) ∙ h.0)) h.1
