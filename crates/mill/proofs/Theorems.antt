-- THE LIST OF SEGMENTS OF LEGS OF THE BOARD is clean, covers exactly the steps of the legs and is the only clean list that does; legs that cover the same
-- steps have the same list; and its lengths add up to the length. From legs on the board.
use mathlib.Core.Path.{◌≡◌, refl, sym, ap, ap₂, ◌∙◌}
use mathlib.Core.Bool.{Bool, true}
use mathlib.Core.List.{List, [], ◌∷◌, map}
use Prim.Native.Nat.{ℕ, suc}
use lib.Dec.{eqb}
use Rattle.basics.specs.Tests.{either, choose, any_of, each_of}
use Rattle.basics.specs.Sums.{different}
use Rattle.copper.specs.declared.Leg.{Leg}
use Rattle.copper.specs.Length.{same_step, length_of}
use Rattle.spans.proofs.Lists as Spans
use Rattle.spans.proofs.Lists.{alike_by, alike_back}
use Rattle.spans.proofs.Insert.{cleaned_clean, cleaned_alike, same-cleaned}
use Rattle.spans.proofs.Numbers.{numbers_of_all, cleaned_total}
use Rattle.mill.specs.Segments.{CleanList, SameSteps, total_length}
use Rattle.mill.specs.Numbered.{span_of, is_inside, segment_of, segments_of}
use Rattle.mill.proofs.Steps.{step_at, same_numbers}
use Rattle.mill.proofs.Covering.{legs_steps, alike_steps, steps_alike}
use Rattle.mill.proofs.Ends.{clean_inside}
use Rattle.mill.proofs.Making.{made_clean, made_inside, made_spans, made_long, cleaned_lined}
use Rattle.mill.proofs.Telling.{told_clean, told_back}

-- As many different steps as different numbers: a step is one of others where its number is one of theirs,
any_numbers : (n : ℕ) (l : List ℕ) → any_of (same_step (step_at n)) (map step_at l) ≡ any_of (eqb n) l
unfolding any_of
any_numbers n [] = refl
any_numbers n (m ∷ l) = ap₂ either (same_numbers n m) (any_numbers n l)

-- and so they are counted alike.
different_numbers : (l : List ℕ) → different same_step (map step_at l) ≡ different eqb l
unfolding different
different_numbers [] = refl
different_numbers (n ∷ l) = ap₂ (λ (t : Bool) (k : ℕ). choose t k (suc k)) (any_numbers n l) (different_numbers l)

module _ (legs : List Leg) (on : each_of is_inside legs ≡ true) where
  -- THE LIST IS CLEAN.
  pub segments_clean : CleanList (segments_of legs)
  unfolding segments_of
  segments_clean = made_clean (cleaned_clean (map span_of legs)) (cleaned_lined legs on)

  -- IT COVERS EXACTLY THE STEPS THAT THE LEGS COVER.
  pub segments_cover : SameSteps (segments_of legs) legs
  unfolding segments_of
  segments_cover =
      let lines = cleaned_lined legs on in
      alike_steps (segments_of legs) legs (made_inside lines) on (rw (made_spans lines) (cleaned_alike (map span_of legs)))

  -- NO OTHER CLEAN LIST COVERS THEM.
  pub only_one : (l : List Leg) → CleanList l → SameSteps l legs → l ≡ segments_of legs
  unfolding segments_of
  only_one l c same =
      let in-it = clean_inside legs on c same.there in
      let alike = alike_by (steps_alike l legs in-it on same) (alike_back (cleaned_alike (map span_of legs))) in
      sym (told_back c in-it) ∙ ap (map segment_of) (Spans.only_one (told_clean c in-it) (cleaned_clean (map span_of legs)) alike)

  -- ITS LENGTHS ADD UP TO THE LENGTH, the number of different steps that the legs cover.
  pub segments_length : total_length (segments_of legs) ≡ length_of legs
  unfolding segments_of length_of
  segments_length =
      made_long (cleaned_lined legs on)
      ∙ cleaned_total (map span_of legs)
      ∙ sym (different_numbers (numbers_of_all (map span_of legs)))
      ∙ ap (different same_step) (sym (legs_steps legs on))

-- LEGS OF THE BOARD THAT COVER THE SAME STEPS HAVE THE SAME LIST, whatever their runs.
pub segments_same : (l m : List Leg) → each_of is_inside l ≡ true → each_of is_inside m ≡ true → SameSteps l m → segments_of l ≡ segments_of m
unfolding segments_of
segments_same l m h k e = ap (map segment_of) (same-cleaned (steps_alike l m h k e))

-- THERE IS ONLY ONE CLEAN LIST FOR A SET OF STEPS: two that cover the same steps of the board are the same.
pub one_list : (l m : List Leg) → each_of is_inside m ≡ true → CleanList l → CleanList m → SameSteps l m → l ≡ m
one_list l m on c d same =
    only_one m on l c same ∙ sym (only_one m on m d (record { there = λ step h. h; back = λ step h. h }))
