-- WHICHEVER SHAPE IS FAVOURED: verdict, length, runs with their ends, the number of legs and the choices weighed do not depend on it. Assumes nothing.
use mathlib.Core.Path.{◌≡◌, refl, sym, ap, ap₂, ◌∙◌, subst}
use mathlib.Core.Bool.{Bool, true, false}
use mathlib.Core.List.{List, [], ◌∷◌, ◌++◌}
use Prim.Native.Nat.{ℕ, suc, ◌+◌, ◌≤◌}
use native.Mathlib.Omega.{arith}
use lib.Dec.{ltb}
use lib.ListN.{length, length-append}
use Rattle.basics.specs.Tests.{choose}
use Rattle.refusal.specs.Refusals.{accepted}
use Rattle.refusal.specs.Rows.{given, first_of}
use Rattle.refusal.specs.Refusals.{Verdict}
use Rattle.refusal.specs.declared.Refusal.TheVariants.{RoomTooSmall}
use Rattle.board.specs.declared.Place.{Place}
use Rattle.board.specs.Spots.{Spot}
use Rattle.board.specs.Place.{is_straight}
use Rattle.tree.specs.declared.Run.{Run}
use Rattle.tree.specs.Growth.{runs_of}
use Rattle.tree.specs.Trees.{tree_rows}
use Rattle.tree.proofs.Membership.{Among}
use Rattle.copper.specs.declared.Favour.{Favour}
use Rattle.copper.specs.declared.Shape.{Shape}
use Rattle.copper.specs.declared.Shape.TheVariants.{Straight, Lower, Upper}
use Rattle.copper.specs.Shapes.{favours_upper, shape_of, legs_of, leg_count}
use Rattle.wiring.specs.declared.Wiring.{Wiring}
use Rattle.wiring.specs.declared.Laid.{Laid}
use Rattle.laying.specs.Entries.{near_end, far_end}
use Rattle.wiring.specs.Choices.{choices_of, legs_of_choice, length_of_choice, best_choice}
use Rattle.wiring.specs.Answer.{turned_away, answer_with, wiring_rows, wiring_with, wiring_favouring, wiring_of}
use Rattle.laying.specs.Reaching.{shapes_by}
use Rattle.wiring.specs.Demand.{SameButShapes}
use Rattle.wiring.proofs.Masks.{bends}
use Rattle.wiring.proofs.Ordered.{choice_told, told_choice}
use Rattle.laying.proofs.Filling.{legs_many}
use Rattle.wiring.proofs.Shortest.{best_among, none_shorter}
use Rattle.wiring.proofs.Demand.{runs_are, runs_many}

-- ---- the length
-- A choice of shapes where one is favoured is a choice where the other is,
choice_either : (feed : List Spot) (runs : List Run) (favoured other : Bool) (c : List Shape) → Among c (choices_of favoured feed runs)
    → Among c (choices_of other feed runs)
choice_either feed runs favoured other c m =
    subst (λ (d : List Shape). Among d (choices_of other feed runs)) (sym (choice_told favoured feed runs c m)) (told_choice other feed runs (bends c))

-- so that the best where one is favoured is no longer than the best where the other is.
no_longer : (feed : List Spot) (runs : List Run) (favoured other : Bool)
    → length_of_choice feed runs (best_choice favoured feed runs) ≤ length_of_choice feed runs (best_choice other feed runs)
no_longer feed runs favoured other =
    none_shorter feed runs favoured (best_choice other feed runs) (choice_either feed runs other favoured (best_choice other feed runs) (best_among feed runs other))

-- THE LENGTH DOES NOT DEPEND ON THE FAVOURED SHAPE.
pub length-either : (feed : List Spot) (runs : List Run) (favoured other : Bool)
    → length_of_choice feed runs (best_choice favoured feed runs) ≡ length_of_choice feed runs (best_choice other feed runs)
length-either feed runs favoured other = omega (arith, no_longer feed runs favoured other, no_longer feed runs other favoured)

-- ---- the number of legs
-- A run has as many legs in one shape as in the other,
count_either : (t u v : Bool) → leg_count (choose t Straight (choose u Upper Lower)) ≡ leg_count (choose t Straight (choose v Upper Lower))
unfolding choose
count_either true u v = refl
count_either false true true = refl
count_either false true false = refl
count_either false false true = refl
count_either false false false = refl

-- that is, between any two places,
run_legs_either : (u v : Bool) (a b : Place) → length (legs_of (shape_of u a b) a b) ≡ length (legs_of (shape_of v a b) a b)
run_legs_either u v a b =
    let e : leg_count (shape_of u a b) ≡ leg_count (shape_of v a b) = unfold shape_of in count_either (is_straight a b) u v in
    legs_many (shape_of u a b) a b ∙ e ∙ sym (legs_many (shape_of v a b) a b)

-- and so have all runs together: every choice needs the same number of legs,
told_legs_either : (feed : List Spot) (u v : ℕ → Bool) (runs : List Run)
    → length (legs_of_choice feed runs (shapes_by feed u runs)) ≡ length (legs_of_choice feed runs (shapes_by feed v runs))
unfolding legs_of_choice shapes_by
told_legs_either feed u v [] = refl
told_legs_either feed u v (r ∷ runs) =
    let a = near_end feed r in
    let b = far_end feed r in
    length-append (legs_of (shape_of (u 0) a b) a b) _
    ∙ ap₂ (λ (m n : ℕ). m + n) (run_legs_either (u 0) (v 0) a b) (told_legs_either feed (λ q. u (suc q)) (λ q. v (suc q)) runs)
    ∙ sym (length-append (legs_of (shape_of (v 0) a b) a b) _)

-- so that the best choices need the same number of legs.
pub legs_either : (feed : List Spot) (runs : List Run) (favoured other : Bool)
    → length (legs_of_choice feed runs (best_choice favoured feed runs)) ≡ length (legs_of_choice feed runs (best_choice other feed runs))
legs_either feed runs favoured other =
    let c = best_choice favoured feed runs in
    let d = best_choice other feed runs in
    ap (λ (s : List Shape). length (legs_of_choice feed runs s)) (choice_told favoured feed runs c (best_among feed runs favoured))
    ∙ told_legs_either feed (bends c) (bends d) runs
    ∙ ap (λ (s : List Shape). length (legs_of_choice feed runs s)) (sym (choice_told other feed runs d (best_among feed runs other)))

-- ---- answers
-- Every answer is the same as itself.
same_itself : (w : Wiring) → SameButShapes w w
same_itself w = record { verdict_same = refl; length_same = refl; runs_same = refl; ends_same = refl; legs_same = refl; weighed_same = refl }

-- ANSWERS BEHIND A VERDICT THAT MAY TURN THEM AWAY: if they are the same but for shapes whenever it is accepted, so are those that come.
pub same-behind : (v : Verdict) (l m : Laid) → (accepted v ≡ true → SameButShapes l.wiring m.wiring)
    → SameButShapes (choose (accepted v) l (turned_away v)).wiring (choose (accepted v) m (turned_away v)).wiring
same-behind v l m h = by (accepted v) h
  where
    by : (t : Bool) → (t ≡ true → SameButShapes l.wiring m.wiring) → SameButShapes (choose t l (turned_away v)).wiring (choose t m (turned_away v)).wiring
    by true k = unfold choose in k refl
    by false k = unfold choose in same_itself (turned_away v).wiring

-- Two choices of the favoured shape.
module _ (feed : List Spot) (favoured other : Bool) where
  abbrev runs : List Run
  runs = runs_of feed

  -- The best choice where the first is favoured,
  abbrev one : List Shape
  one = best_choice favoured feed runs

  -- and where the second is.
  abbrev two : List Shape
  two = best_choice other feed runs

  -- The rows of wiring say the same: 17 looks at no shape, and 19 at the number of legs.
  verdict_either : (room : ℕ) → first_of (wiring_rows feed one room) ≡ first_of (wiring_rows feed two room)
  verdict_either room = ap (λ (n : ℕ). first_of (tree_rows feed ++ (given (ltb room n) RoomTooSmall ∷ []))) (legs_either feed runs favoured other)

  -- The answers with the best choices are the same but for shapes.
  answer_either : SameButShapes (answer_with feed one).wiring (answer_with feed two).wiring
  answer_either =
      let p = choice_told favoured feed runs one (best_among feed runs favoured) in
      let q = choice_told other feed runs two (best_among feed runs other) in
      record {
        verdict_same = unfold answer_with in refl;
        length_same = unfold answer_with in length-either feed runs favoured other;
        runs_same = runs_many feed one (bends one) p ∙ sym (runs_many feed two (bends two) q);
        ends_same = runs_are feed one (bends one) p ∙ sym (runs_are feed two (bends two) q);
        legs_same = unfold answer_with in legs_either feed runs favoured other;
        weighed_same = unfold answer_with in refl;
      }

  -- So are the wirings: both are turned away by the same verdict, or both are answered.
  favoured_either : (room : ℕ) → SameButShapes (wiring_favouring favoured feed room).wiring (wiring_favouring other feed room).wiring
  unfolding wiring_favouring wiring_with
  favoured_either room =
      let v = first_of (wiring_rows feed one room) in
      let l = choose (accepted v) (answer_with feed one) (turned_away v) in
      subst (λ (w : Verdict). SameButShapes l.wiring (choose (accepted w) (answer_with feed two) (turned_away w)).wiring) (verdict_either room)
      (same-behind v (answer_with feed one) (answer_with feed two) (λ e. answer_either))

-- WHATEVER IS SAID OF THE SHAPE TO FAVOUR, THE WIRING OF A FEED IS THE SAME BUT FOR SHAPES, accepted or refused,
pub same_but_shapes : (feed : List Spot) (room : ℕ) (f g : Favour) → SameButShapes (wiring_of feed room f).wiring (wiring_of feed room g).wiring
unfolding wiring_of
same_but_shapes feed room f g = favoured_either feed (favours_upper f) (favours_upper g) room

-- also behind a verdict that may turn it away, as the calls that wire have it.
pub turned_either : (v : Verdict) (feed : List Spot) (room : ℕ) (f g : Favour)
    → SameButShapes (choose (accepted v) (wiring_of feed room f) (turned_away v)).wiring (choose (accepted v) (wiring_of feed room g) (turned_away v)).wiring
turned_either v feed room f g = same-behind v (wiring_of feed room f) (wiring_of feed room g) (λ e. same_but_shapes feed room f g)
