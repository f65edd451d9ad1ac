-- THE ANSWER IS OF LEAST LENGTH, AND THE FIRST SUCH: over all choices of shapes none is shorter than the best choice, and those that come before
-- it are longer. The reported length is that of the legs, and choices weighed are at most 64 a pin. The last from pins that stand on the board.
use mathlib.Core.Path.{◌≡◌, refl, sym, ap, ◌∙◌, subst}
use mathlib.Core.Bool.{Bool, true, false}
use mathlib.Core.List.{List, [], ◌∷◌, ◌++◌, append_assoc, append-nil}
use mathlib.Core.Logic.{◌⊎◌, inl, inr}
use Prim.Native.Nat.{ℕ, ◌*◌, ◌≤◌, ◌<◌}
use native.Mathlib.Omega.{arith}
use lib.Dec.{ltb}
use lib.ListN.{length, take}
use borrow.Author.Tests.{ltb-true, ltb-false}
use Rattle.basics.specs.Tests.{choose}
use Rattle.basics.specs.Sums.{different}
use Rattle.basics.proofs.Lists.{padded_first}
use Rattle.refusal.specs.Refusals.{accepted}
use Rattle.refusal.specs.Rows.{first_of}
use Rattle.refusal.specs.Refusals.{Verdict}
use Rattle.board.specs.Spots.{Spot}
use Rattle.tree.specs.declared.Run.{Run}
use Rattle.board.specs.Spots.{most_pins, all_within}
use Rattle.tree.specs.Growth.{pins_of, runs_of}
use Rattle.tree.proofs.Membership.{Among, first, later, in_back, in_either}
use Rattle.spanning.proofs.Spanning.{none-among}
use Rattle.copper.specs.declared.Shape.{Shape}
use Rattle.copper.specs.declared.Leg.{Leg}
use Rattle.copper.specs.Length.{steps_of_all, length_of}
use Rattle.wiring.specs.declared.Laid.{Laid}
use Rattle.wiring.specs.Choices.{choices_of, legs_of_choice, length_of_choice, shortest, shortest_of, best_choice}
use Rattle.laying.specs.Entries.{most_legs, no_leg, leg_entries}
use Rattle.wiring.specs.Answer.{turned_away, answer_with, wiring_rows, wiring_with, wiring_favouring}
use Rattle.laying.specs.Reaching.{shapes_by}
use Rattle.wiring.specs.Demand.{First}
use Rattle.wiring.proofs.Ordered.{told_choice}
use Rattle.wiring.proofs.Weighed.{weighed_most}

module _ (feed : List Spot) (runs : List Run) where
  abbrev long : List Shape → ℕ
  long = length_of_choice feed runs

  -- One choice more: it takes the place of the first of the shortest where it is shorter.
  one_more : (c d : List Shape) (done : List (List Shape)) → First long done c → First long (done ++ (d ∷ [])) (choose (ltb (long d) (long c)) d c)
  one_more c d done h = go (ltb (long d) (long c)) refl
    where
      go : (t : Bool) → ltb (long d) (long c) ≡ t → First long (done ++ (d ∷ [])) (choose t d c)
      go true e =
          let l : long d < long c = ltb-true (long d) (long c) e in
          unfold choose in
          record {
            before = done;
            after = [];
            listed = refl;
            longer = λ x m. shorter l x (subst (λ (z : List (List Shape)). Among x z) h.listed m);
            as_long = λ x m. absurd (none-among refl m);
          }
        where
          shorter : long d < long c → (x : List Shape) → Among x (h.before ++ (c ∷ h.after)) → long d < long x
          shorter l x m = by (in_either h.before m)
            where
              by : Among x h.before ⊎ Among x (c ∷ h.after) → long d < long x
              by (inl p) = omega (arith, h.longer x p)
              by (inr (first q)) = rw q l
              by (inr (later p)) = omega (arith, h.as_long x p)
      go false e =
          let l : long c ≤ long d = ltb-false (long d) (long c) e in
          unfold choose in
          record {
            before = h.before;
            after = h.after ++ (d ∷ []);
            listed = ap (λ (z : List (List Shape)). z ++ (d ∷ [])) h.listed ∙ append_assoc h.before (c ∷ h.after) (d ∷ []);
            longer = h.longer;
            as_long = λ x m. by l x (in_either h.after m);
          }
        where
          by : long c ≤ long d → (x : List Shape) → Among x h.after ⊎ Among x (d ∷ []) → long c ≤ long x
          by l x (inl p) = h.as_long x p
          by l x (inr (later x6)) = elim x6 [ ]
          by l x (inr (first q)) = rw q l

  -- And so on to the last.
  walk : (c : List Shape) (done left : List (List Shape)) → First long done c → First long (done ++ left) (shortest feed runs c left)
  unfolding shortest
  walk c done [] h = rw (append-nil done) h
  walk c done (d ∷ left) h =
      subst (λ (z : List (List Shape)). First long z (shortest feed runs (choose (ltb (long d) (long c)) d c) left)) (append_assoc done (d ∷ []) left)
      (walk (choose (ltb (long d) (long c)) d c) (done ++ (d ∷ [])) left (one_more c d done h))

  -- So the first of the shortest is found among any choices.
  of_some : (choices : List (List Shape)) (c : List Shape) → Among c choices → First long choices (shortest_of feed runs choices)
  unfolding shortest_of
  of_some [] d m = elim m [ ]
  of_some (c ∷ left) d m =
      walk c (c ∷ []) left (record { before = []; after = []; listed = refl; longer = λ x n. absurd (none-among refl n); as_long = λ x n. absurd (none-among refl n) })

  -- THE BEST CHOICE IS THE FIRST OF THE SHORTEST of all choices of shapes.
  pub best_first : (favoured : Bool) → First long (choices_of favoured feed runs) (best_choice favoured feed runs)
  unfolding best_choice
  best_first favoured = of_some (choices_of favoured feed runs) (shapes_by feed (λ r. false) runs) (told_choice favoured feed runs (λ r. false))

  -- It is one of them,
  pub best_among : (favoured : Bool) → Among (best_choice favoured feed runs) (choices_of favoured feed runs)
  best_among favoured =
      let h = best_first favoured in
      subst (λ (l : List (List Shape)). Among (best_choice favoured feed runs) l) (sym h.listed) (in_back h.before (first refl))

  -- and none is shorter.
  pub none_shorter : (favoured : Bool) (c : List Shape) → Among c (choices_of favoured feed runs) → long (best_choice favoured feed runs) ≤ long c
  none_shorter favoured c m =
      let h = best_first favoured in
      by h (in_either h.before (subst (λ (z : List (List Shape)). Among c z) h.listed m))
    where
      by : (h : First long (choices_of favoured feed runs) (best_choice favoured feed runs)) → Among c h.before ⊎ Among c (best_choice favoured feed runs ∷ h.after)
          → long (best_choice favoured feed runs) ≤ long c
      by h (inl p) = omega (arith, h.longer c p)
      by h (inr (first q)) = rw q (omega arith)
      by h (inr (later p)) = h.as_long c p

-- ---- of the answer
-- Legs, or segments, stand before the entries that are not filled.
pub take_legs : (legs : List Leg) → take (length legs) (leg_entries legs) ≡ legs
unfolding leg_entries
take_legs legs = padded_first most_legs no_leg legs refl

-- What holds of an answer and of a refused wiring holds of whichever is chosen.
either_way : (P : Laid → Type 0) (t : Bool) (l m : Laid) → P l → P m → P (choose t l m)
unfolding choose
either_way P true l m p q = p
either_way P false l m p q = q

-- THE REPORTED LENGTH IS THAT OF THE LEGS of the answer.
pub length_of_legs : (favoured : Bool) (feed : List Spot) (room : ℕ)
    → (wiring_favouring favoured feed room).wiring.length ≡ length_of (take (wiring_favouring favoured feed room).wiring.legs (wiring_favouring favoured feed room).list)
unfolding wiring_favouring wiring_with
length_of_legs favoured feed room =
    let shapes = best_choice favoured feed (runs_of feed) in
    let v = first_of (wiring_rows feed shapes room) in
    either_way (λ (l : Laid). l.wiring.length ≡ length_of (take l.wiring.legs l.list)) (accepted v)
    (answer_with feed shapes) (turned_away v) (of_answer shapes) (of_none v)
  where
    of_answer : (shapes : List Shape)
        → (answer_with feed shapes).wiring.length ≡ length_of (take (answer_with feed shapes).wiring.legs (answer_with feed shapes).list)
    of_answer shapes = unfold answer_with length_of_choice in ap length_of (sym (take_legs (legs_of_choice feed (runs_of feed) shapes)))

    of_none : (v : Verdict) → (turned_away v).wiring.length ≡ length_of (take (turned_away v).wiring.legs (turned_away v).list)
    of_none v = unfold turned_away length_of different steps_of_all in refl

-- CHOICES WEIGHED NEVER EXCEED 64 TIMES the number of pins.
pub weighed_few : (favoured : Bool) (feed : List Spot) (room : ℕ) → length feed ≡ most_pins → all_within feed ≡ true
    → (wiring_favouring favoured feed room).wiring.weighed ≤ 64 * length (pins_of feed)
unfolding wiring_favouring wiring_with
weighed_few favoured feed room full ok =
    let shapes = best_choice favoured feed (runs_of feed) in
    let v = first_of (wiring_rows feed shapes room) in
    either_way (λ (l : Laid). l.wiring.weighed ≤ 64 * length (pins_of feed)) (accepted v)
    (answer_with feed shapes) (turned_away v) (of_answer shapes) (of_none v)
  where
    of_answer : (shapes : List Shape) → (answer_with feed shapes).wiring.weighed ≤ 64 * length (pins_of feed)
    of_answer shapes = unfold answer_with in weighed_most feed full ok

    of_none : (v : Verdict) → (turned_away v).wiring.weighed ≤ 64 * length (pins_of feed)
    of_none v = unfold turned_away in omega arith
