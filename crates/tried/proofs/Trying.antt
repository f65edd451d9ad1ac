-- Edits tried one after the other, as an iterator yields them; and that taking edits back is making those that take them back. Assumes nothing.
use mathlib.Core.Path.{◌≡◌, refl, sym, ap, ◌∙◌}
use mathlib.Core.Bool.{Bool, true, false}
use mathlib.Core.List.{List, [], ◌∷◌, ◌++◌, append-nil, map}
use Prim.Native.Nat.{◌+◌, ◌<◌}
use lib.ListN.{length, take, drop, get_or, take-append-drop}
use Rattle.std.proofs.Common.{append_assoc}
use Rattle.std.proofs.lemmas.Iterator.{YieldsList}
use Rattle.std.specs.Iterator.{AlwaysYields}
use Rattle.std.specs.Prelude.{Option}
use Rattle.basics.specs.Tests.{both}
use Rattle.basics.proofs.Tests.{both_if}
use Rattle.basics.proofs.Lists.{front}
use Rattle.board.specs.Spots.{Spot}
use Rattle.drawing.specs.Pins.{Pin, lawful}
use Rattle.edits.specs.declared.Edit.{Edit}
use Rattle.edits.specs.Edits.{pin_made, pin_unmade, made, makeable, unmade, takeable}
use Rattle.edits.specs.Changes.{pin_of, reversed, makeable_at, takeable_at}
use Rattle.edits.proofs.Making.{unmade-lawful}
use Rattle.edits.proofs.Reversing.{reversed_pin, reversed_pin_made, reversed_made, reversed_test, reversed_makeable}
use Rattle.journal.specs.Journal.{in_turn, makeable_all, takeable_all}
use Rattle.journal.proofs.Turns.{turn_nil, turn_yes, turn_no}

-- ---- the edits that an iterator has yielded

-- What is the same is the same read as it is.
pub map_same : {A : Type 0} (l : List A) → map (λ a. a) l ≡ l
map_same [] = refl
map_same (a ∷ l) = ap (λ m. a ∷ m) (map_same l)

-- Where a list's front has been yielded, and its next one is e, it is that front, e and what is left after it.
pub yielded_next : {A : Type 0} (e : A) (l m : List A) → map (λ a. a) m ≡ take (length m) l → (length m < length l) × (e ≡ get_or l (length m) e)
    → l ≡ m ++ (e ∷ drop (length m + 1) l)
yielded_next e l m s t = sym (take-append-drop (length m) l) ∙ rw (← s, map_same m, front e l (length m) t.0, ← t.1)

-- What holds of each list that an iterator always yields holds of the one that a chain gives.
pub of_chain : {S : Type 0} {steps : S → Option Edit → S → Type 0} {s : S} (P : List Edit → Type 0) → ((l : List Edit) → AlwaysYields steps (λ e. e) s l → P l)
    → (l : List Edit) → YieldsList steps (λ e. e) s l → P l
of_chain P h l y = h l y.runs

-- ---- one edit more

module _ (q : List Pin) (turned : Edit → Edit) (m : List Edit) (p : List Pin)
    (left : (rest : List Edit) → makeable_all q (map turned (m ++ rest)) ≡ makeable_all p (map turned rest)) where
  -- Edits m, turned, were made and left the pins p: one that can be made there is made too,
  pub next_made : (e : Edit) {r : List Pin} → makeable p (turned e) ≡ true → r ≡ made p (turned e) → (rest : List Edit)
      → makeable_all q (map turned ((m ++ (e ∷ [])) ++ rest)) ≡ makeable_all r (map turned rest)
  next_made e t h rest = rw (append_assoc m (e ∷ []) rest, h) (left (e ∷ rest) ∙ turn_yes makeable made p (turned e) (map turned rest) t)

  -- and where one cannot be made, all cannot.
  pub next_fails : (e : Edit) (l : List Edit) → makeable p (turned e) ≡ false → map (λ a. a) m ≡ take (length m) l → (length m < length l) × (e ≡ get_or l (length m) e)
      → false ≡ makeable_all q (map turned l)
  next_fails e l f s t =
      let rest = drop (length m + 1) l in
      sym
      (ap (λ (k : List Edit). makeable_all q (map turned k)) (yielded_next e l m s t)
      ∙ left (e ∷ rest)
      ∙ turn_no makeable made p (turned e) (map turned rest) f)

  -- Where they were all, all can be made.
  pub all_made : (l : List Edit) → map (λ a. a) m ≡ l → true ≡ makeable_all q (map turned l)
  all_made l s =
      sym
      (ap (λ (k : List Edit). makeable_all q (map turned k)) (sym s ∙ map_same m ∙ sym (append-nil m)) ∙ left [] ∙ turn_nil makeable made p)

-- ---- taking back

-- What tells of an edit whether it can be taken back tells whether the one that takes it back can be made,
pub tested_back : (spots : List Spot) (e : Edit) (q : Pin) (b : Bool) → b ≡ takeable_at e q spots → b ≡ makeable_at (reversed e) q spots
tested_back spots e q b h = h ∙ sym (reversed_test e q spots)

-- and the pin with the edit taken back is what that one makes of it.
pub left_back : (e : Edit) (q r : Pin) → r ≡ pin_unmade e (pin_of e) q → r ≡ pin_made (reversed e) (pin_of (reversed e)) q
left_back e q r h = h ∙ rw (reversed_pin e) (sym (reversed_pin_made e (pin_of e) q))

-- So edits can be taken back from pins that keep the rules where those that take them back can be made.
pub taken_back : (q : List Pin) (l : List Edit) → lawful q ≡ true → makeable_all q (map reversed l) ≡ takeable_all q l
unfolding in_turn
taken_back q [] k = refl
taken_back q (e ∷ l) k =
    ap (λ (t : Bool). both t (makeable_all (made q (reversed e)) (map reversed l))) (reversed_makeable q e k)
    ∙ ap (λ (m : List Pin). both (takeable q e) (makeable_all m (map reversed l))) (reversed_made q e)
    ∙ both_if (takeable q e) (λ t. taken_back (unmade q e) l (unmade-lawful q e t))
