-- What the `map` of an array gives, where the closure answers a function of what it is given and leaves itself as it was. Assumes nothing.
use mathlib.Core.Path.{◌≡◌, refl, sym, ap, ◌∙◌}
use mathlib.Core.List.{List, map}
use Prim.Native.Nat.{ℕ, zero, suc, ◌+◌, ◌<◌, ◌≤◌}
use native.Mathlib.Omega.{arith}
use lib.ListN.{length, get_or, length-map}
use denote.Param.Members.{Mut}
use Rattle.std.specs.Array.{IsMapOf, MapsFrom}
use Rattle.std.specs.Fn.{Called}
use Rattle.std.proofs.Common.{inl, inr}
use Rattle.std.proofs.Math.Nat.{eq-or-lt_of_le}
use Rattle.std.proofs.lemmas.List.{same_lists, get_or-map}

module _ {F A B : Type 0} {g : Mut F (A × Unit {0}) B} (f : F) (answer : A → B) (answers : (x : A) (y : B) (q : F) → Called g f (x, tt) y q → (q ≡ f) × (y ≡ answer x)) where
  -- Of n entries from number i on, each is what the function answers.
  maps_each : (xs : List A) (ys : List B) (i n j : ℕ) (d : A) (e : B) → (p : F) → p ≡ f → MapsFrom g p xs ys i n → i ≤ j → j < i + n → get_or ys j e ≡ answer (get_or xs j d)
  maps_each xs ys i zero j d e p s m low high = absurd (omega arith)
  maps_each xs ys i (suc n) j d e p s m low high =
      let t = answers m.1 m.2 m.0 (rw s at m.5) in
      elim (eq-or-lt_of_le low) [
        | inl h ↦ rw (sym h) (m.4.1 e ∙ t.1 ∙ ap answer (sym (m.3.1 d)))
        | inr h ↦ maps_each xs ys (i + 1) n j d e m.0 t.0 m.6 (omega arith) (omega arith)
      ]

  -- So the whole list is that of the answers.
  pub map_answers : (xs : List A) (ys : List B) (n : ℕ) → length xs ≡ n → IsMapOf g f xs ys n → ys ≡ map answer xs
  map_answers xs ys zero e m =
      same_lists ys (map answer xs) (m.long ∙ sym (length-map xs answer ∙ e))
      (λ k b h. absurd (omega (arith, m.long)))
  map_answers xs ys (suc n) e m =
      let d : A = m.each.1 in
      same_lists ys (map answer xs) (m.long ∙ sym (length-map xs answer ∙ e))
      (λ k b h. rw (get_or-map answer xs k d b (omega (arith, m.long, e))) (maps_each xs ys 0 (suc n) k d b f refl m.each (omega arith) (omega (arith, m.long))))
