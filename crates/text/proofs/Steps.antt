-- What is left of a list as a loop goes over it, one element a turn, and what it stores on the way. Assumes nothing.
use mathlib.Core.Path.{◌≡◌, sym, ◌∙◌, ap}
use mathlib.Core.List.{List, [], ◌∷◌, ◌++◌, map}
use Prim.Native.Nat.{ℕ, ◌+◌, ◌≤◌, ◌<◌}
use native.Mathlib.Omega.{arith}
use native.Mathlib.Nat.{add-zero}
use lib.ListN.{length, take, drop, get_or, set, length-drop, length-map}
use Rattle.std.proofs.lemmas.List.{drop-map}
use lib.Seq.{get_or-drop, length-take-le, take_all, sets}
pub use Rattle.basics.proofs.Lists.{front, first_more, sets-append}
use Rattle.text.specs.Text.{over}

module _ {A : Type 0} where
  -- Elements stored from a position on: one more.
  pub stored_more : (d : A) (new old : List A) (at n : ℕ) {a : A} {rest : List A} → drop n new ≡ a ∷ rest
      → (set (sets old at (take n new)) (at + n) a ≡ sets old at (take (n + 1) new)) × (n < length new)
  stored_more d new old at n {a} {rest} e =
      let k : n < length new = omega (arith, ap length e, length-drop n new) in
      let g : get_or new n d ≡ a = sym (get_or-drop n new 0 d ∙ rw (add-zero n)) ∙ ap (λ (l : List A). get_or l 0 d) e in
      let t : take n new ++ (a ∷ []) ≡ take (n + 1) new = ap (λ (b : A). take n new ++ (b ∷ [])) (sym g) ∙ first_more d new n k in
      let m : at + n ≡ at + length (take n new) = omega (arith, length-take-le n new (omega arith)) in (
        ap (λ (j : ℕ). set (sets old at (take n new)) j a) m
            ∙ sets-append old at (take n new) (a ∷ [])
            ∙ ap (λ (l : List A). sets old at l) t,
        k,
      )

  -- A buffer filled from its start on: one element more.
  fill_more : (d : A) (new old : List A) (n : ℕ) {a : A} {rest : List A} → drop n new ≡ a ∷ rest
      → (set (over (take n new) old) n a ≡ over (take (n + 1) new) old) × (n < length new)
  fill_more d new old n {a} {rest} e =
      let m : n ≡ 0 + n = omega arith in
      let s : (set (over (take n new) old) (0 + n) a ≡ over (take (n + 1) new) old) × (n < length new) = stored_more d new old 0 n e in
      (ap (λ (j : ℕ). set (over (take n new) old) j a) m ∙ s.0, s.1)

module _ {A B : Type 0} (f : A → B) (d : A) (xs : List A) (old : List B) (i : ℕ) {now : List B} (e : now ≡ over (take i (map f xs)) old) where
  -- Where what comes of each element of a list is stored in turn: one more,
  pub map_more : {b : B} → i < length xs → b ≡ f (get_or xs i d) → set now i b ≡ over (take (i + 1) (map f xs)) old
  map_more {b} h k =
      let next : drop i (map f xs) ≡ f (get_or xs i d) ∷ map f (drop (i + 1) xs) = drop-map f i xs ∙ ap (map f) (front d xs i h) in
      rw (e, k) (fill_more (f d) (map f xs) old i next).0

  -- and at the end all.
  pub map_done : length xs ≤ i → now ≡ over (map f xs) old
  map_done h = e ∙ ap (λ (l : List B). over l old) (take_all i (map f xs) (omega (arith, length-map xs f)))
