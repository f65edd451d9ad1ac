-- The earlier of two offers, and the earliest of the offers to the pins below a number. From the keys of pairs.
use mathlib.Core.Path.{◌≡◌, refl, sym, ap, ap₂, ◌∙◌}
use Rattle.std.proofs.Common.{Option, Some, None}
use Rattle.std.proofs.lemmas.Option.{none-some, same_Some}
use mathlib.Core.Bool.{true, false}
use mathlib.Core.List.{List}
use mathlib.Core.Logic.{◌⊎◌, inl, inr}
use Prim.Native.Nat.{ℕ, zero, suc, ◌<◌, ◌≤◌}
use native.Mathlib.Omega.{arith}
use native.Mathlib.Nat.{eq-or-lt_of_le}
use lib.Dec.{ltb}
use borrow.Author.Tests.{ltb-true, ltb-false}
use Rattle.basics.specs.Tests.{choose}
use Rattle.basics.proofs.Tests.{decide, choose_yes, choose_no}
use Rattle.board.specs.Spots.{Spot}
use Rattle.board.specs.Spots.{most_pins}
use Rattle.tree.specs.Weight.{comes_before}
use Rattle.tree.specs.declared.Offer.{Offer}
use Rattle.tree.specs.Growth.{pair_at}
use Rattle.tree.specs.Offers.{earlier_of, earlier_offer, earliest_below}
use Rattle.tree.proofs.Earliest.{Keyed}

-- The key of an offer.
abbrev pub offer_key : (ℕ → ℕ → ℕ) → Offer → ℕ
offer_key key o = key o.near o.far

-- An offer of two pins with their pair.
pub record Sound (feed : List Spot) (o : Offer) : Type 0 where
  pub near : o.near < most_pins
  pub far : o.far < most_pins
  pub pair : o.pair ≡ pair_at feed o.near o.far

-- The earlier of two offers is one of them, and neither has a smaller key.
pub record Earlier (key : ℕ → ℕ → ℕ) (o p r : Offer) : Type 0 where
  pub one : (r ≡ o) ⊎ (r ≡ p)
  pub left : offer_key key r ≤ offer_key key o
  pub right : offer_key key r ≤ offer_key key p

-- There is an offer, and its key is at most that of another.
pub record AtMost (key : ℕ → ℕ → ℕ) (r : Option Offer) (y : Offer) : Type 0 where
  pub x : Offer
  pub is : r ≡ Some x
  pub most : offer_key key x ≤ offer_key key y

-- The earliest of the offers to the pins below i is one of these; there is one where one of them is offered, and none has a smaller key.
pub record Least (key : ℕ → ℕ → ℕ) (at : ℕ → Option Offer) (i : ℕ) (r : Option Offer) : Type 0 where
  pub one : (x : Offer) → r ≡ Some x → (k : ℕ) × (k < i) × (at k ≡ Some x)
  pub least : (k : ℕ) → k < i → (y : Offer) → at k ≡ Some y → AtMost key r y

module _ {feed : List Spot} {key : ℕ → ℕ → ℕ} (keyed : Keyed feed key) where
  -- What the definition takes of two is such an offer.
  pub earlier : (o p : Offer) → Sound feed o → Sound feed p → Earlier key o p (earlier_of o p)
  unfolding earlier_of
  earlier o p so sp = go (decide (comes_before p.pair o.pair))
    where
      same : comes_before p.pair o.pair ≡ ltb (offer_key key p) (offer_key key o)
      same = ap₂ comes_before sp.pair so.pair ∙ keyed.order p.near p.far o.near o.far sp.near sp.far so.near so.far

      go : (comes_before p.pair o.pair ≡ true) ⊎ (comes_before p.pair o.pair ≡ false) → Earlier key o p (choose (comes_before p.pair o.pair) p o)
      go (inl e) =
          let m = ltb-true (offer_key key p) (offer_key key o) (sym same ∙ e) in
          rw (choose_yes p o e) (record { one = inr refl; left = omega arith; right = omega arith })
      go (inr e) =
          let m = ltb-false (offer_key key p) (offer_key key o) (sym same ∙ e) in
          rw (choose_no p o e) (record { one = inl refl; left = omega arith; right = omega arith })

  -- What the definition takes of the offers below i is such an offer.
  pub earliest-below : (at : ℕ → Option Offer) → ((k : ℕ) → k < most_pins → (y : Offer) → at k ≡ Some y → Sound feed y) → (i : ℕ) → i ≤ most_pins
      → Least key at i (earliest_below at i)
  unfolding earliest_below earlier_offer
  earliest-below at sound zero few = record { one = λ x e. absurd (none-some x e); least = λ k l y e. absurd (omega arith) }
  earliest-below at sound (suc i) few =
      more (earliest_below at i) (at i) refl (earliest-below at sound i (omega arith))
    where
      more : (r a : Option Offer) → at i ≡ a → Least key at i r → Least key at (suc i) (earlier_offer r a)
      more r None e h =
          record {
            one = λ x q. let z = h.one x q in (z.0, omega (arith, z.1), z.2);
            least = λ k l y q. least k y q (eq-or-lt_of_le (omega arith));
          }
        where
          least : (k : ℕ) (y : Offer) → at k ≡ Some y → (k ≡ i) ⊎ (k < i) → AtMost key r y
          least k y q (inl j) = absurd (none-some y (sym e ∙ rw j at q))
          least k y q (inr l) = h.least k l y q
      more None (Some p) e h =
          record {
            one = λ x q. (i, omega arith, e ∙ q);
            least = λ k l y q. least k y q (eq-or-lt_of_le (omega arith));
          }
        where
          least : (k : ℕ) (y : Offer) → at k ≡ Some y → (k ≡ i) ⊎ (k < i) → AtMost key (Some p) y
          least k y q (inl j) = record { x = p; is = refl; most = rw (same_Some p y (sym e ∙ rw j at q)) (omega arith) }
          least k y q (inr l) = let z = h.least k l y q in absurd (none-some z.x z.is)
      more (Some o) (Some p) e h =
          record {
            one = λ x q. one x q m.one;
            least = λ k l y q. least k y q (eq-or-lt_of_le (omega arith));
          }
        where
          m : Earlier key o p (earlier_of o p)
          m = earlier o p (let z = h.one o refl in sound z.0 (omega (arith, z.1)) o z.2) (sound i (omega arith) p e)

          one : (x : Offer) → Some (earlier_of o p) ≡ Some x → (earlier_of o p ≡ o) ⊎ (earlier_of o p ≡ p) → (k : ℕ) × (k < suc i) × (at k ≡ Some x)
          one x q (inl j) = let z = h.one o refl in (z.0, omega (arith, z.1), z.2 ∙ ap Some (sym j) ∙ q)
          one x q (inr j) = (i, omega arith, e ∙ ap Some (sym j) ∙ q)

          least : (k : ℕ) (y : Offer) → at k ≡ Some y → (k ≡ i) ⊎ (k < i) → AtMost key (Some (earlier_of o p)) y
          least k y q (inl j) = record { x = earlier_of o p; is = refl; most = rw (← same_Some p y (sym e ∙ rw j at q)) m.right }
          least k y q (inr l) =
              let z = h.least k l y q in
              let f : o ≡ z.x = same_Some o z.x z.is in
              record { x = earlier_of o p; is = refl; most = let g = rw (← f) at z.most in omega (arith, m.left) }
