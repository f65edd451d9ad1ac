-- One turn of the growth: each pin left keeps its earliest pair with the pins reached before the latest, so the earliest offer is the
-- earliest pair of all. From the keys of pairs.
use mathlib.Core.Path.{◌≡◌, refl, sym, ap, ap₂, ◌∙◌}
use mathlib.Core.Bool.{Bool, true, false}
use mathlib.Core.List.{List, [], ◌∷◌}
use mathlib.Core.Logic.{◌⊎◌, inl, inr}
use Prim.Native.Nat.{ℕ, zero, suc, ◌<◌, ◌≤◌}
use native.Mathlib.Omega.{arith}
use Rattle.std.proofs.Common.{Some, None}
use Rattle.std.proofs.lemmas.Option.{none-some, same_Some}
use lib.ListN.{get_or, set}
use lib.Seq.{get_or-set_other}
use Rattle.basics.proofs.Tests.{opposite, decide, choose_yes, choose_no}
use Rattle.basics.proofs.Lists.{value_at}
use Rattle.board.specs.declared.Place.{Place}
use Rattle.board.specs.Spots.{Spot}
use Rattle.board.specs.Spots.{most_pins, place_at}
use Rattle.board.proofs.Flat.{same_or_not}
use Rattle.tree.specs.declared.Offer.{Offer}
use Rattle.tree.specs.Growth.{run, pair_at, without}
use Rattle.tree.specs.Weight.{pair_of}
use Rattle.tree.specs.Offers.{offer_of, earlier_of, best_offer, offer_at, next_offer, near_at, next_nears}
use Rattle.tree.proofs.Membership.{Among, first, later, Distinct, without_in, in_without, distinct_without}
use Rattle.tree.proofs.Earliest.{Keyed, Earliest}
use Rattle.tree.proofs.Choosing.{Sound, Earlier, earlier, AtMost, Least, earliest-below}

-- What the pins keep, when some are reached, `latest` the last of them, and some are left, all of them standing as `at` says: a pin waits
-- just where it is left, and keeps the near pin of the earliest of its pairs with the pins reached before the latest.
pub record Linked (feed : List Spot) (key : ℕ → ℕ → ℕ) (at : ℕ → Place) (reached left : List ℕ) (waits : List Bool) (near : List ℕ) (latest : ℕ) : Type 0 where
  pub reached_at : (a : ℕ) → Among a reached → at a ≡ place_at feed a
  pub left_at : (a : ℕ) → Among a left → at a ≡ place_at feed a
  pub apart : (a : ℕ) → Among a reached → Among a left → ⊥
  pub low : (a : ℕ) → Among a reached → a < most_pins
  pub short : (a : ℕ) → Among a left → a < most_pins
  pub once : Distinct left
  pub waiting : (k : ℕ) → k < most_pins → get_or waits k false ≡ true → Among k left
  pub awaited : (k : ℕ) → Among k left → get_or waits k false ≡ true
  pub last : Among latest reached
  pub from : (k : ℕ) → Among k left → Among (get_or near k 0) reached
  pub least : (k : ℕ) → Among k left → (a : ℕ) → Among a reached → (a ≡ latest) ⊎ (key (get_or near k 0) k ≤ key a k)

-- The offer to a pin that is left: the earliest of its pairs with the reached pins.
pub record Offered (feed : List Spot) (key : ℕ → ℕ → ℕ) (reached : List ℕ) (k : ℕ) (o : Offer) : Type 0 where
  pub far : o.far ≡ k
  pub pair : o.pair ≡ pair_at feed o.near k
  pub from : Among o.near reached
  pub least : (a : ℕ) → Among a reached → key o.near k ≤ key a k

-- A test that is put off at a number is off there.
pub set_off : (l : List Bool) (i : ℕ) → get_or (set l i false) i false ≡ false
set_off [] i = refl
set_off (t ∷ l) zero = refl
set_off (t ∷ l) (suc i) = set_off l i

module _ {feed : List Spot} {key : ℕ → ℕ → ℕ} {at : ℕ → Place} {reached left : List ℕ} {waits : List Bool} {near : List ℕ} {latest : ℕ}
    (keyed : Keyed feed key) (h : Linked feed key at reached left waits near latest) where
  -- The best offer to a pin that is left is such an offer,
  pub offered : (k : ℕ) → Among k left → Offered feed key reached k (best_offer at near latest k)
  unfolding best_offer offer_of pair_at
  offered k hk =
      go (earlier_of old new)
      (earlier keyed old new (record { near = h.low (get_or near k 0) (h.from k hk); far = h.short k hk; pair = same (h.from k hk) })
      (record { near = h.low latest h.last; far = h.short k hk; pair = same h.last }))
    where
      old : Offer
      old = offer_of at (get_or near k 0) k

      new : Offer
      new = offer_of at latest k

      same : {a : ℕ} → Among a reached → (offer_of at a k).pair ≡ pair_at feed a k
      same {a} m = ap₂ (λ (p q : Place). pair_of a p k q) (h.reached_at a m) (h.left_at k hk)

      go : (r : Offer) → Earlier key old new r → Offered feed key reached k r
      go r e =
          record {
            far = far e.one;
            pair = pair e.one;
            from = from e.one;
            least = λ a ha. least a (far e.one) (h.least k hk a ha);
          }
        where
          far : (r ≡ old) ⊎ (r ≡ new) → r.far ≡ k
          far (inl q) = ap (λ (o : Offer). o.far) q
          far (inr q) = ap (λ (o : Offer). o.far) q

          pair : (r ≡ old) ⊎ (r ≡ new) → r.pair ≡ pair_at feed r.near k
          pair (inl q) = rw q (same (h.from k hk))
          pair (inr q) = rw q (same h.last)

          from : (r ≡ old) ⊎ (r ≡ new) → Among r.near reached
          from (inl q) = rw q (h.from k hk)
          from (inr q) = rw q h.last

          least : (a : ℕ) → r.far ≡ k → (a ≡ latest) ⊎ (key (get_or near k 0) k ≤ key a k) → key r.near k ≤ key a k
          least a f (inl q) = rw q (rw f at e.right)
          least a f (inr l) = let z : key r.near k ≤ key (get_or near k 0) k = rw f at e.left in omega arith

  -- and that pin is offered it;
  pub gets : (k : ℕ) → Among k left → offer_at at waits near latest k ≡ Some (best_offer at near latest k)
  unfolding offer_at
  gets k hk = choose_yes (Some (best_offer at near latest k)) None (h.awaited k hk)

  -- whatever is offered is the best offer to a pin that is left.
  pub offers : (k : ℕ) → k < most_pins → (y : Offer) → offer_at at waits near latest k ≡ Some y → Among k left × (best_offer at near latest k ≡ y)
  unfolding offer_at
  offers k l y e = go (decide (get_or waits k false))
    where
      go : (get_or waits k false ≡ true) ⊎ (get_or waits k false ≡ false) → Among k left × (best_offer at near latest k ≡ y)
      go (inl t) = (h.waiting k l t, same_Some _ _ (sym (choose_yes (Some (best_offer at near latest k)) None t) ∙ e))
      go (inr t) = absurd (none-some y (sym (choose_no (Some (best_offer at near latest k)) None t) ∙ e))

  -- So every offer is sound,
  sound : (k : ℕ) → k < most_pins → (y : Offer) → offer_at at waits near latest k ≡ Some y → Sound feed y
  sound k l y e =
      let z = offers k l y e in
      let o = rw z.1 at (offered k z.0) in
      record { near = h.low y.near o.from; far = rw o.far l; pair = rw o.far o.pair }

  -- and the earliest of all is the least of them.
  best : Least key (offer_at at waits near latest) most_pins (next_offer at waits near latest)
  unfolding next_offer
  best = earliest-below keyed (offer_at at waits near latest) sound most_pins (omega arith)

  -- Where a pin is left, there is one;
  pub next_some : (k : ℕ) → Among k left → AtMost key (next_offer at waits near latest) (best_offer at near latest k)
  next_some k hk = best.least k (h.short k hk) (best_offer at near latest k) (gets k hk)

  -- where there is one, it is the earliest pair between a reached pin and one left.
  pub offer_earliest : (x : Offer) → next_offer at waits near latest ≡ Some x → Earliest key reached left (run x.near x.far)
  offer_earliest x w =
      let z = best.one x w in
      let y = offers z.0 z.1 x z.2 in
      let o = rw y.1 at (offered z.0 y.0) in
      record {
        from = o.from;
        to = rw o.far y.0;
        least = λ a b ha hb. least a b ha hb;
      }
    where
      least : (a b : ℕ) → Among a reached → Among b left → key x.near x.far ≤ key a b
      least a b ha hb =
          let o = offered b hb in
          let m = next_some b hb in
          let l = rw (o.far, same_Some m.x x (sym m.is ∙ w)) at m.most in
          omega (arith, o.least a ha)

  -- What the pins keep when one more pin, t, is reached.
  pub linked_next : (t : ℕ) → Among t left
      → Linked feed key at (t ∷ reached) (without t left) (set waits t false) (next_nears at waits near latest) t
  unfolding next_nears near_at
  linked_next t ht =
      record {
        reached_at = λ a m. stands a m;
        left_at = λ a m. h.left_at a (without_in t left m).0;
        apart = λ a m n. apart a m (without_in t left n);
        low = λ a m. low a m;
        short = λ a m. h.short a (without_in t left m).0;
        once = distinct_without t h.once;
        waiting = λ k l w. waiting k l w (same_or_not k t);
        awaited = λ k m. let z = without_in t left m in get_or-set_other waits t k false false z.1 ∙ h.awaited k z.0;
        last = first refl;
        from = λ k m. let z = without_in t left m in later {l = reached} (rw (keeps k z.0) (offered k z.0).from);
        least = λ k m a n. least k (without_in t left m).0 a n;
      }
    where
      keeps : (k : ℕ) → Among k left → get_or (next_nears at waits near latest) k 0 ≡ (best_offer at near latest k).near
      keeps k m = value_at (near_at at waits near latest) most_pins k 0 (h.short k m) ∙ choose_yes _ (get_or near k 0) (h.awaited k m)

      stands : (a : ℕ) → Among a (t ∷ reached) → at a ≡ place_at feed a
      stands a (first e) = rw e (h.left_at t ht)
      stands a (later m) = h.reached_at a m

      apart : (a : ℕ) → Among a (t ∷ reached) → Among a left × (a ≡ t → ⊥) → ⊥
      apart a (first e) n = n.1 e
      apart a (later m) n = h.apart a m n.0

      low : (a : ℕ) → Among a (t ∷ reached) → a < most_pins
      low a (first e) = rw e (h.short t ht)
      low a (later m) = h.low a m

      waiting : (k : ℕ) → k < most_pins → get_or (set waits t false) k false ≡ true → (k ≡ t) ⊎ (k ≡ t → ⊥) → Among k (without t left)
      waiting k l w (inl e) = absurd (opposite w (rw e (set_off waits t)))
      waiting k l w (inr n) = in_without t (h.waiting k l (sym (get_or-set_other waits t k false false n) ∙ w)) n

      least : (k : ℕ) → Among k left → (a : ℕ) → Among a (t ∷ reached) → (a ≡ t) ⊎ (key (get_or (next_nears at waits near latest) k 0) k ≤ key a k)
      least k m a (first e) = inl e
      least k m a (later n) = inr (rw (keeps k m) ((offered k m).least a n))
