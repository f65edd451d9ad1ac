-- The loops that look for the lowest pin and for the earliest offer: one turn, and the end. Assumes nothing.
use mathlib.Core.Path.{◌≡◌, sym, ap, ap₂, ◌∙◌}
use mathlib.Core.Bool.{Bool, true, false}
use mathlib.Core.List.{List}
use Prim.Native.Nat.{ℕ, ◌+◌, ◌<◌}
use native.Mathlib.Numerals.{add-one}
use native.Mathlib.Omega.{arith}
use Rattle.std.proofs.Common.{Option, Some, None}
use lib.ListN.{length, get_or, set}
use lib.Seq.{set-get_or}
use Rattle.basics.proofs.Tests.{choose_yes, choose_no}
use Rattle.basics.proofs.Lists.{overlaid, overlaid_next, values_long, values_turn, values_all}
use Rattle.board.specs.declared.Place.{Place}
use Rattle.board.specs.Spots.{most_pins}
use Rattle.tree.specs.declared.Offer.{Offer}
use Rattle.tree.specs.Offers.{offer_of, earlier_of, earlier_offer, best_offer, offer_at, earliest_below, next_offer, near_at, next_nears}

-- ---- the earliest offer
module _ (at : ℕ → Place) (waits : List Bool) (near₀ near : List ℕ) (latest pin : ℕ) (full : length near₀ ≡ most_pins)
    (so_far : near ≡ overlaid (next_nears at waits near₀ latest) near₀ pin) where
  -- What a pin keeps is not changed before its turn.
  pub still_kept : pin < most_pins → get_or near pin 0 ≡ get_or near₀ pin 0
  unfolding next_nears
  still_kept h =
      ap (λ (l : List ℕ). get_or l pin 0) so_far
      ∙ overlaid_next (next_nears at waits near₀ latest) near₀ pin 0 (omega (arith, values_long (near_at at waits near₀ latest) 0 most_pins)) (omega arith)

  -- A pin that does not wait is passed:
  module _ (h : pin < most_pins) (w : get_or waits pin false ≡ false) where
    -- it keeps what it kept,
    pub nears_pass : near ≡ overlaid (next_nears at waits near₀ latest) near₀ (pin + 1)
    unfolding next_nears near_at
    nears_pass =
        sym (set-get_or near pin 0)
        ∙ values_turn (near_at at waits near₀ latest) most_pins near₀ 0 pin near so_far full (get_or near pin 0) h (still_kept h ∙ sym (choose_no _ _ w))

    -- and the earliest offer stays.
    pub next_pass : (next : Option Offer) → next ≡ earliest_below (offer_at at waits near₀ latest) pin → next ≡ earliest_below (offer_at at waits near₀ latest) (pin + 1)
    unfolding earliest_below offer_at earlier_offer
    next_pass next e = rw add-one (rw (choose_no (Some (best_offer at near₀ latest pin)) None w) e)

  -- One that waits gets its offer:
  module _ (h : pin < most_pins) (w : get_or waits pin false ≡ true) (kept new offer : Offer) (ek : kept ≡ offer_of at (get_or near pin 0) pin)
      (en : new ≡ offer_of at latest pin) (eo : offer ≡ earlier_of kept new) where
    -- the earlier of the two,
    offer_is : offer ≡ best_offer at near₀ latest pin
    unfolding best_offer
    offer_is = eo ∙ ap₂ earlier_of (ek ∙ ap (λ (n : ℕ). offer_of at n pin) (still_kept h)) en

    -- whose near pin it keeps,
    pub nears_turn : set near pin offer.near ≡ overlaid (next_nears at waits near₀ latest) near₀ (pin + 1)
    unfolding next_nears near_at
    nears_turn =
        values_turn (near_at at waits near₀ latest) most_pins near₀ 0 pin near so_far full offer.near h
        (ap (λ (o : Offer). o.near) offer_is ∙ sym (choose_yes _ _ w))

    -- and which is compared with the earliest so far.
    pub next_turn : (next after : Option Offer) → next ≡ earliest_below (offer_at at waits near₀ latest) pin → after ≡ earlier_offer next (Some offer)
        → after ≡ earliest_below (offer_at at waits near₀ latest) (pin + 1)
    unfolding earliest_below offer_at
    next_turn next after e f =
        rw add-one (f ∙ ap₂ earlier_offer e (ap Some offer_is ∙ sym (choose_yes (Some (best_offer at near₀ latest pin)) None w)))

  module _ (h : pin ≡ most_pins) where
    -- In the end all keep their near pins,
    pub nears_end : near ≡ next_nears at waits near₀ latest
    unfolding next_nears
    nears_end = values_all (near_at at waits near₀ latest) most_pins near₀ 0 pin near so_far full (omega arith)

    -- and the earliest is that of all.
    pub next_end : (next : Option Offer) → next ≡ earliest_below (offer_at at waits near₀ latest) pin → next ≡ next_offer at waits near₀ latest
    unfolding next_offer
    next_end next e = e ∙ ap (earliest_below (offer_at at waits near₀ latest)) h
