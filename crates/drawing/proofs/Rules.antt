-- Pins that are the same, what stands at their numbers, and the rules that a drawing keeps with one pin changed. From the rules of a feed; assumes nothing.
use mathlib.Core.Path.{◌≡◌, refl, ap, ◌∙◌}
use mathlib.Core.Bool.{Bool, true, false}
use mathlib.Core.List.{List, [], ◌∷◌, map}
use Prim.Native.Nat.{ℕ, zero, suc}
use borrow.Author.Tests.{eqb-true, eq-eqb}
use lib.ListN.{length, get_or, set, length-set, length-map, get_or-map}
use Rattle.std.specs.Option.{option_eq, is_some}
use Rattle.std.specs.Prelude.{None, Some}
use Rattle.basics.proofs.Tests.{both_left, both_right, both_of}
use Rattle.basics.specs.Tests.{both, each_of}
use Rattle.basics.proofs.Anyone.{each_set}
use Rattle.board.specs.Place.{same_place}
use Rattle.board.proofs.Board.{place_same, place_self, place_told, and_both}
use Rattle.board.specs.Spots.{most_pins, spot_at, within, too_near_other, all_within, all_apart}
use Rattle.board.proofs.Rules.{apart_set}
use Rattle.drawing.specs.declared.Held.{Held}
use Rattle.drawing.specs.contracts.HeldPartialEq.TheImpl.{eq-value}
use Rattle.drawing.specs.Pins.{Pin, absent, is_there, same_held, same_pin, same_pins, has_net, lawful, spot_of, spots_of}

-- ---- pins that are the same

-- What the code's `==` of what pins hold looks at.
abbrev held_eq : Held → Held → Bool
held_eq = eq-value.it

-- What pins hold is the same where the test says so.
held_same : (h k : Held) → same_held h k ≡ true → h ≡ k
unfolding same_held
held_same h k e =
    let p : h.place ≡ k.place = place_same h.place k.place (both_left _ _ e) in
    let n : h.net ≡ k.net = eqb-true _ _ (both_left _ _ (both_right _ _ e)) in
    let m : h.part ≡ k.part = eqb-true _ _ (both_right _ _ (both_right _ _ e)) in
    λ i. record { place = p i; net = n i; part = m i }

-- Pins that pass the test are the same.
pub pin_same : (q r : Pin) → same_pin q r ≡ true → q ≡ r
unfolding same_pin
pin_same None None e = refl
pin_same None (Some k) e = cc
pin_same (Some h) None e = cc
pin_same (Some h) (Some k) e = ap Some (held_same h k e)

-- So are drawings' pins that pass it number by number.
pub pins_same : (l m : List Pin) → same_pins l m ≡ true → l ≡ m
unfolding same_pins
pins_same [] [] e = refl
pins_same [] (r ∷ m) e = cc
pins_same (q ∷ l) [] e = cc
pins_same (q ∷ l) (r ∷ m) e = rw (pin_same q r (both_left _ _ e), pins_same l m (both_right _ _ e))

-- A pin is the same as itself,
pub pin_self : (q : Pin) → same_pin q q ≡ true
unfolding same_pin same_held
pin_self None = refl
pin_self (Some h) = both_of (place_self h.place) (both_of (eq-eqb h.net h.net refl) (eq-eqb h.part h.part refl))

-- and so are a drawing's pins.
pub pins_self : (l : List Pin) → same_pins l l ≡ true
unfolding same_pins
pins_self [] = refl
pins_self (q ∷ l) = both_of (pin_self q) (pins_self l)

-- The code's `==` of what two pins hold is the test,
held_told : (h k : Held) → held_eq h k ≡ same_held h k
unfolding same_held
held_told h k = rw (place_told h.place k.place) (and_both _ _ ∙ ap (both (same_place h.place k.place)) (and_both _ _))

-- and so is that of two pins.
pub pin_told : (q r : Pin) → option_eq held_eq q r ≡ same_pin q r
unfolding same_pin
pin_told None None = refl
pin_told None (Some k) = refl
pin_told (Some h) None = refl
pin_told (Some h) (Some k) = held_told h k

-- A pin is there where the option says so.
pub there_told : (q : Pin) → is_some q ≡ is_there q
unfolding is_there
there_told None = refl
there_told (Some h) = refl

-- ---- what stands at the pin numbers

-- What stands at a number is what the pin there is.
pub spots_at : (l : List Pin) (p : ℕ) → spot_at (spots_of l) p ≡ spot_of (get_or l p absent)
unfolding spots_of spot_of
spots_at l p = get_or-map spot_of l p absent

-- What is read off a list with one entry changed changes there alone.
pub map-set : {A B : Type 0} (f : A → B) (l : List A) (i : ℕ) (a : A) → map f (set l i a) ≡ set (map f l) i (f a)
map-set f [] i a = refl
map-set f (b ∷ l) zero a = refl
map-set f (b ∷ l) (suc i) a = ap (λ (m : List _). f b ∷ m) (map-set f l i a)

-- A changed pin changes what stands at its number.
pub spots_put : (l : List Pin) (p : ℕ) (q : Pin) → spots_of (set l p q) ≡ set (spots_of l) p (spot_of q)
unfolding spots_of
spots_put l p q = map-set spot_of l p q

-- ---- the rules of a drawing

-- A drawing has its 32 numbers, its pins are on the board, no two are too near, and each has a net from 1 to 8.
pub record Lawful (l : List Pin) : Type 0 where
  pub long : length l ≡ most_pins
  pub board : all_within (spots_of l) ≡ true
  pub apart : all_apart (spots_of l) ≡ true
  pub nets : each_of has_net l ≡ true

-- Pins that keep the rules are as many as a drawing has, on the board, apart and of nets from 1 to 8;
pub lawful_parts : (l : List Pin) → lawful l ≡ true → Lawful l
unfolding lawful
lawful_parts l e =
    record {
      long = eqb-true (length l) most_pins (both_left _ _ e);
      board = both_left _ _ (both_right _ _ e);
      apart = both_left _ _ (both_right _ _ (both_right _ _ e));
      nets = both_right _ _ (both_right _ _ (both_right _ _ e));
    }

-- and such pins keep the rules.
pub lawful_whole : (l : List Pin) → Lawful l → lawful l ≡ true
unfolding lawful
lawful_whole l h = both_of (eq-eqb (length l) most_pins h.long) (both_of h.board (both_of h.apart h.nets))

-- As much stands as a drawing has pins.
pub spots_long : (l : List Pin) → lawful l ≡ true → length (spots_of l) ≡ most_pins
unfolding spots_of
spots_long l e = length-map l spot_of ∙ (lawful_parts l e).long

-- Pin p of a drawing can be changed to one of a net from 1 to 8, on the board, that no other is too near to: the drawing keeps the rules.
pub lawful-set : (l : List Pin) (p : ℕ) (q : Pin) → lawful l ≡ true → has_net q ≡ true → within (spot_of q) ≡ true → too_near_other (spots_of l) p (spot_of q) ≡ false
    → lawful (set l p q) ≡ true
lawful-set l p q e n w m =
    let h : Lawful l = lawful_parts l e in
    lawful_whole (set l p q)
    (record {
      long = length-set l p q ∙ h.long;
      board = rw (spots_put l p q) (each_set within (spots_of l) p (spot_of q) h.board w);
      apart = rw (spots_put l p q) (apart_set (spot_of q) (spots_of l) p h.apart m);
      nets = each_set has_net l p q h.nets n;
    })
