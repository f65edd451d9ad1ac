-- Which pins a form can hold: the new form any, the old one a pin of net 1 with part number 0. Assumes nothing.
use mathlib.Core.Path.{◌≡◌, refl, sym, ap}
use mathlib.Core.Bool.{true, false, not}
use mathlib.Core.List.{List, [], ◌∷◌}
use Prim.Native.Nat.{ℕ, suc, ◌<◌}
use lib.ListN.{get_or}
use native.Mathlib.Omega.{arith}
use borrow.Author.Tests.{eqb-true, eq-eqb, leb-true, not-false}
use Rattle.basics.specs.Tests.{both, choose, each_of}
use Rattle.basics.proofs.Tests.{both_left, both_right, both_of}
use Rattle.basics.proofs.Anyone.{each_at}
use Rattle.drawing.specs.declared.Held.{Held}
use Rattle.std.specs.Prelude.{None, Some}
use Rattle.drawing.specs.Pins.{Pin, absent, there, holding, is_net, is_of, spot_of, spots_of, feed_spot, feed_of}
use Rattle.pinmap.specs.declared.Form.{Form}
use Rattle.pinmap.specs.declared.Form.TheVariants.{Old, New}
use Rattle.pinmap.specs.Map.{plain, holds}
use Rattle.records.specs.Record.{record_of, net_given, wrong_byte, held_of}
use Rattle.writemap.specs.Record.{byte_for}

-- Either form can leave a pin out.
pub holds-absent : (form : Form) → holds form absent ≡ true
unfolding plain
holds-absent Old = refl
holds-absent New = refl

-- The new form holds whatever pins there are.
pub new_holds : (l : List Pin) → each_of (holds New) l ≡ true
unfolding each_of both
new_holds [] = refl
new_holds (q ∷ l) = new_holds l

-- Each pin of net 1 with part number 0, told pin by pin: the old form holds them.
pub old_holds : (l : List Pin) → ((p : ℕ) (held : Held) → get_or l p absent ≡ there held → (held.net ≡ 1) × (held.part ≡ 0)) → each_of (holds Old) l ≡ true
unfolding each_of plain both
old_holds [] f = refl
old_holds (None ∷ l) f = old_holds l (λ p. f (suc p))
old_holds (Some held ∷ l) f =
    let h = f 0 held refl in
    both_of (both_of (eq-eqb held.net 1 h.0) (eq-eqb held.part 0 h.1)) (old_holds l (λ p. f (suc p)))

-- And the other way round: a pin that the old form holds has net 1 and part number 0.
pub old_plain : (l : List Pin) → each_of (holds Old) l ≡ true → (p : ℕ) (held : Held) → get_or l p absent ≡ there held → (held.net ≡ 1) × (held.part ≡ 0)
unfolding plain
old_plain l e p held q =
    let t = rw q at (each_at plain absent l p e (λ h. refl)) in
    (eqb-true _ _ (both_left _ _ t), eqb-true _ _ (both_right _ _ t))

-- ---- what a record says of a net and a part number

-- The part number in a record of a pin with this one: 0 in the old form.
abbrev pub part_given : Form → ℕ → ℕ
part_given Old part = 0
part_given New part = part

-- What a form can hold is what its record gives back.
pub same_held_lem : (form : Form) (held : Held) → holds form (there held) ≡ true
    → holding held.place (net_given form (byte_for form held.net)) (part_given form held.part) ≡ held
unfolding plain
same_held_lem Old held t =
    let n : held.net ≡ 1 = eqb-true _ _ (both_left _ _ t) in
    let m : held.part ≡ 0 = eqb-true _ _ (both_right _ _ t) in
    λ i. record { place = held.place; net = sym n i; part = sym m i }
same_held_lem New held t = refl

-- Byte 3 of a pin's record is as it must be, where the pin's net is one from 1 to 8,
pub right_byte : (form : Form) (net : ℕ) → is_net net ≡ true → wrong_byte form (byte_for form net) ≡ false
right_byte Old net t = refl
right_byte New net t = ap not t

-- and fits a byte.
pub byte_fits : (form : Form) (net : ℕ) → is_net net ≡ true → byte_for form net < 256
unfolding is_net
byte_fits Old net t = omega arith
byte_fits New net t = omega (arith, leb-true net 8 (both_right _ _ t))

-- A byte 3 that is as it must be gives a net from 1 to 8,
pub net_given_lem : (form : Form) (byte : ℕ) → wrong_byte form byte ≡ false → is_net (net_given form byte) ≡ true
unfolding is_net both
net_given_lem Old byte e = refl
net_given_lem New byte e = not-false _ e

-- and is written again for it.
pub byte_again : (form : Form) (byte : ℕ) → wrong_byte form byte ≡ false → byte_for form (net_given form byte) ≡ byte
byte_again Old byte e = sym (eqb-true byte 0 (not-false _ e))
byte_again New byte e = refl

-- The form holds what a record of its own gives a pin.
pub holds-given : (form : Form) (bytes : List ℕ) → holds form (there (held_of form (record_of form bytes))) ≡ true
unfolding plain record_of both
holds-given Old bytes = refl
holds-given New bytes = refl

-- ---- the feed of net 1

-- A pin of net 1 with part number 0 is in the feed of net 1,
plain_fed : (q : Pin) → plain q ≡ true → feed_spot 1 q ≡ spot_of q
unfolding feed_spot is_of spot_of choose plain
plain_fed None e = refl
plain_fed (Some h) e = rw (eqb-true h.net 1 (both_left _ _ e))

-- so that the feed of net 1 is all pins where all are such.
pub plain_feed : (l : List Pin) → each_of (holds Old) l ≡ true → feed_of l 1 ≡ spots_of l
unfolding feed_of spots_of each_of
plain_feed [] e = refl
plain_feed (q ∷ l) e = rw (plain_fed q (both_left _ _ e), plain_feed l (both_right (plain q) _ e))
