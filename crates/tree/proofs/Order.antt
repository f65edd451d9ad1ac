-- The order of pairs of pins: no pair comes before itself, what comes before what comes before comes before, and of two pairs of
-- different pins one comes before the other. Assumes nothing.
use mathlib.Core.Path.{◌≡◌, sym, ◌∙◌}
use mathlib.Core.Bool.{true, false}
use mathlib.Core.Logic.{◌⊎◌, inl, inr}
use Prim.Native.Nat.{ℕ, ◌<◌, ◌≤◌}
use native.Mathlib.Omega.{arith}
use lib.Dec.{ltb}
use borrow.Author.Tests.{lt-ltb, le-ltb, ltb-true}
use Rattle.board.specs.declared.Place.{Place}
use Rattle.tree.specs.declared.Pair.{Pair}
use Rattle.tree.specs.Weight.{pair_of, comes_before}
use Rattle.board.proofs.Signed.{off_max}
use Rattle.board.proofs.Flat.{order, site}
use Rattle.tree.proofs.Keys.{OnBoard, Fits, key, key_one, before_key}

-- A pin: its number, below 32, and its place on the board.
pub record Pin : Type 0 where
  pub number : ℕ
  pub place : Place
  pub few : number < 32
  pub on : OnBoard place

-- The pair of two pins.
abbrev pub pair : Pin → Pin → Pair
pair p q = pair_of p.number p.place q.number q.place

-- Its key.
unfoldable pub pair_key : Pin → Pin → ℕ
pair_key p q = key (site p.place) p.number (site q.place) q.number

-- The site and the number of a pin fit the digits of a key.
pub pin_fits_lem : (p : Pin) → Fits (site p.place) p.number
pin_fits_lem p =
    record {
      x = omega (arith, off_max p.place.x p.on.held.x);
      y = omega (arith, off_max p.place.y p.on.held.y);
      number = omega (arith, p.few);
    }

-- Which of two pairs of pins comes before is the order of their keys.
pub pair_key_lem : (p q r s : Pin) → comes_before (pair p q) (pair r s) ≡ ltb (pair_key p q) (pair_key r s)
unfolding pair_key
pair_key_lem p q r s =
    before_key p.number q.number r.number s.number p.on q.on r.on s.on (omega (arith, p.few))
    (omega (arith, q.few)) (omega (arith, r.few)) (omega (arith, s.few))

-- No pair comes before itself.
pub not_itself : (p q : Pin) → comes_before (pair p q) (pair p q) ≡ false
not_itself p q = pair_key_lem p q p q ∙ le-ltb (pair_key p q) (pair_key p q) (omega arith)

-- A pair that comes before one that comes before a third comes before the third.
pub through : (p q r s t u : Pin) → comes_before (pair p q) (pair r s) ≡ true → comes_before (pair r s) (pair t u) ≡ true → comes_before (pair p q) (pair t u) ≡ true
through p q r s t u e f =
    pair_key_lem p q t u
    ∙ lt-ltb (pair_key p q) (pair_key t u)
    (omega (arith, ltb-true (pair_key p q) (pair_key r s) (sym (pair_key_lem p q r s) ∙ e), ltb-true (pair_key r s) (pair_key t u) (sym (pair_key_lem r s t u) ∙ f)))

-- The pairs are of the same two pin numbers.
abbrev pub SamePins : Pin → Pin → Pin → Pin → Type 0
SamePins p q r s =
    ((p.number ≡ r.number) × (q.number ≡ s.number)) ⊎ ((p.number ≡ s.number) × (q.number ≡ r.number))

-- Of two pairs of different pins one comes before the other.
pub one_comes : (p q r s : Pin) → (SamePins p q r s → ⊥) → (comes_before (pair p q) (pair r s) ≡ true) ⊎ (comes_before (pair r s) (pair p q) ≡ true)
one_comes p q r s differ = go (order (pair_key r s) (pair_key p q)) (order (pair_key p q) (pair_key r s))
  where
    go : (pair_key r s ≤ pair_key p q) ⊎ (pair_key p q < pair_key r s) → (pair_key p q ≤ pair_key r s) ⊎ (pair_key r s < pair_key p q)
        → (comes_before (pair p q) (pair r s) ≡ true) ⊎ (comes_before (pair r s) (pair p q) ≡ true)
    go (inr l) n = inl (pair_key_lem p q r s ∙ lt-ltb (pair_key p q) (pair_key r s) l)
    go (inl m) (inr l) = inr (pair_key_lem r s p q ∙ lt-ltb (pair_key r s) (pair_key p q) l)
    go (inl m) (inl n) =
        absurd
        (differ
        (unfold pair_key in
        key_one (site p.place) p.number (site q.place) q.number (site r.place) r.number (site s.place)
        s.number (pin_fits_lem p) (pin_fits_lem q) (pin_fits_lem r) (pin_fits_lem s)
        (omega arith)))
