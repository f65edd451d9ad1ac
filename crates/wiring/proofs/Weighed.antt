-- CHOICES WEIGHED IS A SUM OVER PINS, and never exceeds 64 times the number of pins. What is counted pin by pin, the pins numbered by when they
-- are reached, is the sum over pins of the definition. From pins that stand on the board.
use mathlib.Core.Path.{◌≡◌, refl, sym, ap, ap₂, ◌∙◌, subst}
use mathlib.Core.Bool.{Bool, true, false, not, cond}
use mathlib.Core.List.{List, [], ◌∷◌, map}
use Prim.Native.Nat.{ℕ, zero, suc, ◌+◌, ◌*◌, ◌^◌, ◌≤◌, ◌<◌}
use native.Mathlib.Nat.{pow-suc, mul_assoc, mul_comm}
use native.Mathlib.Omega.{arith}
use lib.Dec.{eqb}
use lib.ListN.{length}
use lib.Pow.{pow_mono}
use borrow.Author.Tests.{eq-eqb, ne_eqb, eqb-true, eqb-false}
use Rattle.basics.specs.Tests.{both, choose}
use Rattle.basics.proofs.Lists.{empty}
use Rattle.basics.specs.Sums.{sum}
use Rattle.board.specs.declared.Place.{Place}
use Rattle.board.specs.Spots.{Spot}
use Rattle.board.proofs.Signed.{eqb_same}
use Rattle.board.specs.Place.{is_straight}
use Rattle.tree.specs.declared.Run.{Run}
use Rattle.board.specs.Spots.{most_pins, all_within}
use Rattle.tree.specs.Growth.{kept_if, without, pins_of, runs_of}
use Rattle.tree.specs.Bends.{bent, bent_from, bent_into}
use Rattle.basics.specs.Sums.{how_many, one_if}
use Rattle.tree.proofs.Membership.{Among, first, later, Distinct, also, without-none, distinct_without, pins_once, distinct_rest}
use Rattle.tree.proofs.Listing.{Listed, done, taking, Rooted, runs_listed, runs_rooted}
use Rattle.tree.specs.Reached.{run_at, reached_pin, reached_near, reached_place}
use Rattle.spanning.proofs.Positions.{near_before, near_pin_lem, far_pin, first_pin_lem, reached_once}
use Rattle.spanning.proofs.Bent.{six_leading}
use Rattle.copper.specs.Least.{is_bent}
use Rattle.basics.proofs.Sums.{sum_below, sum_same, sum-none, sum-only}
use Rattle.least.specs.Asking.{doubled_if}
use Rattle.least.specs.Asking as asked
use Rattle.least.proofs.Whole as whole
use Rattle.wiring.specs.Choices.{weighed_at, weighed_of}
use Rattle.wiring.proofs.Masks.{sum_front}
use Rattle.wiring.proofs.Laying.{near_place, far_place, grown}

-- ---- a sum over pins, however they are listed
-- One pin taken out of it.
sum-without : (g : ℕ → ℕ) (t : ℕ) (l : List ℕ) → Distinct l → Among t l → sum (map g l) ≡ g t + sum (map g (without t l))
unfolding without sum kept_if
sum-without g t [] _ x3 = elim x3 [ ]
sum-without g t (a ∷ l) (also out d) (first e) =
    rw (eq-eqb a t (sym e))
    (ap₂ (λ (x y : ℕ). x + y) (ap g (sym e)) (ap (λ (k : List ℕ). sum (map g k)) (sym (without-none t l (λ m. out (subst (λ (z : ℕ). Among z l) e m))))))
sum-without g t (a ∷ l) (also out d) (later m) =
    rw (ne_eqb a t (λ e. out (subst (λ (z : ℕ). Among z l) (sym e) m))) (omega (arith, sum-without g t l d m))

-- The pins that are left are the far pins of the runs.
sum-listed : {key : ℕ → ℕ → ℕ} (g : ℕ → ℕ) {reached left : List ℕ} {rs : List Run} → Distinct left → Listed key reached left rs
    → sum (map g left) ≡ sum_below (length rs) (λ r. g (run_at rs r).far)
unfolding sum
sum-listed g d done = unfold sum_below in refl
sum-listed g d (taking {left = left} {r = r} {rs = rs} h l) =
    sum-without g r.far left d h.to ∙ ap (λ (z : ℕ). g r.far + z) (sum-listed g (distinct_without r.far d) l)
    ∙ sym (sum_front (length rs) (λ q. g (run_at (r ∷ rs) q).far))

-- ---- one pin
-- 2 where a test holds, else 1.
abbrev twice : Bool → ℕ
twice t = choose t 2 1

-- 1 where there is none, else 2.
abbrev twice_some : ℕ → ℕ
twice_some n = choose (eqb n 0) 1 2

-- Twice as many is one power more ..
power_twice : (w c k : ℕ) → w ≡ 2 ^ c * k → w + w ≡ 2 ^ (1 + c) * k
power_twice w c k e =
    let p : 2 ^ (1 + c) ≡ 2 ^ c * 2 = ap (λ (z : ℕ). 2 ^ z) (let y : 1 + c ≡ suc c = omega arith in y) ∙ pow-suc 2 c in
    let q : 2 ^ c * 2 * k ≡ 2 ^ c * k * 2 = mul_assoc (2 ^ c) 2 k ∙ ap (λ (z : ℕ). 2 ^ c * z) (mul_comm 2 k) ∙ sym (mul_assoc (2 ^ c) k 2) in
    rw (p, q) (omega arith)

-- .. and as many as before is none.
power_once : (w c k : ℕ) → w ≡ 2 ^ c * k → w ≡ 2 ^ (0 + c) * k
power_once w c k e = rw (let y : 0 + c ≡ c = omega arith in y) e

module _ (at : ℕ → Place) (near : ℕ → ℕ) where
  -- The choices weighed at a pin are a power of two.
  weighed_power : (m i : ℕ) → whole.weighed_at at near m i
      ≡ 2 ^ sum_below m (λ r. one_if (both (eqb (near r) i) (is_bent at near r))) * choose (asked.is_bent_into at near i) 2 1
  unfolding whole.weighed_at sum_below
  weighed_power zero i = go (asked.is_bent_into at near i)
    where
      go : (t : Bool) → doubled_if t 1 ≡ 2 ^ 0 * choose t 2 1
      go true = unfold doubled_if choose in refl
      go false = unfold doubled_if choose in refl
  weighed_power (suc m) i = go (eqb (near m) i) (is_bent at near m) (weighed_power m i)
    where
      k : ℕ
      k = choose (asked.is_bent_into at near i) 2 1

      c : ℕ
      c = sum_below m (λ r. one_if (both (eqb (near r) i) (is_bent at near r)))

      go : (h b : Bool) → whole.weighed_at at near m i ≡ 2 ^ c * k
          → cond h (doubled_if b (whole.weighed_at at near m i)) (whole.weighed_at at near m i) ≡ 2 ^ (one_if (both h b) + c) * k
      go true true e = unfold doubled_if choose both in power_twice (whole.weighed_at at near m i) c k e
      go true false e = unfold doubled_if choose both in power_once (whole.weighed_at at near m i) c k e
      go false b e = unfold both choose in power_once (whole.weighed_at at near m i) c k e

-- How many runs pass a test, as a sum over the runs.
many_sum : (test : Run → Bool) (runs : List Run) → how_many test runs ≡ sum_below (length runs) (λ r. one_if (test (run_at runs r)))
unfolding how_many
many_sum test [] = unfold sum_below in refl
many_sum test (r ∷ runs) = ap (λ (z : ℕ). one_if (test r) + z) (many_sum test runs) ∙ sym (sum_front (length runs) (λ q. one_if (test (run_at (r ∷ runs) q))))

-- Where no bent run reached a pin, nothing is doubled ..
doubled_none : (n : ℕ) → n ≡ 0 → twice_some n ≡ twice false
unfolding choose
doubled_none n e = rw (eq-eqb n 0 e)

-- .. and where one run did, it decides.
doubled_one : (n : ℕ) (t : Bool) → n ≡ one_if t → twice_some n ≡ twice t
unfolding choose
doubled_one n true e = rw (ne_eqb n 0 (λ z. omega arith))
doubled_one n false e = rw (eq-eqb n 0 e)

-- A run of another pin is not counted ..
fails_both : (t s : Bool) → t ≡ false → one_if (both t s) ≡ 0
unfolding both
fails_both t s e = rw e

-- .. and one of this pin where it is bent.
holds-both : (t s : Bool) → t ≡ true → one_if (both t s) ≡ one_if s
unfolding both
holds-both t s e = rw e

-- A pin alone.
lone : (at : ℕ → Place) (near : ℕ → ℕ) (feed : List Spot) (f : ℕ) → asked.weighed_below at near 0 0 ≡ sum (map (weighed_at feed []) (f ∷ []))
unfolding asked.weighed_below asked.weighed_from asked.is_bent_into doubled_if choose sum weighed_at how_many
lone at near feed f = refl

module _ (feed : List Spot) (full : length feed ≡ most_pins) (ok : all_within feed ≡ true) (f : ℕ) (left : List ℕ) (e : pins_of feed ≡ f ∷ left) where
  abbrev runs : List Run
  runs = runs_of feed

  abbrev n : ℕ
  n = length runs

  abbrev at : ℕ → Place
  at = reached_place feed runs

  abbrev near : ℕ → ℕ
  near = reached_near runs

  abbrev root : Rooted f left runs
  root = runs_rooted feed full ok f left e

  -- A run is bent where the definition says so ..
  bent_told : (r : ℕ) → r < n → is_bent at near r ≡ bent feed (run_at runs r)
  unfolding is_bent bent is_straight
  bent_told r l = ap not (ap₂ is_straight (near_place feed full ok f left e r l) (far_place feed full ok f left e r))

  -- .. and leads on from the same pin.
  near_told : (r i : ℕ) → r < n → i < suc n → eqb (near r) i ≡ eqb (reached_pin runs i) (run_at runs r).near
  near_told r i l k =
      eqb_same (near r) i (reached_pin runs i) (run_at runs r).near (λ z. ap (reached_pin runs) (sym z) ∙ near_pin_lem f left runs root r l)
      (λ z. reached_once f left runs root (near r) i (omega (arith, near_before f left runs root r l)) k (near_pin_lem f left runs root r l ∙ sym z))

  -- Whether a bent run reached a pin, as the definition counts.
  into_told : (i : ℕ) → 0 < n → i < suc n → twice (asked.is_bent_into at near i) ≡ twice_some (bent_into feed runs (reached_pin runs i))
  unfolding asked.is_bent_into
  into_told zero o l =
      sym
      (doubled_none (bent_into feed runs (reached_pin runs 0))
      (many_sum (λ r. both (eqb (reached_pin runs 0) r.far) (bent feed r)) runs
      ∙ sum-none n (λ r. one_if (both (eqb (reached_pin runs 0) (run_at runs r).far) (bent feed (run_at runs r))))
      (λ r k.
      fails_both (eqb (reached_pin runs 0) (run_at runs r).far) (bent feed (run_at runs r))
      (ne_eqb (reached_pin runs 0) (run_at runs r).far (λ z. root.far_new r k (sym z ∙ first_pin_lem f left runs root o))))))
  into_told (suc q) o l =
      ap (λ (t : Bool). twice t) (bent_told q (omega arith))
      ∙ sym
      (doubled_one (bent_into feed runs (reached_pin runs (suc q))) (bent feed (run_at runs q))
      (many_sum (λ r. both (eqb (reached_pin runs (suc q)) r.far) (bent feed r)) runs
      ∙ sum-only n q (λ r. one_if (both (eqb (reached_pin runs (suc q)) (run_at runs r).far) (bent feed (run_at runs r)))) (omega arith)
      (λ r k ne.
      fails_both (eqb (reached_pin runs (suc q)) (run_at runs r).far) (bent feed (run_at runs r))
      (ne_eqb (reached_pin runs (suc q)) (run_at runs r).far
      (λ z.
      let y : suc q ≡ suc r = reached_once f left runs root (suc q) (suc r) l (omega arith) (z ∙ sym (far_pin f left runs root r)) in ne (omega (arith, y)))))
      ∙ holds-both (eqb (reached_pin runs (suc q)) (run_at runs q).far) (bent feed (run_at runs q))
      (eq-eqb (reached_pin runs (suc q)) (run_at runs q).far (far_pin f left runs root q))))

  -- So the choices weighed at a pin are those of the definition,
  at_told : (i : ℕ) → 0 < n → i < suc n → whole.weighed_at at near n i ≡ weighed_at feed runs (reached_pin runs i)
  unfolding weighed_at
  at_told i o l =
      weighed_power at near n i
      ∙ ap₂ (λ (c k : ℕ). 2 ^ c * k)
      (sum_same n (λ r. one_if (both (eqb (near r) i) (is_bent at near r)))
      (λ r. one_if (both (eqb (reached_pin runs i) (run_at runs r).near) (bent feed (run_at runs r))))
      (λ r k. ap₂ (λ (s t : Bool). one_if (both s t)) (near_told r i k l) (bent_told r k))
      ∙ sym (many_sum (λ r. both (eqb (reached_pin runs i) r.near) (bent feed r)) runs))
      (into_told i o l)

  -- and so is their sum as the pins are reached, where there are runs,
  many_told : 0 < n → asked.weighed_below at near n 0 ≡ sum (map (weighed_at feed runs) (f ∷ left))
  unfolding sum
  many_told o =
      whole.tree_weighed at near n (grown feed full ok f left e)
      ∙ sum_same (suc n) (whole.weighed_at at near n) (λ i. weighed_at feed runs (reached_pin runs i)) (λ i l. at_told i o l)
      ∙ sum_front n (λ i. weighed_at feed runs (reached_pin runs i))
      ∙ ap₂ (λ (x y : ℕ). x + y) (ap (weighed_at feed runs) (first_pin_lem f left runs root o))
      (sum_same n (λ r. weighed_at feed runs (reached_pin runs (suc r))) (λ r. weighed_at feed runs (run_at runs r).far)
      (λ r l. ap (weighed_at feed runs) (far_pin f left runs root r))
      ∙ sym (sum-listed (weighed_at feed runs) (distinct_rest (pins_once feed f left e)) (runs_listed feed full ok f left e)))

  -- and where there is none.
  one_told : n ≡ 0 → asked.weighed_below at near n 0 ≡ sum (map (weighed_at feed runs) (f ∷ left))
  one_told z =
      subst (λ (k : ℕ). asked.weighed_below at near k 0 ≡ sum (map (weighed_at feed runs) (f ∷ left))) (sym z)
      (subst (λ (l : List ℕ). asked.weighed_below at near 0 0 ≡ sum (map (weighed_at feed runs) (f ∷ l))) (sym (empty left (sym root.many ∙ z)))
      (subst (λ (l : List Run). asked.weighed_below at near 0 0 ≡ sum (map (weighed_at feed l) (f ∷ []))) (sym (empty runs z)) (lone at near feed f)))

  -- Choices weighed, as they are counted, are those of the definition.
  pub weighed_told : asked.weighed_below at near n 0 ≡ weighed_of feed runs (pins_of feed)
  unfolding weighed_of
  weighed_told = go (eqb n 0) refl ∙ ap (weighed_of feed runs) (sym e)
    where
      go : (t : Bool) → eqb n 0 ≡ t → asked.weighed_below at near n 0 ≡ sum (map (weighed_at feed runs) (f ∷ left))
      go true y = one_told (eqb-true n 0 y)
      go false y = let ne : n ≡ 0 → ⊥ = eqb-false n 0 y in many_told (omega (arith, ne))

-- ---- the bound
-- At most six bent runs at a pin give at most 64 choices.
power_six : (c i : ℕ) → c + i ≤ 6 → 2 ^ c * twice_some i ≤ 64
power_six c i l = go (eqb i 0) refl
  where
    go : (t : Bool) → eqb i 0 ≡ t → 2 ^ c * choose t 1 2 ≤ 64
    go true e =
        let p : 2 ^ c ≤ 2 ^ 6 = pow_mono (let z : c ≤ 6 = omega arith in z) in
        unfold choose in (let z : 2 ^ c * 1 ≤ 64 = omega (arith, p) in z)
    go false e =
        let ne : i ≡ 0 → ⊥ = eqb-false i 0 e in
        let p : 2 ^ suc c ≤ 2 ^ 6 = pow_mono (let z : suc c ≤ 6 = omega (arith, ne) in z) in
        unfold choose in (let z : 2 ^ c * 2 ≤ 64 = omega (arith, pow-suc 2 c, p) in z)

module _ (feed : List Spot) (full : length feed ≡ most_pins) (ok : all_within feed ≡ true) where
  -- At most 64 choices are weighed at a pin ..
  pub pin_most : (p : ℕ) → weighed_at feed (runs_of feed) p ≤ 64
  unfolding weighed_at
  pin_most p = power_six (bent_from feed (runs_of feed) p) (bent_into feed (runs_of feed) p) (six_leading feed full ok p)

  -- .. at most 64 at each of some pins ..
  pins_most : (pins : List ℕ) → weighed_of feed (runs_of feed) pins ≤ 64 * length pins
  unfolding weighed_of sum
  pins_most [] = omega arith
  pins_most (p ∷ pins) = omega (arith, pin_most p, pins_most pins)

  -- .. so never more than 64 times the number of pins.
  pub weighed_most : weighed_of feed (runs_of feed) (pins_of feed) ≤ 64 * length (pins_of feed)
  weighed_most = pins_most (pins_of feed)
