-- The rows of bare wiring before the pins are wired, 16, 17, 8, 9: each one's answer, and what an accepted feed keeps. Assumes nothing.
use mathlib.Core.Path.{◌≡◌, refl, sym, ap}
use mathlib.Core.Bool.{true, false, not}
use mathlib.Core.List.{List}
use Prim.Native.Nat.{ℕ, ◌≤◌}
use lib.IntN.{ℤ}
use lib.Dec.{eqb, ltb}
use lib.ListN.{length}
use borrow.Author.Tests.{not-false, eq-eqb, ne_eqb, eqb-true, ltb-false}
use Rattle.basics.specs.Tests.{both, choose}
use Rattle.basics.proofs.Tests.{either-false, choose_yes}
use Rattle.refusal.specs.Refusals.{Verdict, accepted}
use Rattle.refusal.specs.Rows.{first_of, NoneHolds, granted}
use Rattle.refusal.proofs.Rows.{hit, miss, none-accepted, none-holds, distinct, unlike, Apart, apart_by}
use Rattle.refusal.specs.declared.Refusal.{Refusal}
use Rattle.refusal.specs.declared.Refusal.TheVariants.{ListLengths, NoPins, Outside, PinTooNear}
use Rattle.std.specs.Prelude.{Result, Ok, Err}
use Rattle.board.specs.Spots.{Spot, most_pins, all_within, all_apart}
use Rattle.wiring.specs.Answer.{turned_away, wiring_of}
use Rattle.bare.specs.Bare.{feed_of_lists, wrong_lengths, list_rows, bare_of}
use Rattle.copper.specs.declared.Favour.{Favour}

-- A verdict by which something is not granted is that refusal,
refusing : {A : Type 0} (v : Verdict) (x : A) (r : Refusal) → Err r ≡ granted v x → v ≡ Err r
refusing (Ok a) x r e = absurd cc
refusing (Err s) x r e = let z : s ≡ r = cc in ap Err z

-- and one by which it is granted is accepted.
granting : {A : Type 0} (v : Verdict) (x y : A) → Ok y ≡ granted v x → (accepted v ≡ true) × (y ≡ x)
unfolding accepted
granting (Ok a) x y e = (refl, cc)
granting (Err s) x y e = absurd cc

module _ (xs ys : List ℤ) where
  -- Where the lengths are not wrong, they are equal and at most 32.
  pub lengths_right : wrong_lengths xs ys ≡ false → (length xs ≡ length ys) × (length xs ≤ most_pins)
  unfolding wrong_lengths
  lengths_right e =
      let h = either-false (not (eqb (length xs) (length ys))) (ltb most_pins (length xs)) e in
      (eqb-true (length xs) (length ys) (not-false _ h.0), ltb-false most_pins (length xs) h.1)

  -- The rows are apart.
  pub list_apart : Apart (list_rows xs ys)
  unfolding distinct unlike both
  list_apart = apart_by (list_rows xs ys) refl

  -- What the lists are answered is their feed, or the refusal in its place.
  abbrev answered : Verdict → Result (List Spot) Refusal
  answered v = granted v (feed_of_lists xs ys)

  -- Wrong lengths are refused with 16,
  pub lengths_wrong : wrong_lengths xs ys ≡ true → Err ListLengths ≡ answered (first_of (list_rows xs ys))
  lengths_wrong e = ap answered (hit ListLengths _ e)

  module _ (right : wrong_lengths xs ys ≡ false) where
    -- then no pins with 17,
    pub no_pins : length xs ≡ 0 → Err NoPins ≡ answered (first_of (list_rows xs ys))
    no_pins e = ap answered (miss ListLengths _ right (hit NoPins _ (eq-eqb (length xs) 0 e)))

    module _ (some : length xs ≡ 0 → ⊥) where
      -- then a pin outside the board with 8,
      pub one_outside : all_within (feed_of_lists xs ys) ≡ false → Err Outside ≡ answered (first_of (list_rows xs ys))
      one_outside e = ap answered (miss ListLengths _ right (miss NoPins _ (ne_eqb (length xs) 0 some) (hit Outside _ (ap not e))))

      -- then two pins too near with 9;
      pub two_near : all_within (feed_of_lists xs ys) ≡ true → all_apart (feed_of_lists xs ys) ≡ false → Err PinTooNear ≡ answered (first_of (list_rows xs ys))
      two_near e f =
          ap answered
          (miss ListLengths _ right (miss NoPins _ (ne_eqb (length xs) 0 some) (miss Outside _ (ap not e) (hit PinTooNear _ (ap not f)))))

      -- and what is left is accepted.
      pub all_well : all_within (feed_of_lists xs ys) ≡ true → all_apart (feed_of_lists xs ys) ≡ true
          → Ok (feed_of_lists xs ys) ≡ answered (first_of (list_rows xs ys))
      unfolding NoneHolds
      all_well e f = ap answered (sym (none-accepted (list_rows xs ys) (right, (ne_eqb (length xs) 0 some, (ap not e, (ap not f, tt))))))

-- The whole answer: a refusal, or the wiring of the feed.
module _ (xs ys : List ℤ) (room : ℕ) (favour : Favour) where
  -- What the rows refuse is turned away.
  pub turned : (r : Refusal) → Err r ≡ answered xs ys (first_of (list_rows xs ys)) → turned_away (Err r) ≡ bare_of xs ys room favour
  unfolding bare_of accepted choose
  turned r e = rw (refusing (first_of (list_rows xs ys)) _ r e)

  -- What they accept is a feed whose pins are on the board,
  pub feed_within : (feed : List Spot) → Ok feed ≡ answered xs ys (first_of (list_rows xs ys)) → all_within feed ≡ true
  unfolding NoneHolds
  feed_within feed e =
      let h = granting (first_of (list_rows xs ys)) _ feed e in
      rw h.1 (not-false _ (none-holds (list_rows xs ys) (list_apart xs ys) h.0).1.1.0)

  -- no two of them too near,
  pub feed_apart : (feed : List Spot) → Ok feed ≡ answered xs ys (first_of (list_rows xs ys)) → all_apart feed ≡ true
  unfolding NoneHolds
  feed_apart feed e =
      let h = granting (first_of (list_rows xs ys)) _ feed e in
      rw h.1 (not-false _ (none-holds (list_rows xs ys) (list_apart xs ys) h.0).1.1.1.0)

  -- and it is wired.
  pub wired : (feed : List Spot) → Ok feed ≡ answered xs ys (first_of (list_rows xs ys)) → wiring_of feed room favour ≡ bare_of xs ys room favour
  unfolding bare_of
  wired feed e =
      let h = granting (first_of (list_rows xs ys)) _ feed e in
      rw h.1 (sym (choose_yes _ _ h.0))
