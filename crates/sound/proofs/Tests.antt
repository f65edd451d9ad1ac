-- The tests of seats and of their journal put together, by the way that the code takes through them. Assumes nothing.
use mathlib.Core.Path.{◌≡◌, refl, sym, ◌∙◌}
use mathlib.Core.Bool.{Bool, true, false, true≢false}
use mathlib.Core.List.{List}
use Prim.Native.Nat.{ℕ, zero, suc, ◌+◌, ◌<◌, ◌≤◌}
use native.Mathlib.Numerals.{add-one}
use native.Mathlib.Omega.{arith}
use borrow.Author.Tests.{eqb-true, eqb-false, leb-true}
use lib.Dec.{eqb, leb}
use lib.ListN.{get_or}
use Rattle.basics.specs.Tests.{both}
use Rattle.basics.proofs.Tests.{both_left, both_right}
use Rattle.journal.specs.declared.Record.{Record}
use Rattle.journal.specs.Journal.{most_seats, own}
use Rattle.seats.specs.declared.Seat.{Seat}
use Rattle.seats.specs.Seats.{no_seat}
use Rattle.sound.specs.Sound.{sound_seat, sound_to}

-- Seat after seat.
module _ (l : List Seat) (m : List Record) where
  -- Of no seats each is sound.
  pub seats_none : sound_to 0 l m ≡ true
  unfolding sound_to
  seats_none = refl

  -- Of n sound seats each is sound.
  pub seat_among : (n s : ℕ) → sound_to n l m ≡ true → s < n → sound_seat (get_or l s no_seat) (own s m) ≡ true
  unfolding sound_to
  seat_among zero s e h = absurd (omega arith)
  seat_among (suc n) s e h = last n s (both_right _ _ e) (eqb s n) refl h (seat_among n s (both_left _ _ e))
    where
      last : (n s : ℕ) → sound_seat (get_or l n no_seat) (own n m) ≡ true → (t : Bool) → eqb s n ≡ t → s < suc n
          → (s < n → sound_seat (get_or l s no_seat) (own s m) ≡ true) → sound_seat (get_or l s no_seat) (own s m) ≡ true
      last n s q true e h k = rw (eqb-true s n e) q
      last n s q false e h k = k (omega (arith, eqb-false s n e))

  module _ (i : ℕ) {b : Bool} (e : b ≡ sound_seat (get_or l i no_seat) (own i m)) where
    -- A sound one after sound ones: all are sound so far;
    pub seats_next : sound_to i l m ≡ true → b ≡ true → sound_to (i + 1) l m ≡ true
    unfolding sound_to both
    seats_next h t = rw (add-one i, h, ← e, t)

    -- one that is not sound:
    seats_by : (t : Bool) → sound_to most_seats l m ≡ t → i < most_seats → b ≡ false → false ≡ t
    seats_by true k h f = absurd (true≢false (sym (seat_among most_seats i k h) ∙ sym e ∙ f))
    seats_by false k h f = refl

    -- not all of them are.
    pub seats_stop : i < most_seats → b ≡ false → false ≡ sound_to most_seats l m
    seats_stop h f = seats_by (sound_to most_seats l m) refl h f

-- A used count that passes the journal's test is in its range.
pub used_tested : {a : Bool} (u n : ℕ) (b : Bool) → a ≡ both (leb u n) b → a ≡ true → u ≤ n
used_tested u n b e t = leb-true u n (both_left (leb u n) b (sym e ∙ t))
