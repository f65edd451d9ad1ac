-- Back from ℕ to whole numbers: `back` takes 2 ^ 31 away again, and what `off` makes of a difference, a smaller and a sum.
-- Assumes that a number is not below -2 ^ 31.
use mathlib.Core.Path.{◌≡◌, refl, sym, ap, ◌∙◌}
use mathlib.Core.Bool.{Bool, true, false, cond}
use Prim.Native.Nat.{ℕ, zero, suc, ◌+◌, ◌-◌, ◌<◌, min, max}
use native.Mathlib.Omega.{arith}
use lib.IntN.{ℤ, pos, negsuc, sub_ℕ, ◌+ℤ◌}
use lib.Signed.{le_z}
use lib.Dec.{eqb, leb, ltb}
use borrow.Author.Tests.{leb-true, leb-false, ltb-true, ltb-false, lt-ltb, le-ltb, eq-eqb, eqb-true}
use Rattle.basics.specs.Tests.{choose}
use Rattle.board.specs.Place.{difference, same_number}
use Rattle.board.proofs.Signed.{off, I32, le_z_off, difference_off}
use Rattle.board.proofs.Board.{number_same, number_self}
use Rattle.board.specs.Place.{smaller}
use Rattle.basics.proofs.Tests.{same_test}

-- How far a number is below -1.
abbrev pub depth : ℤ → ℕ
depth (pos n) = 0
depth (negsuc n) = n

-- A number that is not below -2 ^ 31.
abbrev pub Low : ℤ → Type 0
Low z = depth z < 2147483648

-- A number that an i32 holds is not.
pub low_held : (z : ℤ) → I32 z → Low z
low_held (pos n) h = omega arith
low_held (negsuc n) h = h

-- The number that was moved to n.
unfoldable pub back : ℕ → ℤ
back n = sub_ℕ n 2147483648

-- By whether the number was negative.
off_back_by : (t : Bool) (n : ℕ) → ltb n 2147483648 ≡ t → off (cond t (negsuc (2147483648 - suc n)) (pos (n - 2147483648))) ≡ n
unfolding off
off_back_by true n e = omega (arith, ltb-true n 2147483648 e)
off_back_by false n e = omega (arith, ltb-false n 2147483648 e)

-- The number moved back and up again is the same,
pub off_back : (n : ℕ) → off (back n) ≡ n
unfolding back
off_back n = off_back_by (ltb n 2147483648) n refl

-- and the other way round.
pub back_off : (z : ℤ) → Low z → back (off z) ≡ z
unfolding back off
back_off (pos n) h =
    rw (le-ltb (2147483648 + n) 2147483648 (omega arith)) (ap pos (let z : 2147483648 + n - 2147483648 ≡ n = omega arith in z))
back_off (negsuc n) h =
    rw (lt-ltb (2147483647 - n) 2147483648 (omega arith)) (ap negsuc (let z : 2147483648 - suc (2147483647 - n) ≡ n = omega arith in z))

-- One more, moved.
pub next_off : (z : ℤ) → Low z → Low (z +ℤ pos 1) × (off (z +ℤ pos 1) ≡ suc (off z))
unfolding off
next_off (pos n) h = (omega arith, omega arith)
next_off (negsuc zero) h = (omega arith, refl)
next_off (negsuc (suc n)) h = rw (lt-ltb 1 (suc (suc n)) (omega arith)) (omega arith, omega arith)

-- The same test on moved numbers.
pub same_back : (a : ℕ) (z : ℤ) → Low z → same_number (back a) z ≡ eqb a (off z)
same_back a z h =
    same_test (same_number (back a) z) (eqb a (off z))
    (λ e. eq-eqb a (off z) (sym (off_back a) ∙ ap off (number_same (back a) z e)))
    (λ e. rw (eqb-true a (off z) e, back_off z h) (number_self z))

-- Two numbers are the same where the moved ones are.
pub same_off : (a b : ℤ) → Low a → Low b → same_number a b ≡ eqb (off a) (off b)
same_off a b p q = ap (λ (z : ℤ). same_number z b) (sym (back_off a p)) ∙ same_back (off a) b q

-- By which of the two is not larger.
smaller_by : (t : Bool) (a b : ℤ) → leb (off a) (off b) ≡ t → off (choose t a b) ≡ min (off a) (off b)
unfolding choose
smaller_by true a b e = omega (arith, leb-true (off a) (off b) e)
smaller_by false a b e = omega (arith, leb-false (off a) (off b) e)

-- The smaller of two numbers, moved, is the smaller of the moved ones.
pub smaller_off : (a b : ℤ) → I32 a → I32 b → off (smaller a b) ≡ min (off a) (off b)
unfolding smaller
smaller_off a b p q = smaller_by (le_z a b) a b (sym (le_z_off a b p q))

-- Either of two numbers that are not too low is not.
low_choose : (t : Bool) (a b : ℤ) → Low a → Low b → Low (choose t a b)
unfolding choose
low_choose true a b p q = p
low_choose false a b p q = q

-- It is not below -2 ^ 31 either.
pub smaller_low : (a b : ℤ) → I32 a → I32 b → Low (smaller a b)
unfolding smaller
smaller_low a b p q = low_choose (le_z a b) a b (low_held a p) (low_held b q)

-- From the smaller by the difference to the larger.
pub reach_off : (a b : ℤ) → I32 a → I32 b → off (smaller a b) + difference a b ≡ max (off a) (off b)
reach_off a b p q = omega (arith, smaller_off a b p q, difference_off a b p q)
