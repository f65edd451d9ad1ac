-- Numbers and places of the board, what their range allows, and how far apart two numbers are. Assumes nothing.
use mathlib.Core.Path.{◌≡◌, refl, sym, ap, ◌∙◌}
use mathlib.Core.Bool.{Bool, true, false, true≢false, ◌&&◌}
use Prim.Native.Nat.{◌+◌, ◌-◌, ◌<◌, ◌≤◌}
use native.Mathlib.Omega.{arith}
use lib.IntN.{ℤ, pos, negsuc, nat_abs, ◌+ℤ◌, ◌-ℤ◌, -ℤ-+ℤ_cancel, +ℤ_idl, +ℤ_invr}
use lib.Signed.{lt_z, mag}
use lib.Dec.{lit<}
use mir.Syntax.{w32, w64}
use mir.Val.{SFits, to_z, of_z}
use mir.Facts.{to_z-of_z, sfits_widen}
use borrow.Author.Tests.{eq-eqb, eqb-true, ltb-true, leb-true}
use Rattle.std.proofs.Common.{int_eq}
use Rattle.std.specs.Bool.{one_answer}
use Rattle.std.specs.Cmp.{signed_Decides}
use Rattle.basics.specs.Tests.{both}
use Rattle.basics.proofs.Tests.{both_left, both_right, both_of}
use Rattle.board.specs.declared.Place.{Place}
use Rattle.board.specs.Place.{limit, on_board, difference, larger, same_number, same_place}
use Rattle.board.proofs.Signed.{off, I32, Small, le_z_off, difference_off, max_off, off_max, rd}

-- A number of the board, moved up.
pub record Board (z : ℤ) : Type 0 where
  pub low : 2147483648 ≤ off z + limit
  pub high : off z ≤ 2147483648 + limit

-- The lowest number of the board, counted from the lowest of i32,
low_is : off (negsuc (limit - 1)) ≡ 2147483648 - limit
unfolding off
low_is = refl

-- and the highest.
high_is : off (pos limit) ≡ 2147483648 + limit
unfolding off
high_is = refl

-- The test says just that.
pub board : {z : ℤ} → SFits w32 z → on_board z ≡ true → Board z
unfolding on_board
board {z} f e =
    record {
      low = omega (arith, leb-true (off (negsuc (limit - 1))) (off z) (sym (le_z_off (negsuc (limit - 1)) z (lit< tt) f.sfits) ∙ both_left _ _ e), low_is);
      high = omega (arith, leb-true (off z) (off (pos limit)) (sym (le_z_off z (pos limit) f.sfits (lit< tt)) ∙ both_right _ _ e), high_is);
    }

-- A number of the board is one that an i32 holds.
pub number_held : (z : ℤ) → on_board z ≡ true → I32 z
unfolding on_board
number_held (pos n) e = omega (arith, leb-true n limit (both_right _ _ e))
number_held (negsuc n) e = omega (arith, leb-true n (limit - 1) (both_left _ _ e))

-- A number of size 0 is 0.
nothing : (z : ℤ) → nat_abs z ≡ 0 → z ≡ pos 0
nothing (pos n) e = ap pos e
nothing (negsuc n) e = absurd (omega arith)

-- Numbers that do not differ are the same,
pub number_same : (a b : ℤ) → same_number a b ≡ true → a ≡ b
unfolding same_number difference
number_same a b e =
    sym (-ℤ-+ℤ_cancel a b) ∙ ap (λ (z : ℤ). z +ℤ b) (nothing (a -ℤ b) (eqb-true (nat_abs (a -ℤ b)) 0 e)) ∙ +ℤ_idl b

-- and a number does not differ from itself;
pub number_self : (a : ℤ) → same_number a a ≡ true
unfolding same_number difference
number_self a = eq-eqb (nat_abs (a -ℤ a)) 0 (ap nat_abs (+ℤ_invr a))

-- places that do not differ are the same,
pub place_same : (a b : Place) → same_place a b ≡ true → a ≡ b
unfolding same_place
place_same a b e =
    let p : a.x ≡ b.x = number_same a.x b.x (both_left _ _ e) in
    let q : a.y ≡ b.y = number_same a.y b.y (both_right _ _ e) in
    λ i. record { x = p i; y = q i }

-- and a place does not differ from itself.
pub place_self : (a : Place) → same_place a a ≡ true
unfolding same_place
place_self a = both_of (number_self a.x) (number_self a.y)

-- Two tests joined by the code's word are both,
pub and_both : (a b : Bool) → a && b ≡ both a b
unfolding both
and_both true b = refl
and_both false b = refl

-- so the code's `==` of two numbers is the test,
number_told : (a b : ℤ) → int_eq a b ≡ same_number a b
number_told a b = one_answer _ _ (signed_Decides a b) (number_same a b, λ e. rw e (number_self b))

-- and so is that of two places.
pub place_told : (a b : Place) → int_eq a.x b.x && int_eq a.y b.y ≡ same_place a b
unfolding same_place
place_told a b = rw (number_told a.x b.x, number_told a.y b.y) (and_both _ _)

-- A number below zero, negated, is its size.
pub size_below : (z : ℤ) → lt_z z (pos 0) ≡ true → pos 0 -ℤ z ≡ pos (nat_abs z)
size_below (pos n) e = absurd (omega (arith, ltb-true n 0 e))
size_below (negsuc n) e = ap pos (omega arith)

-- A number that is not below zero is its own size.
pub size_above : (z : ℤ) → lt_z z (pos 0) ≡ false → z ≡ pos (nat_abs z)
size_above (pos n) e = refl
size_above (negsuc n) e = absurd (true≢false e)

-- Two numbers that an i32 holds are less than 2 ^ 32 apart.
pub difference_below : (a b : ℤ) → I32 a → I32 b → difference a b < 4294967296
difference_below a b p q = omega (arith, difference_off a b p q, off_max a p, off_max b q)

-- That fits an i64,
pub difference-fits : {a b : ℤ} → SFits w32 a → SFits w32 b → SFits w64 (pos (difference a b))
difference-fits {a} {b} fa fb = record { sfits = omega (arith, difference_below a b fa.sfits fb.sfits) }

-- The magnitude of a number, as the library has it, is at most its size.
pub size : (z : ℤ) → mag z ≤ nat_abs z
size (pos n) = omega arith
size (negsuc n) = omega arith

-- and so does their difference.
pub wide_fits : (a b : ℤ) → SFits w32 a → SFits w32 b → SFits w64 (a -ℤ b)
unfolding difference off
wide_fits a b fa fb =
    record { sfits = omega (arith, size (a -ℤ b), difference_off a b fa.sfits fb.sfits, off_max a fa.sfits, off_max b fb.sfits) }

-- A number that is read into an i64.
abbrev pub wide : ℤ → ℤ
wide z = to_z w64 (of_z w64 (rd z))

-- It is the number that was read.
pub wide_is : {z : ℤ} → SFits w32 z → wide z ≡ z
wide_is f = rw (to_z-of_z f, to_z-of_z (sfits_widen {w' = w64} tt f))

-- The code's difference of two numbers is their difference.
pub wide_difference : {a b : ℤ} → SFits w32 a → SFits w32 b → to_z w64 (of_z w64 (wide a -ℤ wide b)) ≡ a -ℤ b
wide_difference {a} {b} fa fb = rw (wide_is fa, wide_is fb, to_z-of_z (wide_fits a b fa fb))

-- Where the code's difference is below zero, it is, negated, how far the numbers are apart;
pub apart_below : {a b : ℤ} (fa : SFits w32 a) (fb : SFits w32 b) → lt_z (to_z w64 (of_z w64 (wide a -ℤ wide b))) (pos 0) ≡ true
    → pos 0 -ℤ to_z w64 (of_z w64 (wide a -ℤ wide b)) ≡ pos (difference a b)
unfolding difference
apart_below {a} {b} fa fb e = let w = wide_difference fa fb in rw w (size_below (a -ℤ b) (rw w at e))

-- where it is not, it is that itself.
pub apart_above : {a b : ℤ} (fa : SFits w32 a) (fb : SFits w32 b) → lt_z (to_z w64 (of_z w64 (wide a -ℤ wide b))) (pos 0) ≡ false
    → to_z w64 (of_z w64 (wide a -ℤ wide b)) ≡ pos (difference a b)
unfolding difference
apart_above {a} {b} fa fb e = let w = wide_difference fa fb in w ∙ size_above (a -ℤ b) (rw w at e)

-- How far two numbers of the board are apart is small,
pub difference_small : {a b : ℤ} → SFits w32 a → SFits w32 b → on_board a ≡ true → on_board b ≡ true → Small (pos (difference a b))
unfolding off
difference_small {a} {b} fa fb p q =
    omega (arith, board fa p, board fb q, difference_off a b fa.sfits fb.sfits)

-- and so is the larger of the two.
pub larger_small : {a b : ℤ} → SFits w32 a → SFits w32 b → on_board a ≡ true → on_board b ≡ true → Small (larger a b)
larger_small {a} {b} fa fb p q = omega (arith, board fa p, board fb q, max_off a b fa.sfits fb.sfits)
