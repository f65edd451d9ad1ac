-- Signed numbers as natural ones: `off z` is z + 2 ^ 31, which turns order, equality, differences and maxima of i32 values into facts on ℕ.
-- Assumes nothing.
use mathlib.Core.Path.{◌≡◌, refl, sym, ap, ◌∙◌}
use mathlib.Core.Bool.{Bool, true, false, cond}
use Prim.Native.Nat.{ℕ, zero, suc, ◌+◌, ◌-◌, ◌<◌, ◌≤◌, max}
use native.Mathlib.Omega.{arith}
use lib.IntN.{ℤ, pos, negsuc, neg_ℤ, nat_abs, ◌+ℤ◌, ◌-ℤ◌, sub_ℕ, +ℤ_idl}
use mir.Syntax.{w32}
use mir.Val.{SFits, to_z, of_z}
use mir.Facts.{to_z-of_z, sfits_lit, to_z_pos}
use lib.Signed.{lt_z, le_z, mag}
use Rattle.basics.specs.Tests.{choose}
use Rattle.board.specs.Place.{difference, larger, same_number}
use lib.Dec.{ltb, leb, eqb}
use borrow.Author.Tests.{lt-ltb, le-ltb, le-leb, lt-leb, ltb-true, ltb-false, leb-true, leb-false, eqb-true, eqb-false, eq-eqb, ne_eqb}

-- The number moved up by 2 ^ 31.
unfoldable pub off : ℤ → ℕ
off (pos n) = 2147483648 + n
off (negsuc n) = 2147483647 - n

-- A number that an i32 holds.
abbrev pub I32 : ℤ → Type 0
I32 z = mag z < 2147483648

-- By what the first of two tests says.
ltb_as : (t : Bool) (a b c d : ℕ) → ltb a b ≡ t → (a < b → c < d) → (b ≤ a → d ≤ c) → t ≡ ltb c d
ltb_as true a b c d e f g = sym (lt-ltb c d (f (ltb-true a b e)))
ltb_as false a b c d e f g = sym (le-ltb c d (g (ltb-false a b e)))

-- Two tests of less that say the same are one,
pub ltb-same : (a b c d : ℕ) → (a < b → c < d) → (b ≤ a → d ≤ c) → ltb a b ≡ ltb c d
ltb-same a b c d f g = ltb_as (ltb a b) a b c d refl f g

-- A test of order tells of two other numbers in the same order,
leb_as : (t : Bool) (a b c d : ℕ) → leb a b ≡ t → (a ≤ b → c ≤ d) → (b < a → d < c) → t ≡ leb c d
leb_as true a b c d e f g = sym (le-leb c d (f (leb-true a b e)))
leb_as false a b c d e f g = sym (lt-leb c d (g (leb-false a b e)))

-- and two tests of at most,
pub leb-same : (a b c d : ℕ) → (a ≤ b → c ≤ d) → (b < a → d < c) → leb a b ≡ leb c d
leb-same a b c d f g = leb_as (leb a b) a b c d refl f g

-- and a test of sameness of two that are the same just then.
eqb_as : (t : Bool) (a b c d : ℕ) → eqb a b ≡ t → (a ≡ b → c ≡ d) → (c ≡ d → a ≡ b) → t ≡ eqb c d
eqb_as true a b c d e f g = sym (eq-eqb c d (f (eqb-true a b e)))
eqb_as false a b c d e f g = sym (ne_eqb c d (λ q. eqb-false a b e (g q)))

-- and two of being the same.
pub eqb_same : (a b c d : ℕ) → (a ≡ b → c ≡ d) → (c ≡ d → a ≡ b) → eqb a b ≡ eqb c d
eqb_same a b c d f g = eqb_as (eqb a b) a b c d refl f g

-- A number that an i32 holds, moved, is below 2 ^ 32.
pub off_max : (z : ℤ) → I32 z → off z < 4294967296
unfolding off
off_max (pos n) h = omega arith
off_max (negsuc n) h = omega arith

-- The order of two such numbers is that of the moved ones,
pub lt_z_off : (a b : ℤ) → I32 a → I32 b → lt_z a b ≡ ltb (off a) (off b)
unfolding off
lt_z_off (pos a) (pos b) ha hb = ltb-same a b (2147483648 + a) (2147483648 + b) (λ h. omega arith) (λ h. omega arith)
lt_z_off (pos a) (negsuc b) ha hb = sym (le-ltb (2147483648 + a) (2147483647 - b) (omega arith))
lt_z_off (negsuc a) (pos b) ha hb = sym (lt-ltb (2147483647 - a) (2147483648 + b) (omega arith))
lt_z_off (negsuc a) (negsuc b) ha hb = ltb-same b a (2147483647 - a) (2147483647 - b) (λ h. omega arith) (λ h. omega arith)

-- with equal ones too.
pub le_z_off : (a b : ℤ) → I32 a → I32 b → le_z a b ≡ leb (off a) (off b)
unfolding off
le_z_off (pos a) (pos b) ha hb = leb-same a b (2147483648 + a) (2147483648 + b) (λ h. omega arith) (λ h. omega arith)
le_z_off (pos a) (negsuc b) ha hb = sym (lt-leb (2147483648 + a) (2147483647 - b) (omega arith))
le_z_off (negsuc a) (pos b) ha hb = sym (le-leb (2147483647 - a) (2147483648 + b) (omega arith))
le_z_off (negsuc a) (negsuc b) ha hb = leb-same b a (2147483647 - a) (2147483647 - b) (λ h. omega arith) (λ h. omega arith)

-- The difference of two naturals, by the test that it makes.
off_cond : (t : Bool) (a b : ℕ) → ltb a b ≡ t → a < 2147483648 → b ≤ 2147483648 → off (cond t (negsuc (b - suc a)) (pos (a - b))) + b ≡ a + 2147483648
unfolding off
off_cond true a b e ha hb = omega (arith, ltb-true a b e)
off_cond false a b e ha hb = omega (arith, ltb-false a b e)

-- The difference of two naturals, moved.
pub off_subℕ : (a b : ℕ) → a < 2147483648 → b ≤ 2147483648 → off (sub_ℕ a b) + b ≡ a + 2147483648
off_subℕ a b ha hb = off_cond (ltb a b) a b refl ha hb

-- A sum; its own range is read off the equation.
pub off_add : (a b : ℤ) → mag a < 1073741824 → mag b < 1073741824 → off (a +ℤ b) + 2147483648 ≡ off a + off b
unfolding off
off_add (pos a) (pos b) ha hb = omega arith
off_add (pos a) (negsuc b) ha hb = omega (arith, off_subℕ a (suc b) (omega arith) (omega arith))
off_add (negsuc a) (pos b) ha hb = omega (arith, off_subℕ b (suc a) (omega arith) (omega arith))
off_add (negsuc a) (negsuc b) ha hb = omega arith

-- A number and its negation, both moved.
pub off_neg : (a : ℤ) → mag a < 2147483647 → off (neg_ℤ a) + off a ≡ 4294967296
unfolding off
off_neg (pos zero) h = refl
off_neg (pos (suc a)) h = omega arith
off_neg (negsuc a) h = omega arith

-- The range of an i32, read off the moved number.
pub off_range : (z : ℤ) → 0 < off z → off z < 4294967296 → I32 z
unfolding off
off_range (pos n) h k = omega arith
off_range (negsuc n) h k = omega arith

-- Far from the ends of i32, so that the sum of two such numbers fits, and so does one negated.
pub record Small (z : ℤ) : Type 0 where
  pub low : 1073741824 < off z
  pub high : off z < 3221225472

-- The magnitude of such a number is below 2 ^ 30,
pub small_mag : (z : ℤ) → Small z → mag z < 1073741824
unfolding off
small_mag (pos n) h = omega arith
small_mag (negsuc n) h = omega arith

-- so an i32 holds it.
pub small_i32 : {z : ℤ} → Small z → I32 z
small_i32 {z} h = omega (arith, small_mag z h)

-- The sum of two such numbers, moved,
pub add_off : (a b : ℤ) → Small a → Small b → off (a +ℤ b) + 2147483648 ≡ off a + off b
add_off a b ha hb = off_add a b (small_mag a ha) (small_mag b hb)

-- and the negation of one.
pub neg_off : (a : ℤ) → Small a → off (neg_ℤ a) + off a ≡ 4294967296
neg_off a ha = off_neg a (omega (arith, small_mag a ha))

-- A small number turned about is small.
small_neg : (a : ℤ) → Small a → Small (neg_ℤ a)
small_neg a ha = omega (arith, neg_off a ha)

-- By which of the two is less.
abs_cond : (t : Bool) (a b : ℕ) → ltb a b ≡ t → nat_abs (cond t (negsuc (b - suc a)) (pos (a - b))) ≡ (a - b) + (b - a)
abs_cond true a b e = omega (arith, ltb-true a b e)
abs_cond false a b e = omega (arith, ltb-false a b e)

-- How far two naturals are apart: one of the two ways to subtract them gives 0.
pub abs_sub : (a b : ℕ) → nat_abs (sub_ℕ a b) ≡ (a - b) + (b - a)
abs_sub a b = abs_cond (ltb a b) a b refl

-- How far two numbers are apart, in ℕ.
pub difference_off : (a b : ℤ) → I32 a → I32 b → difference a b ≡ (off a - off b) + (off b - off a)
unfolding difference off
difference_off (pos a) (pos zero) ha hb = omega arith
difference_off (pos a) (pos (suc b)) ha hb = omega (arith, abs_sub a (suc b))
difference_off (pos a) (negsuc b) ha hb = omega arith
difference_off (negsuc a) (pos zero) ha hb = omega (arith, abs_sub 0 (suc a))
difference_off (negsuc a) (pos (suc b)) ha hb = omega arith
difference_off (negsuc a) (negsuc b) ha hb = omega (arith, abs_sub (suc b) (suc a))

-- The larger of two, counted from the lowest of i32, is the larger count.
max_pick : (t : Bool) (a b : ℤ) → ltb (off a) (off b) ≡ t → off (choose t b a) ≡ max (off a) (off b)
unfolding choose
max_pick true a b e = omega (arith, ltb-true (off a) (off b) e)
max_pick false a b e = omega (arith, ltb-false (off a) (off b) e)

-- The larger of two numbers, moved, is the larger of the moved ones.
pub max_off : (a b : ℤ) → I32 a → I32 b → off (larger a b) ≡ max (off a) (off b)
unfolding larger
max_off a b ha hb = max_pick (lt_z a b) a b (sym (lt_z_off a b ha hb))

-- ---- what the code's operations ask: that a result fits. For the list of `search (needs, ..)`
-- A small number fits an i32.
pub small_fits : (z : ℤ) → Small z → SFits w32 z
small_fits z h = record { sfits = small_i32 h }

-- The sum of two small numbers fits an i32.
pub sum_fits : (a b : ℤ) → Small a → Small b → SFits w32 (a +ℤ b)
sum_fits a b ha hb = record { sfits = off_range (a +ℤ b) (omega (arith, add_off a b ha hb)) (omega (arith, add_off a b ha hb)) }

-- To take a number from 0 is to negate it,
pub minus_is : (a : ℤ) → pos 0 -ℤ a ≡ neg_ℤ a
minus_is a = +ℤ_idl (neg_ℤ a)

-- and of a small number that fits an i32.
pub minus-fits : (a : ℤ) → Small a → SFits w32 (pos 0 -ℤ a)
minus-fits a ha = rw minus_is (small_fits (neg_ℤ a) (small_neg a ha))

-- ---- what a test of two signed locals says. A local holds bits: the code reads `rd z`
abbrev pub rd : ℤ → ℤ
rd z = to_z w32 (of_z w32 z)

-- The test of two locals is the test of the numbers that they hold:
pub lt_rd : {a b : ℤ} {t : Bool} → SFits w32 a → SFits w32 b → lt_z (rd a) (rd b) ≡ t → lt_z a b ≡ t
lt_rd fa fb e = rw (to_z-of_z fa, to_z-of_z fb) at e

-- where it holds, the first, moved, is less;
pub lt_yes : {a b : ℤ} → SFits w32 a → SFits w32 b → lt_z (rd a) (rd b) ≡ true → off a < off b
lt_yes {a} {b} fa fb e = ltb-true (off a) (off b) (sym (lt_z_off a b fa.sfits fb.sfits) ∙ lt_rd fa fb e)

-- where it fails, the second is at most the first.
pub lt_no : {a b : ℤ} → SFits w32 a → SFits w32 b → lt_z (rd a) (rd b) ≡ false → off b ≤ off a
lt_no {a} {b} fa fb e = ltb-false (off a) (off b) (sym (lt_z_off a b fa.sfits fb.sfits) ∙ lt_rd fa fb e)

-- The same test with equal numbers too.
pub le_rd : {a b : ℤ} {t : Bool} → SFits w32 a → SFits w32 b → le_z (rd a) (rd b) ≡ t → le_z a b ≡ t
le_rd fa fb e = rw (to_z-of_z fa, to_z-of_z fb) at e

-- What the larger of two numbers is, by the test.
max_yes : (a b : ℤ) → lt_z a b ≡ true → b ≡ larger a b
unfolding larger choose
max_yes a b e = rw e

-- Where the first is not less, it is the larger.
max_no : (a b : ℤ) → lt_z a b ≡ false → a ≡ larger a b
unfolding larger choose
max_no a b e = rw e

-- The larger of two locals, where the first is less,
pub max_rd_yes : {a b : ℤ} → SFits w32 a → SFits w32 b → lt_z (rd a) (rd b) ≡ true → rd b ≡ larger a b
max_rd_yes {a} {b} fa fb e = to_z-of_z fb ∙ max_yes a b (lt_rd fa fb e)

-- and where it is not.
pub max_rd_no : {a b : ℤ} → SFits w32 a → SFits w32 b → lt_z (rd a) (rd b) ≡ false → rd a ≡ larger a b
max_rd_no {a} {b} fa fb e = to_z-of_z fa ∙ max_no a b (lt_rd fa fb e)

-- What a local is, negated.
pub minus_rd : {a : ℤ} → SFits w32 a → Small a → rd (pos 0 -ℤ rd a) ≡ neg_ℤ a
minus_rd {a} fa h = rw (to_z-of_z fa, to_z-of_z (minus-fits a h), minus_is)

-- Two locals are compared by their bits, which compares the moved numbers,
pub eq_off : {a b : ℤ} → SFits w32 a → SFits w32 b → eqb (of_z w32 a) (of_z w32 b) ≡ eqb (off a) (off b)
unfolding off
eq_off {a = pos a} {b = pos b} fa fb = eqb_same a b (2147483648 + a) (2147483648 + b) (λ h. omega arith) (λ h. omega arith)
eq_off {a = pos a} {b = negsuc b} fa fb = eqb_same a (4294967296 - suc b) (2147483648 + a) (2147483647 - b) (λ h. omega arith) (λ h. omega arith)
eq_off {a = negsuc a} {b = pos b} fa fb = eqb_same (4294967296 - suc a) b (2147483647 - a) (2147483648 + b) (λ h. omega arith) (λ h. omega arith)
eq_off {a = negsuc a} {b = negsuc b} fa fb = eqb_same (4294967296 - suc a) (4294967296 - suc b) (2147483647 - a) (2147483647 - b) (λ h. omega arith) (λ h. omega arith)

-- and so the numbers themselves.
pub same_bits : {a b : ℤ} → SFits w32 a → SFits w32 b → eqb (of_z w32 a) (of_z w32 b) ≡ same_number a b
unfolding same_number
same_bits {a} {b} fa fb =
    eq_off fa fb
    ∙ eqb_same (off a) (off b) (difference a b) 0 (λ h. omega (arith, difference_off a b fa.sfits fb.sfits))
    (λ h. omega (arith, difference_off a b fa.sfits fb.sfits))

-- A number that an i32 holds is read as it is.
pub held : (z : ℤ) → I32 z → rd z ≡ z
held z h = to_z-of_z {w = w32} (record { sfits = h })

-- What the code's complement of a negative number comes to.
pub flipped : (z : ℤ) → SFits w32 z → lt_z (rd z) (pos 0) ≡ true → to_z w32 (4294967295 - of_z w32 z) ≡ pos (4294967295 - of_z w32 z)
unfolding off
flipped (pos n) f e = absurd (omega (arith, lt_yes {b = pos 0} f (sfits_lit tt) e))
flipped (negsuc n) f e = to_z_pos w32 (omega arith)

-- A number that is not negative is its own bits.
pub plain : (z : ℤ) → SFits w32 z → lt_z (rd z) (pos 0) ≡ false → to_z w32 (of_z w32 z) ≡ pos (of_z w32 z)
unfolding off
plain (pos n) f e = to_z-of_z f
plain (negsuc n) f e = absurd (omega (arith, lt_no {b = pos 0} f (sfits_lit tt) e))

-- The complement of the complement is the number.
pub complement_twice : (n : ℕ) → n < 4294967296 → to_z w32 (4294967295 - (4294967295 - n)) ≡ to_z w32 n
complement_twice n h = let e : 4294967295 - (4294967295 - n) ≡ n = omega arith in ap (to_z w32) e
