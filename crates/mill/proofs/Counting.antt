-- Numbers of the board counted from the lowest, and back: their order, how far they are apart, and what the code makes of them. Assumes nothing.
use mathlib.Core.Path.{◌≡◌, refl, sym, ap, ◌∙◌}
use mathlib.Core.Bool.{Bool, true, false, cond}
use Prim.Native.Nat.{ℕ, suc, ◌+◌, ◌-◌, ◌≤◌, ◌<◌, min, max}
use native.Mathlib.Omega.{arith}
use lib.IntN.{ℤ, pos, negsuc, ◌+ℤ◌, ◌-ℤ◌}
use lib.Signed.{lt_z, le_z, mag}
use lib.Dec.{ltb, eqb}
use mir.Syntax.{w32}
use mir.Val.{SFits, of_z}
use borrow.Author.Tests.{lt-ltb, le-ltb, ltb-true, ltb-false, le-leb, leb-true, leb-false, eqb-true, eq-eqb}
use Rattle.basics.specs.Tests.{choose}
use Rattle.basics.proofs.Tests.{both_left, both_right, both_of, same_test}
use Rattle.board.specs.declared.Place.{Place}
use Rattle.board.specs.Place.{limit, on_board, inside, difference, same_number, smaller}
use Rattle.board.proofs.Signed.{off, I32, ltb-same, off_subℕ, lt_z_off, le_z_off, difference_off, rd, held, same_bits}
use Rattle.board.proofs.Board.{number_held, number_same, number_self}
use Rattle.mill.specs.Numbered.{width, counted, uncounted}

-- How many steps a line of the board has.
abbrev pub longest : ℕ
longest = limit + limit

-- A count is that of the number that is counted back from it.
pub count_back_lem : (n : ℕ) → counted (uncounted n) ≡ n
unfolding counted uncounted
count_back_lem n = by_test (ltb n limit) refl
  where
    by_test : (t : Bool) → ltb n limit ≡ t → counted (cond t (negsuc (limit - suc n)) (pos (n - limit))) ≡ n
    by_test true e = omega (arith, ltb-true n limit e)
    by_test false e = omega (arith, ltb-false n limit e)

-- A count that is not too large is that of a number of the board.
pub on_board_lem : (n : ℕ) → n ≤ longest → on_board (uncounted n) ≡ true
unfolding on_board uncounted
on_board_lem n h = by_test (ltb n limit) refl
  where
    by_test : (t : Bool) → ltb n limit ≡ t → on_board (cond t (negsuc (limit - suc n)) (pos (n - limit))) ≡ true
    by_test true e = both_of (le-leb (limit - suc n) (limit - 1) (omega arith)) refl
    by_test false e = both_of refl (le-leb (n - limit) limit (omega (arith, ltb-false n limit e)))

-- A number of the board has such a count, and comes back from it.
pub record Counted (z : ℤ) : Type 0 where
  pub few : counted z ≤ longest
  pub back : uncounted (counted z) ≡ z

-- So it is for a number that passes the test.
pub count : (z : ℤ) → on_board z ≡ true → Counted z
unfolding on_board counted uncounted
count (pos n) e =
    let h : n ≤ limit = leb-true n limit (both_right _ _ e) in
    record { few = omega arith; back = rw (le-ltb (limit + n) limit (omega arith)) (ap pos (omega arith)) }
count (negsuc n) e =
    let h : n ≤ limit - 1 = leb-true n (limit - 1) (both_left _ _ e) in
    record { few = omega arith; back = rw (lt-ltb (limit - suc n) limit (omega arith)) (ap negsuc (omega arith)) }

-- Both numbers of a place of the board are of the board: its x,
pub x_on : (a : Place) → inside a ≡ true → on_board a.x ≡ true
unfolding inside
x_on a e = both_left _ _ e

-- and its y.
pub y_on : (a : Place) → inside a ≡ true → on_board a.y ≡ true
unfolding inside
y_on a e = both_right _ _ e

-- The next count is that of the next number.
pub count_next : (n : ℕ) → uncounted n +ℤ pos 1 ≡ uncounted (suc n)
unfolding uncounted
count_next n = by_test (ltb n limit) (ltb (suc n) limit) refl refl
  where
    by_test : (t u : Bool) → ltb n limit ≡ t → ltb (suc n) limit ≡ u
        → cond t (negsuc (limit - suc n)) (pos (n - limit)) +ℤ pos 1 ≡ cond u (negsuc (limit - suc (suc n))) (pos (suc n - limit))
    by_test true true e f = let h : suc n < limit = ltb-true (suc n) limit f in rw (lt-ltb 1 (suc (limit - suc n)) (omega arith)) (ap negsuc (omega arith))
    by_test true false e f =
        let h : n < limit = ltb-true n limit e in
        let k : limit ≤ suc n = ltb-false (suc n) limit f in
        rw (le-ltb 1 (suc (limit - suc n)) (omega arith)) (ap pos (omega arith))
    by_test false true e f = absurd (omega (arith, ltb-false n limit e, ltb-true (suc n) limit f))
    by_test false false e f = let h : limit ≤ n = ltb-false n limit e in ap pos (omega arith)

-- Numbers are the same where their counts are.
pub same_counts : (a b : ℕ) → same_number (uncounted a) (uncounted b) ≡ eqb a b
same_counts a b =
    same_test (same_number (uncounted a) (uncounted b)) (eqb a b)
    (λ e. eq-eqb a b (sym (count_back_lem a) ∙ ap counted (number_same (uncounted a) (uncounted b) e) ∙ count_back_lem b))
    (λ e. let same : a ≡ b = eqb-true a b e in rw same (number_self (uncounted b)))

-- A count is a number of the board moved up,
moved : (n : ℕ) → n ≤ longest → off (uncounted n) + limit ≡ n + 2147483648
unfolding uncounted
moved n h = off_subℕ n limit (omega arith) (omega arith)

-- which an i32 holds.
in_i32 : (n : ℕ) → n ≤ longest → I32 (uncounted n)
in_i32 n h = number_held (uncounted n) (on_board_lem n h)

module _ (a b : ℕ) (h : a ≤ longest) (k : b ≤ longest) where
  -- The order of two counts is that of the numbers.
  pub rises_count : lt_z (uncounted a) (uncounted b) ≡ ltb a b
  rises_count =
      lt_z_off (uncounted a) (uncounted b) (in_i32 a h) (in_i32 b k)
      ∙ ltb-same (off (uncounted a)) (off (uncounted b)) a b (λ m. omega (arith, moved a h, moved b k)) (λ m. omega (arith, moved a h, moved b k))

  -- The smaller number has the smaller count,
  pub smaller_count : smaller (uncounted a) (uncounted b) ≡ uncounted (min a b)
  unfolding smaller choose
  smaller_count = by_test (le_z (uncounted a) (uncounted b)) refl
    where
      by_test : (t : Bool) → le_z (uncounted a) (uncounted b) ≡ t → choose t (uncounted a) (uncounted b) ≡ uncounted (min a b)
      by_test true e =
          let m : off (uncounted a) ≤ off (uncounted b) = leb-true _ _ (sym (le_z_off (uncounted a) (uncounted b) (in_i32 a h) (in_i32 b k)) ∙ e) in
          let least : a ≡ min a b = omega (arith, moved a h, moved b k) in
          ap uncounted least
      by_test false e =
          let m : off (uncounted b) < off (uncounted a) = leb-false _ _ (sym (le_z_off (uncounted a) (uncounted b) (in_i32 a h) (in_i32 b k)) ∙ e) in
          let least : b ≡ min a b = omega (arith, moved a h, moved b k) in
          ap uncounted least

  -- and numbers are as far apart as their counts.
  pub difference_count : difference (uncounted a) (uncounted b) ≡ max a b - min a b
  difference_count = omega (arith, difference_off (uncounted a) (uncounted b) (in_i32 a h) (in_i32 b k), moved a h, moved b k)

-- ---- what the code makes of them
-- It reads a number of the board as it is,
pub read_is : {z : ℤ} → on_board z ≡ true → rd z ≡ z
read_is {z} e = held z (number_held z e)

-- so that what it reads is on the board;
pub read_on : (z : ℤ) → on_board z ≡ true → on_board (rd z) ≡ true
read_on z e = rw (read_is e) e

-- two numbers are the same where what it reads is.
pub read_same : (a b : ℤ) → on_board a ≡ true → on_board b ≡ true → eqb (of_z w32 a) (of_z w32 b) ≡ same_number a b
read_same a b p q = same_bits {a = a} {b = b} (record { sfits = number_held a p }) (record { sfits = number_held b q })

-- So it reads the numbers of a place of the board: x is on the board,
pub x_read : (a : Place) → inside a ≡ true → on_board (rd a.x) ≡ true
x_read a e = read_on a.x (x_on a e)

-- and y is;
pub y_read : (a : Place) → inside a ≡ true → on_board (rd a.y) ≡ true
y_read a e = read_on a.y (y_on a e)

-- what it counts is small, of x
pub x_told : (a : Place) → inside a ≡ true → (counted (rd a.x) ≡ counted a.x) × (counted a.x ≤ longest)
x_told a e = (ap counted (read_is (x_on a e)), (count a.x (x_on a e)).few)

-- and of y.
pub y_told : (a : Place) → inside a ≡ true → (counted (rd a.y) ≡ counted a.y) × (counted a.y ≤ longest)
y_told a e = (ap counted (read_is (y_on a e)), (count a.y (y_on a e)).few)

-- So much is read of a place of the board.
pub ruleset place_read = (x_read, y_read, x_told, y_told)

-- The sum by which it counts is the count,
pub count_sum : (z : ℤ) → on_board z ≡ true → z +ℤ pos limit ≡ pos (counted z)
unfolding on_board counted
count_sum (pos n) e = ap pos (omega arith)
count_sum (negsuc n) e =
    let h : n ≤ limit - 1 = leb-true n (limit - 1) (both_left _ _ e) in
    rw (le-ltb limit (suc n) (omega arith))

-- which fits an i32;
pub count_fits : (z : ℤ) → on_board z ≡ true → SFits w32 (pos (counted z))
count_fits z e = record { sfits = omega (arith, (count z e).few) }

-- the difference by which it counts back is the number,
pub back_is : (n : ℕ) → pos n -ℤ pos limit ≡ uncounted n
unfolding uncounted
back_is n = refl

-- which fits.
pub back_fits : (n : ℕ) → n < width → SFits w32 (uncounted n)
unfolding uncounted
back_fits n h = record { sfits = by_test (ltb n limit) refl }
  where
    by_test : (t : Bool) → ltb n limit ≡ t → mag (cond t (negsuc (limit - suc n)) (pos (n - limit))) < 2147483648
    by_test true e = omega arith
    by_test false e = omega arith

-- A number counted back is read as it is.
pub back_read : (n : ℕ) → n < width → rd (uncounted n) ≡ uncounted n
back_read n h = held (uncounted n) (back_fits n h).sfits
