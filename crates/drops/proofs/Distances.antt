-- How far two places of the board are apart at most. Assumes nothing.
use mathlib.Core.Path.{◌≡◌}
use mathlib.Core.Bool.{true}
use mathlib.Core.List.{List}
use Prim.Native.Nat.{ℕ, ◌*◌, ◌≤◌}
use native.Mathlib.Omega.{arith}
use lib.IntN.{ℤ}
use mir.Syntax.{w32}
use mir.Val.{SFits}
use Rattle.basics.proofs.Tests.{both_left, both_right}
use Rattle.board.specs.declared.Place.{Place}
use Rattle.board.specs.Spots.{Spot}
use Rattle.board.specs.Place.{limit, on_board, inside, difference, distance_of}
use Rattle.board.specs.Spots.{place_at, all_within}
use Rattle.board.proofs.Signed.{difference_off}
use Rattle.board.proofs.Board.{board, number_held}
use Rattle.board.proofs.Rules.{inside_at}

-- Two numbers of the board are at most twice the limit apart,
number_near : (a b : ℤ) → on_board a ≡ true → on_board b ≡ true → difference a b ≤ 2 * limit
number_near a b p q =
    let f : SFits w32 a = record { sfits = number_held a p } in
    let g : SFits w32 b = record { sfits = number_held b q } in
    omega (arith, board f p, board g q, difference_off a b (number_held a p) (number_held b q))

-- and two places of it four times.
place_near : (a b : Place) → inside a ≡ true → inside b ≡ true → distance_of a b ≤ 4 * limit
unfolding inside distance_of
place_near a b p q =
    omega (arith, number_near a.x b.x (both_left _ _ p) (both_left _ _ q), number_near a.y b.y (both_right _ _ p) (both_right _ _ q))

-- So are any two pins of a feed on the board.
pub pins_near : (feed : List Spot) → all_within feed ≡ true → (i j : ℕ) → distance_of (place_at feed i) (place_at feed j) ≤ 4 * limit
pins_near feed ok i j = place_near (place_at feed i) (place_at feed j) (inside_at feed ok i) (inside_at feed ok j)
