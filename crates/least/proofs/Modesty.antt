-- What pins of the board show is modest: their arms are no longer than the board, and no more is paid than there is.
-- Assumes that the places are on the board.
use mathlib.Core.Path.{◌≡◌}
use mathlib.Core.Bool.{Bool, true, false}
use Prim.Native.Nat.{ℕ, zero, suc, ◌*◌, ◌≤◌}
use native.Mathlib.Omega.{arith}
use Rattle.basics.specs.Tests.{choose}
use Rattle.basics.proofs.Tests.{both_left, both_right}
use Rattle.board.specs.declared.Place.{Place}
use Rattle.board.specs.Place.{limit, on_board, inside}
use Rattle.board.proofs.Signed.{I32}
use Rattle.board.proofs.Flat.{PlaceI32}
use Rattle.board.proofs.Board.{Board, board, number_held}
use Rattle.copper.specs.declared.Shape.{Shape}
use Rattle.copper.specs.declared.Shape.TheVariants.{Straight, Lower, Upper}
use Rattle.copper.specs.declared.Tally.{Tally}
use Rattle.copper.specs.Shapes.{crossing, lower_corner, upper_corner, corner_of, shape_of}
use Rattle.copper.specs.Arms.{arms_to, spread, owed, Short, Fair}
use Rattle.copper.specs.Least.{first_tally, next_tally}
use Rattle.least.proofs.Tallies.{arms_short, bounded_reached, bounded_leading}
use Rattle.least.specs.Asking.{Modest}

-- A place of the board.
record Ours (p : Place) : Type 0 where
  x : Board p.x
  y : Board p.y
  held_x : I32 p.x
  held_y : I32 p.y

-- A place inside the board is one.
ours : (p : Place) → inside p ≡ true → Ours p
unfolding inside
ours p e =
    let a = both_left (on_board p.x) (on_board p.y) e in
    let b = both_right (on_board p.x) (on_board p.y) e in
    let h = number_held p.x a in
    let k = number_held p.y b in
    record { x = board (record { sfits = h }) a; y = board (record { sfits = k }) b; held_x = h; held_y = k }

-- It fits the numbers that hold it.
held : {p : Place} → Ours p → PlaceI32 p
held o = record { x = o.held_x; y = o.held_y }

-- The crossing of two such places is one.
cross : {a b : Place} → Ours a → Ours b → Ours (crossing a b)
cross p q = record { x = p.x; y = q.y; held_x = p.held_x; held_y = q.held_y }

-- Either of two such places is one ..
either_ours : (t : Bool) {a b : Place} → Ours a → Ours b → Ours (choose t a b)
unfolding choose
either_ours true p q = p
either_ours false p q = q

-- .. and so is a corner between them.
corner_ours : (s : Shape) (a b : Place) → Ours a → Ours b → Ours (corner_of s a b)
corner_ours Straight a b p q = q
corner_ours Lower a b p q = unfold lower_corner in either_ours _ (cross q p) (cross p q)
corner_ours Upper a b p q = unfold upper_corner in either_ours _ (cross p q) (cross q p)

-- Arms between two such places are short.
arms_board : (a b : Place) → Ours a → Ours b → Short (2 * limit) (arms_to a b)
arms_board a b p q =
    arms_short (2 * limit) a b (held p) (held q)
    (omega (arith, p.x, q.x)) (omega (arith, p.x, q.x)) (omega (arith, p.y, q.y)) (omega (arith, p.y, q.y))

-- What is modest is fair.
pub modest_fair : {t : Tally} → Modest t → Fair t
modest_fair m =
    let s = m.short in
    record {
      short = record { east = omega (arith, s.east); west = omega (arith, s.west); north = omega (arith, s.north); south = omega (arith, s.south) };
      paid = m.paid;
    }

-- It owes at most so many steps.
pub modest_owed : {t : Tally} → Modest t → owed t ≤ 8 * limit
unfolding owed spread
modest_owed m = omega arith

module _ (at : ℕ → Place) (near : ℕ → ℕ) (on_board : (i : ℕ) → inside (at i) ≡ true) where
  -- What a pin of the board shows is modest, before any run leads on ..
  pub modest_first : (i : ℕ) (u : Bool) → Modest (first_tally at near i u)
  unfolding first_tally spread
  modest_first zero u = record { short = omega arith; paid = omega arith }
  modest_first (suc r) u =
      let a = ours (at (near r)) (on_board (near r)) in
      let b = ours (at (suc r)) (on_board (suc r)) in
      let shape = shape_of u (at (near r)) (at (suc r)) in
      bounded_reached u (at (near r)) (at (suc r)) (held a) (held b) (2 * limit)
      (arms_board (at (suc r)) (corner_of shape (at (suc r)) (at (near r))) b (corner_ours shape (at (suc r)) (at (near r)) b a))

  -- .. and when one more does.
  pub modest_next : (t : Tally) (r : ℕ) (u : Bool) → Modest t → Modest (next_tally at near t r u)
  unfolding next_tally
  modest_next t r u m =
      let a = ours (at (near r)) (on_board (near r)) in
      let b = ours (at (suc r)) (on_board (suc r)) in
      let shape = shape_of u (at (near r)) (at (suc r)) in
      bounded_leading u (at (near r)) (at (suc r)) (held a) (held b) (2 * limit) t m
      (arms_board (at (near r)) (corner_of shape (at (near r)) (at (suc r))) a (corner_ours shape (at (near r)) (at (suc r)) a b))
