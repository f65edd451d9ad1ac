-- The legs of a feed whose pins stand on the board lie on the board, whatever the shapes of its runs. From pins that stand on the board.
use mathlib.Core.Path.{◌≡◌, refl}
use mathlib.Core.Bool.{Bool, true, false}
use mathlib.Core.List.{List, [], ◌∷◌}
use lib.Signed.{le_z}
use Rattle.basics.specs.Tests.{choose, each_of}
use Rattle.basics.proofs.Tests.{both_left, both_right, both_of}
use Rattle.basics.proofs.Anyone.{each_end, each_more, each_append}
use Rattle.board.specs.declared.Place.{Place}
use Rattle.board.specs.Spots.{Spot}
use Rattle.board.specs.Place.{inside}
use Rattle.board.specs.Spots.{all_within}
use Rattle.board.proofs.Rules.{inside_at}
use Rattle.tree.specs.declared.Run.{Run}
use Rattle.copper.specs.declared.Shape.{Shape}
use Rattle.copper.specs.declared.Shape.TheVariants.{Straight, Lower, Upper}
use Rattle.copper.specs.Shapes.{crossing, lower_corner, upper_corner, corner_of, first_leg, second_leg, legs_of}
use Rattle.laying.specs.Entries.{near_end, far_end}
use Rattle.wiring.specs.Choices.{legs_of_choice}
use Rattle.mill.specs.Numbered.{is_inside}

module _ (a b : Place) (h : inside a ≡ true) (k : inside b ≡ true) where
  -- The place in the column of one place of the board and the row of another is one of the board,
  crossings : (inside (crossing a b) ≡ true) × (inside (crossing b a) ≡ true)
  unfolding inside
  crossings = (both_of (both_left _ _ h) (both_right _ _ k), both_of (both_left _ _ k) (both_right _ _ h))

  -- and so is the corner of a run between them.
  corner_inside : (shape : Shape) → inside (corner_of shape a b) ≡ true
  unfolding lower_corner upper_corner choose
  corner_inside Straight = k
  corner_inside Lower = by_test (le_z a.y b.y)
    where
      by_test : (t : Bool) → inside (choose t (crossing b a) (crossing a b)) ≡ true
      by_test true = crossings.1
      by_test false = crossings.0
  corner_inside Upper = by_test (le_z a.y b.y)
    where
      by_test : (t : Bool) → inside (choose t (crossing a b) (crossing b a)) ≡ true
      by_test true = crossings.0
      by_test false = crossings.1

  -- So both legs of a bent run lie on the board,
  two_inside : (shape : Shape) → each_of is_inside (first_leg shape a b ∷ second_leg shape a b ∷ []) ≡ true
  two_inside shape =
      each_more is_inside (first_leg shape a b) (second_leg shape a b ∷ []) (both_of h (corner_inside shape))
      (each_more is_inside (second_leg shape a b) [] (both_of (corner_inside shape) k) (each_end refl is_inside))

  -- and the legs of any run.
  run_inside : (shape : Shape) → each_of is_inside (legs_of shape a b) ≡ true
  unfolding legs_of
  run_inside Straight = each_more is_inside (first_leg Straight a b) [] (both_of h k) (each_end refl is_inside)
  run_inside Lower = two_inside Lower
  run_inside Upper = two_inside Upper

-- THE LEGS OF ANY CHOICE OF SHAPES LIE ON THE BOARD.
pub wired_inside : (feed : List Spot) → all_within feed ≡ true → (runs : List Run) (shapes : List Shape) → each_of is_inside (legs_of_choice feed runs shapes) ≡ true
unfolding legs_of_choice
wired_inside feed ok [] shapes = each_end refl is_inside
wired_inside feed ok (r ∷ runs) [] = each_end refl is_inside
wired_inside feed ok (r ∷ runs) (s ∷ shapes) =
    each_append is_inside (legs_of s (near_end feed r) (far_end feed r)) (legs_of_choice feed runs shapes)
    (run_inside (near_end feed r) (far_end feed r) (inside_at feed ok r.near) (inside_at feed ok r.far) s) (wired_inside feed ok runs shapes)
