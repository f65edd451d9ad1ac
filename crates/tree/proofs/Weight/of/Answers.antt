-- `tree::Weight::of` meets its contract: what is worked out of numbers of the board fits. Assumes nothing.
use Rattle.std.proofs.Common.{◌≡◌, pos, arith}
use Rattle.std.proofs.lemmas.Int.{ints, to_z-of_z}
use Rattle.board.specs.Place.{difference, larger}
use Rattle.tree.proofs.Near.{all_near, larger_is, weight_told}
use Rattle.tree.proofs.Weight.of.Goals as goal

pub overflow_sub-a : goal.overflow_sub-a
overflow_sub-a c = let near = all_near _ _ c.requires in omega (arith, ints)

pub abs-dx-requires : goal.abs-dx-requires
abs-dx-requires c = let near = all_near _ _ c.requires in omega (arith, ints)

pub overflow_sub-a-2 : goal.overflow_sub-a-2
overflow_sub-a-2 c = let near = all_near _ _ c.requires in omega (arith, ints)

pub abs-dy-requires : goal.abs-dy-requires
abs-dy-requires c = let near = all_near _ _ c.requires in omega (arith, ints)

pub overflow_add-result : goal.overflow_add-result
overflow_add-result c = let near = all_near _ _ c.requires in omega (arith, ints)

pub overflow_sub-result-2 : goal.overflow_sub-result-2
overflow_sub-result-2 c = let near = all_near _ _ c.requires in omega (arith, ints)

pub returns : goal.returns
unfolding difference
returns c =
    let near = all_near _ _ c.requires in
    let dx : c.abs-dx.result ≡ pos (difference c.args.a.x c.args.b.x) = omega (arith, ints) in
    let dy : c.abs-dy.result ≡ pos (difference c.args.a.y c.args.b.y) = omega (arith, ints) in
    let right : c.max.result ≡ larger c.args.a.x c.args.b.x = grind (arith, to_z-of_z, larger_is) in
    weight_told near dx dy right
