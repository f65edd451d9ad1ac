-- `drops::lost_volts` meets its contract: the tree refuses, a number is out of its range, or the drops are told. Assumes nothing.
use mathlib.Core.Path.{◌≡◌, sym}
use Rattle.std.proofs.Common.{true, false, arith}
use Rattle.std.proofs.lemmas.Grind.{common_steps}
use Rattle.std.proofs.lemmas.Result.{err_from_is_err_and}
use Rattle.basics.specs.Tests.{both}
use Rattle.tree.specs.Growth.{pins_of}
use Rattle.loads.specs.Loads.{sheet_fits, loads_fit}
use Rattle.drops.proofs.Answering.{tree_refused, range_refused, drops_told}
use Rattle.drops.proofs.lost_volts.Goals as goal

pub returns-in_err-tree : goal.returns-in_err-tree
returns-in_err-tree c =
    let a = c.args in
    let p = err_from_is_err_and c.from_residual.result c.from_residual.ensures.1 in
    rw (p.1, p.2) (tree_refused a.spots.now a.loads.now a.sheet (sym c.in_err-tree.ensures))

pub returns-then-not-loads_fit : goal.returns-then-not-loads_fit
unfolding both
returns-then-not-loads_fit c =
    let a = c.args in
    let fit : both (sheet_fits a.sheet) (loads_fit a.loads.now (pins_of a.spots.now)) ≡ false = grind (arith, common_steps) in
    range_refused a.spots.now a.loads.now a.sheet (sym c.in_ok-tree.ensures) fit

pub returns : goal.returns
unfolding both
returns c =
    let a = c.args in
    let fit : both (sheet_fits a.sheet) (loads_fit a.loads.now (pins_of a.spots.now)) ≡ true = grind (arith, common_steps) in
    drops_told a.spots.now a.loads.now a.sheet (sym c.in_ok-tree.ensures) c.told-spots c.requires fit c.currents_of-currents.ensures c.drops_over.ensures
