-- `drops::currents_of` meets its contract: the runs that are left are the first ones, the currents of the others are reckoned, and these others stand in the
-- chains of their near pins. Assumes nothing.
use mathlib.Core.Path.{◌≡◌, refl, ◌∙◌, sym, ap}
use Prim.Native.Nat.{◌+◌, ◌<◌, ◌^◌}
use native.Mathlib.Omega.{arith}
use lib.ListN.{length}
use lib.Seq.{take_all}
use lib.Ieee.{of_bits}
use Rattle.std.specs.Iterator.Adapters.{rev_source, enumerate_source, enumerate_count}
use Rattle.std.specs.Slice.Iter.{iter_rest}
use Rattle.std.proofs.lemmas.List.{get_or_default}
use Rattle.loads.specs.Loads.{amps_of}
use Rattle.drops.specs.Passes.{amps_at}
use Rattle.drops.proofs.Passes.{chained_none, reckoned_none, left_turn}
use Rattle.drops.proofs.currents_of.Goals as goal

pub loop-at-init : goal.loop-at-init
unfolding of_bits
loop-at-init c =
    let a = c.args in
    let rest : iter_rest (enumerate_source (rev_source c.into_iter-at-iterator.result)) ≡ a.runs.now = cc in
    let count : enumerate_count (rev_source c.into_iter-at-iterator.result) ≡ 0 = cc in
    rw (count, rest) (
      (tt, tt, omega (arith, c.requires.few)),
      tt,
      refl,
      sym (take_all (length a.runs.now) a.runs.now (omega arith)),
      reckoned_none (amps_at a.loads.now a.sheet) a.runs.now c.requires,
      chained_none a.runs.now,
    )

pub loop-at-preserved : goal.loop-at-preserved
loop-at-preserved c =
    let a = c.args in
    let v = c.loop-at in
    let step = c.in-Some.ensures.steps in
    let later = iter_rest (enumerate_source (rev_source c.next.new.self)) in
    let number : c.in-Some.at ≡ length later = omega (arith, v.invariant.2) in
    let room : enumerate_count (rev_source c.next.new.self) + length later < 2 ^ 64 = omega (arith, v.invariant.2) in
    let turn = left_turn (amps_at a.loads.now a.sheet) a.runs.now c.requires v.currents v.leading v.chain _ later c.in-Some.run'.now c.in-Some.at
    c.amps-own.result c.plus_along.result v.invariant.3 step.1.0 number v.invariant.4 v.invariant.5
    (λ low. c.amps-own.ensures ∙ ap (amps_of a.sheet) (get_or_default a.loads.now _ _ _ (omega arith))) c.plus_along.ensures in
    ((tt, tt, room), tt, step.0 ∙ v.invariant.2, turn.0, turn.1, turn.2)
