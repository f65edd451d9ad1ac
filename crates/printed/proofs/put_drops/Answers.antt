-- `printed::put_drops` meets its contract. Assumes nothing.
use mathlib.Core.Path.{refl, ap}
use native.Mathlib.Omega.{arith}
use lib.ListN.{take, get_or}
use lib.Seq.{take_all}
use lib.Ieee.{nan}
use Rattle.text.specs.Text.{text_for_each}
use Rattle.text.proofs.Printing.{then_put, put_as, each_more}
use Rattle.printed.specs.Answers.{drop_text}
use Rattle.printed.proofs.put_drops.Goals as goal

pub loop-drop-init : goal.loop-drop-init
unfolding text_for_each
loop-drop-init c = ((omega arith, omega arith), (omega arith, refl))

pub loop-drop-preserved : goal.loop-drop-preserved
loop-drop-preserved c =
    let s = c.args in
    let q = c.loop-drop in
    let e = c.put_drop-next.ensures in
    let x = get_or s.drops.now q.drop-index nan in
    let h = then_put s.out.now s.at (text_for_each drop_text (take q.drop-index s.drops.now)) (drop_text x) q.invariant.1 (e.value.0, e.out_after) in
    ((omega arith, omega (arith, e.value.1)), put_as s.out.now s.at (each_more drop_text nan s.drops.now q.drop-index (omega arith)) h)

pub returns : goal.returns
returns c =
    let s = c.args in
    let q = c.loop-drop in
    let h = put_as s.out.now s.at (ap (text_for_each drop_text) (take_all q.drop-index s.drops.now (omega arith))) q.invariant.1 in
    record { value = (h.0, omega arith); out_after = h.1 }
