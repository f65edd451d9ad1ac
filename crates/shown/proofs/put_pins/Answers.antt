-- `shown::put_pins` meets its contract. Assumes nothing.
use mathlib.Core.Path.{refl, ap}
use native.Mathlib.Omega.{arith}
use lib.ListN.{take, get_or}
use lib.Seq.{take_all}
use Rattle.text.proofs.Printing.{then_put, put_as}
use Rattle.shown.proofs.Lines.{pins_more}
use Rattle.shown.specs.Shown.{pin_text, pins_text}
use Rattle.drawing.specs.Pins.{absent}
use Rattle.shown.proofs.put_pins.Goals as goal

pub loop-number-init : goal.loop-number-init
unfolding pins_text
loop-number-init c = ((omega arith, omega arith), (omega arith, refl))

pub loop-number-preserved : goal.loop-number-preserved
loop-number-preserved c =
    let s = c.args in
    let q = c.loop-number in
    let e = c.put_pin-next.ensures in
    let a = get_or s.pins.now q.number absent in
    let h = then_put s.out.now s.at (pins_text 0 (take q.number s.pins.now)) (pin_text q.number a) q.invariant.1 (e.value.0, e.out_after) in
    ((omega arith, omega (arith, e.value.1)), put_as s.out.now s.at (pins_more s.pins.now q.number (omega arith)) h)

pub returns : goal.returns
returns c =
    let s = c.args in
    let q = c.loop-number in
    let h = put_as s.out.now s.at (ap (pins_text 0) (take_all q.number s.pins.now (omega arith))) q.invariant.1 in
    record { value = (h.0, omega arith); out_after = h.1 }
