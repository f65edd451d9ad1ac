-- `shown::put_legs` meets its contract. Assumes nothing.
use mathlib.Core.Path.{◌≡◌, refl, ap}
use Prim.Native.Nat.{ℕ, min}
use native.Mathlib.Omega.{arith}
use lib.ListN.{length, take, get_or, length-take}
use Rattle.text.specs.Text.{text_for_each}
use Rattle.text.proofs.Printing.{then_put, put_as, each_more}
use Rattle.shown.proofs.Lines.{turns_all}
use Rattle.shown.specs.Shown.{leg_text}
use Rattle.laying.specs.Entries.{most_legs, no_leg}
use Rattle.shown.proofs.put_legs.Goals as goal

pub loop-leg-init : goal.loop-leg-init
unfolding text_for_each
loop-leg-init c = ((omega arith, omega arith), (omega arith, refl))

pub loop-leg-preserved : goal.loop-leg-preserved
loop-leg-preserved c =
    let s = c.args in
    let q = c.loop-leg in
    let l = take (min s.count most_legs) s.legs.now in
    let m : take c.min.result s.legs.now ≡ l = ap (λ (k : ℕ). take k s.legs.now) c.min.ensures in
    let e = rw m at c.put_leg-next.ensures in
    let h = then_put s.out.now s.at (text_for_each (leg_text s.word.now) (take q.leg-index l)) ((leg_text s.word.now) (get_or l q.leg-index no_leg)) q.invariant.1 (e.value.0, e.out_after) in
    ((omega (arith, length-take (min s.count most_legs) s.legs.now), omega (arith, e.value.1)), put_as s.out.now s.at (each_more (leg_text s.word.now) no_leg l q.leg-index (omega (arith, ap length m))) h)

pub returns : goal.returns
returns c =
    let s = c.args in
    let q = c.loop-leg in
    let m = ap (λ (k : ℕ). length (take k s.legs.now)) c.min.ensures in
    let e = turns_all s.legs.now s.count most_legs q.leg-index (omega arith) (omega (arith, m)) in
    let h = put_as s.out.now s.at (ap (text_for_each (leg_text s.word.now)) e) q.invariant.1 in
    record { value = (h.0, omega arith); out_after = h.1 }
