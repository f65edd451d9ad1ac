-- `printed::put_lent` meets its contract. Assumes nothing.
use mathlib.Core.Path.{ap}
use native.Mathlib.Omega.{arith}
use Rattle.printed.proofs.Telling.{lent_none, lent_some}
use Rattle.text.proofs.Printing.{then_put, put_as}
use Rattle.text.specs.Text.{text}
use Rattle.text.specs.Digits.{hex}
use lib.ListN.{length}
use lib.Seq.{sets}
use Rattle.printed.proofs.put_lent.Goals as goal

pub returns-then-bytes-eq0 : goal.returns-then-bytes-eq0
returns-then-bytes-eq0 c =
    let s = c.args in
    let e = lent_none s.bytes.now c.if-bytes-eq0.true in
    record { value = (omega (arith, ap length e), omega arith); out_after = ap (sets s.out.now s.at) e }

pub put_hex-requires : goal.put_hex-requires
put_hex-requires c = omega (arith, c.put-next.ensures.value)

pub returns : goal.returns
returns c =
    let s = c.args in
    let a = c.put-next.ensures in
    let b = c.put_hex.ensures in
    let h =
    put_as s.out.now s.at (lent_some s.bytes.now c.if-bytes-eq0.false)
    (then_put s.out.now s.at (text " ") (hex s.bytes.now) (a.value, a.out_after) (b.value.0, b.out_after)) in
    record { value = (h.0, omega (arith, a.value, b.value.1)); out_after = h.1 }
