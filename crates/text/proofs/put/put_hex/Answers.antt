-- `text::put::put_hex` meets its contract. Assumes nothing.
use Rattle.std.proofs.Common.{arith, refl, ◌∙◌}
use Rattle.text.specs.Digits.{hex}
use Rattle.text.proofs.Printing.{hex-length, hex_more}
use Rattle.text.proofs.put.put_hex.Goals as goal

pub loop-b-init : goal.loop-b-init
unfolding hex
loop-b-init c = record { far = omega arith; put = refl }

pub loop-b-preserved : goal.loop-b-preserved
loop-b-preserved c =
    let l = c.loop-b in record {
      far = omega (arith, c.put-next.ensures.value);
      put = c.put-next.ensures.out_after
          ∙ hex_more c.args.out.now c.args.bytes.now c.args.at l.b-index c.loop-b-test.true l.invariant.far l.invariant.put
          c.hex_digit.ensures c.hex_digit-in-loop-b.ensures;
    }

pub returns-clause-value : goal.returns-clause-value
returns-clause-value c = omega (arith, hex-length c.args.bytes.now)
