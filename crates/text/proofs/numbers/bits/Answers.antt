-- `text::numbers::bits` meets its contract. Assumes nothing.
use Rattle.std.proofs.Common.{◌∙◌, sym, ap, ◌+◌, ◌*◌, ℕ, drop, arith}
use Rattle.text.specs.Numbers.{hex_from}
use Rattle.text.proofs.Floats.{digit_more, hex-next, hex_end}
use Rattle.text.proofs.numbers.bits.Goals as goal

pub overflow_mul-n : goal.overflow_mul-n
overflow_mul-n c = let l = c.loop-b in omega (arith, digit_more l.n l.b-index 0 (omega arith) l.invariant.within (omega arith))

pub overflow_add-n : goal.overflow_add-n
overflow_add-n c =
    let l = c.loop-b in omega (arith, digit_more l.n l.b-index c.hex_value.result (omega arith) l.invariant.within c.hex_value.ensures.upper_bound)

pub loop-b-preserved : goal.loop-b-preserved
loop-b-preserved c =
    let l = c.loop-b in
    let w = c.args.digits.now in record {
      within = (digit_more l.n l.b-index c.hex_value.result (omega arith) l.invariant.within c.hex_value.ensures.upper_bound).0;
      left = l.invariant.left
          ∙ hex-next w l.b-index l.n c.loop-b-test.true
          ∙ ap (λ (d : ℕ). hex_from (l.n * 16 + d) (drop (l.b-index + 1) w)) (sym c.hex_value.ensures.value);
    }

pub returns : goal.returns
returns c = hex_end c.args.digits.now c.loop-b.b-index c.loop-b.n (omega arith) ∙ sym c.loop-b.invariant.left
