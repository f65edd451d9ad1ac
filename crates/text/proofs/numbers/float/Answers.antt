-- `text::numbers::float` meets its contract. Assumes nothing.
use Rattle.std.proofs.Common.{◌∙◌, ap, take, ℕ}
use Rattle.std.specs.Float.Ieee.{of_bits}
use Rattle.std.specs.Float.{binary32}
use Rattle.text.specs.Numbers.{float_digits, hex_from, float_of}
use Rattle.text.proofs.Printing.{take-smaller}
use Rattle.text.proofs.numbers.float.Goals as goal

pub returns : goal.returns
unfolding float_of
returns c = c.f32_from_bits_with_nan.ensures ∙ ap (of_bits binary32) (c.bits.ensures ∙ ap (λ (k : ℕ). hex_from 0 (take k c.args.word.now)) c.min.ensures ∙ ap (hex_from 0) (take-smaller c.args.word.now float_digits))
