-- `text::put::put_float` meets its contract. Assumes nothing.
use Rattle.std.proofs.Common.{◌∙◌, ap}
use Rattle.text.specs.Digits.{four_bytes, float_text}
use Rattle.text.proofs.Floats.{bytes_four}
use Rattle.text.proofs.put.put_float.Goals as goal

pub returns-clause-value : goal.returns-clause-value
unfolding float_text
returns-clause-value c =
    let bytes = c.to_be_bytes.ensures ∙ bytes_four c.f32_to_bits_with_nan.result c.f32_to_bits_with_nan.type_inv ∙ ap four_bytes c.f32_to_bits_with_nan.ensures in
    rw bytes at c.put_hex.ensures.value

pub returns-clause-out_after : goal.returns-clause-out_after
unfolding float_text
returns-clause-out_after c =
    let bytes = c.to_be_bytes.ensures ∙ bytes_four c.f32_to_bits_with_nan.result c.f32_to_bits_with_nan.type_inv ∙ ap four_bytes c.f32_to_bits_with_nan.ensures in
    rw bytes at c.put_hex.ensures.out_after
