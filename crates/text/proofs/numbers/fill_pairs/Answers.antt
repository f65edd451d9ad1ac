-- `text::numbers::fill_pairs` meets its contract. Assumes nothing.
use Rattle.std.proofs.Common.{◌/◌, ◌∙◌, refl, sym, ap, map as each, length, List, [], ℕ, arith}
use Rattle.std.proofs.lemmas.List.{length-map}
use Rattle.text.specs.Text.{over}
use Rattle.text.proofs.Steps.{map_more, map_done}
use Rattle.text.proofs.Values.{pair_byte, bytes_pairs}
use Rattle.text.proofs.numbers.fill_pairs.Goals as goal

pub loop-i-preserved : goal.loop-i-preserved
loop-i-preserved c =
    map_more pair_byte [] c.as_chunks.result.0.now c.args.map.now c.loop-i.i c.loop-i.invariant (omega arith) c.joined.ensures

pub returns-clause-value : goal.returns-clause-value
returns-clause-value c =
    let w = c.args.word.now in
    let e = ap (each pair_byte) c.as_chunks.ensures.front ∙ bytes_pairs w (length w / 2) refl in
    (sym (length-map c.as_chunks.result.0.now pair_byte) ∙ ap length e, omega (arith, c.as_chunks.ensures.front_len))

pub returns-clause-map_after : goal.returns-clause-map_after
returns-clause-map_after c =
    let w = c.args.word.now in
    let e = ap (each pair_byte) c.as_chunks.ensures.front ∙ bytes_pairs w (length w / 2) refl in
    map_done pair_byte [] c.as_chunks.result.0.now c.args.map.now c.loop-i.i c.loop-i.invariant (omega arith)
    ∙ ap (λ (l : List ℕ). over l c.args.map.now) e
