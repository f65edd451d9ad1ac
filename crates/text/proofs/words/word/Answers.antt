-- `text::words::word` meets its contract. Assumes nothing.
use Rattle.std.proofs.Common.{◌≡◌, ◌∙◌, ap, sym, arith, ℕ}
use lib.Seq.{length-take-le}
use Rattle.text.specs.Words.{space, words_of, word as word_in}
use Rattle.text.proofs.Library.{rest_from}
use Rattle.text.proofs.Cutting.{stop_within, behind_none, behind_more, word_behind}
use Rattle.text.proofs.words.word.Goals as goal

pub loop-init : goal.loop-init
loop-init c = behind_none c.args.text.now c.without_spaces-rest.ensures

pub loop-preserved : goal.loop-preserved
loop-preserved c = behind_more c.args.text.now c.loop.invariant c.stop_at.ensures (rw (← (rest_from c.stop_at.result c.loop.rest.now)) c.without_spaces-rest-in-loop.ensures)

pub slice_bounds-result-end : goal.slice_bounds-result-end
slice_bounds-result-end c =
    let rest = c.loop.rest.now in
    sym (length-take-le c.stop_at-2.result rest (omega (arith, c.stop_at-2.ensures, stop_within space rest 0 (omega arith))))

pub returns : goal.returns
returns c =
    let done : c.loop.counter ≡ c.args.number = omega arith in
    word_behind c.args.text.now c.loop.invariant c.stop_at-2.ensures ∙ ap (λ (k : ℕ). word_in k (words_of c.args.text.now)) done
