-- `text::words::stop_at` meets its contract. Assumes nothing.
use Rattle.std.proofs.Common.{◌∙◌, ◌+◌, ap, ℕ, Option, unwrap_or, drop, length, eqb, rules, tests}
use Rattle.std.proofs.lemmas.Iterator.{YieldsList-from_slice}
use Rattle.std.proofs.lemmas.Iterator.Search.{position_from_yields_List}
use Rattle.text.specs.Words.{stop_at}
use Rattle.text.proofs.Library.{found_index, rest_from}
use Rattle.text.proofs.words.stop_at.Goals as goal

pub returns : goal.returns
unfolding stop_at
returns c =
    let at = c.args.at in
    let s = c.args.separator in
    let rest = drop at c.args.text.now in
    let whole = rest_from at c.args.text.now in
    let place = position_from_yields_List (λ b. eqb b s) _ _ c.position.result c.position.ensures.ran (YieldsList-from_slice _ c.iter.ensures.rest) (λ x b q k. search (rules, tests)) in
    ap (λ (n : ℕ). at + n)
    (rw whole at c.unwrap_or.ensures
    ∙ ap (λ (o : Option ℕ). unwrap_or o (length rest)) (rw whole at place)
    ∙ found_index s rest)
