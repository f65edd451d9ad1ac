-- `text::words::without_spaces` meets its contract. Assumes nothing.
use Rattle.std.proofs.Common.{◌≡◌, ◌∙◌, ap, ℕ, Option, unwrap_or, drop, length, not, eqb, rules, tests}
use Rattle.std.proofs.lemmas.Iterator.{YieldsList-from_slice}
use Rattle.std.proofs.lemmas.Iterator.Search.{position_from_yields_List}
use Rattle.text.specs.Words.{space, spaces_of}
use Rattle.text.proofs.Library.{found_spaces, rest_from}
use Rattle.text.proofs.words.without_spaces.Goals as goal

pub returns : goal.returns
returns c =
    let text = c.args.text.now in
    let place = position_from_yields_List (λ b. not (eqb b space)) _ _ c.position.result c.position.ensures.ran (YieldsList-from_slice _ c.iter.ensures.rest) (λ x b q k. search (rules, tests)) in
    let spaces : c.unwrap_or-spaces.result ≡ spaces_of text = c.unwrap_or-spaces.ensures ∙ ap (λ (o : Option ℕ). unwrap_or o (length text)) place ∙ found_spaces text in
    rest_from c.unwrap_or-spaces.result text ∙ ap (λ (n : ℕ). drop n text) spaces
