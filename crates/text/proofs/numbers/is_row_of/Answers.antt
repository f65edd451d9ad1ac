-- `text::numbers::is_row_of` meets its contract. Assumes nothing.
use Rattle.std.proofs.Common.{◌∙◌, eqb, rules, tests}
use Rattle.std.proofs.lemmas.Iterator.Consumers.{YieldsList-at, YieldsList-from_enumerate}
use Rattle.std.proofs.lemmas.Iterator.Search.{all_from_yields_List}
use Rattle.std.proofs.lemmas.Iterator.Splits.{YieldsList-from_slice_split}
use Rattle.text.specs.Words.{comma}
use Rattle.text.proofs.Rows.{in_row, row_is}
use Rattle.text.proofs.numbers.is_row_of.Goals as goal

pub returns : goal.returns
returns g c = λ test k.
    let w = c.args.word.now in
    all_from_yields_List (in_row test c.args.most) _ _ c.all.result c.all.ensures.ran
    (YieldsList-from_enumerate
    (YieldsList-at c.enumerate.ensures.source
    (YieldsList-from_slice_split _ (λ b. eqb b comma) w c.split.ensures.rest c.split.ensures.done c.split.ensures.closure (λ x b q h. search (rules, tests))))
    c.enumerate.ensures.count)
    (λ x b q h. (search (rules, tests, h), search (rules, tests, h, k)))
    ∙ row_is test c.args.most w
