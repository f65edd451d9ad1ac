-- `text::numbers::all_hex` meets its contract. Assumes nothing.
use Rattle.std.proofs.Common.{◌∙◌, rules, tests}
use Rattle.std.proofs.lemmas.Iterator.{YieldsList-from_slice}
use Rattle.std.proofs.lemmas.Iterator.Search.{all_from_yields_List}
use Rattle.std.specs.Char.{is_ascii_hexdigit}
use Rattle.text.specs.Numbers.{is_hex}
use Rattle.text.proofs.Library.{all_each}
use Rattle.text.proofs.Values.{hex_same}
use Rattle.text.proofs.numbers.all_hex.Goals as goal

pub returns : goal.returns
returns c =
    all_from_yields_List is_ascii_hexdigit _ _ c.all.result c.all.ensures.ran (YieldsList-from_slice _ c.iter.ensures.rest) (λ x b q k. search (rules, tests))
    ∙ all_each is_hex is_ascii_hexdigit hex_same c.args.word.now
