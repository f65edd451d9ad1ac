-- `script::load_words::is_load_row` meets its contract. Assumes nothing.
use Rattle.std.proofs.Common.{rules, tests}
use Rattle.script.specs.Loads.{is_load}
use Rattle.script.proofs.Loading.{some_load}
use Rattle.script.proofs.load_words.is_load_row.Goals as goal

pub returns : goal.returns
returns c = c.is_row_of.ensures is_load (λ piece b k. search (rules, tests, k, some_load))
