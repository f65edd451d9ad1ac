-- `text::numbers::is_row` meets its contract. Assumes nothing.
use Rattle.std.proofs.Common.{rules, tests}
use Rattle.text.specs.Numbers.{is_coordinate}
use Rattle.text.proofs.Values.{some_coordinate}
use Rattle.text.proofs.numbers.is_row.Goals as goal

pub returns : goal.returns
returns c = c.is_row_of.ensures is_coordinate (λ piece b k. search (rules, tests, k, some_coordinate))
