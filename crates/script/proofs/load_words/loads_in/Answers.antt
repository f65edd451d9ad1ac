-- `script::load_words::loads_in` meets its contract. Assumes nothing.
use Rattle.std.proofs.Common.{◌≤◌, ◌∙◌, sym, length, of_calls, rules}
use Rattle.board.specs.Spots.{most_pins}
use Rattle.text.specs.Words.{comma, pieces}
use Rattle.text.proofs.Rows.{row_words}
use Rattle.script.specs.Loads.{is_load, all_spare}
use Rattle.script.proofs.Loading.{loaded_in, row_loads, no_loads}
use Rattle.script.proofs.load_words.loads_in.Goals as goal

pub fill_row-requires : goal.fill_row-requires
fill_row-requires c =
    let room : length (pieces comma c.args.word.now) ≤ most_pins =
    (row_words is_load most_pins c.args.word.now (sym c.is_load_row.ensures ∙ c.if-is_load_row.true)).1 in
    search (rules, of_calls)

pub returns-then-is_load_row : goal.returns-then-is_load_row
unfolding all_spare
returns-then-is_load_row c =
    row_loads c.args.word.now (sym c.is_load_row.ensures ∙ c.if-is_load_row.true)
    (c.fill_row.ensures.values_after loaded_in (λ piece v k. search (rules, k)))

pub returns-else-is_load_row : goal.returns-else-is_load_row
unfolding all_spare
returns-else-is_load_row c = no_loads c.args.word.now (sym c.is_load_row.ensures ∙ c.if-is_load_row.false)
