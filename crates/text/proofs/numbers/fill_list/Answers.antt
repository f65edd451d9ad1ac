-- `text::numbers::fill_list` meets its contract. Assumes nothing.
use Rattle.std.proofs.Common.{◌∙◌, sym, ap, map, List, ℤ, ◌≤◌, length, of_calls, rules, arith}
use Rattle.std.proofs.lemmas.List.{length-map}
use Rattle.text.specs.Text.{over}
use Rattle.text.specs.Words.{comma, pieces}
use Rattle.text.specs.Numbers.{most_numbers, is_coordinate, signed, listed}
use Rattle.text.proofs.Rows.{row_words}
use Rattle.text.proofs.Values.{number_in, numbers_signed, form_stored, form_none}
use Rattle.text.proofs.numbers.fill_list.Goals as goal

pub fill_row-requires : goal.fill_row-requires
fill_row-requires c =
    let room : length (pieces comma c.args.word.now) ≤ most_numbers =
    (row_words is_coordinate most_numbers c.args.word.now (sym c.is_row.ensures ∙ c.if-is_row.true)).1 in
    search (rules, of_calls)

pub returns-then-is_row : goal.returns-then-is_row
unfolding listed
returns-then-is_row c =
    let w = c.args.word.now in
    let row = sym c.is_row.ensures ∙ c.if-is_row.true in
    let words = row_words is_coordinate most_numbers w row in
    let stored = c.fill_row.ensures.values_after number_in (λ piece v k. search (rules, k)) in
    let h =
    form_stored (map signed (pieces comma w)) c.args.values.now row
    (c.fill_row.ensures.count ∙ sym (length-map (pieces comma w) signed))
    (omega (arith, c.fill_row.ensures.count, words.1))
    (stored ∙ ap (λ (l : List ℤ). over l c.args.values.now) (numbers_signed (pieces comma w) words.0)) in
    record { value = h.0; values_after = h.1 }

pub returns-else-is_row : goal.returns-else-is_row
unfolding listed
returns-else-is_row c =
    let h = form_none (map signed (pieces comma c.args.word.now)) c.args.values.now (sym c.is_row.ensures ∙ c.if-is_row.false) in
    record { value = h.0; values_after = h.1 }
