-- `Journal::edit_of` meets its contract: of the edits of the seat's own records, from the newest back, it takes the one at `later`. Assumes nothing.
use mathlib.Core.Path.{ap, sym, ◌∙◌}
use mathlib.Core.List.{List, reverse}
use lib.ListN.{get_or}
use Rattle.std.proofs.Common.{rules}
use Rattle.std.specs.Iterator.Adapters.{filter_callee}
use Rattle.std.proofs.lemmas.Iterator.{YieldsList-from_map}
use Rattle.std.proofs.lemmas.Iterator.Adapters.{YieldsList-from_rev_slice, option_map_id}
use Rattle.std.proofs.lemmas.Iterator.Consumers.{YieldsList-from_filter, nth_from_yields_List}
use Rattle.journal.specs.declared.Record.{Record}
use Rattle.journal.specs.Journal.{no_edit, own}
use Rattle.journal.proofs.Found.{is_of, edit_in, own_back}
use Rattle.journal.proofs.Journal.edit_of.Goals as goal

pub returns : goal.returns
returns c =
    let a = c.args in
    let l = c.in_use.result.now in
    c.unwrap_or.ensures
    ∙ own_back a.seat a.later l c.nth.result
    (sym (option_map_id c.nth.result)
    ∙ nth_from_yields_List c.nth.result _ a.later c.nth.ensures.ran
    (YieldsList-from_map _ edit_in
    (YieldsList-from_filter _ (is_of a.seat) (YieldsList-from_rev_slice l cc) (ap filter_callee c.map.ensures.source ∙ c.filter.ensures.closure) (λ x b q k. search rules))
    c.map.ensures.closure (λ x r q k. search rules)))
    ∙ ap (λ (m : List Record). get_or (reverse (own a.seat m)) a.later no_edit) c.in_use.ensures
