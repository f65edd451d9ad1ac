-- `Journal::count_of` meets its contract: it counts the records that are the seat's. Assumes nothing.
use mathlib.Core.Path.{ap, sym, ◌∙◌}
use mathlib.Core.List.{List}
use lib.ListN.{length, length-map}
use Rattle.std.proofs.Common.{rules}
use Rattle.std.specs.List.{filter}
use Rattle.std.proofs.lemmas.Iterator.{YieldsList-from_slice}
use Rattle.std.proofs.lemmas.Iterator.Consumers.{YieldsList-from_filter, count_from_yields_List}
use Rattle.journal.specs.declared.Record.{Record}
use Rattle.journal.specs.Journal.{own}
use Rattle.journal.proofs.Found.{is_of, edit_in, own-filter}
use Rattle.journal.proofs.Journal.count_of.Goals as goal

pub returns : goal.returns
returns c =
    let a = c.args in
    count_from_yields_List c.filter.result c.count.result c.count.ensures.ran
    (YieldsList-from_filter _ (is_of a.seat) (YieldsList-from_slice c.in_use.result.now cc) c.filter.ensures.closure (λ x b q k. search rules))
    ∙ sym (length-map (filter (is_of a.seat) c.in_use.result.now) edit_in)
    ∙ ap length (sym (own-filter a.seat c.in_use.result.now))
    ∙ ap (λ (l : List Record). length (own a.seat l)) c.in_use.ensures
