-- `tried::can_redo_all` meets its contract: the iterator yields the seat's edits without the first `standing`. Assumes nothing.
use mathlib.Core.Path.{◌≡◌, ap, sym, ◌∙◌}
use mathlib.Core.List.{List}
use lib.ListN.{drop}
use Rattle.std.proofs.Common.{lives, rules}
use Rattle.std.proofs.lemmas.Iterator.{YieldsList-from_slice, YieldsList-from_map}
use Rattle.std.proofs.lemmas.Iterator.Adapters.{YieldsList-from_skip}
use Rattle.std.proofs.lemmas.Iterator.Consumers.{YieldsList-at, YieldsList-from_filter}
use Rattle.edits.specs.declared.Edit.{Edit}
use Rattle.journal.specs.Journal.{makeable_all, own}
use Rattle.journal.proofs.Found.{is_of, edit_in, own-filter}
use Rattle.tried.proofs.Trying.{map_same, of_chain}
use Rattle.tried.proofs.can_redo_all.Goals as goal

-- Two searches, since one ends at its limit: that the iterator lives long enough, and the rest.
pub can_make_all-requires : goal.can_make_all-requires
can_make_all-requires c = λ k o. (search lives depth 12, search rules)

pub returns : goal.returns
returns c =
    let a = c.args in
    let l = c.in_use.result.now in
    of_chain (λ (m : List Edit). c.can_make_all.result ≡ makeable_all a.pins.now m) (λ m y. c.can_make_all.ensures m y ∙ ap (makeable_all a.pins.now) (map_same m)) _
    (YieldsList-from_skip a.standing
    (YieldsList-at c.skip-taken_back.ensures.source
    (YieldsList-from_map _ edit_in
    (YieldsList-at c.map.ensures.source
    (YieldsList-from_filter _ (is_of a.seat) (YieldsList-from_slice l cc) c.filter.ensures.closure (λ x b q k. search rules)))
    c.map.ensures.closure (λ x r q k. search rules)))
    c.skip-taken_back.ensures.count)
    ∙ ap (λ (m : List Edit). makeable_all a.pins.now (drop a.standing m)) (sym (own-filter a.seat l) ∙ ap (own a.seat) c.in_use.ensures)
