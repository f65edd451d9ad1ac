-- `tried::can_take_back_all` meets its contract: the iterator yields the edits that stand, the latest first, and each is tried as the one that takes it back. Assumes nothing.
use mathlib.Core.Path.{◌≡◌, ap, sym, ◌∙◌}
use mathlib.Core.List.{List, map, reverse}
use Prim.Native.Nat.{◌-◌}
use lib.ListN.{drop, take}
use Rattle.std.proofs.Common.{lives, rules}
use Rattle.std.proofs.lemmas.Iterator.{YieldsList-from_map}
use Rattle.std.proofs.lemmas.Iterator.Adapters.{YieldsList-from_rev_slice, YieldsList-from_skip}
use Rattle.std.proofs.lemmas.Iterator.Consumers.{YieldsList-at, YieldsList-from_filter}
use Rattle.edits.specs.declared.Edit.{Edit}
use Rattle.edits.specs.Changes.{reversed}
use Rattle.edits.proofs.Reversing.{reversed_pin}
use Rattle.journal.specs.declared.Record.{Record}
use Rattle.journal.specs.Journal.{makeable_all, in_use, own}
use Rattle.journal.proofs.Found.{is_of, edit_in, own-filter, own-reverse}
use Rattle.journal.proofs.Cut.{turned}
use Rattle.tried.proofs.Trying.{of_chain, tested_back, left_back, taken_back}
use Rattle.tried.proofs.can_take_back_all.Goals as goal

-- Two searches, since one ends at its limit: that the iterator lives long enough, and the rest.
pub can_make_all-requires : goal.can_make_all-requires
can_make_all-requires c = λ k o. (search lives depth 12, search (rules, reversed_pin, tested_back, left_back))

pub returns : goal.returns
returns c =
    let a = c.args in
    let l = c.in_use.result.now in
    let own-back = own-reverse a.seat l ∙ ap (λ (m : List Record). reverse (own a.seat m)) c.in_use.ensures in
    of_chain (λ (m : List Edit). c.can_make_all.result ≡ makeable_all a.pins.now (map reversed m)) c.can_make_all.ensures _
    (YieldsList-from_skip (a.owned - a.standing)
    (YieldsList-at c.skip-standing_edits.ensures.source
    (YieldsList-from_map _ edit_in
    (YieldsList-at c.map.ensures.source
    (YieldsList-from_filter _ (is_of a.seat) (YieldsList-at c.filter.ensures.source (YieldsList-from_rev_slice l cc))
    c.filter.ensures.closure (λ x b q k. search rules)))
    c.map.ensures.closure (λ x r q k. search rules)))
    c.skip-standing_edits.ensures.count)
    ∙ ap (λ (m : List Edit). makeable_all a.pins.now (map reversed (drop (a.owned - a.standing) m))) (sym (own-filter a.seat (reverse l)) ∙ own-back)
    ∙ ap (λ (m : List Edit). makeable_all a.pins.now (map reversed m)) (turned (own a.seat (in_use a.journal.now)) a.owned a.standing c.requires.1)
    ∙ taken_back a.pins.now (reverse (take a.standing (own a.seat (in_use a.journal.now)))) c.requires.3
