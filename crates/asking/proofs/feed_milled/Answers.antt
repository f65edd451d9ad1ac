-- `asking::feed_milled` meets its contract. Assumes nothing.
use mathlib.Core.Path.{refl, ap, sym, ◌∙◌}
use mathlib.Core.List.{List}
use Rattle.refusal.specs.Refusals.{accepted}
use Rattle.board.specs.Spots.{Spot}
use Rattle.drawing.specs.Pins.{feed_of}
use Rattle.mill.specs.Answer.{copper_of, mill_rows, cut_of}
use Rattle.rows.specs.Found.{naming_net}
use Rattle.rows.proofs.Rows.{net_apart, cut_away, cut_on}
use Rattle.asking.proofs.Fed.{fed, unfed}
use Rattle.asking.proofs.feed_milled.Goals as goal

pub mill_feed-requires : goal.mill_feed-requires
mill_feed-requires c =
    let e = fed c.args.found.now c.args.net (sym c.feed_asked.ensures ∙ c.in-Ok.is) c.requires in
    (e.board, e.apart)

pub returns-in-Ok : goal.returns-in-Ok
unfolding cut_of accepted
returns-in-Ok c =
    let a = c.args in
    let f = a.found.now in
    let feed = feed_of f.state.pins a.net in
    let e = fed f a.net (sym c.feed_asked.ensures ∙ c.in-Ok.is) c.requires in
    c.mill_feed.ensures ∙ ap (λ (spots : List Spot). cut_of spots a.room a.favour) e.told
    ∙ cut_on (naming_net f a.net) (mill_rows feed a.room a.favour) (net_apart f.broken f.seat f.state.opened a.net) (sym e.passed) (copper_of feed a.favour) refl

pub returns-in-Err : goal.returns-in-Err
unfolding accepted
returns-in-Err c =
    let a = c.args in
    let f = a.found.now in
    let feed = feed_of f.state.pins a.net in
    let e = unfed f a.net (sym c.feed_asked.ensures ∙ c.in-Err.is) in
    c.refused.ensures
    ∙ cut_away (naming_net f a.net) (mill_rows feed a.room a.favour) (net_apart f.broken f.seat f.state.opened a.net) (sym e) (copper_of feed a.favour) refl
