-- `asking::feed_dropped` meets its contract. Assumes nothing.
use mathlib.Core.Path.{refl, ap, sym, ◌∙◌}
use mathlib.Core.List.{List}
use Rattle.refusal.specs.Refusals.{accepted}
use Rattle.board.specs.Spots.{Spot}
use Rattle.drawing.specs.Pins.{feed_of}
use Rattle.drops.specs.Drops.{drop_rows, drops_of, lost_of}
use Rattle.rows.specs.Found.{naming_net}
use Rattle.rows.proofs.Rows.{net_apart, lost_away, lost_on}
use Rattle.asking.proofs.Fed.{fed, unfed}
use Rattle.asking.proofs.feed_dropped.Goals as goal

pub drops_of-requires : goal.drops_of-requires
drops_of-requires c =
    let e = fed c.args.found.now c.args.net (sym c.feed_asked.ensures ∙ c.in-Ok.is) c.requires in
    e.board

pub returns-in-Ok : goal.returns-in-Ok
unfolding lost_of accepted
returns-in-Ok c =
    let a = c.args in
    let f = a.found.now in
    let feed = feed_of f.state.pins a.net in
    let e = fed f a.net (sym c.feed_asked.ensures ∙ c.in-Ok.is) c.requires in
    c.drops_of.ensures ∙ ap (λ (spots : List Spot). lost_of spots a.loads.now a.sheet) e.told
    ∙ lost_on (naming_net f a.net) (drop_rows feed a.loads.now a.sheet) (net_apart f.broken f.seat f.state.opened a.net) (sym e.passed) (drops_of feed a.loads.now a.sheet) refl

pub returns-in-Err : goal.returns-in-Err
unfolding accepted
returns-in-Err c =
    let a = c.args in
    let f = a.found.now in
    let feed = feed_of f.state.pins a.net in
    let e = unfed f a.net (sym c.feed_asked.ensures ∙ c.in-Err.is) in
    c.refused.ensures
    ∙ lost_away (naming_net f a.net) (drop_rows feed a.loads.now a.sheet) (net_apart f.broken f.seat f.state.opened a.net) (sym e) (drops_of feed a.loads.now a.sheet) refl
