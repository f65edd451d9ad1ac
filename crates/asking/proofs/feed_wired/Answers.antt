-- `asking::feed_wired` meets its contract. Assumes nothing.
use mathlib.Core.Path.{ap, sym, ◌∙◌}
use mathlib.Core.List.{List}
use Rattle.basics.proofs.Tests.{choose_yes, choose_no}
use Rattle.refusal.specs.Refusals.{accepted}
use Rattle.board.specs.Spots.{Spot}
use Rattle.wiring.specs.Answer.{wiring_of, turned_away}
use Rattle.asking.proofs.Fed.{fed, unfed}
use Rattle.asking.proofs.feed_wired.Goals as goal

pub wire_feed-requires : goal.wire_feed-requires
wire_feed-requires c =
    let e = fed c.args.found.now c.args.net (sym c.feed_asked.ensures ∙ c.in-Ok.is) c.requires in
    (e.board, e.apart)

pub returns-in-Ok : goal.returns-in-Ok
unfolding accepted
returns-in-Ok c =
    let e = fed c.args.found.now c.args.net (sym c.feed_asked.ensures ∙ c.in-Ok.is) c.requires in
    c.wire_feed.ensures ∙ ap (λ (f : List Spot). wiring_of f c.args.room c.args.favour) e.told ∙ sym (choose_yes _ _ (ap accepted e.passed))

pub returns-in-Err : goal.returns-in-Err
unfolding accepted
returns-in-Err c =
    let e = unfed c.args.found.now c.args.net (sym c.feed_asked.ensures ∙ c.in-Err.is) in
    c.refused.ensures ∙ ap turned_away (sym e) ∙ sym (choose_no _ _ (ap accepted e))
