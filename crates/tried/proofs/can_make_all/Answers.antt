-- `tried::can_make_all` meets its contract: all can be made, as they are turned, where those left can, on the pins that those
-- made leave, which keep the rules. Assumes nothing.
use mathlib.Core.Path.{◌≡◌, sym, ◌∙◌}
use lib.ListN.{set}
use Rattle.std.proofs.Common.{rules}
use Rattle.std.proofs.lemmas.Iterator.Consumers.{YieldsList-at, YieldsList-so_far, YieldsList-turn, YieldsList-end}
use Rattle.edits.specs.Edits.{made, makeable}
use Rattle.edits.specs.Changes.{pin_of}
use Rattle.edits.proofs.Making.{made-lawful}
use Rattle.edits.proofs.Stepping.{made_test, made_number, pin_put, spot_put}
use Rattle.tried.proofs.Trying.{next_made, next_fails, all_made}
use Rattle.tried.proofs.can_make_all.Goals as goal

pub returns-then-not-passes : goal.returns-then-not-passes
returns-then-not-passes g c = λ l y.
    let o = c.loop-edit in
    let all = YieldsList-at {steps = g.I.Iterator.next_gives} c.into_iter-edit-iterator.ensures.into_iter_gives (record { runs = y }) in
    let n : c.pin_of-number.result ≡ pin_of (g.turned c.in-Some.edit) = search rules in
    let b : c.passes.result ≡ makeable o.after (g.turned c.in-Some.edit) = made_test o.after _ n c.pin_at-pin.ensures o.invariant.rules o.invariant.told (search rules) in
    next_fails _ _ _ _ o.invariant.left _ l (sym b ∙ c.if-not-passes.true) (YieldsList-so_far all _ _ o.yielded_by)
    (YieldsList-turn all _ _ o.yielded_by _ _ _ c.in-Some.is c.next.ensures.steps)

pub bounds-after-number : goal.bounds-after-number
bounds-after-number g c =
    let o = c.loop-edit in
    let n : c.pin_of-number.result ≡ pin_of (g.turned c.in-Some.edit) = search rules in
    let b : c.passes.result ≡ makeable o.after (g.turned c.in-Some.edit) = made_test o.after _ n c.pin_at-pin.ensures o.invariant.rules o.invariant.told (search rules) in
    made_number o.after _ n c.pin_at-pin.ensures (sym b ∙ c.if-not-passes.false)

pub bounds-spots-number : goal.bounds-spots-number
bounds-spots-number g c =
    let o = c.loop-edit in
    let n : c.pin_of-number.result ≡ pin_of (g.turned c.in-Some.edit) = search rules in
    let b : c.passes.result ≡ makeable o.after (g.turned c.in-Some.edit) = made_test o.after _ n c.pin_at-pin.ensures o.invariant.rules o.invariant.told (search rules) in
    made_number o.after _ n c.pin_at-pin.ensures (sym b ∙ c.if-not-passes.false)

pub loop-edit-preserved : goal.loop-edit-preserved
loop-edit-preserved g c =
    let o = c.loop-edit in
    let n : c.pin_of-number.result ≡ pin_of (g.turned c.in-Some.edit) = search rules in
    let b : c.passes.result ≡ makeable o.after (g.turned c.in-Some.edit) = made_test o.after _ n c.pin_at-pin.ensures o.invariant.rules o.invariant.told (search rules) in
    let t = sym b ∙ c.if-not-passes.false in
    let p : set o.after c.pin_of-number.result c.leaves-next.result ≡ made o.after (g.turned c.in-Some.edit) = pin_put o.after _ n c.pin_at-pin.ensures (search rules) in
    record {
      can = search rules;
      ends = search rules;
      rules = rw p (made-lawful o.after _ t);
      told = spot_put o.after _ _ o.invariant.told c.spot_of.ensures;
      left = next_made _ _ _ _ o.invariant.left _ t p;
    }

pub returns : goal.returns
returns g c = λ l y.
    let o = c.loop-edit in
    let all = YieldsList-at {steps = g.I.Iterator.next_gives} c.into_iter-edit-iterator.ensures.into_iter_gives (record { runs = y }) in
    all_made _ _ _ _ o.invariant.left l (YieldsList-end all _ _ o.yielded_by _ _ c.in-None.is c.next.ensures.steps).0
