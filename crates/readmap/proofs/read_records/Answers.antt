-- `readmap::read_records` meets its contract. The loop's invariant: what is left of the reading is the reading of the bytes that are left. Assumes nothing.
use mathlib.Core.Path.{◌∙◌, ap}
use Rattle.std.specs.Prelude.{Err}
use Rattle.std.proofs.lemmas.Result.{err_from_is_err_and}
use Rattle.readmap.proofs.Progress.{begins, ends, turn_goes, turn_stops}
use Rattle.readmap.proofs.read_records.Goals as goal

pub loop-number-init : goal.loop-number-init
loop-number-init c = record { stands = begins _ _ _ _ _ c.requires (cc) (cc); size = cc }

pub returns-in_err-given : goal.returns-in_err-given
returns-in_err-given c =
    let A = c.args in
    let L = c.loop-number in
    let t = c.in-Some.ensures.steps in
    let p = err_from_is_err_and c.from_residual.result c.from_residual.ensures.1 in
    p.1 ∙ ap Err p.2 ∙ turn_stops A.form A.map.now A.job L.pins L.spots L.next _ _ L.invariant.stands
    _ _ t.0.1.0 (t.0.1.1 ∙ L.invariant.size) (rw t.1 at c.judged_record.ensures.value) c.in_err-given.was

pub loop-number-preserved : goal.loop-number-preserved
loop-number-preserved c =
    let A = c.args in
    let L = c.loop-number in
    let t = c.in-Some.ensures.steps in
    record {
      stands = rw (t.2, c.held_of.ensures) (turn_goes A.form A.map.now A.job L.pins L.spots L.next _ _ L.invariant.stands
          _ _ t.0.1.0 (t.0.1.1 ∙ L.invariant.size) (rw t.1 at c.judged_record.ensures.value) c.in_ok-given.was);
      size = t.0.0 ∙ L.invariant.size;
    }

pub returns : goal.returns
returns c =
    let A = c.args in
    let L = c.loop-number in
    let t = c.in-None.ensures.steps in
    ends A.form A.map.now A.job L.pins L.spots L.next _ _ L.invariant.stands (rw L.invariant.size at t.0.1.0)
