-- `wiring::wire_favouring` meets its contract: the tree refuses, the room is too small, or the shapes found are the answer. Assumes nothing.
use mathlib.Core.Path.{refl}
use native.Mathlib.Omega.{arith}
use Rattle.wiring.proofs.Answering.{count_few, wire_asked, wire_answer}
use Rattle.wiring.proofs.wire_favouring.Goals as goal

pub shared_ref_as_front-runs : goal.shared_ref_as_front-runs
shared_ref_as_front-runs c =
    let tree = c.in-Ok.tree in
    count_few _ c.told-spots c.requires.0 c.requires.1 c.args.favoured c.args.room tree c.in-Ok.ensures _ refl

pub best_cost-found-requires : goal.best_cost-found-requires
best_cost-found-requires c =
    let tree = c.in-Ok.tree in
    wire_asked _ c.told-spots c.requires.0 c.requires.1 c.args.favoured c.args.room tree c.in-Ok.ensures _ refl

pub returns : goal.returns
returns c =
    let tree = c.in-Ok.tree in
    wire_answer _ c.told-spots c.requires.0 c.requires.1 c.args.favoured c.args.room tree c.in-Ok.ensures _ refl
    _ c.best_cost-found.ensures _ c.entries_in-entries.ensures _ refl _ c.legs_of-strip.ensures (omega arith)
