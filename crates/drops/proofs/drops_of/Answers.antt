-- `drops::drops_of` meets its contract: the drops, or none where they are refused. Assumes nothing.
use mathlib.Core.Path.{◌∙◌}
use Rattle.drops.specs.Drops.{drops_of, drop_rows, lost_of}
use Rattle.drops.proofs.Answering.{drops_answered, none_answered}
use Rattle.drops.proofs.drops_of.Goals as goal

pub returns-in-Ok : goal.returns-in-Ok
unfolding lost_of
returns-in-Ok c =
    let a = c.args in
    drops_answered (drop_rows a.spots.now a.loads.now a.sheet) (drops_of a.spots.now a.loads.now a.sheet) c.in-Ok.ensures

pub returns-in-Err : goal.returns-in-Err
unfolding lost_of
returns-in-Err c =
    let a = c.args in
    c.refused.ensures ∙ none_answered (drop_rows a.spots.now a.loads.now a.sheet) (drops_of a.spots.now a.loads.now a.sheet) c.in-Err.ensures
