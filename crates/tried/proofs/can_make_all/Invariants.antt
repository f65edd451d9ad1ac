-- `tried::can_make_all` meets its contract: all can be made, as they are turned, where those left can, on the pins that those
-- made leave, which keep the rules. Assumes nothing.
use mathlib.Core.Path.{◌≡◌}
use mathlib.Core.Bool.{true}
use mathlib.Core.List.{List, ◌++◌, map}
use Rattle.drawing.specs.Pins.{lawful, spots_of}
use Rattle.edits.specs.declared.Edit.{Edit}
use Rattle.journal.specs.Journal.{makeable_all}
use Rattle.tried.proofs.can_make_all.Given as goal

abbrev pub invariant-loop-edit : goal.invariant-loop-edit
invariant-loop-edit g l =
    record {
      can : (goal.iterator-loop-edit g).can_next l.edit-iterator;
      ends : (goal.iterator-loop-edit g).is_finite l.edit-iterator;
      rules : lawful l.after ≡ true;
      told : l.spots ≡ spots_of l.after;
      left : (rest : List Edit) → makeable_all l.initial.after (map g.turned (l.yielded ++ rest)) ≡ makeable_all l.after (map g.turned rest);
    }
