-- `spans::clean` meets its contract: the spans are put in one after another, then what is left of them is cleared. Assumes nothing.
use Rattle.std.proofs.Common.{◌≡◌, ◌≤◌, length, take}
use Rattle.spans.specs.Spans.{most_spans, cleaned}
use Rattle.spans.proofs.Cleaning.{to_give}
use Rattle.spans.proofs.clean.Given as goal

abbrev pub invariant-loop-at : goal.invariant-loop-at
invariant-loop-at l =
    record {
      few : l.kept ≤ l.at;
      long : length l.spans ≡ most_spans;
      same : to_give l.kept l.at l.count l.spans ≡ cleaned (take l.count l.initial.spans);
    }
