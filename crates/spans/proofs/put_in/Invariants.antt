-- `spans::put_in` meets its contract: the walk along the list. Assumes nothing.
use Rattle.std.proofs.Common.{◌≡◌, ◌+◌, ◌≤◌, take, drop, length}
use Rattle.spans.specs.Spans.{most_spans, insert}
use Rattle.spans.proofs.Walk.{walked}
use Rattle.spans.proofs.put_in.Given as goal

abbrev pub invariant-loop-at : goal.invariant-loop-at
invariant-loop-at l =
    record {
      few : l.kept ≤ l.at;
      long : length l.spans ≡ most_spans;
      same : walked l.kept l.at l.count l.spans l.carry ≡ insert l.fn.span (take l.count l.initial.spans);
      rest : drop (l.count + 1) l.spans ≡ drop (l.count + 1) l.initial.spans;
    }
