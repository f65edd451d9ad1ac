-- `mill::spans_of` meets its contract: the spans are written leg by leg. Assumes nothing.
use Rattle.std.proofs.Common.{◌≡◌, map, take}
use Rattle.basics.specs.Lists.{padded}
use Rattle.spans.specs.Spans.{span}
use Rattle.laying.specs.Entries.{most_legs}
use Rattle.mill.specs.Numbered.{span_of}
use Rattle.mill.proofs.spans_of.Given as goal

abbrev pub invariant-loop-at : goal.invariant-loop-at
invariant-loop-at l = l.spans ≡ padded most_legs (span 0 0) (map span_of (take l.at l.legs))
