-- `mill::segments_of` meets its contract: segments are written span by span. Assumes nothing.
use Rattle.std.proofs.Common.{◌≡◌, map, take}
use Rattle.basics.specs.Lists.{padded}
use Rattle.laying.specs.Entries.{most_legs, no_leg}
use Rattle.mill.specs.Numbered.{segment_of}
use Rattle.mill.proofs.segments_of.Given as goal

abbrev pub invariant-loop-at : goal.invariant-loop-at
invariant-loop-at l = l.segments ≡ padded most_legs no_leg (map segment_of (take l.at l.spans))
