-- `mill::segments_of` meets its contract: segments are written span by span. Assumes nothing.
use Rattle.std.proofs.Common.{arith}
use Rattle.spans.specs.Spans.{span}
use Rattle.laying.specs.Entries.{most_legs, no_leg}
use Rattle.mill.specs.Numbered.{segment_of, is_numbered}
use Rattle.mill.proofs.Filling.{each_passes, made_more}
use Rattle.mill.proofs.segments_of.Goals as goal

pub segment_of-requires : goal.segment_of-requires
segment_of-requires c = each_passes is_numbered c.args.spans.now c.loop-at.at (span 0 0) c.requires.1 (omega arith)

pub loop-at-preserved : goal.loop-at-preserved
loop-at-preserved c =
    rw (c.loop-at.invariant, c.segment_of.ensures) (made_more segment_of c.args.spans.now most_legs no_leg c.loop-at.at (span 0 0) (omega arith) (omega arith))
