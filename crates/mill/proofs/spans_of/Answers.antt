-- `mill::spans_of` meets its contract: the spans are written leg by leg. Assumes nothing.
use Rattle.std.proofs.Common.{arith}
use Rattle.spans.specs.Spans.{span}
use Rattle.laying.specs.Entries.{most_legs, no_leg}
use Rattle.mill.specs.Numbered.{span_of, is_inside}
use Rattle.mill.proofs.Filling.{each_passes, made_more}
use Rattle.mill.proofs.spans_of.Goals as goal

pub span_of-requires : goal.span_of-requires
span_of-requires c = each_passes is_inside c.args.legs.now c.loop-at.at no_leg c.requires.1 (omega arith)

pub loop-at-preserved : goal.loop-at-preserved
loop-at-preserved c =
    rw (c.loop-at.invariant, c.span_of.ensures) (made_more span_of c.args.legs.now most_legs (span 0 0) c.loop-at.at no_leg (omega arith) (omega arith))
