-- `mill::cut_legs` meets its contract: the spans of the legs are cleaned, and each becomes a segment. Assumes nothing.
use Rattle.std.proofs.Common.{arith}
use Rattle.mill.proofs.Making.{cleaned_lined}
use Rattle.mill.proofs.Filling.{lines_numbered}
use Rattle.mill.proofs.Cutting.{clean_few, spans_kept, clean_strip}
use Rattle.mill.proofs.cut_legs.Goals as goal

pub segments_of-list-requires : goal.segments_of-list-requires
segments_of-list-requires c =
    let k = spans_kept c.args.legs.now c.spans_of-spans.ensures c.clean-count.ensures.value c.clean-count.ensures.list_after in
    (rw k (omega (arith, clean_few c.args.legs.now)), rw k (lines_numbered (cleaned_lined c.args.legs.now c.requires.1)))

pub returns : goal.returns
returns c =
    let e = c.clean-count.ensures in
    clean_strip c.args.legs.now c.spans_of-spans.ensures e.value e.list_after c.segments_of-list.ensures
