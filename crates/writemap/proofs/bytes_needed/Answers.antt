-- `writemap::bytes_needed` meets its contract: a record for each pin that is there. Assumes nothing.
use mathlib.Core.Path.{ap, sym, ◌∙◌}
use Prim.Native.Nat.{◌*◌}
use Rattle.std.proofs.Common.{rules}
use Rattle.std.specs.Prelude.{is_some}
use Rattle.std.proofs.lemmas.Iterator.{YieldsList-from_slice}
use Rattle.std.proofs.lemmas.Iterator.Consumers.{YieldsList-from_filter, count_from_yields_List}
use Rattle.pinmap.specs.Map.{record_size}
use Rattle.writemap.specs.Map.{map_of}
use Rattle.writemap.proofs.Written.{map_count}
use Rattle.writemap.proofs.bytes_needed.Goals as goal

pub returns : goal.returns
unfolding map_of
returns c =
    let e = count_from_yields_List _ _ c.count-there.ensures.ran
    (YieldsList-from_filter _ is_some (YieldsList-from_slice c.args.pins.now cc) c.filter.ensures.closure (λ x b q k. search rules)) in
    λ job. rw c.record_bytes.ensures (ap (λ n. n * record_size c.args.form) e) ∙ sym (map_count c.args.form job 0 c.args.pins.now)
