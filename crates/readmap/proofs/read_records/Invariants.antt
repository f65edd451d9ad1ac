-- `readmap::read_records` meets its contract. The loop's invariant: what is left of the reading is the reading of the bytes that are left. Assumes nothing.
use mathlib.Core.Path.{◌≡◌}
use Rattle.std.specs.Iterator.Adapters.{enumerate_source, enumerate_count}
use Rattle.std.specs.Slice.Iter.{chunks_exact_rest, chunks_exact_size}
use Rattle.pinmap.specs.Map.{record_size}
use Rattle.readmap.proofs.Progress.{Stands}
use Rattle.readmap.proofs.read_records.Given as goal

abbrev pub invariant-loop-number : goal.invariant-loop-number
invariant-loop-number l =
    let left = enumerate_source l.number-iterator in
    record {
      stands : Stands l.form l.map l.job l.pins l.spots l.next (enumerate_count l.number-iterator) (chunks_exact_rest left);
      size : chunks_exact_size left ≡ record_size l.form;
    }
