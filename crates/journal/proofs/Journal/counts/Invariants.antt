-- `Journal::counts` meets its contract: the counts are those of the records seen so far. Assumes nothing.
use mathlib.Core.Path.{◌≡◌}
use lib.ListN.{take}
use Rattle.journal.specs.Journal.{counts_of}
use Rattle.journal.proofs.Journal.counts.Given as goal

abbrev pub invariant-loop-record : goal.invariant-loop-record
invariant-loop-record l = l.counts ≡ counts_of (take l.record-index l.record-items)
