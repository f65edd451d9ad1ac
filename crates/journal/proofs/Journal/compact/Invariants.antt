-- `Journal::compact` meets its contract: what stands in front, and what is kept of the records left, make up what is kept. Assumes nothing.
use mathlib.Core.Path.{◌≡◌}
use Rattle.journal.proofs.Dropping.{Dropping}
use Rattle.journal.proofs.Journal.compact.Given as goal

abbrev pub invariant-loop-read : goal.invariant-loop-read
invariant-loop-read l =
    (l.self.used ≡ l.fn.self.used) × Dropping l.fn.self.records l.fn.self.used l.seat l.keep l.read l.self.records l.written l.left
