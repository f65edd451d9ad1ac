-- `writemap::write_records` meets its contract. The loop's invariant: storing the records of the pins from `number` on gives what storing the map gives.
-- Assumes nothing.
use Rattle.writemap.proofs.Written.{Storing}
use Rattle.writemap.proofs.write_records.Given as goal

abbrev pub invariant-loop-number : goal.invariant-loop-number
invariant-loop-number l = Storing l.form l.job l.pins l.initial.buffer l.buffer l.at l.number
