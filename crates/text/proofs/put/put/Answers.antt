-- `text::put::put` meets its contract. Assumes nothing.
use Rattle.std.proofs.Common.{arith}
use Rattle.text.proofs.Printing.{copied}
use Rattle.text.proofs.put.put.Goals as goal

pub returns-clause-out_after : goal.returns-clause-out_after
returns-clause-out_after c = copied c.args.out.now c.args.bytes.now _ c.args.at _ c.copy_from_slice.ensures.after (omega arith) (omega arith)
