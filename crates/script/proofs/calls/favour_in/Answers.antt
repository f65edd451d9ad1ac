-- `script::calls::favour_in` meets its contract. Assumes nothing.
use Rattle.script.proofs.Asking.{favour_none}
use Rattle.script.proofs.calls.favour_in.Goals as goal

pub returns-in_default-2 : goal.returns-in_default-2
returns-in_default-2 c = favour_none c.args.name.now (rw c.in_default.is at c.from_utf8.ensures.cases).0
