-- `script::calls::form_in` meets its contract. Assumes nothing.
use Rattle.std.proofs.Common.{sym}
use Rattle.basics.proofs.Tests.{choose_no}
use Rattle.script.proofs.Asking.{form_none}
use Rattle.script.proofs.calls.form_in.Goals as goal

pub returns-in_default-2 : goal.returns-in_default-2
returns-in_default-2 c = sym (choose_no _ _ (form_none c.args.name.now (rw c.in_default.is at c.from_utf8.ensures.cases).0))
