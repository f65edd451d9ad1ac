-- `text::put::hex_digit` meets its contract. Assumes nothing.
use Rattle.std.proofs.Common.{arith}
use Rattle.text.proofs.Printing.{hex_low, hex_high}
use Rattle.text.proofs.put.hex_digit.Goals as goal

pub returns-then-d-lt10 : goal.returns-then-d-lt10
returns-then-d-lt10 c = hex_low c.args.d c.if-d-lt10.true

pub returns-else-d-lt10 : goal.returns-else-d-lt10
returns-else-d-lt10 c = omega (arith, hex_high c.args.d c.if-d-lt10.false)
