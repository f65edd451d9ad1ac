-- `text::put_decimal`, which calls itself on all digits but the last, meets its contract. Assumes nothing.
use Rattle.std.proofs.Common.{arith}
use Rattle.text.proofs.Printing.{put_small, put_large, decimal_rest}
use Rattle.text.proofs.put.+put_decimal.Goals as goal

pub returns-then-n-lt10-clause-value : goal.returns-then-n-lt10-clause-value
returns-then-n-lt10-clause-value t c =
    let s = c.args in ((put_small s.out.now s.at s.n c.if-n-lt10.true).0, omega arith)

pub returns-then-n-lt10-clause-out_after : goal.returns-then-n-lt10-clause-out_after
returns-then-n-lt10-clause-out_after t c =
    let s = c.args in (put_small s.out.now s.at s.n c.if-n-lt10.true).1

pub bounds-out-next : goal.bounds-out-next
bounds-out-next t c =
    omega (arith, c.put_decimal-next.ensures.value.0, decimal_rest c.args.n c.ranges.n.fits)

pub returns-clause-value : goal.returns-clause-value
returns-clause-value t c =
    let s = c.args in
    let p = c.put_decimal-next.ensures in (
      (put_large s.out.now s.at s.n c.if-n-lt10.false c.ranges.n.fits p.value.0 p.out_after).0,
      omega (arith, p.value.0, decimal_rest s.n c.ranges.n.fits),
    )

pub returns-clause-out_after : goal.returns-clause-out_after
returns-clause-out_after t c =
    let s = c.args in
    let p = c.put_decimal-next.ensures in (put_large s.out.now s.at s.n c.if-n-lt10.false c.ranges.n.fits p.value.0 p.out_after).1
