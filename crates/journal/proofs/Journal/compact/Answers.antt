-- `Journal::compact` meets its contract: what stands in front, and what is kept of the records left, make up what is kept. Assumes nothing.
use Prim.Native.Nat.{◌≤◌}
use native.Mathlib.Omega.{arith}
use lib.ListN.{length}
use Rattle.std.proofs.Common.{rules}
use Rattle.journal.proofs.Dropping.{drop_keep, drop_past, drop_other, drop_end}
use Rattle.journal.proofs.Journal.compact.Goals.{then-record-seat+then-left-gt0, else-record-seat}
use Rattle.journal.proofs.Journal.compact.Goals as goal

pub loop-read-preserved-else-left-gt0 : goal.loop-read-preserved-else-left-gt0
loop-read-preserved-else-left-gt0 c =
    let f : c.args.self.now.used ≤ length c.args.self.now.records = omega arith in
    (c.loop-read.invariant.0, drop_past c.loop-read.invariant.1 f (omega arith) c.if-record-seat.true c.if-left-gt0.false)

pub loop-read-preserved : goal.loop-read-preserved
loop-read-preserved c =
    let f : c.args.self.now.used ≤ length c.args.self.now.records = omega arith in (
      c.loop-read.invariant.0,
      elim c.if-record-seat.branch [
        | then-record-seat+then-left-gt0 w ↦ rw w.left-is (drop_keep c.loop-read.invariant.1 f (omega arith) w.if-record-seat.true w.if-left-gt0.true)
        | else-record-seat w ↦ rw w.left-is (drop_other c.loop-read.invariant.1 f (omega arith) w.if-record-seat.false)
      ],
    )

pub returns : goal.returns
returns c =
    let f : c.args.self.now.used ≤ length c.args.self.now.records = omega arith in
    drop_end c.loop-read.invariant.1 f (omega arith) (omega arith) (omega arith) (c.fill.ensures.after (λ y k. search rules))
