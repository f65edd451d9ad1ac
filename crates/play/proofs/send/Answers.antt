-- `play::send` meets its contract. Assumes nothing.
use Rattle.std.proofs.Common.{◌≡◌, ℕ, ◌≤◌, arith}
use Rattle.play.proofs.Passing.{adds_none, adds_kept, sent_more, sent_part, writes_err}
use Rattle.play.proofs.send.Goals as goal

-- Nothing is left.
exact : {m n : ℕ} → m ≤ n → n ≤ m → m ≡ n
exact h k = omega arith

pub loop-done-init : goal.loop-done-init
loop-done-init g c = (omega arith, adds_none _)

pub returns-in_err-n : goal.returns-in_err-n
returns-in_err-n g c =
    writes_err c.from_residual.result _ _ _ c.from_residual.ensures.0
    (sent_part _ _ _ c.args.out.now c.args.bytes c.loop-done.done c.loop-done.invariant.0 c.loop-done.invariant.1 (adds_kept _ _ c.in_err-n.ensures.bytes))

pub returns-then-n-eq0 : goal.returns-then-n-eq0
returns-then-n-eq0 g c =
    sent_part _ _ _ c.args.out.now c.args.bytes c.loop-done.done c.loop-done.invariant.0 c.loop-done.invariant.1 (rw c.if-n-eq0.true at c.in_ok-n.ensures.bytes)

pub loop-done-preserved : goal.loop-done-preserved
loop-done-preserved g c = (
  omega (arith, c.in_ok-n.ensures.bound),
  sent_more _ _ _ c.args.out.now c.args.bytes c.loop-done.done c.in_ok-n.n (omega (arith, c.in_ok-n.ensures.bound)) c.loop-done.invariant.1 c.in_ok-n.ensures.bytes,
)

pub returns : goal.returns
returns g c = rw (exact c.loop-done.invariant.0 c.loop-done-test.false) at c.loop-done.invariant.1
