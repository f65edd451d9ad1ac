-- `play::play_line` meets its contract. Assumes nothing.
use Rattle.std.proofs.Common.{◌≡◌, ◌≤◌, take, length, List, ℕ, arith}
use Rattle.text.specs.Text.{over, answer_bytes}
use Rattle.answer.specs.Answered.{answered}
use Rattle.play.proofs.Passing.{writes_err, first_of_over}
use Rattle.play.proofs.play_line.Goals as goal

-- What is sent is the answer.
sent : (text old : List ℕ) {n : ℕ} {new : List ℕ} → length old ≡ answer_bytes → (n ≡ length text) × (n ≤ answer_bytes) × (new ≡ over text old) → take n new ≡ text
sent text old h e = first_of_over text old e.0 (omega (arith, e.1)) e.2

pub returns-in_err-send-clause-written : goal.returns-in_err-send-clause-written
returns-in_err-send-clause-written g c =
    let e = c.answer_line-answer.ensures.bytes_value in
    writes_err c.from_residual.result _ _ _ c.from_residual.ensures.0 (rw (sent (answered c.args.desk c.args.number c.args.line.now) c.args.out.now c.told-out (e.0.0, e.0.1, e.1)) at c.in_err-send.ensures)

pub returns-clause-written : goal.returns-clause-written
returns-clause-written g c =
    let e = c.answer_line-answer.ensures.bytes_value in
    rw (sent (answered c.args.desk c.args.number c.args.line.now) c.args.out.now c.told-out (e.0.0, e.0.1, e.1)) at c.in_ok-send.ensures
