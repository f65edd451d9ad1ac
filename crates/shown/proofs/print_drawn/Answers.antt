-- `shown::print_drawn` meets its contract. Assumes nothing.
use mathlib.Core.Path.{ap}
use Prim.Native.Nat.{ℕ}
use native.Mathlib.Omega.{arith}
use Rattle.printed.specs.Answers.{drawing_line}
use Rattle.text.proofs.Printing.{put_as, then_put, line}
use Rattle.shown.specs.Shown.{pins_there, pins_text, drawn_text}
use Rattle.shown.proofs.Lines.{begun}
use Rattle.shown.proofs.print_drawn.Goals as goal

pub returns : goal.returns
unfolding drawn_text
returns c =
    let s = c.args in
    let n = c.pins_there-there.ensures in
    let a = c.print_drawing-next.ensures in
    let b = c.put_pins.ensures in
    let h =
    line s.out.now (drawn_text s.job s.pins.now s.standing s.taken)
    (then_put s.out.now 0
    (drawing_line s.job (pins_there s.pins.now) s.standing s.taken)
    (pins_text 0 s.pins.now)
    (put_as s.out.now 0 (ap (λ (k : ℕ). drawing_line s.job k s.standing s.taken) n)
    (begun s.out.now (drawing_line s.job c.pins_there-there.result s.standing s.taken) a.0.0 a.1))
    (b.value.0, b.out_after)) in
    ((h.0, omega (arith, a.0.1, b.value.1)), h.1)
