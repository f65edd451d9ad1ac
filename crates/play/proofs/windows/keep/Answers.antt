-- `play::keep` meets its contract. Assumes nothing.
use Rattle.std.proofs.Common.{◌≡◌, ◌-◌, ◌∙◌, ℕ, min, length, take, ap, arith, length-take}
use lib.Seq.{sets}
use Rattle.text.proofs.Printing.{take-smaller, copied}
use Rattle.play.proofs.windows.keep.Goals as goal

pub overflow_add-result : goal.overflow_add-result
overflow_add-result c = omega arith

pub returns-clause-value : goal.returns-clause-value
returns-clause-value c = omega arith

pub returns-clause-line_after : goal.returns-clause-line_after
returns-clause-line_after c =
    let s = c.args in
    let n = c.min-n.result in
    let m : n ≡ min (length s.bytes.now) (16386 - s.kept) = omega arith in
    let e = length-take n s.bytes.now in
    copied s.line.now (take n s.bytes.now) _ s.kept _ c.copy_from_slice.ensures.after (omega (arith, e)) (omega (arith, e))
    ∙ ap (λ (k : ℕ). sets s.line.now s.kept (take k s.bytes.now)) m
    ∙ ap (sets s.line.now s.kept) (take-smaller s.bytes.now (16386 - s.kept))
