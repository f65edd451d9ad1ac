-- `printed::print_written` meets its contract. Assumes nothing.
use mathlib.Core.Path.{sym, ◌∙◌, ap}
use mathlib.Core.List.{◌++◌}
use Prim.Native.Nat.{ℕ}
use native.Mathlib.Omega.{arith}
use Rattle.text.specs.Text.{most_room}
use Rattle.text.proofs.Printing.{put_as, put_all3, line, take-smaller}
use Rattle.text.specs.Text.{text}
use Rattle.text.specs.Digits.{field}
use Rattle.printed.specs.Answers.{hex_part, written_line}
use lib.ListN.{take}
use lib.Seq.{length-take-le}
use Rattle.printed.proofs.print_written.Goals as goal

pub slice_bounds-put_lent-end : goal.slice_bounds-put_lent-end
slice_bounds-put_lent-end c =
    let s = c.args in
    sym
    (length-take-le c.min-shown.result s.buffer.now
    (omega (arith, c.min-shown.ensures)))

pub put_lent-two-requires : goal.put_lent-two-requires
put_lent-two-requires c =
    let s = c.args in
    let least = c.min-shown.ensures in (
      omega (arith, c.put_field-one.ensures.value.1),
      omega (
        arith,
        least,
        length-take-le c.min-shown.result s.buffer.now
            (omega (arith, least)),
      ),
    )

pub put-requires : goal.put-requires
put-requires c = omega (arith, c.put_lent-two.ensures.value.1, c.put_field-one.ensures.value.1)

pub returns : goal.returns
unfolding written_line
returns c =
    let s = c.args in
    let n = c.min-shown.ensures in
    let a = c.put_field-one.ensures in
    let b = c.put_lent-two.ensures in
    let d = c.put.ensures in
    let h =
    line s.out.now (field "0 " s.bytes ++ hex_part (take most_room s.buffer.now) ++ text "\n")
    (put_all3 s.out.now 0
    (field "0 " s.bytes)
    (hex_part (take most_room s.buffer.now))
    (text "\n")
    (a.value.0, a.out_after)
    (put_as c.put_field-one.new.out
    c.put_field-one.result
    (ap hex_part (ap (λ (n : ℕ). take n s.buffer.now) n ∙ take-smaller s.buffer.now most_room)) (b.value.0, b.out_after))
    (d.value, d.out_after)) in
    ((h.0, omega (arith, a.value.1, b.value.1, d.value)), h.1)
