-- `text::put_place` meets its contract. Assumes nothing.
use mathlib.Core.Path.{ap}
use mathlib.Core.List.{◌++◌}
use lib.IntN.{ℤ}
use native.Mathlib.Omega.{arith}
use Rattle.board.proofs.Signed.{held}
use Rattle.text.proofs.Printing.{then_put, put_as}
use Rattle.text.specs.Text.{text}
use Rattle.text.specs.Digits.{integer, place_text}
use Rattle.text.proofs.put.put_place.Goals as goal

pub returns : goal.returns
unfolding place_text
returns c =
    let s = c.args in
    let g = c.struct_told-1.given in
    let a = c.put_integer-next.ensures in
    let b = c.put_integer.ensures in
    let h =
    then_put s.out.now s.at
    (s.label.now ++ integer s.place.x)
    (text " " ++ integer s.place.y)
    (put_as s.out.now s.at (ap (λ (z : ℤ). s.label.now ++ integer z) (held s.place.x g.0.1)) (a.value.0, a.out_after))
    (put_as c.put_integer-next.new.out c.put_integer-next.result
    (ap (λ (z : ℤ). text " " ++ integer z) (held s.place.y g.1.0.1)) (b.value.0, b.out_after)) in
    record { value = (h.0, omega (arith, a.value.1, b.value.1)); out_after = h.1 }
