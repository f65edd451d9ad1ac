-- `wiremap::main` is safe: what was printed lies within the buffer. Assumes nothing.
use mathlib.Core.Path.{◌≡◌, refl, sym, ap}
use mathlib.Core.List.{List}
use Prim.Native.Nat.{ℕ, ◌≤◌}
use native.Mathlib.Omega.{arith}
use lib.ListN.{length, replicate}
use lib.Seq.{length-sets, length-take-le}
use Rattle.text.specs.Text.{over, answer_bytes}
use Rattle.mapped.specs.Mapped.{map_answer}
use Rattle.wiremap.proofs.main.Goals as goal

-- What was printed lies within the buffer.
within : (n : ℕ) (before after text : List ℕ) → n ≤ answer_bytes → length before ≡ answer_bytes → after ≡ over text before → n ≤ length after
within n before after text h k e = omega (arith, ap length e, length-sets before 0 text)

pub slice_bounds-out-end : goal.slice_bounds-out-end
slice_bounds-out-end c =
    let m = c.map_answer-printed in
    within m.result (replicate answer_bytes 0) m.new.out (map_answer _) m.ensures.0.1 refl m.ensures.1

pub slice_bounds-write_all-end : goal.slice_bounds-write_all-end
slice_bounds-write_all-end c =
    let m = c.map_answer-printed in
    sym (length-take-le _ _ (within m.result (replicate answer_bytes 0) m.new.out (map_answer _) m.ensures.0.1 refl m.ensures.1))
