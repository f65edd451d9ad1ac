-- `answer::write` meets its contract. Assumes nothing.
use mathlib.Core.Path.{sym}
use native.Mathlib.Omega.{arith}
use lib.Seq.{length-take-le}
use Rattle.answer.proofs.Telling.{lent_first}
use Rattle.answer.proofs.write.Goals as goal

pub slice_bounds-write_into-end : goal.slice_bounds-write_into-end
slice_bounds-write_into-end c =
    sym (length-take-le c.args.room c.lent_bytes-buffer.result (omega (arith, c.lent_bytes-buffer.type_inv)))

pub returns : goal.returns
returns c =
    let h = c.write_into.ensures in
    rw (lent_first c.args.room c.lent_bytes-buffer.ensures c.requires) at h
