-- `writemap::write_record` meets its contract: the job's bytes, two stores, two numbers and the part number fill the record. Assumes nothing.
use native.Mathlib.Omega.{arith}
use mathlib.Core.Path.{◌∙◌, ap}
use mathlib.Core.List.{◌++◌}
use lib.ListN.{take}
use Rattle.std.proofs.Common.{rules}
use Rattle.pinmap.specs.Number.{bits_of, put_at}
use Rattle.writemap.specs.Record.{part_bytes}
use Rattle.std.specs.Int.{w32}
use Rattle.std.proofs.lemmas.Int.{to_z-of_z}
use mir.Val.{SFits}
use Rattle.pinmap.proofs.Sizes.{size_range}
use Rattle.writemap.proofs.Written.{record_filled}
use Rattle.writemap.proofs.write_record.Goals as goal

pub returns : goal.returns
returns c =
    let A = c.args in
    let h = A.held in
    let fx : SFits w32 h.place.x = search rules in
    let fy : SFits w32 h.place.y = search rules in
    let ex = simp to_z-of_z at c.write_number.ensures in
    let ey = simp to_z-of_z at c.write_number-2.ensures in
    c.write_part.ensures
    ∙ ap (λ l. take 12 l ++ part_bytes A.form h.part) (ey ∙ ap (λ l. put_at l 8 (bits_of h.place.y)) ex)
    ∙ rw c.byte_for.ensures (record_filled A.form A.bytes.now _ A.job A.pin h (omega (arith, size_range A.form)) (search rules) (cc))
