-- The edit that redo makes again, counted from the newest of the seat's. Assumes nothing.
use mathlib.Core.Path.{◌≡◌, ap, ◌∙◌}
use mathlib.Core.List.{List, reverse}
use Prim.Native.Nat.{ℕ, ◌+◌, ◌-◌, ◌<◌}
use native.Mathlib.Omega.{arith}
use lib.ListN.{length, get_or}
use Rattle.edits.specs.declared.Edit.{Edit}
use Rattle.journal.specs.Journal.{no_edit}
use Rattle.seats.specs.declared.Seat.{Seat}
use Rattle.seats.specs.Seats.{taken_back_count}
use Rattle.journal.proofs.Cut.{counted_back}

-- One fewer edit comes after the next to redo than are taken back.
pub redo_finds : (t : Seat) (l : List Edit) {m : ℕ} {e : Edit} → m ≡ taken_back_count t l → t.standing < length l → e ≡ get_or (reverse l) (m - 1) no_edit
    → e ≡ get_or l t.standing no_edit
redo_finds t l {m} n k f =
    let w : m - 1 ≡ length l - (t.standing + 1) = omega (arith, n) in
    f ∙ ap (λ (m : ℕ). get_or (reverse l) m no_edit) w ∙ counted_back l t.standing no_edit k
