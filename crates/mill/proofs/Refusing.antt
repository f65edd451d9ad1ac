-- The rows of milling are apart. Assumes nothing.
use mathlib.Core.Path.{refl}
use mathlib.Core.List.{List}
use Prim.Native.Nat.{ℕ}
use Rattle.basics.specs.Tests.{both}
use Rattle.refusal.specs.Refusals.{accepted}
use Rattle.refusal.proofs.Rows.{distinct, unlike, Apart, apart_by}
use Rattle.board.specs.Spots.{Spot}
use Rattle.copper.specs.declared.Favour.{Favour}
use Rattle.mill.specs.Answer.{mill_rows}

-- 17 and 19 differ.
pub mill_apart : (feed : List Spot) (room : ℕ) (favour : Favour) → Apart (mill_rows feed room favour)
unfolding distinct unlike both accepted
mill_apart feed room favour = apart_by (mill_rows feed room favour) refl
