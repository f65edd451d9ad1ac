-- `board::on_board` meets its contract, by the arm taken. Assumes nothing.
use mir.Facts.{to_z-of_z, sfits_lit}
use lib.IntN.{neg_ℤ, pos}
use Rattle.basics.specs.Tests.{both}
use Rattle.board.specs.Place.{limit, on_board}
use Rattle.board.proofs.Signed.{le_rd}
use Rattle.board.proofs.on_board.Goals as goal

pub returns-then-z : goal.returns-then-z
unfolding on_board both
returns-then-z c =
    simp (to_z-of_z c.ranges.z, le_rd {a = neg_ℤ (pos limit)} (sfits_lit tt) c.ranges.z c.if-z.true)

pub returns-else-z : goal.returns-else-z
unfolding on_board both
returns-else-z c =
    simp (to_z-of_z c.ranges.z, le_rd {a = neg_ℤ (pos limit)} (sfits_lit tt) c.ranges.z c.if-z.false)
