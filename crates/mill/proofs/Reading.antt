-- A leg of the board as the code reads it: both ends lie on the board, and by which of their numbers are the same its span is that of a row, of a
-- column or of none. Assumes nothing.
use Rattle.std.proofs.Common.{◌≡◌, true, sym, ◌∙◌}
use mir.Syntax.{w32}
use mir.Val.{of_z}
use borrow.Author.Tests.{eq-eqb, ne_eqb}
use Rattle.basics.specs.Tests.{choose}
use Rattle.basics.proofs.Tests.{both_left, both_right}
use Rattle.board.specs.Place.{inside}
use Rattle.copper.specs.declared.Leg.{Leg}
use Rattle.spans.specs.Spans.{span, between_of}
use Rattle.mill.specs.Numbered.{row_number, column_number, span_of, is_inside}
use Rattle.mill.proofs.Counting.{x_on, y_on, read_same}

-- The one end lies on the board,
pub from_inside : (l : Leg) → is_inside l ≡ true → inside l.from ≡ true
from_inside l e = both_left _ _ e

-- and so does the other.
pub to_inside : (l : Leg) → is_inside l ≡ true → inside l.to ≡ true
to_inside l e = both_right _ _ e

module _ (l : Leg) (e : is_inside l ≡ true) where
  -- Where it reads the same y, the leg lies in a row;
  pub read_row : of_z w32 l.from.y ≡ of_z w32 l.to.y → span_of l ≡ between_of (row_number l.from) (row_number l.to)
  unfolding span_of choose
  read_row y =
      rw (sym (read_same _ _ (y_on _ (from_inside l e)) (y_on _ (to_inside l e))) ∙ eq-eqb _ _ y)

  -- where it reads another y and the same x, in a column;
  pub read_column : (of_z w32 l.from.y ≡ of_z w32 l.to.y → ⊥) → of_z w32 l.from.x ≡ of_z w32 l.to.x
      → span_of l ≡ between_of (column_number l.from) (column_number l.to)
  unfolding span_of choose
  read_column y x =
      rw (
        sym (read_same _ _ (y_on _ (from_inside l e)) (y_on _ (to_inside l e))) ∙ ne_eqb _ _ y,
        sym (read_same _ _ (x_on _ (from_inside l e)) (x_on _ (to_inside l e))) ∙ eq-eqb _ _ x,
      )

  -- where it reads another y and another x, in none.
  pub read_none : (of_z w32 l.from.y ≡ of_z w32 l.to.y → ⊥) → (of_z w32 l.from.x ≡ of_z w32 l.to.x → ⊥) → span_of l ≡ span 0 0
  unfolding span_of choose
  read_none y x =
      rw (
        sym (read_same _ _ (y_on _ (from_inside l e)) (y_on _ (to_inside l e))) ∙ ne_eqb _ _ y,
        sym (read_same _ _ (x_on _ (from_inside l e)) (x_on _ (to_inside l e))) ∙ ne_eqb _ _ x,
      )

-- So much is read of a leg of the board.
pub ruleset leg_read = (from_inside, to_inside, read_row, read_column, read_none)
