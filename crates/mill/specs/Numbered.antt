-- How the clean list is made. Steps are numbered row by row from the lowest, then column by column, so that the order of segments is the order of numbers,
-- and steps that follow each other in a line have numbers that follow each other; those of two lines never do. That what is made is the one clean list
-- is proved (proofs/Theorems).
use Rattle.std.specs.Prelude.{Bool, List, map, ℕ, suc, ◌+◌, ◌-◌, ◌*◌, ◌/◌, ◌%◌, ℤ, pos, negsuc, ltb}
use Rattle.std.proofs.Math.IntN.{sub_ℕ}
use Rattle.basics.specs.Tests.{both, choose}
use Rattle.board.specs.declared.Place.{Place}
use Rattle.board.specs.Place.{limit, place, inside, same_number}
use Rattle.copper.specs.declared.Leg.{Leg}
use Rattle.spans.specs.declared.Span.{Span}
use Rattle.spans.specs.Spans.{span, between_of, cleaned}

-- How many numbers a line has: more than a line of the board has steps, so that the last ones stand between two lines.
abbrev pub width : ℕ
width = 131072

-- The number where columns begin: after as many rows.
abbrev pub columns : ℕ
columns = width * width

-- A number of the board, counted from the lowest.
unfoldable pub counted : ℤ → ℕ
counted (pos n) = limit + n
counted (negsuc n) = limit - suc n

-- The number of the board that is so many from the lowest.
unfoldable pub uncounted : ℕ → ℤ
uncounted n = sub_ℕ n limit

-- The number of the step of a row that begins at a place.
unfoldable pub row_number : Place → ℕ
row_number a = counted a.y * width + counted a.x

-- The number of the step of a column that begins at a place.
unfoldable pub column_number : Place → ℕ
column_number a = columns + counted a.x * width + counted a.y

-- The numbers of the steps of a leg; none where it lies in no row and in no column.
unfoldable pub span_of : Leg → Span
span_of l =
    choose (same_number l.from.y l.to.y)
    (between_of (row_number l.from) (row_number l.to))
    (choose (same_number l.from.x l.to.x) (between_of (column_number l.from) (column_number l.to)) (span 0 0))

-- Both ends of a leg lie on the board.
abbrev pub is_inside : Leg → Bool
is_inside l = both (inside l.from) (inside l.to)

-- Both ends of a span are numbers of rows or columns.
abbrev pub is_numbered : Span → Bool
is_numbered s = both (ltb s.low (2 * columns)) (ltb s.high (2 * columns))

-- A number is that of a step in a row.
abbrev pub is_row : ℕ → Bool
is_row n = ltb n columns

-- The place where the step with a number begins.
unfoldable pub place_of : ℕ → Place
place_of n =
    choose (is_row n)
    (place (uncounted (n % width)) (uncounted (n / width)))
    (place (uncounted ((n - columns) / width)) (uncounted (n % width)))

-- The segment of a span: from its low end to its high end.
abbrev pub segment_of : Span → Leg
segment_of s = record { from = place_of s.low; to = place_of s.high }

-- The clean list of segments of some legs.
unfoldable pub segments_of : List Leg → List Leg
segments_of legs = map segment_of (cleaned (map span_of legs))
