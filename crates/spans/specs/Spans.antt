-- How spans of numbers are joined and put in order. What a host is promised is not read here: mill/specs/Segments says what the list is.
use Rattle.std.specs.Prelude.{Bool, List, [], ◌∷◌, ℕ, ◌*◌, min, max, ltb, Option, Some, None}
use Rattle.basics.specs.Tests.{choose}
use Rattle.tree.specs.Trees.{most_runs}
use Rattle.spans.specs.declared.Span.{Span}

-- The most spans that a list holds: one for each leg of a board.
abbrev pub most_spans : ℕ
most_spans = 2 * most_runs

-- The numbers from low up to, not including, high.
abbrev pub span : ℕ → ℕ → Span
span low high = record { low = low; high = high }

-- The span between two numbers.
abbrev pub between_of : ℕ → ℕ → Span
between_of a b = span (min a b) (max a b)

-- The least span that holds both.
abbrev pub hull : Span → Span → Span
hull s t = span (min s.low t.low) (max s.high t.high)

-- The first span ends before the second begins, with a gap between them.
abbrev pub ends : Span → Span → Bool
ends s t = ltb s.high t.low

-- Of the span that is carried along a list and the next one of the list, the one that is left behind; none where they overlap or touch.
unfoldable pub left : Span → Span → Option Span
left s t = choose (ends t s) (Some t) (choose (ends s t) (Some s) None)

-- The one that is carried on: the later one, or where they overlap or touch the least that holds both.
unfoldable pub carried : Span → Span → Span
carried s t = choose (ends s t) t (choose (ends t s) s (hull s t))

-- A list with a span that is left behind before it, where there is one.
unfoldable pub with_left : Option Span → List Span → List Span
with_left None l = l
with_left (Some s) l = s ∷ l

-- A span put into a clean list.
unfoldable pub insert : Span → List Span → List Span
insert s [] = s ∷ []
insert s (t ∷ l) = with_left (left s t) (insert (carried s t) l)

-- A span with a number in it put into a clean list; any other changes nothing.
unfoldable pub add : Span → List Span → List Span
add s l = choose (ltb s.low s.high) (insert s l) l

-- Spans put into a clean list one after another.
unfoldable pub add_all : List Span → List Span → List Span
add_all [] l = l
add_all (s ∷ ss) l = add_all ss (add s l)

-- The clean list of some spans.
abbrev pub cleaned : List Span → List Span
cleaned ss = add_all ss []
