-- A stretch of a line of the board, as a segment and as a span, and that the two say the same. Assumes nothing.
use mathlib.Core.Path.{◌≡◌, ap, ap₂, ◌∙◌}
use mathlib.Core.Bool.{Bool, true, false}
use Prim.Native.Nat.{ℕ, ◌+◌, ◌-◌, ◌≤◌, ◌<◌, min, max}
use native.Mathlib.Omega.{arith}
use lib.Signed.{lt_z}
use borrow.Author.Tests.{lt-ltb}
use Rattle.basics.proofs.Tests.{both_of}
use Rattle.board.specs.Place.{inside, difference, distance_of}
use Rattle.copper.specs.declared.Leg.{Leg}
use Rattle.spans.specs.declared.Span.{Span}
use Rattle.spans.specs.Spans.{span, between_of, hull}
use Rattle.mill.specs.Segments.{Segment, horizontal, long_of}
use Rattle.mill.specs.Numbered.{uncounted, span_of, is_inside, segment_of}
use Rattle.mill.proofs.Counting.{longest, on_board_lem, rises_count, difference_count}
use Rattle.mill.proofs.Lines.{place_on, rising_row, rising_segment}
use Rattle.mill.proofs.Steps.{base, place_is, leg_at, Lies, along, askew, lies, span_along, span_askew}

-- A stretch of a line of the board goes from one count to a larger one.
pub record Fit (line a b : ℕ) : Type 0 where
  pub low : line ≤ longest
  pub rise : a < b
  pub high : b ≤ longest

-- The low end of a span,
abbrev pub low_of : Span → ℕ
low_of s = s.low

-- and its high end.
abbrev pub high_of : Span → ℕ
high_of s = s.high

-- The stretch as a span.
abbrev pub span_at : Bool → ℕ → ℕ → ℕ → Span
span_at row line a b = span (base row line + a) (base row line + b)

-- A place of a line of the board is on the board.
place_inside : (row : Bool) (line at : ℕ) → line ≤ longest → at ≤ longest → inside (place_on row (uncounted line) (uncounted at)) ≡ true
unfolding inside
place_inside true line at h k = both_of (on_board_lem at k) (on_board_lem line h)
place_inside false line at h k = both_of (on_board_lem line h) (on_board_lem at k)

-- How far two numbers of the board are apart, by their counts in order.
apart : (a b : ℕ) → a ≤ longest → b ≤ longest → a ≤ b → difference (uncounted a) (uncounted b) ≡ b - a
apart a b h k m = omega (arith, difference_count a b h k)

module _ (row : Bool) (line a b : ℕ) (f : Fit line a b) where
  -- Its numbers rise.
  rise_at : lt_z (uncounted a) (uncounted b) ≡ true
  rise_at = rises_count a b (omega (arith, f)) f.high ∙ lt-ltb a b f.rise

  -- As a leg it is horizontal just where the line is a row,
  pub row_at : horizontal (leg_at row line a b) ≡ row
  row_at = rising_row row (uncounted line) (uncounted a) (uncounted b) rise_at

  -- a segment,
  pub segment_at : Segment (leg_at row line a b)
  segment_at = rising_segment row (uncounted line) (uncounted a) (uncounted b) rise_at

  -- on the board,
  pub inside_at : is_inside (leg_at row line a b) ≡ true
  inside_at = both_of (place_inside row line a f.low (omega (arith, f))) (place_inside row line b f.low f.high)

  -- and as long as its counts are apart.
  pub long_at : long_of (leg_at row line a b) ≡ b - a
  unfolding distance_of
  long_at = by_row row (apart a b (omega (arith, f)) f.high (omega (arith, f))) (apart line line f.low f.low (omega arith))
    where
      by_row : (r : Bool) → difference (uncounted a) (uncounted b) ≡ b - a → difference (uncounted line) (uncounted line) ≡ line - line
          → long_of (leg_at r line a b) ≡ b - a
      by_row true p q = omega arith
      by_row false p q = omega arith

  -- Its span is that of the counts,
  pub span_at_lem : span_of (leg_at row line a b) ≡ span_at row line a b
  span_at_lem = span_along row line a b row_at ∙ ap₂ span (omega (arith, f.rise)) (omega (arith, f.rise))

  -- which gives the segment back.
  pub segment_back : segment_of (span_at row line a b) ≡ leg_at row line a b
  segment_back =
      let p = place_is row line a (omega (arith, f)) (omega (arith, f)) in
      let q = place_is row line b (omega (arith, f)) (omega (arith, f)) in
      λ i. record { from = p i; to = q i }

-- ---- spans of one line
-- A span of one line is that of a stretch.
pub data Lined (s : Span) : Type 0 where
  lined : (row : Bool) (line a b : ℕ) → Fit line a b → s ≡ span_at row line a b → Lined s

-- The span of a leg of the board is of one line, where it has a number.
pub leg_lined : (l : Leg) → is_inside l ≡ true → (span_of l).low < (span_of l).high → Lined (span_of l)
leg_lined l e h = by_line (lies l e)
  where
    by_line : Lies l → Lined (span_of l)
    by_line (along row line a b p q r k is) =
        let s : span_of l ≡ between_of (base row line + a) (base row line + b) = ap span_of is ∙ span_along row line a b k in
        let low = ap low_of s in
        let high = ap high_of s in
        lined row line (min a b) (max a b) (record { low = p; rise = omega arith; high = omega arith })
        (s ∙ ap₂ span (omega arith) (omega arith))
    by_line (askew f g) = let s : span_of l ≡ span 0 0 = span_askew l f g in absurd (omega (arith, ap low_of s, ap high_of s))

-- Two such spans that overlap or touch are of the same line, and so is the least that holds both.
pub hull_lined : {s t : Span} → Lined s → Lined t → t.low ≤ s.high → s.low ≤ t.high → Lined (hull s t)
hull_lined {s} {t} (lined row line a b f e) (lined row' line' a' b' f' e') h k = by_row row row' e e'
  where
    one_line : (r : Bool) → s ≡ span_at r line a b → t ≡ span_at r line' a' b' → line ≡ line' → Lined (hull s t)
    one_line r e e' same =
        lined r line (min a a') (max b b') (record { low = f.low; rise = omega (arith, f.rise); high = omega (arith, f.high, f'.high) })
        (ap₂ span (omega (arith, ap low_of e, ap low_of e', ap (base r) same)) (omega (arith, ap high_of e, ap high_of e', ap (base r) same)))

    by_row : (r r' : Bool) → s ≡ span_at r line a b → t ≡ span_at r' line' a' b' → Lined (hull s t)
    by_row true true e e' = one_line true e e' (omega (arith, f, f', ap low_of e, ap high_of e, ap low_of e', ap high_of e'))
    by_row true false e e' = absurd (omega (arith, f, f', ap low_of e, ap high_of e, ap low_of e', ap high_of e'))
    by_row false true e e' = absurd (omega (arith, f, f', ap low_of e, ap high_of e, ap low_of e', ap high_of e'))
    by_row false false e e' = one_line false e e' (omega (arith, f, f', ap low_of e, ap high_of e, ap low_of e', ap high_of e'))
