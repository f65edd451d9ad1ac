-- From spans to segments: of spans that are each of one line, in a clean list, the segments are a clean list, and those spans are theirs. Assumes nothing.
use mathlib.Core.Path.{◌≡◌, refl, ap, ap₂, ◌∙◌}
use mathlib.Core.Bool.{true}
use mathlib.Core.List.{List, [], ◌∷◌, map}
use Prim.Native.Nat.{ℕ, ◌+◌, ◌<◌}
use native.Mathlib.Omega.{arith}
use Rattle.basics.specs.Tests.{each_of}
use Rattle.basics.specs.Sums.{sum}
use Rattle.basics.proofs.Anyone.{each_end, each_first, each_rest, each_more}
use Rattle.basics.proofs.Members.{From, from_map, Every, none as none_left, one as one_more, every_one}
use Rattle.copper.specs.declared.Leg.{Leg}
use Rattle.spans.specs.declared.Span.{Span}
use Rattle.spans.specs.Spans.{cleaned}
use Rattle.spans.proofs.Lists.{CleanFrom, done, next}
use Rattle.spans.proofs.Numbers as Numbers
use Rattle.spans.proofs.Numbers.{total}
use Rattle.spans.proofs.Every.{begins_from, cleaned_every}
use Rattle.mill.specs.Segments.{Segment, StandsBefore, CleanList, none, one, long_of, total_length}
use Rattle.mill.specs.Numbered.{span_of, is_inside, segment_of}
use Rattle.mill.proofs.Steps.{base}
use Rattle.mill.proofs.Stretches.{low_of, high_of, segment_at, inside_at, long_at, span_at_lem, segment_back, Lined, lined, leg_lined, hull_lined}
use Rattle.mill.proofs.Standing.{gap_stands}

-- ---- one span
-- Of a span of one line it is a segment,
line_segment : {s : Span} → Lined s → Segment (segment_of s)
line_segment (lined row line a b f e) = rw (e, segment_back row line a b f) (segment_at row line a b f)

-- on the board,
line_inside : {s : Span} → Lined s → is_inside (segment_of s) ≡ true
line_inside (lined row line a b f e) = ap is_inside (ap segment_of e ∙ segment_back row line a b f) ∙ inside_at row line a b f

-- whose span that is,
line_span : {s : Span} → Lined s → span_of (segment_of s) ≡ s
line_span (lined row line a b f e) = rw (e, segment_back row line a b f) (span_at_lem row line a b f)

-- and as long.
line_long : {s : Span} → Lined s → long_of (segment_of s) ≡ Numbers.long_of s
line_long (lined row line a b f e) = rw e (ap long_of (segment_back row line a b f) ∙ long_at row line a b f ∙ omega arith)

-- Of two with a gap between them the first stands before the second.
line_stands : {s t : Span} → Lined s → Lined t → s.high < t.low → StandsBefore (segment_of s) (segment_of t)
line_stands {s} {t} (lined row line a b f e) (lined row' m c d g k) h =
    let ends : s.high ≡ base row line + b = ap high_of e in
    let begins : t.low ≡ base row' m + c = ap low_of k in
    rw (e, k, segment_back row line a b f, segment_back row' m c d g) (gap_stands line a b m c d f g row row' (omega arith))

-- ---- all of them
-- The segments of a clean list of spans are a clean list,
pub made_clean : {b : ℕ} {l : List Span} → CleanFrom b l → Every Lined l → CleanList (map segment_of l)
made_clean done none_left = none
made_clean (next {s = s} {l = l} p q c) (one_more r rs) = one (line_segment r) (λ t h. stands t (from_map segment_of l h)) (made_clean c rs)
  where
    stands : (t : Leg) → From segment_of t l → StandsBefore (segment_of s) t
    stands t w = rw (← w.is) (line_stands r (every_one rs w.among) (begins_from c w.among))

-- on the board,
pub made_inside : {l : List Span} → Every Lined l → each_of is_inside (map segment_of l) ≡ true
made_inside none_left = each_end refl is_inside
made_inside (one_more {a = s} {l = l} p r) = each_more is_inside (segment_of s) (map segment_of l) (line_inside p) (made_inside r)

-- whose spans these are,
pub made_spans : {l : List Span} → Every Lined l → map span_of (map segment_of l) ≡ l
made_spans none_left = refl
made_spans (one_more p r) = ap₂ (◌∷◌) (line_span p) (made_spans r)

-- and together as long.
pub made_long : {l : List Span} → Every Lined l → total_length (map segment_of l) ≡ total l
unfolding total_length sum total
made_long none_left = refl
made_long (one_more p r) = ap₂ (◌+◌) (line_long p) (made_long r)

-- ---- the spans of legs
-- The spans of legs of the board are each of one line, where they have a number,
legs_lined : (legs : List Leg) → each_of is_inside legs ≡ true → Every (λ (s : Span). s.low < s.high → Lined s) (map span_of legs)
legs_lined [] on = none_left
legs_lined (l ∷ ls) on = one_more (λ v. leg_lined l (each_first is_inside l ls on) v) (legs_lined ls (each_rest is_inside l ls on))

-- and so is each of their clean list.
pub cleaned_lined : (legs : List Leg) → each_of is_inside legs ≡ true → Every Lined (cleaned (map span_of legs))
cleaned_lined legs on = cleaned_every Lined (λ s t p q a m. hull_lined p q a m) (map span_of legs) (legs_lined legs on)
