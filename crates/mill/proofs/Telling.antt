-- From segments to spans: of segments on the board, in a clean list, the spans are a clean list, and give the segments back. From legs on the board.
use mathlib.Core.Path.{◌≡◌, refl, sym, ap₂, ◌∙◌}
use mathlib.Core.Bool.{Bool, true, false}
use mathlib.Core.List.{List, ◌∷◌, map}
use Prim.Native.Nat.{ℕ, suc, ◌≤◌, ◌<◌}
use native.Mathlib.Omega.{arith}
use lib.IntN.{ℤ}
use borrow.Author.Tests.{ltb-true}
use Rattle.basics.specs.Tests.{each_of}
use Rattle.basics.specs.Lists.{Among, first}
use Rattle.basics.proofs.Tests.{both_left, both_right}
use Rattle.basics.proofs.Anyone.{each_first, each_rest}
use Rattle.basics.proofs.Members.{From, from_map, Every, none as none_left, one as one_more, every_one}
use Rattle.copper.specs.declared.Leg.{Leg}
use Rattle.spans.specs.declared.Span.{Span}
use Rattle.spans.proofs.Lists.{CleanFrom, done, next, Clean}
use Rattle.mill.specs.Segments.{Segment, StandsBefore, CleanList, none, one}
use Rattle.mill.specs.Numbered.{counted, span_of, is_inside, segment_of}
use Rattle.mill.proofs.Counting.{Counted, count, x_on, y_on, rises_count}
use Rattle.mill.proofs.Lines.{leg_on, Rising, rising, segment_rising}
use Rattle.mill.proofs.Steps.{leg_at}
use Rattle.mill.proofs.Stretches.{Fit, span_at_lem, segment_back}
use Rattle.mill.proofs.Standing.{stands_gap}

-- ---- one segment
-- A leg that is that of a stretch.
data Stretch (l : Leg) : Type 0 where
  stretch : (row : Bool) (line a b : ℕ) → Fit line a b → l ≡ leg_at row line a b → Stretch l

-- The counts of a leg along a line of the board.
record Counts (line a b : ℤ) : Type 0 where
  line_count : Counted line
  from_count : Counted a
  to_count : Counted b

-- Such a leg has them.
counts : (row : Bool) (line a b : ℤ) → is_inside (leg_on row line a b) ≡ true → Counts line a b
counts true line a b e =
    let p = both_left _ _ e in
    let q = both_right _ _ e in
    record { line_count = count line (y_on _ p); from_count = count a (x_on _ p); to_count = count b (x_on _ q) }
counts false line a b e =
    let p = both_left _ _ e in
    let q = both_right _ _ e in
    record { line_count = count line (x_on _ p); from_count = count a (y_on _ p); to_count = count b (y_on _ q) }

-- So a segment on the board is that of a stretch,
segment_stretch : (l : Leg) → Segment l → is_inside l ≡ true → Stretch l
segment_stretch l g on = by_line (segment_rising g)
  where
    by_line : Rising l → Stretch l
    by_line (rising row line a b h e) =
        let c : Counts line a b = counts row line a b (rw e at on) in
        let p = c.line_count in
        let q = c.from_count in
        let r = c.to_count in
        stretch row (counted line) (counted a) (counted b)
        (record { low = p.few; rise = ltb-true _ _ (sym (rises_count (counted a) (counted b) q.few r.few) ∙ rw (q.back, r.back) h); high = r.few })
        (e ∙ (λ i. leg_on row (sym p.back i) (sym q.back i) (sym r.back i)))

-- and its span has a number,
stretch_number : {l : Leg} → Stretch l → (span_of l).low < (span_of l).high
stretch_number (stretch row line a b f e) = rw (e, span_at_lem row line a b f) (omega (arith, f.rise))

-- gives the segment back,
stretch_back : {l : Leg} → Stretch l → segment_of (span_of l) ≡ l
stretch_back (stretch row line a b f e) = rw (e, span_at_lem row line a b f) (segment_back row line a b f)

-- and has a gap before that of a later one.
stretch_gap : {l m : Leg} → Stretch l → Stretch m → StandsBefore l m → (span_of l).high < (span_of m).low
stretch_gap (stretch row line a b f e) (stretch row' m c d g k) s =
    rw (e, k, span_at_lem row line a b f, span_at_lem row' m c d g) (stands_gap line a b m c d f g row row' (rw (e, k) at s))

-- ---- all of them
-- The segments of a clean list on the board are those of stretches.
stretches : {l : List Leg} → CleanList l → each_of is_inside l ≡ true → Every Stretch l
stretches none on = none_left
stretches (one {s = s} {l = l} g f c) on = one_more (segment_stretch s g (each_first is_inside s l on)) (stretches c (each_rest is_inside s l on))

-- A clean list of spans is clean from any number on below which none of them begins.
raise : {b d : ℕ} {l : List Span} → CleanFrom b l → ((s : Span) → Among s l → d ≤ s.low) → CleanFrom d l
raise done h = done
raise (next {s = s} p q c) h = next (h s (first refl)) q c

-- The spans of a clean list of segments are a clean list,
clean_spans : {l : List Leg} → CleanList l → Every Stretch l → Clean (map span_of l)
clean_spans none none_left = done
clean_spans (one {s = s} {l = l} g f c) (one_more p r) =
    next {b = 0} {s = span_of s} (omega arith) (stretch_number p) (raise (clean_spans c r) (λ t h. after t (from_map span_of l h)))
  where
    after : (t : Span) → From span_of t l → suc (span_of s).high ≤ t.low
    after t w = rw (← w.is) (stretch_gap p (every_one r w.among) (f w.source w.among))

-- and give the segments back.
back_spans : {l : List Leg} → Every Stretch l → map segment_of (map span_of l) ≡ l
back_spans none_left = refl
back_spans (one_more p r) = ap₂ (◌∷◌) (stretch_back p) (back_spans r)

module _ {l : List Leg} (c : CleanList l) (on : each_of is_inside l ≡ true) where
  -- Of a clean list of segments on the board the spans are a clean list,
  pub told_clean : Clean (map span_of l)
  told_clean = clean_spans c (stretches c on)

  -- which gives the segments back.
  pub told_back : map segment_of (map span_of l) ≡ l
  told_back = back_spans (stretches c on)
