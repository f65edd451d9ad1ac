-- From legs to segments as the code goes: the spans of some legs, cleaned in their place, and each made a segment. Assumes nothing.
use Rattle.std.proofs.Common.{◌≡◌, sym, List, map, ℕ, ◌≤◌, length, take, arith}
use Rattle.std.proofs.lemmas.List.{length-map}
use Rattle.basics.specs.Lists.{padded}
use Rattle.basics.proofs.Lists.{padded_first}
use Rattle.copper.specs.declared.Leg.{Leg}
use Rattle.spans.specs.declared.Span.{Span}
use Rattle.spans.specs.Spans.{most_spans, span, cleaned}
use Rattle.spans.proofs.Few.{cleaned_few}
use Rattle.laying.specs.Entries.{most_legs, leg_entries}
use Rattle.laying.specs.Reaching.{strip}
use Rattle.mill.specs.Numbered.{span_of, segment_of, segments_of}

-- The clean list of the spans of some legs.
abbrev clean : List Leg → List Span
clean legs = cleaned (map span_of legs)

module _ (legs : List Leg) where
  -- It is no longer than the legs.
  pub clean_few : length (clean legs) ≤ length legs
  clean_few = omega (arith, cleaned_few (map span_of legs), length-map legs span_of)

  -- It is what `clean` leaves of an array that begins with the spans of the legs:
  module _ {spans spans' : List Span} {n : ℕ} (e : spans ≡ padded most_legs (span 0 0) (map span_of legs)) (f : n ≡ length (cleaned (take (length legs) spans)))
      (g : spans' ≡ padded most_spans (span 0 0) (cleaned (take (length legs) spans))) where
    -- the array begins with them,
    told : take (length legs) spans ≡ map span_of legs
    told = rw e (padded_first most_legs (span 0 0) (map span_of legs) (length-map legs span_of))

    -- so many are left,
    number : n ≡ length (clean legs)
    number = rw told at f

    -- and these are the first ones.
    pub spans_kept : take n spans' ≡ clean legs
    spans_kept = rw (g, told) (padded_first most_spans (span 0 0) (clean legs) (sym number))

    -- Each made a segment, they are the segments of the legs, with their number.
    pub clean_strip : {list : List Leg} → list ≡ leg_entries (map segment_of (take n spans')) → record { count = n; list = list } ≡ strip (segments_of legs)
    unfolding strip segments_of
    clean_strip {list} h = rw (h, spans_kept, number, length-map (clean legs) segment_of)
