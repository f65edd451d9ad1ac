-- A clean list of spans: in order, each span after a gap; and only one clean list covers given numbers. Assumes nothing.
use mathlib.Core.Path.{◌≡◌, refl, sym, ap₂}
use mathlib.Core.List.{List, [], ◌∷◌}
use Prim.Native.Nat.{ℕ, suc, ◌≤◌, ◌<◌}
use native.Mathlib.Omega.{arith}
use native.Mathlib.Decide.{dec_le}
use Rattle.spans.specs.declared.Span.{Span}

-- A number of a span.
pub record Inside (n : ℕ) (s : Span) : Type 0 where
  pub from : s.low ≤ n
  pub below : n < s.high

-- A number of at least one of these spans.
pub data Covered (n : ℕ) : List Span → Type 0 where
  here : {s : Span} {l : List Span} → Inside n s → Covered n (s ∷ l)
  later : {s : Span} {l : List Span} → Covered n l → Covered n (s ∷ l)

-- Clean from a number on: no span begins below it, none is empty, and each next one begins after a gap, so that no two meet or touch.
pub data CleanFrom : ℕ → List Span → Type 0 where
  done : {b : ℕ} → CleanFrom b []
  next : {b : ℕ} {s : Span} {l : List Span} → b ≤ s.low → s.low < s.high → CleanFrom (suc s.high) l → CleanFrom b (s ∷ l)

-- A list that is clean.
abbrev pub Clean : List Span → Type 0
Clean l = CleanFrom 0 l

-- Two lists cover the same numbers.
pub record Alike (l m : List Span) : Type 0 where
  pub there : (n : ℕ) → Covered n l → Covered n m
  pub back : (n : ℕ) → Covered n m → Covered n l

-- A list is like itself,
pub alike_self : {l : List Span} → Alike l l
alike_self = record { there = λ n h. h; back = λ n h. h }

-- alike goes both ways,
pub alike_back : {l m : List Span} → Alike l m → Alike m l
alike_back e = record { there = e.back; back = e.there }

-- from list to list,
pub alike_by : {l m k : List Span} → Alike l m → Alike m k → Alike l k
alike_by e f = record { there = λ n h. f.there n (e.there n h); back = λ n h. e.back n (f.back n h) }

-- after one more span,
pub alike_after : {s : Span} {l m : List Span} → Alike l m → Alike (s ∷ l) (s ∷ m)
alike_after {s} e = record { there = λ n h. after (e.there n) h; back = λ n h. after (e.back n) h }
  where
    after : {n : ℕ} {l m : List Span} → (Covered n l → Covered n m) → Covered n (s ∷ l) → Covered n (s ∷ m)
    after f (here h) = here h
    after f (later h) = later (f h)

-- and the first two spans may stand in either order.
pub alike_swap : {s t : Span} {l : List Span} → Alike (s ∷ t ∷ l) (t ∷ s ∷ l)
alike_swap = record { there = λ n h. swap h; back = λ n h. swap h }
  where
    swap : {n : ℕ} {s t : Span} {l : List Span} → Covered n (s ∷ t ∷ l) → Covered n (t ∷ s ∷ l)
    swap (here h) = later (here h)
    swap (later (here h)) = here h
    swap (later (later h)) = later (later h)

-- What is covered lies where the list is clean.
pub covered_from : {b n : ℕ} {l : List Span} → CleanFrom b l → Covered n l → b ≤ n
covered_from {n = n} (done {b = b}) h = elim h [ ]
covered_from (next p q c) (here h) = omega arith
covered_from (next p q c) (later h) = omega (arith, covered_from c h)

-- Where there are no spans nothing is covered.
none_covered : {n : ℕ} → Covered n [] → ⊥
none_covered = elim [ ]

-- A list that begins with a span that is not empty covers its low end.
low_covered : {s : Span} {l : List Span} → s.low < s.high → Covered s.low (s ∷ l)
low_covered {s} h = here {s = s} (record { from = omega arith; below = h })

-- What a clean list covers is not below its first span.
first_low : {b n : ℕ} {s : Span} {l : List Span} → CleanFrom b (s ∷ l) → Covered n (s ∷ l) → s.low ≤ n
first_low (next p q c) (here h) = h.from
first_low (next p q c) (later h) = omega (arith, covered_from c h)

-- The number where the first span ends is not covered: there is a gap.
gap : {b : ℕ} {s : Span} {l : List Span} → CleanFrom b (s ∷ l) → Covered s.high (s ∷ l) → ⊥
gap (next p q c) (here h) = omega (arith, h.below)
gap (next p q c) (later h) = omega (arith, covered_from c h)

-- What is covered from the end of the first span on is covered by the others.
elsewhere : {n : ℕ} {s : Span} {l : List Span} → s.high ≤ n → Covered n (s ∷ l) → Covered n l
elsewhere h (here k) = absurd (omega (arith, k.below))
elsewhere h (later k) = k

-- The first span of a list that covers no more ends no later than that of a clean list, where both begin at the same number.
high_first : {b : ℕ} {s t : Span} {l m : List Span} → CleanFrom b (s ∷ l) → s.low ≡ t.low
    → ((n : ℕ) → Covered n (t ∷ m) → Covered n (s ∷ l)) → s.low < s.high → t.high ≤ s.high
high_first {s = s} {t = t} c e back q = by_test (dec_le t.high s.high)
  where
    by_test : Dec (t.high ≤ s.high) → t.high ≤ s.high
    by_test (yes h) = h
    by_test (no h) = absurd (gap c (back s.high (here (record { from = omega arith; below = omega arith }))))

-- What the others of a clean list cover, the others of a like list cover, where the two first spans end at the same number.
tail_there : {b : ℕ} {s t : Span} {l m : List Span} → CleanFrom b (s ∷ l) → s.high ≡ t.high
    → ((n : ℕ) → Covered n (s ∷ l) → Covered n (t ∷ m)) → (n : ℕ) → Covered n l → Covered n m
tail_there (next p q c) e there n h = elsewhere (omega (arith, covered_from c h)) (there n (later h))

-- Two spans with the same ends are equal.
same_span : {s t : Span} → s.low ≡ t.low → s.high ≡ t.high → s ≡ t
same_span p q = λ i. record { low = p i; high = q i }

-- Only one clean list covers given numbers.
pub only_one : {b d : ℕ} {l m : List Span} → CleanFrom b l → CleanFrom d m → Alike l m → l ≡ m
only_one done done e = refl
only_one done (next p q c) e = absurd (none_covered (e.back _ (low_covered q)))
only_one (next p q c) done e = absurd (none_covered (e.there _ (low_covered q)))
only_one (next {s = s} {l = l} p q c) (next {s = t} {l = m} v w d) e =
    let lows : s.low ≡ t.low = omega (arith, first_low (next p q c) (e.back _ (low_covered w)), first_low (next v w d) (e.there _ (low_covered q))) in
    let highs : s.high ≡ t.high = omega (arith, high_first (next p q c) lows e.back q, high_first (next v w d) (sym lows) e.there w) in
    ap₂ (◌∷◌) (same_span lows highs)
    (only_one c d (record { there = tail_there (next p q c) highs e.there; back = tail_there (next v w d) (sym highs) e.back }))
