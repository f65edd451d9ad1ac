-- Spans put one after another into a clean list in their own place, and what is left of them cleared. Assumes nothing.
use Rattle.std.proofs.Common.{◌≡◌, ℕ, ◌+◌, ◌-◌, ◌<◌, ◌≤◌, List, [], ◌∷◌, length, get_or, take, drop, replicate, slice_range, refl, arith}
use Rattle.std.proofs.lemmas.List.{drop-drop, drop_all, length-drop, length-take-le, append-nil}
use borrow.Author.Tests.{lt-ltb, le-ltb}
use borrow.Rule.Slice.PartMut.{put_mid, mid_of}
use Rattle.basics.specs.Tests.{choose}
use Rattle.basics.specs.Lists.{padded}
use Rattle.spans.specs.declared.Span.{Span}
use Rattle.spans.specs.Spans.{most_spans, span, insert, add, add_all, cleaned}
use Rattle.spans.proofs.Walk.{still_read}

-- A span with a number in it is put in,
add_long : (s : Span) (l : List Span) → s.low < s.high → add s l ≡ insert s l
unfolding add choose
add_long s l h = rw (lt-ltb s.low s.high h)

-- and any other changes nothing.
add_empty : (s : Span) (l : List Span) → s.high ≤ s.low → add s l ≡ l
unfolding add choose
add_empty s l h = rw (le-ltb s.low s.high h)

-- The first of some spans is added first.
add_first : (s : Span) (ss l : List Span) → add_all (s ∷ ss) l ≡ add_all ss (add s l)
unfolding add_all
add_first s ss l = refl

-- What is to be given, where i of the first `count` entries are read and the first k are their clean list: those that are still to be read, added.
unfoldable pub to_give : ℕ → ℕ → ℕ → List Span → List Span
to_give k i count l = add_all (slice_range l i count) (take k l)

-- At the start nothing is read.
pub give_none : (l : List Span) (count : ℕ) → to_give 0 0 count l ≡ cleaned (take count l)
unfolding to_give
give_none l count = let z : count - 0 ≡ count = omega arith in rw z

-- A span with a number in it is put in, and no entry is changed that is still to be read;
pub give_put : (l m : List Span) (k r i count : ℕ) → i < count → count ≤ length l → k ≤ i → (get_or l i (span 0 0)).low < (get_or l i (span 0 0)).high
    → take r m ≡ insert (get_or l i (span 0 0)) (take k l) → drop (k + 1) m ≡ drop (k + 1) l → to_give r (i + 1) count m ≡ to_give k i count l
unfolding to_give
give_put l m k r i count h n few long e g =
    let on : (k + 1) + (i - k) ≡ i + 1 = omega arith in
    let unread : drop (i + 1) m ≡ drop (i + 1) l = rw (← on, ← drop-drop (i - k) (k + 1) m, g, drop-drop (i - k) (k + 1) l) in
    rw (still_read l i count h n, e, unread, add_first (get_or l i (span 0 0)), add_long (get_or l i (span 0 0)) (take k l) long)

-- any other is passed over.
pub give_empty : (l : List Span) (k i count : ℕ) → i < count → count ≤ length l → (get_or l i (span 0 0)).high ≤ (get_or l i (span 0 0)).low
    → to_give k (i + 1) count l ≡ to_give k i count l
unfolding to_give
give_empty l k i count h n empty = rw (still_read l i count h n, add_first (get_or l i (span 0 0)), add_empty (get_or l i (span 0 0)) (take k l) empty)

-- At the end the first k are what is to be given.
pub give_all : (l : List Span) (k i count : ℕ) → count ≤ i → to_give k i count l ≡ take k l
unfolding to_give add_all
give_all l k i count h = let z : count - i ≡ 0 = omega arith in rw z

-- They are k.
pub give_number : (l w : List Span) (k i count : ℕ) → count ≤ i → k ≤ length l → to_give k i count l ≡ w → k ≡ length w
give_number l w k i count h n e = rw (← e, give_all l k i count h, length-take-le k l n)

-- All entries after the first k are cleared.
pub cleared : (l r w : List Span) (k : ℕ) → length l ≡ most_spans → k ≤ most_spans → take k l ≡ w
    → r ≡ replicate (length (mid_of k (most_spans - k) l)) (span 0 0) → put_mid k (most_spans - k) l r ≡ padded most_spans (span 0 0) w
cleared l r w k n h e f =
    let none : drop (most_spans - k) (drop k l) ≡ [] = drop_all (most_spans - k) (drop k l) (omega (arith, length-drop k l)) in
    let many : length (mid_of k (most_spans - k) l) ≡ most_spans - k = length-take-le (most_spans - k) (drop k l) (omega (arith, length-drop k l)) in
    let long : length w ≡ k = rw (← e) (length-take-le k l (omega arith)) in
    rw (none, f, many, e, long, append-nil)
