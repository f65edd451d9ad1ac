-- The walk along a clean list: what is left behind, what is carried on, and what is still to be read. Assumes nothing.
use Rattle.std.proofs.Common.{◌≡◌, ℕ, suc, ◌+◌, ◌-◌, ◌<◌, ◌≤◌, List, ◌∷◌, ◌++◌, length, get_or, set, take, slice_range, Some, None, arith}
use Rattle.std.proofs.lemmas.List.{append_assoc, drop_more, take_more_set, drop-set-lt}
use Rattle.spans.specs.declared.Span.{Span}
use Rattle.spans.specs.Spans.{span, left, carried, with_left, insert}

-- What a walk along the first `count` entries of a list is to give, where i of them are read: the first n, which are left behind, and the entries
-- that are still to be read with the carried span put in.
unfoldable pub walked : ℕ → ℕ → ℕ → List Span → Span → List Span
walked n i count l s = take n l ++ insert s (slice_range l i count)

-- The entries still to be read: the next one, and those after it.
pub still_read : (l : List Span) (i count : ℕ) → i < count → count ≤ length l → slice_range l i count ≡ get_or l i (span 0 0) ∷ slice_range l (i + 1) count
still_read l i count h k =
    let one : count - i ≡ suc (count - (i + 1)) = omega arith in
    rw (drop_more l i (span 0 0) (omega arith), one)

-- At the start nothing is left behind.
pub walk_none : (l : List Span) (count : ℕ) (s : Span) → walked 0 0 count l s ≡ insert s (take count l)
unfolding walked
walk_none l count s = let z : count - 0 ≡ count = omega arith in rw z

-- Where one of the carried span and the next one is left behind, it is written after those that were;
pub walk_left : (l : List Span) (n i count : ℕ) (s p : Span) → n ≤ i → i < count → count ≤ length l → left s (get_or l i (span 0 0)) ≡ Some p
    → walked (n + 1) (i + 1) count (set l n p) (carried s (get_or l i (span 0 0))) ≡ walked n i count l s
unfolding walked insert with_left
walk_left l n i count s p h k m e =
    rw (still_read l i count k m, e, take_more_set l n p (omega arith), drop-set-lt (i + 1) l n p (omega arith), append_assoc)

-- where neither is, nothing is written.
pub walk_joined : (l : List Span) (n i count : ℕ) (s : Span) → i < count → count ≤ length l → left s (get_or l i (span 0 0)) ≡ None
    → walked n (i + 1) count l (carried s (get_or l i (span 0 0))) ≡ walked n i count l s
unfolding walked insert with_left
walk_joined l n i count s k m e = rw (still_read l i count k m, e)

-- At the end the carried span is written after those left behind.
pub walk_all : (l : List Span) (n i count : ℕ) (s : Span) → count ≤ i → n < length l → walked n i count l s ≡ take (n + 1) (set l n s)
unfolding walked insert
walk_all l n i count s h k = let z : count - i ≡ 0 = omega arith in rw (z, take_more_set l n s k)
