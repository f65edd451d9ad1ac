-- A span put into a clean list: the list stays clean, and covers in addition the numbers of the span; so the clean list of some spans covers exactly their
-- numbers. Assumes nothing.
use mathlib.Core.Path.{◌≡◌, refl}
use mathlib.Core.Bool.{Bool, true, false}
use mathlib.Core.List.{List, [], ◌∷◌, ◌++◌, append-nil}
use Prim.Native.Nat.{ℕ, suc, ◌≤◌, ◌<◌}
use native.Mathlib.Omega.{arith}
use native.Mathlib.Decide.{dec_le, dec_lt}
use lib.Dec.{ltb}
use borrow.Author.Tests.{ltb-true, ltb-false}
use Rattle.basics.specs.Tests.{choose}
use Rattle.spans.specs.declared.Span.{Span}
use Rattle.spans.specs.Spans.{hull, ends, left, carried, with_left, insert, add, add_all, cleaned}
use Rattle.spans.proofs.Lists.{Inside, Covered, here, later, CleanFrom, done, next, Clean, Alike, alike_self, alike_back, alike_by, alike_after, alike_swap, only_one}

-- ---- one turn of the walk
-- How the carried span and the next one of the list lie, and what the walk then does.
pub data Lie (s t : Span) : Type 0 where
  before : s.high < t.low → ((l : List Span) → insert s (t ∷ l) ≡ s ∷ insert t l) → Lie s t
  after : t.high < s.low → ((l : List Span) → insert s (t ∷ l) ≡ t ∷ insert s l) → Lie s t
  touching : t.low ≤ s.high → s.low ≤ t.high → ((l : List Span) → insert s (t ∷ l) ≡ insert (hull s t) l) → Lie s t

-- Where neither is empty, they lie in one of the three ways: the two tests say in which,
lie_by : {s t : Span} → s.low < s.high → t.low < t.high → (p q : Bool) → ends s t ≡ p → ends t s ≡ q → Lie s t
unfolding insert left carried with_left choose
lie_by {s} {t} v w true true e f = absurd (omega (arith, ltb-true s.high t.low e, ltb-true t.high s.low f))
lie_by {s} {t} v w true false e f = before (ltb-true s.high t.low e) (λ l. rw (e, f))
lie_by {s} {t} v w false true e f = after (ltb-true t.high s.low f) (λ l. rw (e, f))
lie_by {s} {t} v w false false e f = touching (ltb-false s.high t.low e) (ltb-false t.high s.low f) (λ l. rw (e, f))

-- whatever they say.
pub lie : {s t : Span} → s.low < s.high → t.low < t.high → Lie s t
lie {s} {t} v w = lie_by v w (ends s t) (ends t s) refl refl

-- A span put into the empty list.
pub insert-none : (s : Span) → insert s [] ≡ s ∷ []
unfolding insert
insert-none s = refl

-- ---- a span put in
-- The list stays clean: it was clean from d on, and it is from b on, where the span may begin.
insert_clean : {b d : ℕ} {s : Span} {l : List Span} → b ≤ s.low → b ≤ d → s.low < s.high → CleanFrom d l → CleanFrom b (insert s l)
insert_clean {s} h k v done = rw (insert-none s) (next h v done)
insert_clean {b} {s = s} h k v (next {s = t} {l = l} p q c) = by_lie (lie v q) (λ b' s' h' k' v'. insert_clean {b = b'} {s = s'} h' k' v' c)
  where
    by_lie : Lie s t → ((b' : ℕ) (s' : Span) → b' ≤ s'.low → b' ≤ suc t.high → s'.low < s'.high → CleanFrom b' (insert s' l)) → CleanFrom b (insert s (t ∷ l))
    by_lie (before a e) rest = rw (e l) (next h v (rest (suc s.high) t a (omega arith) q))
    by_lie (after a e) rest = rw (e l) (next {b = b} {s = t} (omega arith) q (rest (suc t.high) s a (omega arith) v))
    by_lie (touching a m e) rest = rw (e l) (rest b (hull s t) (omega arith) (omega arith) (omega arith))

-- Two spans that overlap or touch cover what the least that holds both covers.
hull_alike : (s t : Span) (l : List Span) → s.low < s.high → t.low ≤ s.high → s.low ≤ t.high → Alike (hull s t ∷ l) (s ∷ t ∷ l)
hull_alike s t l v a m = record { there = λ n h. there n h; back = λ n h. back n h }
  where
    by_test : (n : ℕ) → Inside n (hull s t) → Dec (s.low ≤ n) → Dec (n < s.high) → Covered n (s ∷ t ∷ l)
    by_test n h (yes p) (yes q) = here (record { from = p; below = q })
    by_test n h (yes p) (no q) = later (here {s = t} (omega arith))
    by_test n h (no p) (yes q) = later (here {s = t} (omega arith))
    by_test n h (no p) (no q) = absurd (omega arith)

    there : (n : ℕ) → Covered n (hull s t ∷ l) → Covered n (s ∷ t ∷ l)
    there n (here h) = by_test n h (dec_le s.low n) (dec_lt n s.high)
    there n (later h) = later (later h)

    back : (n : ℕ) → Covered n (s ∷ t ∷ l) → Covered n (hull s t ∷ l)
    back n (here h) = here {s = hull s t} (omega arith)
    back n (later (here h)) = here {s = hull s t} (omega arith)
    back n (later (later h)) = later h

-- The list then covers the span and what it covered, and nothing else.
insert_alike : {d : ℕ} (s : Span) {l : List Span} → s.low < s.high → CleanFrom d l → Alike (insert s l) (s ∷ l)
insert_alike s v done = rw (insert-none s) alike_self
insert_alike s v (next {s = t} {l = l} p q c) = by_lie (lie v q) (λ s' v'. insert_alike s' v' c)
  where
    by_lie : Lie s t → ((s' : Span) → s'.low < s'.high → Alike (insert s' l) (s' ∷ l)) → Alike (insert s (t ∷ l)) (s ∷ t ∷ l)
    by_lie (before a e) rest = rw (e l) (alike_after (rest t q))
    by_lie (after a e) rest = rw (e l) (alike_by (alike_after (rest s v)) alike_swap)
    by_lie (touching a m e) rest = rw (e l) (alike_by (rest (hull s t) (omega arith)) (hull_alike s t l v a m))

-- ---- spans added one after another
-- A clean list m that covers exactly the numbers of some spans l.
pub record CleanOf (l m : List Span) : Type 0 where
  pub clean : Clean m
  pub alike : Alike m l

-- An empty span covers nothing.
empty_span : (s : Span) {l : List Span} → s.high ≤ s.low → Alike l (s ∷ l)
empty_span s {l} h = record { there = λ n k. later k; back = λ n k. back n k }
  where
    back : (n : ℕ) → Covered n (s ∷ l) → Covered n l
    back n (here k) = absurd (omega arith)
    back n (later k) = k

-- A span added to a clean list,
pub added : (s : Span) (l : List Span) → Clean l → CleanOf (s ∷ l) (add s l)
unfolding add choose
added s l c = by_test (ltb s.low s.high) refl
  where
    by_test : (b : Bool) → ltb s.low s.high ≡ b → CleanOf (s ∷ l) (choose b (insert s l) l)
    by_test true e =
        let v : s.low < s.high = ltb-true s.low s.high e in
        record { clean = insert_clean (omega arith) (omega arith) v c; alike = insert_alike s v c }
    by_test false e = record { clean = c; alike = empty_span s (ltb-false s.low s.high e) }

-- wherever it stands among others,
alike_among : (ss : List Span) {s : Span} {l m : List Span} → Alike m (s ∷ l) → Alike (ss ++ m) (s ∷ ss ++ l)
alike_among [] e = e
alike_among (t ∷ ss) e = alike_by (alike_after (alike_among ss e)) alike_swap

-- and all of them.
all_added : (ss l : List Span) → Clean l → CleanOf (ss ++ l) (add_all ss l)
unfolding add_all
all_added [] l c = record { clean = c; alike = alike_self }
all_added (s ∷ ss) l c =
    let one = added s l c in
    let rest = all_added ss (add s l) one.clean in
    record { clean = rest.clean; alike = alike_by rest.alike (alike_among ss one.alike) }

-- ---- the clean list of some spans
-- It is clean,
pub cleaned_clean : (ss : List Span) → Clean (cleaned ss)
cleaned_clean ss = (all_added ss [] done).clean

-- it covers exactly the numbers of the spans,
pub cleaned_alike : (ss : List Span) → Alike (cleaned ss) ss
cleaned_alike ss = rw (append-nil ss) at (all_added ss [] done).alike

-- and spans that cover the same numbers have the same clean list.
pub same-cleaned : {ss ts : List Span} → Alike ss ts → cleaned ss ≡ cleaned ts
same-cleaned {ss} {ts} e =
    only_one (cleaned_clean ss) (cleaned_clean ts)
    (alike_by (cleaned_alike ss) (alike_by e (alike_back (cleaned_alike ts))))
