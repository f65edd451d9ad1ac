-- What the code's two loops fill in, spans of legs and segments of spans; and spans of one line are numbered. Assumes nothing.
use Rattle.std.proofs.Common.{◌≡◌, refl, sym, ap, ◌∙◌, Bool, true, false, List, map, ℕ, ◌+◌, ◌*◌, ◌≤◌, ◌<◌, length, get_or, set, take, arith}
use Rattle.std.proofs.lemmas.List.{length-map, length-take-le, map_more}
use borrow.Author.Tests.{lt-ltb, ltb-true}
use Rattle.basics.specs.Tests.{each_of}
use Rattle.basics.specs.Lists.{padded}
use Rattle.basics.proofs.Tests.{both_left, both_right, both_of}
use Rattle.basics.proofs.Anyone.{each_end, each_at, each_more}
use Rattle.basics.proofs.Lists.{padded_more}
use Rattle.basics.proofs.Members.{Every, none, one}
use Rattle.spans.specs.declared.Span.{Span}
use Rattle.mill.specs.Numbered.{columns, is_numbered}
use Rattle.mill.proofs.Steps.{base}
use Rattle.mill.proofs.Stretches.{low_of, high_of, Lined, lined}

-- What each of a list passes, each one of it by its number does.
pub each_passes : {A : Type 0} (test : A → Bool) (l : List A) (i : ℕ) (d : A) → each_of test l ≡ true → i < length l → test (get_or l i d) ≡ true
each_passes test l i d on h = each_at test d l i on (λ k. absurd (omega arith))

-- ---- an array that is filled with what is made of each of some entries
module _ {A B : Type 0} (f : A → B) (l : List A) (n : ℕ) (d : B) where
  -- One more entry is filled in.
  pub made_more : (i : ℕ) (e : A) → i < length l → length l ≤ n → set (padded n d (map f (take i l))) i (f (get_or l i e)) ≡ padded n d (map f (take (i + 1) l))
  made_more i e h k =
      let many : length (map f (take i l)) ≡ i = length-map (take i l) f ∙ length-take-le i l (omega arith) in
      ap (λ (j : ℕ). set (padded n d (map f (take i l))) j (f (get_or l i e))) (sym many)
      ∙ padded_more n d (map f (take i l)) (f (get_or l i e)) (omega arith)
      ∙ ap (padded n d) (sym (map_more f l i e h))

-- ---- spans that are numbered
-- The low end of such a span is below twice the columns,
pub low_numbered : (s : Span) → is_numbered s ≡ true → s.low < 2 * columns
low_numbered s e = ltb-true s.low (2 * columns) (both_left _ _ e)

-- and so is its high end.
pub high_numbered : (s : Span) → is_numbered s ≡ true → s.high < 2 * columns
high_numbered s e = ltb-true s.high (2 * columns) (both_right _ _ e)

-- Both ends of a span of one line are numbers of rows or columns,
line_numbered : {s : Span} → Lined s → is_numbered s ≡ true
line_numbered {s} (lined row line a b f e) =
    by_row row (ap low_of e) (ap high_of e)
  where
    by_row : (r : Bool) → s.low ≡ base r line + a → s.high ≡ base r line + b → is_numbered s ≡ true
    by_row true p q = both_of (lt-ltb s.low (2 * columns) (omega (arith, f))) (lt-ltb s.high (2 * columns) (omega (arith, f)))
    by_row false p q = both_of (lt-ltb s.low (2 * columns) (omega (arith, f))) (lt-ltb s.high (2 * columns) (omega (arith, f)))

-- and so it is for each of a list.
pub lines_numbered : {l : List Span} → Every Lined l → each_of is_numbered l ≡ true
lines_numbered none = each_end refl is_numbered
lines_numbered (one {a = s} {l = l} p r) = each_more is_numbered s l (line_numbered p) (lines_numbered r)
