-- What holds of spans that are put into a clean list, and of the least that holds two that overlap or touch, holds of each of the clean list. Assumes nothing.
use mathlib.Core.Path.{◌≡◌, refl, ap}
use mathlib.Core.Bool.{Bool, true, false}
use mathlib.Core.List.{List, [], ◌∷◌}
use Prim.Native.Nat.{ℕ, ◌≤◌, ◌<◌}
use native.Mathlib.Omega.{arith}
use lib.Dec.{ltb}
use borrow.Author.Tests.{ltb-true}
use Rattle.basics.specs.Tests.{choose}
use Rattle.basics.specs.Lists.{Among, first, later}
use Rattle.basics.proofs.Members.{Every, none, one}
use Rattle.spans.specs.declared.Span.{Span}
use Rattle.spans.specs.Spans.{hull, insert, add, add_all, cleaned}
use Rattle.spans.proofs.Lists.{CleanFrom, done, next, Clean}
use Rattle.spans.proofs.Insert.{Lie, before, after, touching, lie, insert-none, added}

-- Each span of a clean list begins where the list is clean.
pub begins_from : {b : ℕ} {s : Span} {l : List Span} → CleanFrom b l → Among s l → b ≤ s.low
begins_from {s = s} (done {b = b}) m = elim m [ ]
begins_from {s = s} (next {s = t} p q c) (first e) = let low : s.low ≡ t.low = ap (λ (x : Span). x.low) e in omega arith
begins_from (next p q c) (later h) = omega (arith, begins_from c h)

-- What holds of two spans that overlap or touch holds of the least that holds both.
module _ (P : Span → Type 0) (joins : (s t : Span) → P s → P t → t.low ≤ s.high → s.low ≤ t.high → P (hull s t)) where
  -- It holds after one span is put in,
  insert_every : {d : ℕ} (s : Span) {l : List Span} → s.low < s.high → CleanFrom d l → P s → Every P l → Every P (insert s l)
  insert_every s v done p none = rw (insert-none s) (one p none)
  insert_every s v (next {s = t} {l = l} x q c) p (one r rs) = by_lie (lie v q) (λ s' v' p'. insert_every s' v' c p' rs)
    where
      by_lie : Lie s t → ((s' : Span) → s'.low < s'.high → P s' → Every P (insert s' l)) → Every P (insert s (t ∷ l))
      by_lie (before a e) rest = rw (e l) (one p (rest t q r))
      by_lie (after a e) rest = rw (e l) (one r (rest s v p))
      by_lie (touching a m e) rest = rw (e l) (rest (hull s t) (omega arith) (joins s t p r a m))

  -- after one is added,
  add_every : (s : Span) (l : List Span) → (s.low < s.high → P s) → Clean l → Every P l → Every P (add s l)
  unfolding add choose
  add_every s l p c r = by_test (ltb s.low s.high) refl
    where
      by_test : (b : Bool) → ltb s.low s.high ≡ b → Every P (choose b (insert s l) l)
      by_test true e = let v : s.low < s.high = ltb-true s.low s.high e in insert_every s v c (p v) r
      by_test false e = r

  -- and after all are.
  all_every : (ss l : List Span) → Every (λ (s : Span). s.low < s.high → P s) ss → Clean l → Every P l → Every P (add_all ss l)
  unfolding add_all
  all_every [] l none c r = r
  all_every (s ∷ ss) l (one p ps) c r = all_every ss (add s l) ps (added s l c).clean (add_every s l p c r)

  -- It holds of each span of the clean list.
  pub cleaned_every : (ss : List Span) → Every (λ (s : Span). s.low < s.high → P s) ss → Every P (cleaned ss)
  cleaned_every ss ps = all_every ss [] ps done none
