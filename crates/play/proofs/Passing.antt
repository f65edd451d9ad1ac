-- What several reads take from a reader and several writes add to a writer, as far as their bytes are known. Assumes nothing.
use Rattle.std.proofs.Common.{◌≡◌, ℕ, ◌+◌, ◌-◌, ◌<◌, ◌≤◌, List, [], ◌++◌, length, take, sym, refl, ap, ◌∙◌, ◌⊎◌, inl, inr, append_assoc, append-nil, take_all, take_at, drop, arith}
use Rattle.std.specs.Prelude.{None, Some, Result, Ok, Err, IfOk, OnErr}
use Rattle.std.specs.Result.{IsErr}
use Rattle.std.proofs.lemmas.Bool.{false≢true}
use Rattle.std.specs.declared.option.Option.{Option}
use Rattle.std.specs.Io.KnownBytes.{Keeps, Consumes, Appends}
use Rattle.std.proofs.Math.Seq.{take-append-le, take-append-add, take-add}
use Rattle.std.proofs.lemmas.List.{take-take}
use Rattle.board.proofs.Flat.{order}
use lib.Seq.{sets-eq}
use Rattle.text.specs.Text.{over}
use Rattle.play.specs.Answers.{AppendsFront, Writes}

-- A reader from which nothing was taken.
pub takes_none : (a : Option (List ℕ)) → Consumes a a []
takes_none None = tt
takes_none (Some xs) = refl

-- A read that failed took nothing.
pub takes_kept : (a b : Option (List ℕ)) → Keeps a b → Consumes a b []
takes_kept None b h = tt
takes_kept (Some xs) None h = absurd h
takes_kept (Some xs) (Some ys) h = sym h

-- What was taken first and what was taken next were taken.
pub takes_both : (a b c : Option (List ℕ)) (u v : List ℕ) → Consumes a b u → Consumes b c v → Consumes a c (u ++ v)
takes_both None b c u v p q = tt
takes_both (Some xs) None c u v p q = absurd p
takes_both (Some xs) (Some ys) None u v p q = absurd q
takes_both (Some xs) (Some ys) (Some zs) u v p q = p ∙ ap (λ (w : List ℕ). u ++ w) q ∙ sym (append_assoc u v zs)

-- A writer to which nothing was written.
pub adds_none : (a : Option (List ℕ)) → Appends a a []
adds_none None = tt
adds_none (Some xs) = sym (append-nil xs)

-- What was written first and what was written next were written.
pub adds_both : (a b c : Option (List ℕ)) (u v : List ℕ) → Appends a b u → Appends b c v → Appends a c (u ++ v)
adds_both None b c u v p q = tt
adds_both (Some xs) None c u v p q = absurd p
adds_both (Some xs) (Some ys) None u v p q = absurd q
adds_both (Some xs) (Some ys) (Some zs) u v p q = q ∙ ap (λ (w : List ℕ). w ++ v) p ∙ append_assoc xs u v

-- A writer that is as it was.
pub adds_kept : (a b : Option (List ℕ)) → Keeps a b → Appends a b []
adds_kept None b h = tt
adds_kept (Some xs) None h = absurd h
adds_kept (Some xs) (Some ys) h = h ∙ sym (append-nil xs)

-- The first bytes of some are the first of these with more after them.
pub front_longer : (a b : Option (List ℕ)) (u v : List ℕ) → AppendsFront a b u → AppendsFront a b (u ++ v)
front_longer a b u v p = by (order p.0 (length u))
  where
    by : (p.0 ≤ length u) ⊎ (length u < p.0) → AppendsFront a b (u ++ v)
    by (inl h) = (p.0, rw (take-append-le p.0 u v h) p.1)
    by (inr h) = (length u, rw (take_at u v (length u) refl, ← take_all p.0 u (omega arith)) p.1)

-- Bytes that were written are the first of these with more after them.
pub front_all : (a b : Option (List ℕ)) (u v : List ℕ) → Appends a b u → AppendsFront a b (u ++ v)
front_all a b u v p = (length u, rw (take_at u v (length u) refl) p)

-- Some were written, and then the first of those after them.
pub front_after : (a b c : Option (List ℕ)) (u v : List ℕ) → Appends a b u → AppendsFront b c v → AppendsFront a c (u ++ v)
front_after a b c u v p q = (length u + q.0, rw (take-append-add u v q.0) (adds_both a b c u (take q.0 v) p q.1))

-- Nothing was written of what was to be.
pub front_none : (a : Option (List ℕ)) (u : List ℕ) → AppendsFront a a u
front_none a u = (0, adds_none a)

-- ---- one write after the other

module _ (a b c : Option (List ℕ)) (all : List ℕ) (bytes done : ℕ) where
  -- A write took some of the bytes that are left.
  pub sent_more : (n : ℕ) → n ≤ bytes - done → Appends a b (take done all) → Appends b c (take n (take (bytes - done) (drop done all))) → Appends a c (take (done + n) all)
  sent_more n h p q =
      rw (take-add done n all) (adds_both a b c (take done all) (take n (drop done all)) p (rw (take-take n (bytes - done) (drop done all) h) at q))

  -- A write failed, or took none.
  pub sent_part : done ≤ bytes → Appends a b (take done all) → Appends b c [] → AppendsFront a c (take bytes all)
  sent_part h p q =
      (done, rw (take-take done bytes all h) (rw (append-nil (take done all)) at (adds_both a b c (take done all) [] p q)))

-- What failed wrote the first bytes.
pub writes_err : {A E : Type 0} (r : Result A E) (a b : Option (List ℕ)) (u : List ℕ) → IsErr r → AppendsFront a b u → Writes r a b u
writes_err (Ok x) a b u h p = absurd (false≢true h)
writes_err (Err e) a b u h p = p

-- What a buffer holds from its start on is what was put there.
pub first_of_over : (text old : List ℕ) {n : ℕ} {new : List ℕ} → n ≡ length text → n ≤ length old → new ≡ over text old → take n new ≡ text
first_of_over text old {n} e h f =
    ap (take n) (f ∙ sets-eq text old 0 (omega arith)) ∙ take_at text (drop (0 + length text) old) n (sym e)

-- What holds is left by an error too.
pub on_err : {A E : Type 0} {P : Type 0} (r : Result A E) → P → OnErr r P
on_err (Ok x) p = tt
on_err (Err e) p = p

-- What follows from what an answer comes to is what the answer comes to,
pub then_ok : {A E : Type 0} (r : Result A E) {P Q : A → Type 0} → ((x : A) → P x → Q x) → IfOk r P → IfOk r Q
then_ok (Ok x) f p = f x p
then_ok (Err e) f p = tt

-- and the same at an error.
pub then_err : {A E : Type 0} (r : Result A E) {P Q : Type 0} → (P → Q) → OnErr r P → OnErr r Q
then_err (Ok x) f p = tt
then_err (Err e) f p = f p
