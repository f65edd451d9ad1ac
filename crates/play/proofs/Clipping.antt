-- A line kept only as far as the room goes is read as the whole line. Assumes nothing.
use Rattle.std.proofs.Common.{◌≡◌, ℕ, ◌+◌, ◌-◌, ◌<◌, ◌≤◌, min, ◌⊎◌, List, ◌++◌, length, take, drop, sym, ap, ◌∙◌, inl, inr, arith, length-append, length-take, length-take-le, take_all, take_at}
use lib.Seq.{take-append-add, sets, sets-eq}
use Rattle.text.specs.Words.{without_return}
use Rattle.text.proofs.Cutting.{return-one}
use Rattle.script.specs.Said.{most_line}
use Rattle.play.specs.Log.{most_kept}
use Rattle.board.proofs.Flat.{order}

-- What is the same for all lines that are too long is the same for a line and for what is kept of it.
pub clipped : {A : Type 0} (f : List ℕ → A) (z : A) → ((l : List ℕ) → most_line < length (without_return l) → z ≡ f l) → (l : List ℕ) → f (take most_kept l) ≡ f l
clipped f z same l = by (order (length l) most_kept)
  where
    by : (length l ≤ most_kept) ⊎ (most_kept < length l) → f (take most_kept l) ≡ f l
    by (inl h) = ap f (take_all most_kept l h)
    by (inr h) =
        sym (same (take most_kept l) (omega (arith, return-one (take most_kept l), length-take-le most_kept l (omega arith))))
        ∙ same l (omega (arith, return-one l))

-- What is kept of a line with more bytes after it.
pub keeping : (old bytes : List ℕ) (kept : ℕ) → kept ≤ most_kept → length old ≡ most_kept
    → take (min (kept + length bytes) most_kept) (sets old kept (take (most_kept - kept) bytes)) ≡ take most_kept (take kept old ++ bytes)
keeping old bytes kept h e =
    let room : ℕ = most_kept - kept in
    let a : length (take kept old) ≡ kept = length-take-le kept old (omega arith) in
    let b : length (take room bytes) ≡ min room (length bytes) = length-take room bytes in
    let n : length (take kept old ++ take room bytes) ≡ min (kept + length bytes) most_kept = omega (arith, a, b, length-append (take kept old) (take room bytes)) in
    let m : most_kept ≡ length (take kept old) + room = omega (arith, a) in
    ap (take (min (kept + length bytes) most_kept)) (sets-eq (take room bytes) old kept (omega (arith, b)))
    ∙ take_at (take kept old ++ take room bytes) (drop (kept + length (take room bytes)) old) (min (kept + length bytes) most_kept) n
    ∙ sym (take-append-add (take kept old) bytes room)
    ∙ ap (λ (k : ℕ). take k (take kept old ++ bytes)) (sym m)
