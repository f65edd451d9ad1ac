-- From the answer to what a line says to the answer to the line, lines that are too long, and what a buffer holds from its start on. Assumes nothing.
use mathlib.Core.Path.{◌≡◌, refl, sym, ◌∙◌, ap}
use mathlib.Core.List.{List}
use Prim.Native.Nat.{ℕ, ◌+◌, ◌≤◌, ◌<◌}
use native.Mathlib.Omega.{arith}
use lib.ListN.{length, take, drop, replicate, length-replicate}
use lib.Seq.{sets-eq, length-sets, take_at, length-take-le}
use Rattle.desk.specs.declared.Desk.{Desk}
use Rattle.text.specs.Text.{over, answer_bytes, Holds}
use Rattle.text.specs.Words.{without_return}
use Rattle.script.specs.declared.Said.{Said}
use Rattle.script.specs.Said.{most_line, said_by}
use Rattle.script.proofs.Asking.{line_long}
use Rattle.printed.specs.Answers.{not_a_call_line}
use Rattle.answer.specs.Answered.{followed, played, printed, answered}

-- The answer to what a line says is that to the line.
pub answers : (d : Desk) (number : ℕ) (line old : List ℕ) {o p : Said} {r : Desk} {n : ℕ} {new : List ℕ} → o ≡ said_by line → o ≡ p
    → (r ≡ followed d line p) × Holds answer_bytes (printed d number line p) old n new
    → (r ≡ played d line) × Holds answer_bytes (answered d number line) old n new
unfolding played answered
answers d number line old e f h = rw (sym e ∙ f) h

module _ (d : Desk) (line : List ℕ) (h : most_line < length (without_return line)) where
  -- A line that is too long leaves the desk as it is,
  pub long_played : d ≡ played d line
  unfolding played followed
  long_played = rw (← (line_long line refl h))

  -- and prints that it is not a call.
  pub long_answered : (number : ℕ) → not_a_call_line number ≡ answered d number line
  unfolding answered printed
  long_answered number = rw (← (line_long line refl h))

-- A buffer filled from its start on:
module _ {A : Type 0} (room : ℕ) (d : A) (new : List A) {last : List A} (f : last ≡ over new (replicate room d)) {n : ℕ} (h : n ≤ room) where
  whole : length last ≡ room
  whole = ap length f ∙ length-sets (replicate room d) 0 new ∙ length-replicate room d

  -- what fits into it is there,
  pub stored_within : n ≤ length last
  stored_within = omega (arith, whole)

  -- so many elements are its first ones,
  pub stored_count : n ≡ length (take n last)
  stored_count = sym (length-take-le n last stored_within)

  -- and they are what was stored.
  pub stored_first : n ≡ length new → take n last ≡ new
  stored_first e =
      ap (take n) (f ∙ sets-eq new (replicate room d) 0 (omega (arith, length-replicate room d)))
      ∙ take_at new (drop (0 + length new) (replicate room d)) n (sym e)
