-- From what a call of the desk answers, and what is printed of it, to what its line prints. Assumes nothing.
use mathlib.Core.Path.{◌≡◌, refl, ◌∙◌, ap}
use mathlib.Core.List.{List, ◌∷◌}
use Prim.Native.Nat.{ℕ, zero, suc, ◌≤◌}
use native.Mathlib.Omega.{arith}
use lib.ListN.{take, replicate}
use Rattle.refusal.specs.declared.Refusal.{Refusal}
use Rattle.std.specs.Prelude.{Result, Ok, Err}
use Rattle.pinmap.specs.declared.Form.{Form}
use Rattle.forms.specs.Moving.{moved_of, buffer_moved}
use Rattle.desk.specs.declared.Desk.{Desk}
use Rattle.desk.specs.declared.Answered.{Answered}
use Rattle.rows.specs.Calls.{Call}
use Rattle.desk.specs.Desk.{step}
use Rattle.asked.specs.Asked.{Written, written_of, buffer_of}
use Rattle.text.specs.Text.{most_room, answer_bytes, Holds}
use Rattle.text.proofs.Printing.{held}
use Rattle.printed.specs.Answers.{most_line_bytes, verdict_line, written_line}
use Rattle.answer.specs.Answered.{call_text, lent_bytes, written_text, writing_text, moving_text}

module _ (d : Desk) (old : List ℕ) {n : ℕ} {new : List ℕ} where
  -- A call whose verdict is printed.
  pub called : (call : Call) {a : Answered} {r : Desk} → a ≡ step d call
      → (r ≡ a.desk) × Holds answer_bytes (verdict_line a.verdict) old n new → (r ≡ (step d call).desk) × Holds answer_bytes (call_text d call) old n new
  unfolding call_text
  called call e h = (h.0 ∙ ap (λ (x : Answered). x.desk) e, rw e at h.1)

  -- A writing: how many bytes it wrote and the whole buffer are printed, or its verdict.
  pub written_so : (s : ℕ) (buffer : List ℕ) {w : Written} {after : List ℕ} → w ≡ written_of d s buffer → after ≡ buffer_of d s buffer
      → Holds answer_bytes (written_text w.answer after) old n new → Holds answer_bytes (writing_text d s buffer) old n new
  unfolding writing_text
  written_so s buffer e f h = rw (← e, ← f) h

module _ (old : List ℕ) {n : ℕ} {new : List ℕ} where
  -- A moving: likewise.
  pub moved_so : (to : Form) (job : ℕ) (map buffer : List ℕ) {w : Result ℕ Refusal} {after : List ℕ} → w ≡ moved_of to job map buffer → after ≡ buffer_moved to job map buffer
      → Holds answer_bytes (written_text w after) old n new → Holds answer_bytes (moving_text to job map buffer) old n new
  unfolding moving_text
  moved_so to job map buffer e f h = rw (← e, ← f) h

  module _ (buffer : List ℕ) where
    -- What was accepted prints how many bytes were written and the whole buffer,
    pub lent_done : (bytes : ℕ) → Holds answer_bytes (written_line bytes buffer) old n new → Holds answer_bytes (written_text (Ok bytes) buffer) old n new
    unfolding written_text
    lent_done bytes h = h

    -- and what was refused its verdict.
    pub lent_refused : (r : Refusal) → Holds most_line_bytes (verdict_line (Err r)) old n new → Holds answer_bytes (written_text (Err r) buffer) old n new
    unfolding written_text
    lent_refused r h = held old most_line_bytes {p = verdict_line (Err r)} (omega arith) refl h

-- A wiring, a milling and drops are printed as they are answered.
pub asked : {A : Type 0} (print : A → List ℕ) (answer : A) (old : List ℕ) {n : ℕ} {new : List ℕ} {a : A} → a ≡ answer
    → Holds answer_bytes (print a) old n new → Holds answer_bytes (print answer) old n new
asked print answer old e h = rw (← e) h

-- The first of many equal bytes.
first_same : (n m b : ℕ) → n ≤ m → take n (replicate m b) ≡ replicate n b
first_same zero m b h = refl
first_same (suc n) zero b h = absurd (omega arith)
first_same (suc n) (suc m) b h = ap (λ (l : List ℕ). b ∷ l) (first_same n m b (omega arith))

-- So many bytes of the most room are what a call is lent that room.
pub lent_first : (n : ℕ) {l : List ℕ} → l ≡ lent_bytes most_room → n ≤ most_room → take n l ≡ lent_bytes n
lent_first n e h = ap (take n) e ∙ first_same n most_room 0xEE h
