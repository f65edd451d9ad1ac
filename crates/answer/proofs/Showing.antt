-- What `pins SEAT` prints, by what is found at the seat and what the row of 28, 1 and 2 says of it. Assumes nothing.
use mathlib.Core.Path.{◌≡◌, sym, ap, ◌∙◌}
use mathlib.Core.Bool.{true, false}
use mathlib.Core.List.{List}
use Prim.Native.Nat.{ℕ, ◌≤◌}
use native.Mathlib.Omega.{arith}
use Rattle.refusal.specs.Refusals.{accepted}
use Rattle.refusal.specs.Rows.{first_of}
use Rattle.refusal.specs.Refusals.{Verdict}
use Rattle.basics.proofs.Tests.{choose_yes, choose_no}
use Rattle.journal.specs.Journal.{most_records}
use Rattle.seats.specs.Seats.{taken_back_count}
use Rattle.rows.specs.declared.Found.{Found}
use Rattle.rows.specs.Calls.{closing}
use Rattle.rows.specs.Found.{naming_found}
use Rattle.desk.specs.declared.Desk.{Desk}
use Rattle.desk.specs.Desk.{seat_of, edits_of, naming_at, answer_of}
use Rattle.text.specs.Text.{answer_bytes, Holds}
use Rattle.desk.proofs.Sound.{used_within}
use Rattle.desk.proofs.Found.{found_at, found_answer, found_sound, found_seat}
use Rattle.text.proofs.Printing.{held}
use Rattle.printed.specs.Answers.{most_line_bytes, verdict_line, closed_line}
use Rattle.shown.specs.Shown.{drawn_text}
use Rattle.answer.specs.Answered.{is_not_open, seat_text}

module _ (d : Desk) (s : ℕ) {f : Found} (g : f ≡ found_at d s) {v : Verdict} (e : v ≡ first_of (naming_found f)) where
  -- The row says the same of what is found as of the desk.
  row_same : first_of (naming_at d s) ≡ v
  unfolding answer_of
  row_same = found_answer d (closing s) g e

  module _ (y : accepted v ≡ true) where
    -- Accepted, the records in use are at most 256.
    pub few_used : d.journal.used ≤ most_records
    few_used = used_within d (found_sound d (closing s) g e y)

  module _ (old : List ℕ) {n : ℕ} {new : List ℕ} where
    -- A seat that is not open: `closed`.
    pub pins_closed : is_not_open v ≡ true → Holds most_line_bytes closed_line old n new → Holds answer_bytes (seat_text d s) old n new
    unfolding seat_text
    pins_closed c h = held old most_line_bytes (omega arith) (sym (choose_yes closed_line _ (ap is_not_open row_same ∙ c))) h

    module _ (c : is_not_open v ≡ false) where
      -- Another refusal: its line.
      pub pins_refused : accepted v ≡ false → Holds most_line_bytes (verdict_line v) old n new → Holds answer_bytes (seat_text d s) old n new
      unfolding seat_text
      pins_refused y h =
          let q : seat_text d s ≡ verdict_line v =
          choose_no _ _ (ap is_not_open row_same ∙ c) ∙ choose_no _ _ (ap accepted row_same ∙ y) ∙ ap verdict_line row_same in
          held old most_line_bytes (omega arith) (sym q) h

      -- A drawing: its job, its pins, and how many edits stand and are taken back.
      pub pins_drawn : {taken : ℕ} → accepted v ≡ true → taken ≡ taken_back_count f.state (edits_of d s)
          → Holds answer_bytes (drawn_text f.state.job f.state.pins f.state.standing taken) old n new
          → Holds answer_bytes (seat_text d s) old n new
      unfolding seat_text
      pins_drawn {taken} y o h =
          let same : f.state ≡ seat_of d s = found_seat d (closing s) g e y in
          let q : seat_text d s ≡ drawn_text f.state.job f.state.pins f.state.standing taken =
          choose_no _ _ (ap is_not_open row_same ∙ c) ∙ choose_yes _ _ (ap accepted row_same ∙ y) ∙ rw (o, same) in
          held old answer_bytes (omega arith) (sym q) h
