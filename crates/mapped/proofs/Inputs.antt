-- What is printed for input of any length: empty, a single byte, two bytes of zero at the front, too long for a map; and that its first
-- 397 bytes decide. Assumes nothing.
use mathlib.Core.Path.{◌≡◌, refl, sym, ◌∙◌, ap}
use mathlib.Core.Bool.{Bool, true, false}
use mathlib.Core.List.{List, [], ◌∷◌}
use mathlib.Core.Logic.{◌⊎◌, inl, inr}
use Prim.Native.Nat.{ℕ, ◌≤◌, ◌<◌}
use native.Mathlib.Omega.{arith}
use lib.Dec.{eqb}
use lib.ListN.{length, take}
use lib.Seq.{take_all, length-take-le}
use borrow.Author.Tests.{lt-ltb, eqb-true}
use Rattle.basics.specs.Tests.{both, either, choose, any_of, each_of, no_two}
use Rattle.refusal.specs.Refusals.{accepted}
use Rattle.refusal.specs.Rows.{first_of}
use Rattle.refusal.specs.declared.Refusal.TheVariants.{JobZero, MapLength}
use Rattle.std.specs.Prelude.{Ok, Err}
use Rattle.board.specs.Spots.{spots_too_near, within}
use Rattle.drawing.specs.Pins.{lawful, has_net, is_net, is_of, feed_spot, feed_of, spot_of, spots_of}
use Rattle.tree.specs.Growth.{kept_if, pins_from, pins_of}
use Rattle.wiring.specs.Answer.{turned_away, wiring_with, wiring_favouring, wiring_of}
use Rattle.journal.specs.Journal.{own, filled, in_turn}
use Rattle.pinmap.specs.declared.Form.TheVariants.{Old}
use Rattle.pinmap.specs.Map.{most_bytes}
use Rattle.readmap.specs.Map.{records_in, with_pins_of, rows_from, wrong_length, read_map}
use Rattle.seats.specs.Seats.{same_job}
use Rattle.desk.specs.Desk.{job_of, sound_open, sound_closed, sound_seat, sound_to, sound, effect, answer_of, step, empty_desk}
use Rattle.asked.specs.Asked.{wired_of}
use Rattle.text.specs.Text.{text}
use Rattle.text.specs.Digits.{digits}
use Rattle.printed.specs.Answers.{carried_text, told_line, verdict_line}
use Rattle.board.proofs.Flat.{order}
use Rattle.shown.specs.Shown.{map_text}
use Rattle.mapped.specs.Mapped.{most_read, job_of_map, opened_with, wired_with, map_answer}
use Rattle.mapped.proofs.Opening.{opened, printed-refused}

-- Empty input is a drawing without pins: nothing to wire.
pub empty_input : map_answer [] ≡ text "refused 17\n"
unfolding job_of_map opened_with wired_with map_answer map_text told_line carried_text digits wired_of step effect answer_of same_job
    sound sound_to sound_seat sound_open sound_closed job_of empty_desk read_map wrong_length rows_from records_in with_pins_of own filled in_turn spots_too_near within lawful has_net is_net is_of feed_spot feed_of spot_of spots_of
    wiring_of wiring_favouring wiring_with turned_away pins_of pins_from kept_if accepted first_of both either choose any_of no_two each_of
empty_input = refl

-- A single byte is 13.
pub single_byte : (b : ℕ) → map_answer (b ∷ []) ≡ text "refused 13\n"
unfolding job_of_map wrong_length accepted first_of either choose told_line carried_text digits
single_byte b = printed-refused (b ∷ []) {v = Err MapLength} (opened (b ∷ [])) refl

-- Job 0 is 4, whatever follows.
job_zero : (input : List ℕ) → job_of_map input ≡ 0 → map_answer input ≡ verdict_line (Err JobZero)
unfolding first_of choose accepted
job_zero input e = printed-refused input {v = Err JobZero} (opened input ∙ rw e) refl

-- Two bytes of zero at the front give 4 at any length from two up, before 13.
pub two_zeros : (rest : List ℕ) → map_answer (0 ∷ 0 ∷ rest) ≡ text "refused 4\n"
unfolding job_of_map told_line carried_text digits choose
two_zeros rest = job_zero (0 ∷ 0 ∷ rest) refl

-- Under any other job more than 384 bytes are 13.
pub above_384 : (input : List ℕ) → eqb (job_of_map input) 0 ≡ false → most_bytes Old < length input → map_answer input ≡ text "refused 13\n"
unfolding first_of choose either accepted wrong_length told_line carried_text digits
above_384 input e h = printed-refused input {v = Err MapLength} (opened input ∙ rw (e, lt-ltb (most_bytes Old) (length input) h)) refl

-- The job is read from what is kept.
job_kept : (input : List ℕ) → job_of_map (take most_read input) ≡ job_of_map input
unfolding job_of_map
job_kept [] = refl
job_kept (b ∷ []) = refl
job_kept (b ∷ c ∷ rest) = refl

-- Input that is longer is answered as what is kept of it.
longer : (input : List ℕ) → most_read < length input → map_answer (take most_read input) ≡ map_answer input
longer input h = by (eqb (job_of_map input) 0) refl
  where
    by : (t : Bool) → eqb (job_of_map input) 0 ≡ t → map_answer (take most_read input) ≡ map_answer input
    by true e =
        let z : job_of_map input ≡ 0 = eqb-true (job_of_map input) 0 e in
        job_zero (take most_read input) (job_kept input ∙ z) ∙ sym (job_zero input z)
    by false e =
        above_384 (take most_read input) (ap (λ (j : ℕ). eqb j 0) (job_kept input) ∙ e) (omega (arith, length-take-le most_read input (omega arith)))
        ∙ sym (above_384 input e (omega arith))

-- CUTTING AN INPUT TO 397 BYTES DOES NOT CHANGE ITS ANSWER.
pub cut : (input : List ℕ) → map_answer (take most_read input) ≡ map_answer input
cut input = by (order (length input) most_read)
  where
    by : (length input ≤ most_read) ⊎ (most_read < length input) → map_answer (take most_read input) ≡ map_answer input
    by (inl h) = ap map_answer (take_all most_read input h)
    by (inr h) = longer input h
