-- A writing or a moving that was read is lent no more than the most room. Assumes nothing.
use mathlib.Core.Path.{◌≡◌, refl}
use mathlib.Core.Bool.{Bool, true, false}
use mathlib.Core.List.{List}
use Prim.Native.Nat.{ℕ, ◌≤◌}
use lib.Dec.{eqb}
use lib.ListN.{length}
use Rattle.basics.specs.Tests.{both, choose}
use Rattle.basics.proofs.Tests.{both_left, both_right}
use Rattle.text.specs.Text.{most_room}
use Rattle.text.specs.Words.{word}
use Rattle.text.specs.Numbers.{most_job, is_number, is_map}
use Rattle.text.proofs.Values.{number_top}
use Rattle.script.specs.Said.{only, number_in, is_pair, seat_call, pair_call, place_call, move_call, open_call, moving_call, lending_call, bare_call, drops_call, said_as, call_in, is_skipped, said_in, is_long, words_in, said_by}
use Rattle.script.specs.declared.Said.{Said}
use Rattle.pinmap.specs.declared.Form.{Form}

-- The room of a writing or of a moving is at most the most room.
unfoldable Fits : Said → Type 0
Fits Said.Skip = Unit {0}
Fits Said.NotACall = Unit {0}
Fits (Said.Open s job form) = Unit {0}
Fits (Said.Close s) = Unit {0}
Fits (Said.Place s p at net part) = Unit {0}
Fits (Said.Move s p to) = Unit {0}
Fits (Said.Remove s p) = Unit {0}
Fits (Said.Undo s) = Unit {0}
Fits (Said.Redo s) = Unit {0}
Fits (Said.Write s room) = room ≤ most_room
Fits (Said.Wire s net room) = Unit {0}
Fits (Said.Mill s net room) = Unit {0}
Fits (Said.Bare room) = Unit {0}
Fits (Said.Drops s net) = Unit {0}
Fits (Said.Moved to job room) = room ≤ most_room
Fits (Said.Pins s) = Unit {0}

-- What holds of both sides of a choice holds of it,
chosen : (P : Said → Type 0) {p q : Said} (t : Bool) → P p → P q → P (choose t p q)
unfolding choose
chosen P true h k = h
chosen P false h k = k

-- and what holds of no call, and of a call once its words pass, holds of the two joined.
passed : (P : Said → Type 0) {p : Said} → P Said.NotACall → (t : Bool) → (t ≡ true → P p) → P (only t p)
unfolding only choose
passed P n true h = h refl
passed P n false h = n

-- The second number of a pair is in its range.
pair_top : (top : ℕ) (words : List (List ℕ)) → is_pair top words ≡ true → number_in 2 words ≤ top
unfolding is_pair
pair_top top words h = number_top top (word 2 words) (both_right _ _ (both_right _ _ h))

-- So is the second number of a moving.
moving_top : (words : List (List ℕ))
    → both (eqb (length words) 4) (both (is_number most_job (word 1 words)) (both (is_number most_room (word 2 words)) (is_map (word 3 words)))) ≡ true
    → number_in 2 words ≤ most_room
moving_top words h = number_top most_room (word 2 words) (both_left _ _ (both_right _ _ (both_right _ _ h)))

-- It holds of what any words say by the calls that there are,
call_fits : (words : List (List ℕ)) → Fits (call_in words)
unfolding call_in said_as open_call seat_call place_call move_call pair_call lending_call bare_call drops_call moving_call Fits
call_fits words =
    chosen Fits _ (passed Fits tt _ (λ h. tt))
    (chosen Fits _ (passed Fits tt _ (λ h. tt))
    (chosen Fits _ (passed Fits tt _ (λ h. tt))
    (chosen Fits _ (passed Fits tt _ (λ h. tt))
    (chosen Fits _ (passed Fits tt _ (λ h. tt))
    (chosen Fits _ (passed Fits tt _ (λ h. tt))
    (chosen Fits _ (passed Fits tt _ (λ h. tt))
    (chosen Fits _ (passed Fits tt _ (λ h. pair_top most_room words h))
    (chosen Fits _ (passed Fits tt _ (λ h. tt))
    (chosen Fits _ (passed Fits tt _ (λ h. tt))
    (chosen Fits _ (passed Fits tt _ (λ h. tt))
    (chosen Fits _ (passed Fits tt _ (λ h. tt))
    (chosen Fits _ (passed Fits tt _ (λ h. moving_top words h))
    (chosen Fits _ (passed Fits tt _ (λ h. moving_top words h)) (chosen Fits _ (passed Fits tt _ (λ h. tt)) tt))))))))))))))

-- and of what any line says.
line_fits : (line : List ℕ) → Fits (said_by line)
unfolding said_by said_in Fits
line_fits line = chosen Fits (is_long line) tt (chosen Fits (is_skipped (word 0 (words_in line))) tt (call_fits (words_in line)))

-- So the room of a writing is within the most that a call lends,
pub write_room : (line : List ℕ) {o : Said} {s room : ℕ} → o ≡ said_by line → o ≡ Said.Write s room → room ≤ most_room
unfolding Fits
write_room line e f = rw (← e, f) at (line_fits line)

-- and so is that of a moving.
pub moving_room : (line : List ℕ) {o : Said} {to : Form} {job room : ℕ} → o ≡ said_by line → o ≡ Said.Moved to job room → room ≤ most_room
unfolding Fits
moving_room line e f = rw (← e, f) at (line_fits line)
