-- What is taken in of a window into which no byte came, by whether a line was begun. Assumes nothing.
use Rattle.std.proofs.Common.{◌≡◌, ℕ, ◌==◌, Bool, true, false, not, List, length, set, sym, refl, eq-eqb}
use mir.Val.{bool_byte}
use Rattle.basics.specs.Tests.{choose}
use Rattle.play.specs.Log.{bytes_heard, window_heard}

-- Where a line was begun, the newline that it lacks is taken in, and else nothing.
pub ended_by : (line : List ℕ) {came : ℕ} (none : Bool) → came ≡ 0 → none ≡ (length line == 0) → bool_byte (not none) ≡ bytes_heard came line
unfolding choose
ended_by line {came} true e h = rw (eq-eqb came 0 e, sym h) refl
ended_by line {came} false e h = rw (eq-eqb came 0 e, sym h) refl

-- In both cases the window begins with that newline.
pub ended_window : (window : List ℕ) {came : ℕ} → came ≡ 0 → set window 0 10 ≡ window_heard came window
unfolding choose
ended_window window {came} e = rw (eq-eqb came 0 e)
