-- Answers of several lines: a wiring with its runs and legs, a milling with its segments, the wiring of a map, and a drawing with its pins.
use Rattle.std.specs.Prelude.{List, [], ◌∷◌, ◌++◌, ℕ, suc, take}
use Rattle.basics.specs.Sums.{how_many}
use Rattle.basics.specs.Tests.{choose}
use Rattle.refusal.specs.Refusals.{accepted}
use Rattle.drawing.specs.Pins.{Pin}
use Rattle.std.specs.Prelude.{None, Some}
use Rattle.drawing.specs.Pins.{is_there}
use Rattle.copper.specs.declared.Shape.{Shape}
use Rattle.copper.specs.declared.Shape.TheVariants.{Straight, Lower, Upper}
use Rattle.copper.specs.declared.Leg.{Leg}
use Rattle.laying.specs.declared.RunEntry.{RunEntry}
use Rattle.wiring.specs.declared.Wiring.{Wiring}
use Rattle.wiring.specs.declared.Laid.{Laid}
use Rattle.mill.specs.declared.Milling.{Milling}
use Rattle.mill.specs.declared.Cut.{Cut}
use Rattle.text.specs.Text.{text, text_for_each}
use Rattle.printed.specs.Answers.{verdict_line, wired_line, milled_line, job_line, run_line, leg_line, drawing_line, pin_line}

-- The word of a shape.
abbrev pub shape_word : Shape → List ℕ
shape_word Straight = text "straight"
shape_word Lower = text "lower"
shape_word Upper = text "upper"

-- The line of a run: near, far, shape.
unfoldable pub entry_line : RunEntry → List ℕ
entry_line run = run_line run.near run.far (shape_word run.shape)

-- A line for each run.
abbrev pub runs_text : List RunEntry → List ℕ
runs_text runs = text_for_each entry_line runs

-- The line of a leg or of a segment: its word, and its two ends.
unfoldable pub leg_text : List ℕ → Leg → List ℕ
leg_text word leg = leg_line word leg.from leg.to

-- A line for each leg or segment.
abbrev pub legs_text : List ℕ → List Leg → List ℕ
legs_text word legs = text_for_each (leg_text word) legs

-- The line of a pin that is there; none for one that is not.
unfoldable pub pin_text : ℕ → Pin → List ℕ
pin_text number None = []
pin_text number (Some held) = pin_line number held.place held.net held.part

-- A line for each pin that is there, numbered from the given number on.
unfoldable pub pins_text : ℕ → List Pin → List ℕ
pins_text number [] = []
pins_text number (pin ∷ rest) = pin_text number pin ++ pins_text (suc number) rest

-- How many pins are there.
abbrev pub pins_there : List Pin → ℕ
pins_there pins = how_many is_there pins

-- An accepted wiring: its line, its runs, its legs.
unfoldable pub wired_text : Wiring → List Leg → List ℕ
wired_text wiring legs =
    wired_line wiring.length wiring.runs wiring.legs wiring.weighed
    ++ runs_text (take wiring.runs wiring.entries)
    ++ legs_text (text "leg ") (take wiring.legs legs)

-- The answer of a wiring with its legs; where it is refused, the line of its verdict alone.
unfoldable pub laid_text : Laid → List ℕ
laid_text laid =
    choose (accepted laid.wiring.verdict) (wired_text laid.wiring laid.list) (verdict_line laid.wiring.verdict)

-- An accepted milling: its line, its segments.
unfoldable pub milled_text : Milling → List Leg → List ℕ
milled_text milling list = milled_line milling.segments ++ legs_text (text "segment ") (take milling.segments list)

-- The answer of a milling with its segments; where it is refused, the line of its verdict alone.
unfoldable pub cut_text : Cut → List ℕ
cut_text cut = choose (accepted cut.milling.verdict) (milled_text cut.milling cut.list) (verdict_line cut.milling.verdict)

-- An accepted wiring of a map: its line and its runs.
unfoldable pub job_text : ℕ → Wiring → List ℕ
job_text job wiring =
    job_line job wiring.length wiring.runs wiring.weighed ++ runs_text (take wiring.runs wiring.entries)

-- The answer of the wiring of a map; where it is refused, the line of its verdict alone.
unfoldable pub map_text : ℕ → Wiring → List ℕ
map_text job wiring = choose (accepted wiring.verdict) (job_text job wiring) (verdict_line wiring.verdict)

-- A drawing: its line, then its pins from pin 0 on.
unfoldable pub drawn_text : ℕ → List Pin → ℕ → ℕ → List ℕ
drawn_text job pins standing taken = drawing_line job (pins_there pins) standing taken ++ pins_text 0 pins
