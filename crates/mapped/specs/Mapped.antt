-- The program wiremap: the job of a map, and what is printed for it.
use Rattle.std.specs.Prelude.{List, [], ◌∷◌, ℕ}
use Rattle.basics.specs.Tests.{choose}
use Rattle.refusal.specs.Refusals.{accepted}
use Rattle.pinmap.specs.declared.Form.TheVariants.{Old}
use Rattle.records.specs.Record.{job_at}
use Rattle.rows.specs.Calls.{opening}
use Rattle.desk.specs.declared.Answered.{Answered}
use Rattle.desk.specs.Desk.{empty_desk, step}
use Rattle.asked.specs.Asked.{wired_of}
use Rattle.copper.specs.declared.Favour.{Favour}
use Rattle.wiring.specs.declared.Wiring.{Wiring}
use Rattle.laying.specs.Entries.{most_legs}
use Rattle.printed.specs.Answers.{verdict_line}
use Rattle.shown.specs.Shown.{map_text}

-- The job in the first two bytes of a map. Empty input: job 1. A single byte is opened under job 1 too, and refused with 13.
unfoldable pub job_of_map : List ℕ → ℕ
job_of_map [] = 1
job_of_map (b ∷ []) = 1
job_of_map (b ∷ c ∷ rest) = job_at (b ∷ c ∷ rest)

-- The program opens the map, in the old form, at seat 0 of the empty desk, under its job.
unfoldable pub opened_with : List ℕ → Answered
opened_with map = step empty_desk (opening 0 (job_of_map map) Old map)

-- And wires net 1, that of all its pins, with room for all legs and lower asked for.
unfoldable pub wired_with : List ℕ → Wiring
wired_with map = (wired_of (opened_with map).desk 0 1 most_legs Favour.Lower).answer.wiring

-- What it prints: the wiring, or the refusal of the wiring or of the opening.
unfoldable pub map_answer : List ℕ → List ℕ
map_answer map =
    choose (accepted (opened_with map).verdict) (map_text (job_of_map map) (wired_with map)) (verdict_line (opened_with map).verdict)

-- Of a longer input it is enough to read so many bytes: they, too, are more than a map has.
abbrev pub most_read : ℕ
most_read = 397
