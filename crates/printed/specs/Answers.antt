-- How answers are printed: each line with its newline.
use Rattle.std.specs.Prelude.{List, [], ◌∷◌, ◌++◌, ℕ, eqb, take, Float, Option, None, Some}
use Rattle.basics.specs.Tests.{choose}
use Rattle.refusal.specs.Refusals.{accepted, told_of}
use Rattle.refusal.specs.Refusals.{Verdict}
use Rattle.refusal.specs.declared.Told.{Told}
use Rattle.board.specs.declared.Place.{Place}
use Rattle.drops.specs.declared.Lost.{Lost}
use Rattle.text.specs.Text.{text, text_for_each, most_room}
use Rattle.text.specs.Digits.{field, place_text, hex, float_text}

-- The line of an answer, but that of a writing or of drops, has at most so many bytes.
abbrev pub most_line_bytes : ℕ
most_line_bytes = 200

-- The line of a run has at most so many bytes.
abbrev pub most_run_bytes : ℕ
most_run_bytes = 51

-- The word of a shape, or `leg` or `segment` with the space after it, has at most so many bytes.
abbrev pub most_word_bytes : ℕ
most_word_bytes = 8

-- The line of a leg or of a segment has at most so many bytes.
abbrev pub most_leg_bytes : ℕ
most_leg_bytes = 96

-- The line of a pin has at most so many bytes.
abbrev pub most_pin_bytes : ℕ
most_pin_bytes = 111

-- What a refusal carries has at most so many bytes.
abbrev pub most_carried_bytes : ℕ
most_carried_bytes = 30

-- A lent buffer in hex, a space before it, has at most so many bytes.
abbrev pub most_hex_bytes : ℕ
most_hex_bytes = 2049

-- A drop has so many bytes.
abbrev pub most_drop_bytes : ℕ
most_drop_bytes = 9

-- What a refusal carries: nothing, or ` record R`.
unfoldable pub carried_text : Option ℕ → List ℕ
carried_text None = []
carried_text (Some r) = field " record " r

-- `0` where a call is accepted; `refused N`, or `refused N record R`.
unfoldable pub told_line : Told → List ℕ
told_line t = choose (eqb t.number 0) (text "0\n") (field "refused " t.number ++ carried_text t.carried ++ text "\n")

-- The line of a verdict.
abbrev pub verdict_line : Verdict → List ℕ
verdict_line v = told_line (told_of v)

-- A space and bytes in hex; nothing where there are none.
unfoldable pub hex_part : List ℕ → List ℕ
hex_part [] = []
hex_part (b ∷ rest) = text " " ++ hex (b ∷ rest)

-- An accepted writing: `0 BYTES HEX`, HEX the lent buffer (a call lends at most 1,024 bytes, and no more are printed); with room 0 the line ends after BYTES.
unfoldable pub written_line : ℕ → List ℕ → List ℕ
written_line bytes buffer = field "0 " bytes ++ hex_part (take most_room buffer) ++ text "\n"

-- An accepted wiring: `0 length L runs R legs G weighed W`.
unfoldable pub wired_line : ℕ → ℕ → ℕ → ℕ → List ℕ
wired_line length runs legs weighed =
    field "0 length " length ++ field " runs " runs ++ field " legs " legs ++ field " weighed " weighed ++ text "\n"

-- An accepted milling: `0 segments N`.
unfoldable pub milled_line : ℕ → List ℕ
milled_line segments = field "0 segments " segments ++ text "\n"

-- An accepted wiring of a map: `job J length L runs R weighed W`.
unfoldable pub job_line : ℕ → ℕ → ℕ → ℕ → List ℕ
job_line job length runs weighed =
    field "job " job ++ field " length " length ++ field " runs " runs ++ field " weighed " weighed ++ text "\n"

-- A run: `near far shape`.
unfoldable pub run_line : ℕ → ℕ → List ℕ → List ℕ
run_line near far shape = field "" near ++ field " " far ++ text " " ++ shape ++ text "\n"

-- A leg or a segment, after its word: `leg AX AY BX BY`, `segment AX AY BX BY`.
unfoldable pub leg_line : List ℕ → Place → Place → List ℕ
leg_line word a b = place_text word a ++ place_text (text " ") b ++ text "\n"

-- A seat that is not open: `closed`.
abbrev pub closed_line : List ℕ
closed_line = text "closed\n"

-- A drawing: `job J pins N standing S taken T`.
unfoldable pub drawing_line : ℕ → ℕ → ℕ → ℕ → List ℕ
drawing_line job pins standing taken =
    field "job " job ++ field " pins " pins ++ field " standing " standing ++ field " taken " taken ++ text "\n"

-- A pin of a drawing: `pin P X Y NET PART`.
unfoldable pub pin_line : ℕ → Place → ℕ → ℕ → List ℕ
pin_line pin place net part = field "pin " pin ++ place_text (text " ") place ++ field " " net ++ field " " part ++ text "\n"

-- A drop: a space and the bits of an f32 as eight hex digits.
unfoldable pub drop_text : Float → List ℕ
drop_text x = text " " ++ float_text x

-- Accepted drops: `0`, then each of them, by pin number.
unfoldable pub drops_line : List Float → List ℕ
drops_line drops = text "0" ++ text_for_each drop_text drops ++ text "\n"

-- The answer of a call that asks for drops; where it is refused, the line of its verdict.
unfoldable pub lost_line : Lost → List ℕ
lost_line lost = choose (accepted lost.verdict) (drops_line lost.drops) (verdict_line lost.verdict)

-- What is not a call: `line K: not a call`.
unfoldable pub not_a_call_line : ℕ → List ℕ
not_a_call_line k = field "line " k ++ text ": not a call\n"
