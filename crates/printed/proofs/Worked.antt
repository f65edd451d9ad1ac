-- Answers of each kind printed, by the definitions alone. Assumes nothing.
use mathlib.Core.Path.{◌≡◌, refl}
use mathlib.Core.Bool.{true, false}
use mathlib.Core.List.{[], ◌∷◌, ◌++◌}
use lib.IntN.{pos, negsuc}
use lib.Ieee.{nan, inf, fin, to_bits}
use Rattle.basics.specs.Tests.{choose}
use Rattle.refusal.specs.Refusals.{accepted}
use Rattle.refusal.specs.declared.Refusal.TheVariants.{MapLength, OtherJob, OutOfRange}
use Rattle.std.specs.Prelude.{Ok, Err}
use Rattle.text.specs.Text.{text, text_for_each}
use Rattle.text.specs.Digits.{digits, integer, place_text, hex_digit, hex, float_text}
use Rattle.printed.specs.Answers.{carried_text, told_line, verdict_line, hex_part, written_line, wired_line, milled_line, job_line, run_line, leg_line, closed_line, drawing_line, pin_line, drop_text, drops_line, lost_line, not_a_call_line}

-- Answers of each kind.
pub printed :
    not_a_call_line 5 ++ verdict_line (Ok tt) ++ verdict_line (Err MapLength) ++ verdict_line (Err (OtherJob 2)) ++ written_line 0 []
    ++ written_line 12 (0 ∷ 9 ∷ 255 ∷ 238 ∷ []) ++ wired_line 80000 1 2 4 ++ milled_line 62 ++ job_line 7 160 2 5 ++ run_line 0 31 (text "lower")
    ++ leg_line (text "leg ") (record { x = negsuc 19999; y = pos 0 }) (record { x = pos 2147483647; y = negsuc 2147483647 })
    ++ leg_line (text "segment ") (record { x = pos 0; y = negsuc 39 }) (record { x = pos 0; y = pos 40 }) ++ closed_line
    ++ drawing_line 65535 32 0 256 ++ pin_line 31 (record { x = pos 10; y = negsuc 0 }) 8 4294967295
    ≡ text "line 5: not a call\n0\nrefused 13\nrefused 14 record 2\n0 0\n0 12 0009ffee\n0 length 80000 runs 1 legs 2 weighed 4\n"
    ++ text "0 segments 62\njob 7 length 160 runs 2 weighed 5\n0 31 lower\nleg -20000 0 2147483647 -2147483648\nsegment 0 -40 0 40\nclosed\n"
    ++ text "job 65535 pins 32 standing 0 taken 256\npin 31 10 -1 8 4294967295\n"
unfolding choose digits integer place_text hex_digit hex carried_text told_line hex_part written_line wired_line milled_line job_line run_line leg_line drawing_line pin_line not_a_call_line
printed = refl

-- Drops: 0, 12, -0, the least above 0, an infinity and a NaN; and drops that are refused.
pub printed_drops :
    lost_line
    (record {
      verdict = Ok tt;
      drops = fin false 0 (pos 0) ∷ fin false 3 (pos 2) ∷ fin true 0 (pos 0) ∷ fin false 1 (negsuc 148) ∷ inf true ∷ nan ∷ [];
    })
    ++ lost_line (record { verdict = Err OutOfRange; drops = [] })
    ≡ text "0 00000000 41400000 80000000 00000001 ff800000 7fc00000\nrefused 20\n"
unfolding choose accepted digits to_bits hex_digit hex float_text text_for_each carried_text told_line drop_text drops_line lost_line
printed_drops = refl
