-- Lines of each kind read, by the definitions alone. Assumes nothing.
use mathlib.Core.Path.{◌≡◌, refl}
use mathlib.Core.Bool.{true, false}
use mathlib.Core.List.{List, [], ◌∷◌, ◌++◌}
use Prim.Native.String.{String}
use lib.IntN.{pos, negsuc}
use lib.Ieee.{nan, inf, fin, of_bits}
use lib.ListN.{replicate}
use Rattle.basics.specs.Tests.{both, either, choose, each_of}
use Rattle.copper.specs.declared.Favour.{Favour}
use Rattle.pinmap.specs.declared.Form.TheVariants.{Old, New}
use Rattle.loads.specs.declared.Load.TheVariants.{Amps, Watts, Spare}
use Rattle.loads.specs.Loads.{hundredth}
use Rattle.text.specs.Text.{text, same}
use Rattle.text.specs.Words.{end_of, before_first, pieces, non_empty, words_of}
use Rattle.text.specs.Numbers.{between, value_from, is_number, has_minus, is_coordinate, signed, listed, is_row_of, is_list, is_hex, hex_value, all_pairs, bytes_of, is_spelled, is_map, spelled, is_bits, hex_from, float_of}
use Rattle.script.specs.Said.{only, is_seat_alone, is_pair, is_placing, seat_call, pair_call, place_call, move_call, favour_in, ends_in_favour, is_form, form_in, open_call, moving_call, is_lending, lending_call, bare_call, drops_call, said_as, call_in, is_skipped, said_in, is_long, said_by, map_given, xs_given, ys_given, favour_given, sheet_given, loads_given}
use Rattle.script.specs.Loads.{begins_with, is_load, load_of, is_loads, loads_listed, all_spare, loads_in}
use Rattle.script.specs.declared.Said.{Said}

-- What lines say.
unfoldable pub said_by_each : List String → List Said
said_by_each [] = []
said_by_each (line ∷ rest) = said_by (text line) ∷ said_by_each rest

-- Lines of each kind of call, numbers and words spaced and written in several ways.
pub each_call :
    said_by_each
    ("open 00 0007 old -" ∷ "open 1 9 new 0009fF" ∷ "close 7" ∷ "  place   0 0 -0 007 9  00  " ∷ "move 3 31 -5 12" ∷ "remove 0 4294967295"
    ∷ "undo 0" ∷ "redo 0\r" ∷ "write 1 1024" ∷ "wire 1 0 64" ∷ "wire 2 8 0 lower" ∷ "wire 3 4294967295 62  upper "
    ∷ "mill 0 1 00064" ∷ "mill 4294967295 2 0 lower" ∷ "mill 1 03 5 upper\r" ∷ "bare 64 0,-0 1,002" ∷ "bare 0 - 5" ∷ "bare 1 5 - upper"
    ∷ "drops 0 1 41400000 3C23d70a -" ∷ "drops 4294967295 9 7fc00000 ffFFffFF a3f800000,w42c80000,s" ∷ "over 65535 1024 0009fF" ∷ "back 0 00 -"
    ∷ "pins 8" ∷ [])
    ≡ Said.Open 0 7 Old
    ∷ Said.Open 1 9 New
    ∷ Said.Close 7
    ∷ Said.Place 0 0 (record { x = pos 0; y = pos 7 }) 9 0
    ∷ Said.Move 3 31 (record { x = negsuc 4; y = pos 12 })
    ∷ Said.Remove 0 4294967295
    ∷ Said.Undo 0
    ∷ Said.Redo 0
    ∷ Said.Write 1 1024
    ∷ Said.Wire 1 0 64
    ∷ Said.Wire 2 8 0
    ∷ Said.Wire 3 4294967295 62
    ∷ Said.Mill 0 1 64
    ∷ Said.Mill 4294967295 2 0
    ∷ Said.Mill 1 3 5
    ∷ Said.Bare 64
    ∷ Said.Bare 0
    ∷ Said.Bare 1
    ∷ Said.Drops 0 1
    ∷ Said.Drops 4294967295 9
    ∷ Said.Moved New 65535 1024
    ∷ Said.Moved Old 0 0
    ∷ Said.Pins 8
    ∷ []
unfolding said_by_each both either choose same end_of before_first pieces non_empty words_of between each_of value_from is_number has_minus is_coordinate signed
    is_row_of is_list is_bits begins_with is_load is_loads is_hex all_pairs is_spelled is_map only is_seat_alone is_pair is_placing seat_call pair_call place_call move_call ends_in_favour
    is_form form_in open_call moving_call is_lending lending_call bare_call drops_call said_as call_in is_skipped said_in is_long said_by
each_call = refl

-- What such lines give: the bytes of a map, x and y, and the shape to favour.
pub given :
    (map_given 4 (text "open 1 9 new 0009fF\r") ≡ 0 ∷ 9 ∷ 255 ∷ []) × (map_given 3 (text "over 0007 0 -") ≡ [])
    × (xs_given (text "bare 64 0,-7 -") ≡ pos 0 ∷ negsuc 6 ∷ []) × (ys_given (text "bare 64 0,-7 -") ≡ [])
    × (favour_given (text "wire 1 1 64") ≡ Favour.Unsaid) × (favour_given (text "wire 1 1 64 lower\r") ≡ Favour.Lower)
    × (favour_given (text "bare 64 - - upper") ≡ Favour.Upper)
unfolding both either choose end_of before_first pieces non_empty words_of between each_of value_from is_number has_minus is_coordinate signed is_row_of
    listed is_hex hex_value all_pairs bytes_of is_spelled spelled same favour_in map_given xs_given ys_given favour_given
given = (refl, refl, refl, refl, refl, refl, refl)

-- What a line gives that asks for drops: 12 volts and 0.01 ohms per step, an amp and 100 watts; an infinity and a NaN, and 32 loads that are spare.
pub given_for_drops :
    (sheet_given (text "drops 0 1 41400000 3C23d70a a3f800000,w42c80000,s\r") ≡ record { volts = fin false 3 (pos 2); ohms = hundredth })
    × (loads_given (text "drops 0 1 41400000 3C23d70a a3f800000,w42c80000,s\r")
    ≡ Amps (fin false 1 (pos 0)) ∷ Watts (fin false 25 (pos 2)) ∷ replicate 30 Spare)
    × (sheet_given (text "drops 0 1 ff800000 ffc12345 -") ≡ record { volts = inf true; ohms = nan })
    × (loads_given (text "drops 0 1 ff800000 ffc12345 -") ≡ replicate 32 Spare)
unfolding both either choose same end_of before_first pieces non_empty words_of between each_of is_hex hex_value is_row_of is_bits hex_from float_of
    of_bits begins_with is_load load_of loads_listed all_spare loads_in sheet_given loads_given
given_for_drops = (refl, refl, refl, refl)

-- What is no call: signs where none may stand, numbers out of range, words missing, over or unknown, a word that is no shape to favour or no form,
-- tabs, wrong, odd, missing or too few hex digits, lists with a gap, a capital before amps, 33 loads.
pub no_calls :
    said_by_each
    ("place 0 1 +5 0 1 0" ∷ "place 0 1 - 0 1 0" ∷ "place 0 1 --5 0 1 0" ∷ "place -0 1 5 0 1 0"
    ∷ "place 0 2 99999999999999999999999999999999 0 1 0" ∷ "place 0 2 2147483648 0 1 0" ∷ "place 0 2 0 -2147483649 1 0"
    ∷ "place 4294967296 2 0 0 1 0" ∷ "place 0 2 0 0" ∷ "place 0 2 0 0 1" ∷ "place 0 2 0 0 -1 0" ∷ "place 0 2 0 0 1 4294967296" ∷ "place 0 2 0 0 1 0 0"
    ∷ "move 0 2 0 0 1 0" ∷ "open 2 65536 old -" ∷ "undo 0 # x" ∷ "undo" ∷ "Undo 0" ∷ "\t" ∷ "place\t0 3 0 1 1 0"
    ∷ "open 1 9 old 0009Ff0" ∷ "open 1 9 new 0g" ∷ "open 1 9 new --" ∷ "open 1 9 -" ∷ "open 1 9 Old -" ∷ "open 1 9 - old" ∷ "write 2 1025"
    ∷ "wire 1 64" ∷ "wire 1 1 65" ∷ "wire 1 4294967296 64"
    ∷ "wire 1 1 64 Lower" ∷ "wire 1 1 64 straight" ∷ "wire 1 1 64 lower upper" ∷ "wire 1 1 upper" ∷ "mill 1" ∷ "mill 1 1 65" ∷ "mill -0 1 64" ∷ "mill 1 1 -"
    ∷ "mill 1 1 64 straight" ∷ "mill 1 1 64 lower lower" ∷ "Mill 1 1 64" ∷ "bare 64 - - -" ∷ "bare 64 1,,2 1,2,3"
    ∷ "bare 64 1, 2" ∷ "bare 64 , ," ∷ "bare 64 -,1 1,2" ∷ "bare 65 - -" ∷ "drops 0 41400000 3c23d70a -" ∷ "drops 0 1 4140000 3c23d70a -"
    ∷ "drops 0 1 41400000 3c23d70g -" ∷ "drops 0 1 41400000 3c23d70a A3f800000" ∷ "drops 0 1 41400000 3c23d70a a3f80000" ∷ "drops 0 1 41400000 3c23d70a s,"
    ∷ "drops 0 1 41400000 3c23d70a s0" ∷ "drops 0 1 41400000 3c23d70a s,s,s,s,s,s,s,s,s,s,s,s,s,s,s,s,s,s,s,s,s,s,s,s,s,s,s,s,s,s,s,s,s"
    ∷ "over 65536 0 -" ∷ "over 1 1025 -" ∷ "back 1 0" ∷ "back 1 0 0" ∷ "back 1 0 - old" ∷ [])
    ≡ replicate 60 Said.NotACall
unfolding said_by_each both either choose same end_of before_first pieces non_empty words_of between each_of value_from is_number has_minus is_coordinate signed
    is_row_of is_list is_bits begins_with is_load is_loads is_hex all_pairs is_spelled is_map only is_seat_alone is_pair is_placing seat_call pair_call place_call move_call ends_in_favour
    is_form form_in open_call moving_call is_lending lending_call bare_call drops_call said_as call_in is_skipped said_in is_long said_by
no_calls = refl

-- Lines with no word, and remarks.
pub skipped :
    said_by_each
    ("" ∷ "   " ∷ "\r" ∷ "# undo 0" ∷ "  #undo 0" ∷ [])
    ≡ replicate 5 Said.Skip
unfolding said_by_each either choose end_of before_first pieces non_empty words_of is_skipped said_in is_long said_by
skipped = refl

-- The ends of the ranges, and leading zeros.
pub edges :
    said_by_each
    ("place 0 1 5 000000000000000000000000000000005 1 0" ∷ "place 0 2 -2147483648 2147483647 0 4294967295" ∷ "place 4294967295 2 0 0 4294967295 00" ∷ [])
    ≡ Said.Place 0 1 (record { x = pos 5; y = pos 5 }) 1 0
    ∷ Said.Place 0 2 (record { x = negsuc 2147483647; y = pos 2147483647 }) 0 4294967295
    ∷ Said.Place 4294967295 2 (record { x = pos 0; y = pos 0 }) 4294967295 0
    ∷ []
unfolding said_by_each both either choose same end_of before_first pieces non_empty words_of between each_of value_from is_number has_minus
    is_coordinate signed only is_placing place_call said_as call_in is_skipped said_in is_long said_by
edges = refl

-- A call on a line of 16,384 bytes,
pub longest : said_by (text "undo 0" ++ replicate 16378 32) ≡ Said.Undo 0
unfolding both either choose same end_of before_first pieces non_empty words_of between each_of value_from is_number only is_seat_alone seat_call said_as call_in is_skipped said_in is_long said_by
longest = refl

-- and one byte more, which is not a call.
pub too_long : said_by (text "undo 0" ++ replicate 16379 32) ≡ Said.NotACall
unfolding choose end_of is_long said_by
too_long = refl
