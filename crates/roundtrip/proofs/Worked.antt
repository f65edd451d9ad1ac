-- Worked cases of the pin map in either form, each computed: D3, the empty map, the lengths at the limits, and the order of the refusals. Assumes nothing.
use mathlib.Core.Path.{◌≡◌, refl}
use mathlib.Core.Bool.{true}
use mathlib.Core.List.{List, [], ◌∷◌, ◌++◌}
use Prim.Native.Nat.{ℕ}
use lib.IntN.{pos, negsuc}
use lib.ListN.{replicate}
use Rattle.std.specs.Prelude.{Ok, Err, is_ok}
use Rattle.refusal.specs.declared.Refusal.TheVariants.{MapLength, OtherJob, FaultyRecord, RoomTooSmall}
use Rattle.basics.specs.Tests.{both, either, choose, any_of}
use Rattle.refusal.specs.Refusals.{accepted}
use Rattle.refusal.specs.Rows.{first_of}
use Rattle.pinmap.specs.Number.{bits_at, number_at, four_bytes, first_byte, second_byte, third_byte, fourth_byte}
use Rattle.board.specs.Place.{on_board, inside, difference, closer, too_near}
use Rattle.board.specs.Spots.{spots_too_near}
use Rattle.drawing.specs.Pins.{Pin, absent, there, holding, is_net, spot_of, spots_of, no_pins}
use Rattle.pinmap.specs.declared.Form.TheVariants.{Old, New}
use Rattle.records.specs.Record.{record_of, faulty}
use Rattle.writemap.specs.Record.{record_bytes, pin_bytes}
use Rattle.readmap.specs.Map.{records_in, with_pin_of, with_pins_of, rows_from, wrong_length, read_map, read_as}
use Rattle.writemap.specs.Map.{map_from, map_of, written, write_map, buffer_after}

-- Job 7, pin 0 at (20,-20), of a net and with a part number.
abbrev pin_of : ℕ → ℕ → List Pin
pin_of net part = there (holding (record { x = pos 20; y = negsuc 19 }) net part) ∷ replicate 31 absent

-- Of net 1, with part number 0.
abbrev one_pin : List Pin
one_pin = pin_of 1 0

-- It is written 00 07 00 00 00 00 00 14 FF FF FF EC.
abbrev one_record : List ℕ
one_record = 0 ∷ 7 ∷ 0 ∷ 0 ∷ 0 ∷ 0 ∷ 0 ∷ 20 ∷ 255 ∷ 255 ∷ 255 ∷ 236 ∷ []

-- A record of a job, a pin and a byte 3, at (x, 0) for an x below 256.
abbrev given : ℕ → ℕ → ℕ → ℕ → List ℕ
given job pin byte3 x = 0 ∷ job ∷ pin ∷ byte3 ∷ 0 ∷ 0 ∷ 0 ∷ x ∷ 0 ∷ 0 ∷ 0 ∷ 0 ∷ []

-- D3 is written with that record.
D3_written : map_of Old 7 one_pin ≡ one_record
unfolding map_of map_from pin_bytes record_bytes four_bytes first_byte second_byte third_byte fourth_byte
D3_written = refl

-- Read back, it is that pin.
D3_read : read_map Old one_record 7 ≡ read_as one_pin
unfolding read_map wrong_length either choose rows_from records_in with_pins_of record_of bits_at number_at faulty first_of accepted inside on_board both any_of
    spots_too_near spot_of spots_of with_pin_of
D3_read = refl

-- Written into a buffer of 14 bytes, it leaves the last two.
D3_buffer : buffer_after Old one_pin 7 (replicate 14 9) ≡ one_record ++ (9 ∷ 9 ∷ [])
unfolding buffer_after first_of accepted written choose map_of map_from pin_bytes record_bytes four_bytes first_byte second_byte third_byte fourth_byte
D3_buffer = refl

-- 12 bytes are written where there is room; with one byte too few it is 19, and the buffer stays.
D3_answer : (write_map Old one_pin 7 (replicate 14 9) ≡ Ok 12)
    × (write_map Old one_pin 7 (replicate 11 9) ≡ Err RoomTooSmall)
    × (buffer_after Old one_pin 7 (replicate 11 9) ≡ replicate 11 9)
unfolding write_map buffer_after first_of accepted written choose map_of map_from pin_bytes record_bytes four_bytes
    first_byte second_byte third_byte fourth_byte
D3_answer = (refl, refl, refl)

-- An empty map is a drawing without pins,
empty_read : read_map Old [] 7 ≡ read_as no_pins
unfolding read_map wrong_length either choose rows_from records_in with_pins_of first_of accepted
empty_read = refl

-- and a drawing without pins is written as no bytes.
empty_written : map_of Old 7 no_pins ≡ []
unfolding map_of map_from pin_bytes
empty_written = refl

-- 13 at the lengths 1, 11 and 396.
lengths : (read_map Old (7 ∷ []) 7 ≡ Err MapLength) × (read_map Old (replicate 11 0) 7 ≡ Err MapLength)
    × (read_map Old (replicate 396 0) 7 ≡ Err MapLength)
unfolding read_map wrong_length either first_of accepted choose
lengths = (refl, refl, refl)

-- 384 is looked at: its first record has another job.
longest : read_map Old (replicate 384 0) 7 ≡ Err (OtherJob 0)
unfolding read_map wrong_length either choose rows_from records_in with_pins_of record_of faulty first_of accepted
longest = refl

-- 14 before 15: a record with another job and a pin above 31 gives 14.
other_job_first : read_map Old (given 8 40 1 0) 7 ≡ Err (OtherJob 0)
unfolding read_map wrong_length either choose rows_from records_in with_pins_of record_of faulty first_of accepted
other_job_first = refl

-- The first faulty record is named: record 1 has a byte 3 that is not zero, record 2 another job.
first_faulty : read_map Old (given 7 0 0 0 ++ (given 7 1 5 60 ++ given 8 2 0 120)) 7 ≡ Err (FaultyRecord 1)
unfolding read_map wrong_length either choose rows_from records_in with_pins_of record_of bits_at number_at faulty first_of accepted inside on_board both any_of
    spots_too_near spot_of spots_of with_pin_of
first_faulty = refl

-- A pin that comes twice is 15.
not_ascending : read_map Old (given 7 3 0 0 ++ given 7 3 0 20) 7 ≡ Err (FaultyRecord 1)
unfolding read_map wrong_length either choose rows_from records_in with_pins_of record_of bits_at number_at faulty first_of accepted inside on_board both any_of
    spots_too_near spot_of spots_of with_pin_of
not_ascending = refl

-- A pin below the one before it is 15,
descending : read_map Old (given 7 3 0 0 ++ given 7 2 0 20) 7 ≡ Err (FaultyRecord 1)
unfolding read_map wrong_length either choose rows_from records_in with_pins_of record_of bits_at number_at faulty first_of accepted inside on_board both any_of
    spots_too_near spot_of spots_of with_pin_of
descending = refl

-- and so is a place that comes again, or one 19 steps from it; 20 steps are far enough.
close_pins : (read_map Old (given 7 3 0 9 ++ given 7 4 0 9) 7 ≡ Err (FaultyRecord 1))
    × (read_map Old (given 7 3 0 9 ++ given 7 4 0 28) 7 ≡ Err (FaultyRecord 1))
    × (is_ok (read_map Old (given 7 3 0 9 ++ given 7 4 0 29) 7) ≡ true)
unfolding read_map wrong_length either choose rows_from records_in with_pins_of record_of bits_at number_at faulty first_of accepted inside on_board both any_of
    spots_too_near spot_of spots_of too_near closer difference with_pin_of
close_pins = (refl, refl, refl)

-- x 60,000 with y -60,000 is accepted, x 60,001 is 15, and so is y -60,001; x and y 20,001 are an ordinary place.
limits : (is_ok (read_map Old (0 ∷ 7 ∷ 0 ∷ 0 ∷ 0 ∷ 0 ∷ 234 ∷ 96 ∷ 255 ∷ 255 ∷ 21 ∷ 160 ∷ []) 7) ≡ true)
    × (read_map Old (0 ∷ 7 ∷ 0 ∷ 0 ∷ 0 ∷ 0 ∷ 234 ∷ 97 ∷ 0 ∷ 0 ∷ 0 ∷ 0 ∷ []) 7 ≡ Err (FaultyRecord 0))
    × (read_map Old (0 ∷ 7 ∷ 0 ∷ 0 ∷ 0 ∷ 0 ∷ 0 ∷ 0 ∷ 255 ∷ 255 ∷ 21 ∷ 159 ∷ []) 7 ≡ Err (FaultyRecord 0))
    × (is_ok (read_map Old (0 ∷ 7 ∷ 0 ∷ 0 ∷ 0 ∷ 0 ∷ 78 ∷ 33 ∷ 0 ∷ 0 ∷ 78 ∷ 33 ∷ []) 7) ≡ true)
unfolding read_map wrong_length either choose rows_from records_in with_pins_of record_of bits_at number_at faulty first_of accepted inside on_board both any_of
    spots_too_near spot_of spots_of with_pin_of
limits = (refl, refl, refl, refl)

-- ---- the new form

-- A record of the new form: a job, a pin and a net, at (x, 0) for an x below 256, and the last byte of a part number.
abbrev given_new : ℕ → ℕ → ℕ → ℕ → ℕ → List ℕ
given_new job pin net x part = given job pin net x ++ (0 ∷ 0 ∷ 0 ∷ part ∷ [])

-- D3 in the new form has 01 in byte 3 and four zero bytes at the end.
D3_new : map_of New 7 one_pin ≡ (0 ∷ 7 ∷ 0 ∷ 1 ∷ 0 ∷ 0 ∷ 0 ∷ 20 ∷ 255 ∷ 255 ∷ 255 ∷ 236 ∷ 0 ∷ 0 ∷ 0 ∷ 0 ∷ [])
unfolding map_of map_from pin_bytes record_bytes four_bytes first_byte second_byte third_byte fourth_byte
D3_new = refl

-- Of net 3, with part number 16,909,060, it is written with 03 in byte 3 and 01 02 03 04 at the end,
other_net_written : map_of New 7 (pin_of 3 16909060) ≡ (0 ∷ 7 ∷ 0 ∷ 3 ∷ 0 ∷ 0 ∷ 0 ∷ 20 ∷ 255 ∷ 255 ∷ 255 ∷ 236 ∷ 1 ∷ 2 ∷ 3 ∷ 4 ∷ [])
unfolding map_of map_from pin_bytes record_bytes four_bytes first_byte second_byte third_byte fourth_byte
other_net_written = refl

-- and read back so.
other_net_read : read_map New (0 ∷ 7 ∷ 0 ∷ 3 ∷ 0 ∷ 0 ∷ 0 ∷ 20 ∷ 255 ∷ 255 ∷ 255 ∷ 236 ∷ 1 ∷ 2 ∷ 3 ∷ 4 ∷ []) 7 ≡ read_as (pin_of 3 16909060)
unfolding read_map wrong_length either choose rows_from records_in with_pins_of record_of bits_at number_at faulty first_of accepted inside on_board both any_of
    spots_too_near spot_of spots_of with_pin_of is_net
other_net_read = refl

-- 13 at the lengths 12, 396 and 528; 512 is looked at.
lengths_new : (read_map New (replicate 12 0) 7 ≡ Err MapLength) × (read_map New (replicate 396 0) 7 ≡ Err MapLength)
    × (read_map New (replicate 528 0) 7 ≡ Err MapLength) × (read_map New (replicate 512 0) 7 ≡ Err (OtherJob 0))
unfolding read_map wrong_length either choose rows_from records_in with_pins_of record_of faulty first_of accepted
lengths_new = (refl, refl, refl, refl)

-- Nets 1 and 8 are accepted; nets 0 and 9 are 15, and so are pins of different nets that are too near.
nets_new : (is_ok (read_map New (given_new 7 3 1 9 0 ++ given_new 7 4 8 29 5) 7) ≡ true)
    × (read_map New (given_new 7 3 0 9 0) 7 ≡ Err (FaultyRecord 0))
    × (read_map New (given_new 7 3 9 9 0) 7 ≡ Err (FaultyRecord 0)) × (read_map New (given_new 7 3 1 9 0 ++ given_new 7 4 2 28 0) 7 ≡ Err (FaultyRecord 1))
unfolding read_map wrong_length either choose rows_from records_in with_pins_of record_of bits_at number_at faulty first_of accepted inside on_board both any_of
    spots_too_near spot_of spots_of too_near closer difference with_pin_of is_net
nets_new = (refl, refl, refl, refl)
