-- Maps of D3's pin moved over and back, each computed: the bytes, what stays after them, and each refusal. Assumes nothing.
use mathlib.Core.Path.{◌≡◌, refl}
use mathlib.Core.List.{List, [], ◌∷◌, ◌++◌}
use Prim.Native.Nat.{ℕ}
use lib.ListN.{replicate}
use Rattle.basics.specs.Tests.{both, either, choose, any_of, each_of}
use Rattle.std.specs.Prelude.{Ok, Err}
use Rattle.refusal.specs.declared.Refusal.TheVariants.{JobZero, MapLength, OtherJob, FaultyRecord, RoomTooSmall, OtherNetOrPart}
use Rattle.refusal.specs.Refusals.{accepted}
use Rattle.refusal.specs.Rows.{first_of}
use Rattle.board.specs.Place.{on_board, inside}
use Rattle.board.specs.Spots.{spots_too_near}
use Rattle.drawing.specs.Pins.{is_net, spot_of, spots_of}
use Rattle.pinmap.specs.declared.Form.TheVariants.{Old, New}
use Rattle.pinmap.specs.Number.{bits_at, number_at, first_byte, second_byte, third_byte, fourth_byte, four_bytes}
use Rattle.records.specs.Record.{record_of, faulty}
use Rattle.writemap.specs.Record.{record_bytes, pin_bytes}
use Rattle.pinmap.specs.Map.{plain}
use Rattle.readmap.specs.Map.{records_in, with_pin_of, with_pins_of, rows_from, wrong_length, read_map}
use Rattle.writemap.specs.Map.{map_from, map_of, written}
use Rattle.forms.specs.Moving.{moved_of, buffer_moved}

-- The record of D3's pin, job 7, pin 0 at (20,-20), in the old form,
abbrev old : List ℕ
old = 0 ∷ 7 ∷ 0 ∷ 0 ∷ 0 ∷ 0 ∷ 0 ∷ 20 ∷ 255 ∷ 255 ∷ 255 ∷ 236 ∷ []

-- and in the new, with a net and the last byte of a part number.
abbrev new : ℕ → ℕ → List ℕ
new net part = 0 ∷ 7 ∷ 0 ∷ net ∷ 0 ∷ 0 ∷ 0 ∷ 20 ∷ 255 ∷ 255 ∷ 255 ∷ 236 ∷ 0 ∷ 0 ∷ 0 ∷ part ∷ []

-- Moved over into 18 bytes that hold 9, the last two stay; moved back into 13, the last one stays.
over_and_back : (buffer_moved New 7 old (replicate 18 9) ≡ new 1 0 ++ (9 ∷ 9 ∷ [])) × (buffer_moved Old 7 (new 1 0) (replicate 13 9) ≡ old ++ (9 ∷ []))
unfolding buffer_moved both either choose any_of each_of accepted first_of on_board inside spots_too_near is_net spot_of spots_of
    bits_at number_at first_byte second_byte third_byte fourth_byte four_bytes record_of faulty
    record_bytes pin_bytes plain records_in with_pin_of with_pins_of rows_from wrong_length read_map map_from map_of written
over_and_back = (refl, refl)

-- Moving over: job 0 is 4, sixteen bytes 13, another job 14, a net's byte in the old form 15, and 15 bytes of room 19.
over-refused : moved_of New 0 old (replicate 16 9) ∷ moved_of New 7 (new 1 0) (replicate 16 9) ∷ moved_of New 8 old (replicate 16 9)
    ∷ moved_of New 7 (0 ∷ 7 ∷ 0 ∷ 1 ∷ 0 ∷ 0 ∷ 0 ∷ 20 ∷ 255 ∷ 255 ∷ 255 ∷ 236 ∷ []) (replicate 16 9) ∷ moved_of New 7 old (replicate 15 9) ∷ []
    ≡ Err JobZero ∷ Err MapLength ∷ Err (OtherJob 0) ∷ Err (FaultyRecord 0) ∷ Err RoomTooSmall ∷ []
unfolding moved_of both either choose any_of each_of accepted first_of on_board inside spots_too_near is_net spot_of spots_of
    bits_at number_at first_byte second_byte third_byte fourth_byte four_bytes record_of faulty
    record_bytes pin_bytes plain records_in with_pin_of with_pins_of rows_from wrong_length read_map map_from map_of written
over-refused = refl

-- Moving back: net 2 is 22, a part number 22 before 19, net 9 is 15, and with net 1 and part number 0 eleven bytes of room are 19. With net 2, job 0 is still
-- 4, half a record more 13, another job 14, and a fault in the record after it 15.
back_refused : moved_of Old 7 (new 2 0) (replicate 12 9) ∷ moved_of Old 7 (new 1 3) [] ∷ moved_of Old 7 (new 9 0) (replicate 12 9)
    ∷ moved_of Old 7 (new 1 0) (replicate 11 9) ∷ moved_of Old 7 (new 1 0) (replicate 12 9)
    ∷ moved_of Old 0 (new 2 0) (replicate 12 9) ∷ moved_of Old 7 (new 2 0 ++ replicate 8 0) (replicate 12 9) ∷ moved_of Old 8 (new 2 0) (replicate 12 9)
    ∷ moved_of Old 7 (new 2 0 ++ new 2 0) (replicate 12 9) ∷ []
    ≡ Err OtherNetOrPart ∷ Err OtherNetOrPart ∷ Err (FaultyRecord 0) ∷ Err RoomTooSmall ∷ Ok 12
    ∷ Err JobZero ∷ Err MapLength ∷ Err (OtherJob 0) ∷ Err (FaultyRecord 1) ∷ []
unfolding moved_of both either choose any_of each_of accepted first_of on_board inside spots_too_near is_net spot_of spots_of
    bits_at number_at first_byte second_byte third_byte fourth_byte four_bytes record_of faulty
    record_bytes pin_bytes plain records_in with_pin_of with_pins_of rows_from wrong_length read_map map_from map_of written
back_refused = refl
