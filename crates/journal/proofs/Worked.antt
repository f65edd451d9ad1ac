-- Worked cases of the journal: the records of the desks D1 and D2, and as many as D4 has, each computed. Assumes nothing.
use mathlib.Core.Path.{◌≡◌, refl}
use mathlib.Core.Bool.{false}
use mathlib.Core.List.{List, [], ◌∷◌}
use lib.IntN.{pos}
use lib.ListN.{length, replicate}
use Rattle.basics.specs.Tests.{both, choose, each_of}
use Rattle.board.specs.Place.{place}
use Rattle.basics.specs.Lists.{values_from}
use Rattle.edits.specs.declared.Edit.TheVariants.{Placed, Moved}
use Rattle.drawing.specs.Pins.{holding}
use Rattle.journal.specs.declared.Record.{Record}
use Rattle.journal.specs.Journal.{most_records, most_seats, recorded, own, counts_of, kept, added, seated}
use Rattle.journal.proofs.Seated.{owned_below}

-- D1: a placing at seat 0, then one at seat 1.
abbrev two : List Record
two = recorded 0 (Placed 0 (holding (place (pos 20) (pos 20)) 1 0)) ∷ recorded 1 (Placed 0 (holding (place (pos 40) (pos 40)) 1 0)) ∷ []

-- Seat 0 has its own edit alone.
seat_0_alone : own 0 two ≡ Placed 0 (holding (place (pos 20) (pos 20)) 1 0) ∷ []
unfolding own choose
seat_0_alone = refl

-- Closing a seat leaves the record of the other.
closing_leaves_the_other : kept 0 0 two ≡ recorded 1 (Placed 0 (holding (place (pos 40) (pos 40)) 1 0)) ∷ []
unfolding kept choose
closing_leaves_the_other = refl

-- All seats together own both records,
both_are_counted : owned_below most_seats two ≡ 2
unfolding owned_below own choose
both_are_counted = refl

-- and the first two seats one each.
each_seat_is_counted : counts_of two ≡ 1 ∷ 1 ∷ replicate 6 0
unfolding values_from own choose
each_seat_is_counted = refl

-- D2: pin 0 placed and moved.
abbrev moved : List Record
moved = recorded 0 (Placed 0 (holding (place (pos 20) (pos 20)) 1 0)) ∷ recorded 0 (Moved 0 (place (pos 20) (pos 20)) (place (pos 80) (pos 80))) ∷ []

-- The move undone and pin 1 placed, seat 0 owns the two placings: the move is gone.
move_is_freed : own 0 (added 0 1 (Placed 1 (holding (place (pos 40) (pos 40)) 1 0)) moved) ≡ Placed 0 (holding (place (pos 20) (pos 20)) 1 0) ∷ Placed 1 (holding (place (pos 40) (pos 40)) 1 0) ∷ []
unfolding own kept choose
move_is_freed = refl

-- As many records as D4 has, a placing and 255 moves, all of seat 0.
abbrev full : List Record
full = recorded 0 (Placed 0 (holding (place (pos 20) (pos 20)) 1 0)) ∷ replicate 255 (recorded 0 (Moved 0 (place (pos 20) (pos 20)) (place (pos 80) (pos 80))))

-- Another seat finds no room;
another_seat_finds_no_room : length (kept 1 0 full) ≡ most_records
unfolding kept choose
another_seat_finds_no_room = refl

-- with one edit taken back, seat 0 finds room for one more;
undone_edit_makes_room_for_its_seat : length (kept 0 255 full) ≡ 255
unfolding kept choose
undone_edit_makes_room_for_its_seat = refl

-- closing seat 0 makes room for all.
closing_makes_room_for_all : length (kept 0 0 full) ≡ 0
unfolding kept choose
closing_makes_room_for_all = refl

-- Seat 8 is none of the desk's.
seat_eight : seated (recorded 8 (Placed 0 (holding (place (pos 20) (pos 20)) 1 0)) ∷ []) ≡ false
unfolding each_of both
seat_eight = refl
