-- EVERY MAP THAT OPENED STILL OPENS, WITH THE SAME WIRING: the map, in the old form, of pins that kept the former rules opens in that form now at any seat of
-- any desk that can take it, with these pins, all of net 1, and this net is wired as the pins were. Opening any old map gives net 1 and part number 0. From
-- the round trip of maps; assumes nothing.
use mathlib.Core.Path.{◌≡◌, refl, ap, ◌∙◌}
use mathlib.Core.Bool.{true, not}
use mathlib.Core.List.{List, [], ◌∷◌}
use Prim.Native.Nat.{ℕ, ◌-◌}
use native.Mathlib.Omega.{arith}
use borrow.Author.Tests.{not-false, eqb-true, leb-true, le-leb}
use lib.IntN.{ℤ, pos, negsuc}
use lib.Dec.{eqb}
use lib.ListN.{length}
use lib.Seq.{get_or-set_same}
use Rattle.basics.specs.Tests.{both, each_of}
use Rattle.basics.proofs.Tests.{both_left, both_right, both_of, choose_yes}
use Rattle.std.specs.Prelude.{Ok, None, Some}
use Rattle.refusal.specs.Refusals.{accepted}
use Rattle.refusal.specs.Rows.{NoneHolds}
use Rattle.refusal.proofs.Rows.{none-accepted}
use Rattle.board.specs.Spots.{Spot, most_pins, within, all_within, all_apart}
use Rattle.board.specs.Place.{limit, on_board, inside}
use Rattle.drawing.specs.Pins.{Pin, is_net, has_net, spots_of, feed_of, lawful}
use Rattle.pinmap.specs.declared.Form.TheVariants.{Old}
use Rattle.pinmap.specs.Map.{plain, holds}
use Rattle.writemap.specs.Map.{map_of}
use Rattle.roundtrip.proofs.Holding.{plain_feed}
use Rattle.roundtrip.proofs.RoundTrip.{map_opens, read_held}
use Rattle.copper.specs.declared.Favour.{Favour}
use Rattle.wiring.specs.Answer.{wiring_of}
use Rattle.seats.specs.declared.Seat.{Seat}
use Rattle.rows.specs.Calls.{opening}
use Rattle.desk.specs.declared.Desk.{Desk}
use Rattle.desk.specs.declared.Answered.{Answered}
use Rattle.desk.specs.Desk.{no_seat, seat_of, open_seat, with_seat, naming_net_at, step}
use Rattle.asked.specs.Asked.{wired_of}
use Rattle.history.specs.Former.{formerly, formerly_within, formerly_lawful}
use Rattle.history.proofs.Opened.{opened_seat}
use Rattle.history.proofs.Sounding.{sound-step}
use Rattle.history.proofs.Maps.{taking_at, opens_as, taking_low}

-- A number of the former range is on the board,
number_still : (z : ℤ) → formerly z ≡ true → on_board z ≡ true
unfolding formerly on_board
number_still (pos k) e = both_of refl (le-leb k limit (omega (arith, leb-true k 20000 (both_right _ _ e))))
number_still (negsuc k) e = both_of (le-leb k (limit - 1) (omega (arith, leb-true k 19999 (both_left _ _ e)))) refl

-- a pin that stood in it stands on the board,
spot_still : (s : Spot) → formerly_within s ≡ true → within s ≡ true
unfolding formerly_within within inside
spot_still None e = refl
spot_still (Some a) e = both_of (number_still a.x (both_left _ _ e)) (number_still a.y (both_right (formerly a.x) _ e))

-- and all such pins do.
spots_still : (l : List Spot) → each_of formerly_within l ≡ true → all_within l ≡ true
unfolding each_of
spots_still [] e = refl
spots_still (s ∷ l) e = both_of (spot_still s (both_left _ _ e)) (spots_still l (both_right (formerly_within s) _ e))

-- ---- pins of net 1 with part number 0

-- Such a pin, which is what the old form can hold, has a net from 1 to 8,
net_still : (q : Pin) → plain q ≡ true → has_net q ≡ true
unfolding is_net both plain has_net
net_still None e = refl
net_still (Some h) e = rw (eqb-true h.net 1 (both_left _ _ e))

-- as all of them have,
nets_still : (l : List Pin) → each_of (holds Old) l ≡ true → each_of has_net l ≡ true
unfolding each_of
nets_still [] e = refl
nets_still (q ∷ l) e = both_of (net_still q (both_left _ _ e)) (nets_still l (both_right (plain q) _ e))

-- ---- an old map that opens

module _ (d : Desk) (s job : ℕ) (map : List ℕ) (z : accepted (step d (opening s job Old map)).verdict ≡ true) where
  -- The pins of the seat.
  abbrev pins_there : List Pin
  pins_there = (seat_of (step d (opening s job Old map)).desk s).pins

  -- OPENING AN OLD MAP SETS NET 1 AND PART NUMBER 0: each pin of the seat has these,
  pub old_map_plain : each_of (holds Old) pins_there ≡ true
  old_map_plain = ap (λ (q : Seat). each_of (holds Old) q.pins) (opened_seat d s job Old map z) ∙ read_held Old job map

  -- and the feed of net 1 is all its pins.
  pub old_map_feed : feed_of pins_there 1 ≡ spots_of pins_there
  old_map_feed = plain_feed pins_there old_map_plain

-- ---- pins that kept the former rules

-- The old form can hold them.
former_held : (l : List Pin) → formerly_lawful l ≡ true → each_of (holds Old) l ≡ true
unfolding formerly_lawful
former_held l e =
    both_right (all_apart (spots_of l)) _ (both_right (each_of formerly_within (spots_of l)) _ (both_right (eqb (length l) most_pins) _ e))

-- They keep the rules of now,
pub still_lawful : (l : List Pin) → formerly_lawful l ≡ true → lawful l ≡ true
unfolding formerly_lawful lawful
still_lawful l e =
    let rest = both_right (eqb (length l) most_pins) _ e in
    let apart = both_right (each_of formerly_within (spots_of l)) _ rest in
    both_of (both_left _ _ e) (both_of (spots_still (spots_of l) (both_left _ _ rest)) (both_of (both_left _ _ apart) (nets_still l (former_held l e))))

-- and the feed of net 1 is all of them, as it was before there were nets.
pub former_feed : (l : List Pin) → formerly_lawful l ≡ true → feed_of l 1 ≡ spots_of l
former_feed l e = plain_feed l (former_held l e)

module _ (e : Desk) (t job : ℕ) (l : List Pin) (then : formerly_lawful l ≡ true) (n : NoneHolds (taking_at e t job)) where
  -- EVERY MAP THAT OPENED STILL OPENS, in the old form, at any seat of any desk that can take its job (28, 1, 3, 4 and 5 do not apply),
  pub former_map_opens : step e (opening t job Old (map_of Old job l)) ≡ record { desk = with_seat e t (open_seat job l); verdict = Ok tt }
  former_map_opens = opens_as e t job Old (map_of Old job l) l (map_opens Old job l (still_lawful l then) (former_held l then)) n

  -- the seat is open for it,
  former_seat : seat_of (step e (opening t job Old (map_of Old job l))).desk t ≡ open_seat job l
  former_seat = ap (λ (x : Answered). seat_of x.desk t) former_map_opens ∙ get_or-set_same e.seats t (open_seat job l) no_seat (taking_low e t job n)

  -- with the pins that it had,
  pub former_map_pins : (seat_of (step e (opening t job Old (map_of Old job l))).desk t).pins ≡ l
  former_map_pins = ap (λ (q : Seat). q.pins) former_seat

  -- AND ITS WIRING IS THE SAME, accepted or not, whatever the room and the shape to favour: that of net 1 is the wiring of all these pins, in whose definition
  -- no limit and no net stands.
  pub former_map_wired : (room : ℕ) (favour : Favour)
      → (wired_of (step e (opening t job Old (map_of Old job l))).desk t 1 room favour).answer ≡ wiring_of (spots_of l) room favour
  unfolding wired_of NoneHolds accepted is_net both
  former_map_wired room favour =
      let d = (step e (opening t job Old (map_of Old job l))).desk in
      let h : NoneHolds (naming_net_at d t 1) =
      (ap not (sound-step e (not-false _ n.0) (opening t job Old (map_of Old job l))), (n.1.0, (ap (λ (q : Seat). not q.opened) former_seat, (refl, tt)))) in
      choose_yes _ _ (ap accepted (none-accepted (naming_net_at d t 1) h))
      ∙ ap (λ (m : List Pin). wiring_of (feed_of m 1) room favour) former_map_pins ∙ ap (λ (f : List Spot). wiring_of f room favour) (former_feed l then)
