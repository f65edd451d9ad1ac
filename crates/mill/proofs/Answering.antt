-- What the code answers for a feed is the copper of the definition: refused as wiring with room for 62 legs is, or for lack of room, or the segments.
-- From 32 spots and pins that stand on the board.
use mathlib.Core.Path.{◌≡◌, refl, sym, ap, ◌∙◌}
use mathlib.Core.Bool.{Bool, true, false, not}
use mathlib.Core.List.{List, [], ◌∷◌}
use Prim.Native.Nat.{ℕ, ◌≤◌, ◌<◌}
use lib.Dec.{ltb}
use lib.ListN.{length, length-take}
use native.Mathlib.Omega.{arith}
use borrow.Author.Tests.{lt-ltb, le-ltb, not-true, not-false}
use Rattle.basics.specs.Tests.{choose, each_of}
use Rattle.refusal.specs.Refusals.{accepted}
use Rattle.refusal.specs.Rows.{Row, given, first_of}
use Rattle.refusal.specs.declared.Refusal.TheVariants.{RoomTooSmall}
use Rattle.std.specs.Prelude.{Ok, Err}
use Rattle.refusal.proofs.Rows.{decided_away, decided_on}
use Rattle.board.specs.Spots.{Spot}
use Rattle.board.specs.Spots.{most_pins, all_within}
use Rattle.tree.specs.Growth.{runs_of}
use Rattle.tree.specs.Trees.{tree_rows}
use Rattle.tree.proofs.Answer.{tree_apart}
use Rattle.copper.specs.declared.Favour.{Favour}
use Rattle.copper.specs.declared.Leg.{Leg}
use Rattle.copper.specs.declared.Shape.{Shape}
use Rattle.copper.specs.Shapes.{favours_upper}
use Rattle.wiring.specs.declared.Laid.{Laid}
use Rattle.laying.specs.declared.Strip.{Strip}
use Rattle.wiring.specs.Choices.{best_choice, legs_of_choice}
use Rattle.laying.specs.Entries.{most_legs}
use Rattle.wiring.specs.Answer.{answer_with, wiring_rows, wiring_with, wiring_favouring, wiring_of}
use Rattle.laying.specs.Reaching.{strip}
use Rattle.wiring.specs.Demand.{legs_in}
use Rattle.wiring.proofs.Shortest.{take_legs}
use Rattle.wiring.proofs.Demand.{answer_comes}
use Rattle.wiring.proofs.Few.{needed_few, most_room_verdict}
use Rattle.mill.specs.Numbered.{is_inside, segments_of}
use Rattle.mill.specs.Answer.{copper_of, cut_with, cut_by, cut_of}
use Rattle.mill.proofs.Wired.{wired_inside}

module _ (feed : List Spot) (full : length feed ≡ most_pins) (ok : all_within feed ≡ true) (room : ℕ) (favour : Favour)
    (laid : Laid) (el : laid ≡ wiring_of feed most_legs favour) (b : Bool) (eb : b ≡ accepted laid.wiring.verdict) where
  abbrev shapes : List Shape
  shapes = best_choice (favours_upper favour) feed (runs_of feed)

  abbrev legs : List Leg
  legs = legs_of_choice feed (runs_of feed) shapes

  abbrev copper : List Leg
  copper = copper_of feed favour

  -- The row of the room.
  abbrev room_row : List Row
  room_row = given (ltb room (length copper)) RoomTooSmall ∷ []

  -- Wiring says what the tree's rows do.
  verdict_is : laid.wiring.verdict ≡ first_of (tree_rows feed)
  verdict_is = ap (λ (l : Laid). l.wiring.verdict) el ∙ most_room_verdict feed favour full

  -- It refuses.
  pub feed_refused : not b ≡ true → cut_with laid.wiring.verdict [] ≡ cut_of feed room favour
  unfolding cut_of
  feed_refused y =
      decided_away (tree_rows feed) room_row (tree_apart feed) verdict_is cut_with copper [] (sym eb ∙ not-true b y)

  module _ (y : not b ≡ false) where
    -- It accepts: then the room decides,
    room_decides : cut_by room_row copper ≡ cut_of feed room favour
    unfolding cut_of
    room_decides =
        decided_on (tree_rows feed) room_row (tree_apart feed) verdict_is cut_with copper [] (sym eb ∙ not-false b y)

    -- and what it gives is the answer with the best choice of shapes,
    laid_is : laid ≡ answer_with feed shapes
    unfolding wiring_of wiring_favouring wiring_with
    laid_is =
        let comes = ap (λ (l : Laid). accepted l.wiring.verdict) (sym el) ∙ sym eb ∙ not-false b y in
        el ∙ (answer_comes (answer_with feed shapes) (first_of (wiring_rows feed shapes most_legs)) comes).0

    -- with the legs of that choice.
    legs_are : legs_in laid ≡ legs
    legs_are = ap legs_in laid_is ∙ (unfold answer_with in take_legs legs)

    -- They are at most 62,
    pub legs_few : laid.wiring.legs ≤ most_legs
    legs_few = rw laid_is (unfold answer_with in needed_few feed shapes full)

    -- so that the list of them is no longer,
    pub legs_short : length (legs_in laid) ≤ most_legs
    legs_short = omega (arith, legs_few, length-take laid.wiring.legs laid.list)

    -- and they lie on the board.
    pub legs_inside : each_of is_inside (legs_in laid) ≡ true
    legs_inside = rw legs_are (wired_inside feed ok (runs_of feed) shapes)

    module _ (cut : Strip) (ec : cut ≡ strip (segments_of (legs_in laid))) where
      -- The segments are the copper of the feed,
      cut_is : cut ≡ strip copper
      unfolding copper_of
      cut_is = ec ∙ ap (λ (l : List Leg). strip (segments_of l)) legs_are

      -- so many.
      many : cut.count ≡ length copper
      many = ap (λ (s : Strip). s.count) cut_is ∙ (unfold strip in refl)

      -- Too little room.
      pub feed_room : room < cut.count → cut_with (Err RoomTooSmall) [] ≡ cut_of feed room favour
      feed_room h = sym (refuses (lt-ltb room (length copper) (rw many at h))) ∙ room_decides
        where
          refuses : ltb room (length copper) ≡ true → cut_by room_row copper ≡ cut_with (Err RoomTooSmall) []
          refuses e = unfold first_of choose accepted in rw e

      -- The answer.
      pub feed_cut : cut.count ≤ room → record { milling = record { verdict = (Ok tt); segments = cut.count }; list = cut.list } ≡ cut_of feed room favour
      feed_cut h = made ∙ sym (accepts (le-ltb room (length copper) (rw many at h))) ∙ room_decides
        where
          made : record { milling = record { verdict = (Ok tt); segments = cut.count }; list = cut.list } ≡ cut_with (Ok tt) copper
          made = rw cut_is (unfold strip cut_with in refl)

          accepts : ltb room (length copper) ≡ false → cut_by room_row copper ≡ cut_with (Ok tt) copper
          accepts e = unfold first_of choose accepted in rw e
