-- The segments fit: they are no more than the legs, so never more than 62, and where they are given never more than the room. From a feed of 32 spots.
use mathlib.Core.Path.{◌≡◌, refl, ap}
use mathlib.Core.Bool.{Bool, true, false}
use mathlib.Core.List.{List, [], ◌++◌, map}
use Prim.Native.Nat.{ℕ, ◌≤◌, zero-le}
use native.Mathlib.Omega.{arith}
use lib.ListN.{length, length-map}
use borrow.Author.Tests.{ltb-false}
use Rattle.basics.specs.Tests.{choose}
use Rattle.refusal.specs.Refusals.{accepted}
use Rattle.refusal.specs.Rows.{Row, first_of, NoneHolds}
use Rattle.refusal.proofs.Rows.{Apart, none-accepted, none_before, none_after, none-holds}
use Rattle.board.specs.Spots.{Spot}
use Rattle.board.specs.Spots.{most_pins}
use Rattle.tree.specs.Growth.{runs_of}
use Rattle.copper.specs.declared.Favour.{Favour}
use Rattle.copper.specs.declared.Leg.{Leg}
use Rattle.copper.specs.Shapes.{favours_upper}
use Rattle.spans.specs.Spans.{cleaned}
use Rattle.spans.proofs.Few.{cleaned_few}
use Rattle.wiring.specs.Choices.{best_choice, legs_of_choice}
use Rattle.laying.specs.Entries.{most_legs}
use Rattle.wiring.proofs.Few.{needed_few}
use Rattle.mill.specs.Numbered.{span_of, segment_of, segments_of}
use Rattle.mill.specs.Answer.{copper_of, mill_rows, cut_with, cut_by}

-- The segments are no more than the legs,
pub segments_few : (legs : List Leg) → length (segments_of legs) ≤ length legs
unfolding segments_of
segments_few legs = omega (arith, length-map (cleaned (map span_of legs)) segment_of, cleaned_few (map span_of legs), length-map legs span_of)

-- so that no feed has more than 62.
pub copper_few : (feed : List Spot) (favour : Favour) → length feed ≡ most_pins → length (copper_of feed favour) ≤ most_legs
unfolding copper_of
copper_few feed favour full =
    let shapes = best_choice (favours_upper favour) feed (runs_of feed) in
    omega (arith, segments_few (legs_of_choice feed (runs_of feed) shapes), needed_few feed shapes full)

module _ (rows : List Row) (feed : List Spot) (room : ℕ) (favour : Favour) (apart : Apart (rows ++ mill_rows feed room favour))
    (full : accepted (first_of rows) ≡ true → length feed ≡ most_pins) where
  -- Accepted milling has at most 62 segments and room for them, whatever rows come before its own: these were passed, and so were its own.
  copper_fits : accepted (first_of (rows ++ mill_rows feed room favour)) ≡ true → (length (copper_of feed favour) ≤ most_legs) × (length (copper_of feed favour) ≤ room)
  unfolding NoneHolds accepted
  copper_fits e =
      let n = none-holds (rows ++ mill_rows feed room favour) apart e in
      let passed = none_after rows (mill_rows feed room favour) n in (
        copper_few feed favour (full (ap accepted (none-accepted rows (none_before rows (mill_rows feed room favour) n)))),
        ltb-false room (length (copper_of feed favour)) passed.1.0,
      )

  -- THE SEGMENTS OF AN ANSWER ARE AT MOST 62, AND AT MOST THE ROOM.
  pub cut_fits : ((cut_by (rows ++ mill_rows feed room favour) (copper_of feed favour)).milling.segments ≤ most_legs)
      × ((cut_by (rows ++ mill_rows feed room favour) (copper_of feed favour)).milling.segments ≤ room)
  unfolding cut_with choose
  cut_fits = by_test (accepted (first_of (rows ++ mill_rows feed room favour))) (λ e. copper_fits e)
    where
      by_test : (t : Bool) → (t ≡ true → (length (copper_of feed favour) ≤ most_legs) × (length (copper_of feed favour) ≤ room))
          → (length (choose t (copper_of feed favour) []) ≤ most_legs) × (length (choose t (copper_of feed favour) []) ≤ room)
      by_test true h = h refl
      by_test false h = (zero-le, zero-le)
