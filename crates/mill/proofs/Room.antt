-- A feed that wiring accepts has at most 62 legs, and where it has more segments than there is room for it is turned away for lack of room: by plain
-- values, so that rattle finds it for the test of the room, however the test is worded. From the laws of `Answering`; assumes nothing.
use mathlib.Core.Path.{◌≡◌, refl, sym, ap}
use mathlib.Core.Bool.{true, false}
use mathlib.Core.List.{List, []}
use Prim.Native.Nat.{ℕ, ◌<◌, ◌≤◌}
use lib.ListN.{length}
use Rattle.basics.specs.Tests.{each_of}
use Rattle.refusal.specs.Refusals.{accepted}
use Rattle.refusal.specs.declared.Refusal.{Refusal}
use Rattle.refusal.specs.declared.Refusal.TheVariants.{RoomTooSmall}
use Rattle.std.specs.Prelude.{Ok, Err}
use Rattle.board.specs.Spots.{Spot}
use Rattle.board.specs.Spots.{most_pins, all_within}
use Rattle.copper.specs.declared.Favour.{Favour}
use Rattle.laying.specs.Entries.{most_legs}
use Rattle.laying.specs.declared.Strip.{Strip}
use Rattle.laying.specs.Reaching.{strip}
use Rattle.wiring.specs.declared.Laid.{Laid}
use Rattle.wiring.specs.Answer.{wiring_of}
use Rattle.wiring.specs.Demand.{legs_in}
use Rattle.mill.specs.Numbered.{is_inside, segments_of}
use Rattle.mill.specs.Answer.{cut_with, cut_of}
use Rattle.mill.proofs.Answering.{feed_refused, legs_few, legs_short, legs_inside, feed_room, feed_cut}

module _ (feed : List Spot) (full : length feed ≡ most_pins) (ok : all_within feed ≡ true) (favour : Favour) (laid : Laid) (el : laid ≡ wiring_of feed most_legs favour) where
  -- What the wiring refuses is refused.
  pub wiring_refuses : (room : ℕ) (r : Refusal) → laid.wiring.verdict ≡ Err r → cut_with (Err r) [] ≡ cut_of feed room favour
  unfolding accepted
  wiring_refuses room r e = rw e at (feed_refused feed full ok room favour laid el false (sym (ap accepted e)) refl)

  module _ (e : laid.wiring.verdict ≡ Ok tt) where
    -- The legs of a wiring that is accepted are at most 62,
    pub legs_fit : laid.wiring.legs ≤ most_legs
    unfolding accepted
    legs_fit = legs_few feed full ok 0 favour laid el true (sym (ap accepted e)) refl

    -- so that the list of them is no longer, and they lie on the board.
    pub legs_asked : (length (legs_in laid) ≤ most_legs) × (each_of is_inside (legs_in laid) ≡ true)
    unfolding accepted
    legs_asked =
        (legs_short feed full ok 0 favour laid el true (sym (ap accepted e)) refl, legs_inside feed full ok 0 favour laid el true (sym (ap accepted e)) refl)

    module _ (room : ℕ) (cut : Strip) (ec : cut ≡ strip (segments_of (legs_in laid))) where
      -- More segments than there is room for are refused,
      pub room_short : room < cut.count → cut_with (Err RoomTooSmall) [] ≡ cut_of feed room favour
      unfolding accepted
      room_short l = feed_room feed full ok room favour laid el true (sym (ap accepted e)) refl cut ec l

      -- and else they are the answer.
      pub room_enough : cut.count ≤ room → record { milling = record { verdict = Ok tt; segments = cut.count }; list = cut.list } ≡ cut_of feed room favour
      unfolding accepted
      room_enough l = feed_cut feed full ok room favour laid el true (sym (ap accepted e)) refl cut ec l
