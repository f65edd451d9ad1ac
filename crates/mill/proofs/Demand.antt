-- THE COPPER OF AN ACCEPTED WIRING AS SEGMENTS: what document 02, [5] says of it. From 32 spots and pins that stand on the board.
use mathlib.Core.Path.{◌≡◌, refl, sym, ap, subst}
use mathlib.Core.Bool.{true}
use mathlib.Core.List.{List}
use Prim.Native.Nat.{ℕ}
use lib.ListN.{length, take}
use Rattle.basics.specs.Tests.{choose, each_of}
use Rattle.refusal.specs.Refusals.{accepted}
use Rattle.refusal.specs.Rows.{Row, first_of}
use Rattle.std.specs.Prelude.{Ok}
use Rattle.refusal.proofs.Rows.{Apart, none-holds, none-accepted}
use Rattle.board.specs.Spots.{Spot}
use Rattle.board.specs.Spots.{most_pins, all_within}
use Rattle.tree.specs.Growth.{runs_of}
use Rattle.copper.specs.declared.Favour.{Favour}
use Rattle.copper.specs.declared.Leg.{Leg}
use Rattle.copper.specs.declared.Shape.{Shape}
use Rattle.copper.specs.Shapes.{favours_upper}
use Rattle.wiring.specs.declared.Laid.{Laid}
use Rattle.wiring.specs.Choices.{best_choice, legs_of_choice, length_of_choice}
use Rattle.wiring.specs.Answer.{answer_with, wiring_rows, wiring_with, wiring_favouring, wiring_of}
use Rattle.wiring.proofs.Shortest.{take_legs}
use Rattle.wiring.proofs.Demand.{answer_comes}
use Rattle.mill.specs.declared.Cut.{Cut}
use Rattle.mill.specs.Numbered.{is_inside, segments_of}
use Rattle.mill.specs.Answer.{copper_of, mill_rows, cut_with, cut_by, cut_of}
use Rattle.mill.specs.Demand.{segments_in, CleanCopper}
use Rattle.mill.proofs.Theorems.{segments_clean, segments_cover, only_one, segments_length}
use Rattle.mill.proofs.Fitting.{segments_few, copper_few}
use Rattle.mill.proofs.Refusing.{mill_apart}
use Rattle.mill.proofs.Wired.{wired_inside}

module _ (feed : List Spot) (favour : Favour) (full : length feed ≡ most_pins) (ok : all_within feed ≡ true) where
  abbrev best : List Shape
  best = best_choice (favours_upper favour) feed (runs_of feed)

  abbrev legs : List Leg
  legs = legs_of_choice feed (runs_of feed) best

  -- The legs of the best choice lie on the board.
  on : each_of is_inside legs ≡ true
  on = wired_inside feed ok (runs_of feed) best

  -- Of the answer with the best choice of shapes the copper is what is demanded.
  answer_clean : CleanCopper (answer_with feed best) (cut_with (Ok tt) (copper_of feed favour))
  unfolding answer_with cut_with copper_of length_of_choice
  answer_clean =
      record {
        clean = rw (take_legs (segments_of legs)) (segments_clean legs on);
        number = ap length (sym (take_legs (segments_of legs)));
        covers = rw (take_legs (segments_of legs), take_legs legs) (segments_cover legs on);
        adds_up = rw (take_legs (segments_of legs)) (segments_length legs on);
        few = (copper_few feed favour full, segments_few legs);
        only = rw (take_legs (segments_of legs), take_legs legs) (only_one legs on);
      }

  -- THE COPPER OF EVERY ACCEPTED WIRING, as an answer that gives its segments has it.
  pub copper_demanded : (room : ℕ) → accepted (wiring_of feed room favour).wiring.verdict ≡ true
      → {cut : Cut} → cut ≡ cut_with (Ok tt) (copper_of feed favour) → CleanCopper (wiring_of feed room favour) cut
  unfolding wiring_of wiring_favouring wiring_with
  copper_demanded room z e =
      let h = answer_comes (answer_with feed best) (first_of (wiring_rows feed best room)) z in
      rw e (subst (λ (l : Laid). CleanCopper l (cut_with (Ok tt) (copper_of feed favour))) (sym h.0) answer_clean)

-- An accepted answer gives the segments, whatever its rows.
pub cut_accepted : (rows : List Row) → Apart rows → (segments : List Leg) → accepted (cut_by rows segments).milling.verdict ≡ true
    → cut_by rows segments ≡ cut_with (Ok tt) segments
unfolding cut_with
cut_accepted rows apart segments z =
    let e : first_of rows ≡ Ok tt = none-accepted rows (none-holds rows apart z) in
    rw e (unfold accepted choose in refl)

-- EVERY ACCEPTED MILLING OF A FEED IS WHAT DOCUMENT 02, [5] SAYS, beside every accepted wiring of it with the same favoured shape.
pub cut_demanded : (feed : List Spot) (favour : Favour) → length feed ≡ most_pins → all_within feed ≡ true → (room room' : ℕ)
    → accepted (wiring_of feed room favour).wiring.verdict ≡ true → accepted (cut_of feed room' favour).milling.verdict ≡ true
    → CleanCopper (wiring_of feed room favour) (cut_of feed room' favour)
unfolding cut_of
cut_demanded feed favour full ok room room' z w =
    copper_demanded feed favour full ok room z
    (cut_accepted (mill_rows feed room' favour) (mill_apart feed room' favour) (copper_of feed favour) w)

-- An answer stays what is demanded where its segments stand in another list, which begins with them.
pub clean_in_list : {laid : Laid} {cut : Cut} (list : List Leg) → take cut.milling.segments list ≡ segments_in cut → CleanCopper laid cut
    → CleanCopper laid (record { milling = cut.milling; list = list })
clean_in_list list e c =
    record {
      clean = rw e c.clean;
      number = rw e c.number;
      covers = rw e c.covers;
      adds_up = rw e c.adds_up;
      few = c.few;
      only = rw e c.only;
    }
