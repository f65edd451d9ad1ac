-- DEMAND 2 FOR BARE LISTS: every accepted wiring of lists of x and y is what demand 2 and document 01 say, of the feed whose pins are numbered by position;
-- and the boxes of two runs of such a feed that have no common pin never share a point, wired or not. Assumes nothing.
use mathlib.Core.Path.{◌≡◌, sym, subst}
use mathlib.Core.Bool.{true}
use mathlib.Core.List.{List}
use Prim.Native.Nat.{ℕ}
use lib.IntN.{ℤ}
use lib.ListN.{length}
use borrow.Author.Tests.{not-false}
use Rattle.refusal.specs.Refusals.{accepted}
use Rattle.refusal.specs.Rows.{first_of, NoneHolds}
use Rattle.refusal.proofs.Rows.{none-holds}
use Rattle.tree.specs.Growth.{runs_of}
use Rattle.tree.specs.Boxes.{boxes_apart}
use Rattle.spanning.proofs.Apart.{never_meet}
use Rattle.copper.specs.declared.Favour.{Favour}
use Rattle.copper.specs.Shapes.{favours_upper}
use Rattle.copper.specs.declared.Leg.{Leg}
use Rattle.wiring.specs.Answer.{wiring_of}
use Rattle.wiring.specs.Demand.{BestWiring, SameButShapes}
use Rattle.wiring.proofs.Demand.{answer_comes, accepted_is_best}
use Rattle.wiring.proofs.Either.{turned_either}
use Rattle.lent.specs.Lent.{strip_of, filled_with}
use Rattle.lent.proofs.Demand.{filled_best}
use Rattle.bare.specs.Bare.{feed_of_lists, list_rows, bare_of}
use Rattle.bare.proofs.Feeds.{feed_many}
use Rattle.bare.proofs.Verdicts.{list_apart}

-- EVERY ACCEPTED WIRING OF BARE LISTS IS WHAT DEMAND 2 AND DOCUMENT 01 SAY,
pub bare_is_best : (xs ys : List ℤ) (room : ℕ) (favour : Favour) → accepted (bare_of xs ys room favour).wiring.verdict ≡ true
    → BestWiring (favours_upper favour) (feed_of_lists xs ys) (bare_of xs ys room favour)
unfolding bare_of wiring_of NoneHolds
bare_is_best xs ys room favour z =
    let h = answer_comes (wiring_of (feed_of_lists xs ys) room favour) (first_of (list_rows xs ys)) z in
    let w = none-holds (list_rows xs ys) (list_apart xs ys) h.1 in
    let y : accepted (wiring_of (feed_of_lists xs ys) room favour).wiring.verdict ≡ true = rw h.0 at z in
    subst (BestWiring (favours_upper favour) (feed_of_lists xs ys)) (sym h.0)
    (accepted_is_best (favours_upper favour) (feed_of_lists xs ys) (feed_many xs ys) (not-false _ w.1.1.0) room y)

-- and so it is with the legs in a lent list.
pub bare_lent_is_best : (xs ys : List ℤ) (lent : List Leg) (favour : Favour) → accepted (bare_of xs ys (length lent) favour).wiring.verdict ≡ true
    → BestWiring (favours_upper favour) (feed_of_lists xs ys)
    (record { wiring = (bare_of xs ys (length lent) favour).wiring; list = filled_with (strip_of (bare_of xs ys (length lent) favour)) lent })
bare_lent_is_best xs ys lent favour z = filled_best (bare_is_best xs ys (length lent) favour z) lent

-- WHATEVER IS SAID OF THE SHAPE TO FAVOUR, THE WIRING OF BARE LISTS IS THE SAME BUT FOR SHAPES, accepted or refused.
pub bare_either : (xs ys : List ℤ) (room : ℕ) (f g : Favour) → SameButShapes (bare_of xs ys room f).wiring (bare_of xs ys room g).wiring
unfolding bare_of
bare_either xs ys room f g = turned_either (first_of (list_rows xs ys)) (feed_of_lists xs ys) room f g

-- THE BOXES OF TWO RUNS WITHOUT A COMMON PIN NEVER SHARE A POINT, for any lists to which none of 16, 17, 8 and 9 applies.
pub bare_boxes_apart : (xs ys : List ℤ) → NoneHolds (list_rows xs ys) → boxes_apart (feed_of_lists xs ys) (runs_of (feed_of_lists xs ys)) ≡ true
unfolding NoneHolds
bare_boxes_apart xs ys n = never_meet (feed_of_lists xs ys) (feed_many xs ys) (not-false _ n.1.1.0)
