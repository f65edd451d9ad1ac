-- DEMAND 2 FOR ACCEPTED ANSWERS, NET BY NET: every accepted wiring of a net of a seat, on any desk and after any calls from the empty desk, is what demand 2
-- and document 01 say of that net's pins; and at every open seat of a desk that is not broken, the boxes of two runs of a net that have no common pin never
-- share a point, wired or not. From the theorems of wiring and spanning and Leaving; assumes nothing.
use mathlib.Core.Path.{◌≡◌, sym, ap, subst}
use mathlib.Core.Bool.{true, not}
use mathlib.Core.List.{List}
use Prim.Native.Nat.{ℕ, ◌<◌}
use lib.ListN.{length}
use Rattle.refusal.specs.Refusals.{accepted}
use Rattle.refusal.specs.Rows.{first_of}
use Rattle.drawing.specs.Pins.{Pin, lawful, feed_of}
use Rattle.drawing.proofs.Feeds.{feed_long, feed_within}
use Rattle.copper.specs.declared.Favour.{Favour}
use Rattle.copper.specs.Shapes.{favours_upper}
use Rattle.copper.specs.declared.Leg.{Leg}
use Rattle.tree.specs.Growth.{runs_of}
use Rattle.tree.specs.Boxes.{boxes_apart}
use Rattle.spanning.proofs.Apart.{never_meet}
use Rattle.wiring.specs.Answer.{wiring_of}
use Rattle.wiring.specs.Demand.{BestWiring, SameButShapes}
use Rattle.wiring.proofs.Demand.{accepted_is_best}
use Rattle.wiring.proofs.Either.{turned_either}
use Rattle.lent.proofs.Demand.{filled_best}
use Rattle.desk.specs.declared.Desk.{Desk}
use Rattle.journal.specs.Journal.{most_seats}
use Rattle.rows.specs.Calls.{Call}
use Rattle.rows.proofs.Passed.{OpenSeat}
use Rattle.desk.specs.Desk.{seat_of, sound, look_at, feed_at, naming_net_at, empty_desk}
use Rattle.asked.specs.Asked.{wired_of, wired_seat_of, lent_of}
use Rattle.desk.proofs.Sound.{pins_lawful}
use Rattle.history.specs.History.{pins_in, past_of, nothing, history, after}
use Rattle.history.proofs.Demand.{desk_as_past}
use Rattle.history.proofs.Opened.{open_lawful}
use Rattle.history.proofs.Leaving.{wired_open, wired_is, open_as_past}

-- An accepted wiring of the feed of a net of pins that keep the rules is what is demanded.
lawful_is_best : (l : List Pin) (net room : ℕ) (favour : Favour) → lawful l ≡ true → accepted (wiring_of (feed_of l net) room favour).wiring.verdict ≡ true
    → BestWiring (favours_upper favour) (feed_of l net) (wiring_of (feed_of l net) room favour)
unfolding wiring_of
lawful_is_best l net room favour k z = accepted_is_best (favours_upper favour) (feed_of l net) (feed_long l net k) (feed_within l net k) room z

-- ON ANY DESK: every accepted wiring of a net of a seat is what demand 2 and document 01 say of that net's pins,
pub wired_is_best : (d : Desk) (s net room : ℕ) (favour : Favour) → accepted (wired_of d s net room favour).answer.wiring.verdict ≡ true
    → BestWiring (favours_upper favour) (feed_of (seat_of d s).pins net) (wired_of d s net room favour).answer
wired_is_best d s net room favour z =
    let e = wired_is d s net room favour z in
    let k : lawful (seat_of d s).pins ≡ true = open_lawful d s (wired_open d s net room favour z) in
    subst (BestWiring (favours_upper favour) (feed_of (seat_of d s).pins net)) (sym e) (lawful_is_best (seat_of d s).pins net room favour k (rw e at z))

-- with the legs in a lent list too.
pub lent_is_best : (d : Desk) (s net : ℕ) (lent : List Leg) (favour : Favour) → accepted (wired_seat_of d s net lent favour).answer.verdict ≡ true
    → BestWiring (favours_upper favour) (feed_of (seat_of d s).pins net)
    (record { wiring = (wired_seat_of d s net lent favour).answer; list = lent_of d s net lent favour })
unfolding wired_seat_of lent_of
lent_is_best d s net lent favour z = filled_best (wired_is_best d s net (length lent) favour z) lent

-- AFTER ANY CALLS from the empty desk: every accepted wiring of a net of a seat is what demand 2 and document 01 say of that net's pins in the seat's past,
pub wired_is_best_after_calls : (calls : List Call) (s net room : ℕ) (favour : Favour)
    → accepted (wired_of (after empty_desk calls) s net room favour).answer.wiring.verdict ≡ true
    → BestWiring (favours_upper favour) (feed_of (pins_in (past_of (history nothing calls) s)) net) (wired_of (after empty_desk calls) s net room favour).answer
wired_is_best_after_calls calls s net room favour z =
    let d = after empty_desk calls in
    subst (λ (l : List Pin). BestWiring (favours_upper favour) (feed_of l net) (wired_of d s net room favour).answer)
    (open_as_past calls s (wired_open d s net room favour z)).1 (wired_is_best d s net room favour z)

-- with the legs in a lent list too.
pub lent_is_best_after_calls : (calls : List Call) (s net : ℕ) (lent : List Leg) (favour : Favour)
    → accepted (wired_seat_of (after empty_desk calls) s net lent favour).answer.verdict ≡ true
    → BestWiring (favours_upper favour) (feed_of (pins_in (past_of (history nothing calls) s)) net)
    (record { wiring = (wired_seat_of (after empty_desk calls) s net lent favour).answer; list = lent_of (after empty_desk calls) s net lent favour })
unfolding wired_seat_of lent_of
lent_is_best_after_calls calls s net lent favour z = filled_best (wired_is_best_after_calls calls s net (length lent) favour z) lent

-- ON ANY DESK THAT IS NOT BROKEN, AT EVERY OPEN SEAT, FOR EVERY NET: the boxes of two runs without a common pin never share a point,
pub boxes_never_meet : (d : Desk) (s net : ℕ) → sound d ≡ true → s < most_seats → (seat_of d s).opened ≡ true
    → boxes_apart (feed_at d s net) (runs_of (feed_at d s net)) ≡ true
boxes_never_meet d s net unbroken low shown =
    let k : lawful (seat_of d s).pins ≡ true = pins_lawful d unbroken s low shown in
    never_meet (feed_at d s net) (feed_long _ net k) (feed_within _ net k)

-- after any calls from the empty desk those of that net's pins in the seat's past.
pub boxes_never_meet_after_calls : (calls : List Call) (s net : ℕ) → s < most_seats → (seat_of (after empty_desk calls) s).opened ≡ true
    → boxes_apart (feed_of (pins_in (past_of (history nothing calls) s)) net) (runs_of (feed_of (pins_in (past_of (history nothing calls) s)) net)) ≡ true
boxes_never_meet_after_calls calls s net low shown =
    let unbroken = (desk_as_past calls).unbroken in
    let o : OpenSeat (look_at (after empty_desk calls) s) = record { unbroken = ap not unbroken; low = low; shown = shown } in
    subst (λ (l : List Pin). boxes_apart (feed_of l net) (runs_of (feed_of l net)) ≡ true) (open_as_past calls s o).1
    (boxes_never_meet (after empty_desk calls) s net unbroken low shown)

-- WHATEVER IS SAID OF THE SHAPE TO FAVOUR, THE WIRING OF A NET OF A SEAT IS THE SAME BUT FOR SHAPES, on any desk, accepted or refused,
pub wired_either : (d : Desk) (s net room : ℕ) (f g : Favour) → SameButShapes (wired_of d s net room f).answer.wiring (wired_of d s net room g).answer.wiring
unfolding wired_of
wired_either d s net room f g = turned_either (first_of (naming_net_at d s net)) (feed_of (seat_of d s).pins net) room f g

-- into a lent list too.
pub lent_either : (d : Desk) (s net : ℕ) (lent : List Leg) (f g : Favour)
    → SameButShapes (wired_seat_of d s net lent f).answer (wired_seat_of d s net lent g).answer
unfolding wired_seat_of
lent_either d s net lent f g = wired_either d s net (length lent) f g
