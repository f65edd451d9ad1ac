-- What wiring a net of a seat answers, on ANY desk: its verdict is the one that the call is answered; refused, the answer is empty and the lent list
-- as it was. From the rows of the calls and what a refused wiring of a feed is; assumes nothing.
use mathlib.Core.Path.{◌≡◌, refl}
use mathlib.Core.Bool.{false, not}
use mathlib.Core.List.{List}
use Prim.Native.Nat.{ℕ}
use lib.ListN.{length}
use Rattle.refusal.specs.Refusals.{accepted}
use Rattle.refusal.specs.Rows.{first_of, Exactly}
use Rattle.drawing.specs.Pins.{feed_of}
use Rattle.copper.specs.declared.Favour.{Favour}
use Rattle.copper.specs.declared.Leg.{Leg}
use Rattle.wiring.specs.Answer.{wiring_of, feed_rows}
use Rattle.wiring.proofs.Refusing.{laid_behind, wiring_verdict}
use Rattle.wiring.specs.Demand.{Alone, Empty}
use Rattle.lent.proofs.Untouched.{turned_by, wiring_turned, alone_empty, untouched}
use Rattle.rows.specs.Calls.{asking, wiring}
use Rattle.rows.proofs.Rows.{net_apart}
use Rattle.desk.specs.declared.Desk.{Desk}
use Rattle.desk.specs.Desk.{seat_of, sound, naming_net_at, rows_at, answer_of, step}
use Rattle.asked.specs.Asked.{wired_of, wired_seat_of, lent_of}
use Rattle.history.proofs.Refused.{each_refusal_exactly}

-- The verdict in the answer of wiring a net of a seat is what the call is answered,
pub wired_verdict : (d : Desk) (s net room : ℕ) (favour : Favour)
    → (wired_of d s net room favour).answer.wiring.verdict ≡ answer_of d (asking s (wiring net room favour))
unfolding wired_of answer_of
wired_verdict d s net room favour =
    let feed = feed_of (seat_of d s).pins net in
    laid_behind (naming_net_at d s net) (feed_rows feed room favour) (net_apart (not (sound d)) s (seat_of d s).opened net)
    (wiring_of feed room favour) (wiring_verdict feed room favour)

-- with a lent list its length is the room;
pub lent_verdict : (d : Desk) (s net : ℕ) (lent : List Leg) (favour : Favour)
    → (wired_seat_of d s net lent favour).answer.verdict ≡ answer_of d (asking s (wiring net (length lent) favour))
unfolding wired_seat_of
lent_verdict d s net lent favour = wired_verdict d s net (length lent) favour

-- so each of its refusals is given exactly under its condition, and after those before it.
pub wired_exactly : (d : Desk) (s net room : ℕ) (favour : Favour)
    → Exactly (rows_at d (asking s (wiring net room favour))) (wired_of d s net room favour).answer.wiring.verdict
unfolding step
wired_exactly d s net room favour = rw (wired_verdict d s net room favour) (each_refusal_exactly d (asking s (wiring net room favour)))

-- ---- what a refused wiring leaves

-- A refused wiring of a net of a seat is one that was turned away.
wired_turned : (d : Desk) (s net room : ℕ) (favour : Favour) → Alone (wired_of d s net room favour).answer
unfolding wired_of
wired_turned d s net room favour =
    let v = first_of (naming_net_at d s net) in
    turned_by (accepted v) v (wiring_of (feed_of (seat_of d s).pins net) room favour) (wiring_turned (feed_of (seat_of d s).pins net) room favour)

-- A refused wiring of a net of a seat has length, runs, legs and choices zero, and every run entry 0, 0, straight;
pub refused_wiring_is_empty : (d : Desk) (s net room : ℕ) (favour : Favour) → accepted (wired_of d s net room favour).answer.wiring.verdict ≡ false
    → Empty (wired_of d s net room favour).answer.wiring
refused_wiring_is_empty d s net room favour e = alone_empty (wired_of d s net room favour).answer (wired_turned d s net room favour) e

-- into a lent list too,
pub refused_lent_is_empty : (d : Desk) (s net : ℕ) (lent : List Leg) (favour : Favour) → accepted (wired_seat_of d s net lent favour).answer.verdict ≡ false
    → Empty (wired_seat_of d s net lent favour).answer
unfolding wired_seat_of
refused_lent_is_empty d s net lent favour e = refused_wiring_is_empty d s net (length lent) favour e

-- which it leaves as it was.
pub refused_leaves_the_legs : (d : Desk) (s net : ℕ) (lent : List Leg) (favour : Favour) → accepted (wired_seat_of d s net lent favour).answer.verdict ≡ false
    → lent_of d s net lent favour ≡ lent
unfolding wired_seat_of lent_of
refused_leaves_the_legs d s net lent favour e = untouched (wired_of d s net (length lent) favour).answer lent (wired_turned d s net (length lent) favour) e

-- Wiring into a lent list leaves the desk as it is, accepted or not.
pub lent_leaves_the_desk : (d : Desk) (s net : ℕ) (lent : List Leg) (favour : Favour) → (wired_seat_of d s net lent favour).desk ≡ d
unfolding wired_seat_of
lent_leaves_the_desk d s net lent favour = refl
