-- Wiring into a lent list of legs and milling into one of segments: the entries fit, and what the answer and the list are. From what `wire` and `mill` answer.
use mathlib.Core.Path.{◌≡◌, refl}
use mathlib.Core.List.{List}
use Prim.Native.Nat.{ℕ}
use lib.ListN.{length}
use Rattle.refusal.specs.Refusals.{accepted}
use Rattle.refusal.specs.Rows.{first_of}
use Rattle.copper.specs.declared.Favour.{Favour}
use Rattle.copper.specs.declared.Leg.{Leg}
use Rattle.wiring.specs.Answer.{wiring_of}
use Rattle.lent.specs.Lent.{strip_of, filled_with}
use Rattle.lent.proofs.Fitting.{StripFits, Fits, fits-either, wiring_fits}
use Rattle.mill.specs.Answer.{strip_of_cut}
use Rattle.mill.proofs.Fitting.{cut_fits}
use Rattle.rows.specs.Calls.{asking, milling}
use Rattle.rows.proofs.Rows.{rows_apart}
use Rattle.desk.specs.declared.Desk.{Desk}
use Rattle.desk.specs.Desk.{look_at, naming_net_at, feed_at}
use Rattle.asked.specs.Asked.{WiredSeat, MilledSeat, wired_of, wired_seat_of, lent_of, milled_of, milled_seat_of, segments_lent_of}
use Rattle.desk.proofs.Sound.{feed_whole}

-- The legs of a seat's wiring are at most 62, and at most the room.
pub seat_fits : (d : Desk) (s net room : ℕ) (favour : Favour) → Fits room (wired_of d s net room favour).answer
unfolding wired_of
seat_fits d s net room favour =
    let v = first_of (naming_net_at d s net) in
    fits-either (accepted v) v room (wiring_of (feed_at d s net) room favour) (λ e. wiring_fits _ room favour (feed_whole d s net e))

module _ (d : Desk) (s net : ℕ) (lent : List Leg) (favour : Favour) where
  -- What is answered,
  pub seat_answered : ◌≡◌ {A = WiredSeat}
      (record { desk = (wired_of d s net (length lent) favour).desk; answer = (wired_of d s net (length lent) favour).answer.wiring })
      (wired_seat_of d s net lent favour)
  unfolding wired_seat_of wired_of
  seat_answered = refl

  -- and what the list holds then.
  pub legs_lent : filled_with (strip_of (wired_of d s net (length lent) favour).answer) lent ≡ lent_of d s net lent favour
  unfolding lent_of
  legs_lent = refl

-- The segments of a seat's copper are at most 62, and at most the room.
pub milling_fits : (d : Desk) (s net room : ℕ) (favour : Favour) → StripFits room (strip_of_cut (milled_of d s net room favour).answer)
unfolding milled_of
milling_fits d s net room favour =
    cut_fits (naming_net_at d s net) (feed_at d s net) room favour (rows_apart (look_at d s) (asking s (milling net room favour))) (feed_whole d s net)

module _ (d : Desk) (s net : ℕ) (lent : List Leg) (favour : Favour) where
  -- What is answered,
  pub milling_answered : ◌≡◌ {A = MilledSeat}
      (record { desk = (milled_of d s net (length lent) favour).desk; answer = (milled_of d s net (length lent) favour).answer.milling })
      (milled_seat_of d s net lent favour)
  unfolding milled_seat_of milled_of
  milling_answered = refl

  -- and what the list holds then.
  pub segments_lent : filled_with (strip_of_cut (milled_of d s net (length lent) favour).answer) lent ≡ segments_lent_of d s net lent favour
  unfolding segments_lent_of
  segments_lent = refl
