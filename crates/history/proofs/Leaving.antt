-- DEMAND 3 FOR WHAT LEAVES THE DESK: after any calls from the empty desk, the bytes written from a seat are the map, in the new form, of the job and pins of
-- its past, and the wiring of each of its nets is that of the net's feed among those pins. From Demand, Maps and the rows of the calls; assumes nothing.
use mathlib.Core.Path.{◌≡◌, sym, ap, ap₂, ◌∙◌}
use mathlib.Core.Bool.{true, not}
use mathlib.Core.List.{List}
use Prim.Native.Nat.{ℕ}
use lib.ListN.{length}
use Rattle.std.specs.Prelude.{is_ok}
use Rattle.refusal.specs.Refusals.{accepted}
use Rattle.drawing.specs.Pins.{Pin, feed_of}
use Rattle.pinmap.specs.declared.Form.TheVariants.{New}
use Rattle.writemap.specs.Map.{map_of}
use Rattle.copper.specs.declared.Favour.{Favour}
use Rattle.copper.specs.declared.Leg.{Leg}
use Rattle.wiring.specs.declared.Laid.{Laid}
use Rattle.wiring.specs.Answer.{wiring_of}
use Rattle.wiring.proofs.Demand.{answer_comes}
use Rattle.lent.specs.Lent.{strip_of, filled_with}
use Rattle.desk.specs.declared.Desk.{Desk}
use Rattle.rows.specs.Calls.{Call}
use Rattle.rows.proofs.Rows.{net_open}
use Rattle.rows.proofs.Passed.{OpenSeat}
use Rattle.desk.specs.Desk.{seat_of, sound, look_at, empty_desk}
use Rattle.asked.specs.Asked.{written_of, wired_of, wired_seat_of, lent_of}
use Rattle.history.specs.History.{job_in, pins_in, past_of, nothing, history, after}
use Rattle.history.specs.AsPast.{AsPast}
use Rattle.history.specs.Leaving.{bytes_from}
use Rattle.history.proofs.Demand.{desk_as_past}
use Rattle.history.proofs.Maps.{written_open, writing_writes_the_map}

-- ---- on any desk
module _ (d : Desk) (s net room : ℕ) (favour : Favour) (z : accepted (wired_of d s net room favour).answer.wiring.verdict ≡ true) where
  -- An accepted wiring of a net of a seat finds the seat open,
  pub wired_open : OpenSeat (look_at d s)
  unfolding wired_of
  wired_open = net_open (not (sound d)) s (seat_of d s).opened net (answer_comes (wiring_of (feed_of (seat_of d s).pins net) room favour) _ z).1

  -- and is the wiring of the feed of that net.
  pub wired_is : (wired_of d s net room favour).answer ≡ wiring_of (feed_of (seat_of d s).pins net) room favour
  unfolding wired_of
  wired_is = (answer_comes (wiring_of (feed_of (seat_of d s).pins net) room favour) _ z).0

-- ---- after any calls
module _ (calls : List Call) (s : ℕ) where
  -- The desk after the calls.
  abbrev desk : Desk
  desk = after empty_desk calls

  -- The job of a seat's past,
  abbrev job : ℕ
  job = job_in (past_of (history nothing calls) s)

  -- and its pins.
  abbrev pins : List Pin
  pins = pins_in (past_of (history nothing calls) s)

  -- A seat that is open has the job and the pins of its past.
  pub open_as_past : OpenSeat (look_at desk s) → ((seat_of desk s).job ≡ job) × ((seat_of desk s).pins ≡ pins)
  open_as_past o =
      let p : AsPast desk s (past_of (history nothing calls) s) = (desk_as_past calls).seat s o.low in
      let t = sym p.opened ∙ o.shown in
      (p.job t, p.pins t)

  -- THE BYTES WRITTEN FROM A SEAT ARE THE MAP OF THE JOB AND PINS OF ITS PAST, in the new form.
  pub written-after-calls : (buffer : List ℕ) → is_ok (written_of desk s buffer).answer ≡ true → bytes_from desk s buffer ≡ map_of New job pins
  written-after-calls buffer z =
      let p = open_as_past (written_open desk s buffer z) in
      writing_writes_the_map desk s buffer z ∙ ap₂ (map_of New) p.0 p.1

  -- THE WIRING OF EACH NET OF IT IS THAT OF THE FEED OF THE NET AMONG THOSE PINS,
  pub wired_after_calls : (net room : ℕ) (favour : Favour) → accepted (wired_of desk s net room favour).answer.wiring.verdict ≡ true
      → (wired_of desk s net room favour).answer ≡ wiring_of (feed_of pins net) room favour
  wired_after_calls net room favour z =
      wired_is desk s net room favour z ∙ ap (λ (l : List Pin). wiring_of (feed_of l net) room favour) (open_as_past (wired_open desk s net room favour z)).1

  -- into a lent list too: the answer, and the legs that the list is filled with.
  pub lent_after_calls : (net : ℕ) (lent : List Leg) (favour : Favour) → accepted (wired_seat_of desk s net lent favour).answer.verdict ≡ true
      → ((wired_seat_of desk s net lent favour).answer ≡ (wiring_of (feed_of pins net) (length lent) favour).wiring)
      × (lent_of desk s net lent favour ≡ filled_with (strip_of (wiring_of (feed_of pins net) (length lent) favour)) lent)
  unfolding wired_seat_of lent_of
  lent_after_calls net lent favour z =
      let e = wired_after_calls net (length lent) favour z in
      (ap (λ (l : Laid). l.wiring) e, ap (λ (l : Laid). filled_with (strip_of l) lent) e)
