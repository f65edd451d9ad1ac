-- THE COPPER OF A NET OF A SEAT AS SEGMENTS, on any desk: the verdict is what the call is answered, each refusal given exactly under its condition; accepted,
-- the segments are what document 02, [5] says of the net's wiring, after any calls of its pins in the seat's past; refused, there are none, and a lent list
-- is as it was. Assumes nothing.
use mathlib.Core.Path.{◌≡◌, refl, sym, ap, ◌∙◌, subst}
use mathlib.Core.Bool.{true, false, not}
use mathlib.Core.List.{List, [], ◌∷◌}
use Prim.Native.Nat.{ℕ}
use lib.ListN.{length, take, drop}
use lib.Seq.{drop_at}
use lib.Dec.{ltb}
use Rattle.basics.specs.Tests.{choose}
use Rattle.basics.proofs.Tests.{choose_yes, choose_no}
use Rattle.refusal.specs.Refusals.{accepted}
use Rattle.refusal.specs.Rows.{given, first_of, Exactly}
use Rattle.refusal.specs.declared.Refusal.TheVariants.{RoomTooSmall}
use Rattle.std.specs.Prelude.{Ok, Err}
use Rattle.refusal.proofs.Rows.{none-accepted, none_first, none_before, none_after, none-holds}
use Rattle.drawing.specs.Pins.{Pin, feed_of}
use Rattle.drawing.proofs.Feeds.{feed_long, feed_within}
use Rattle.copper.specs.declared.Favour.{Favour}
use Rattle.copper.specs.declared.Leg.{Leg}
use Rattle.tree.specs.Trees.{tree_rows}
use Rattle.wiring.specs.declared.Laid.{Laid}
use Rattle.laying.specs.Entries.{most_legs}
use Rattle.wiring.specs.Answer.{feed_rows, wiring_of}
use Rattle.wiring.specs.Demand.{legs_in}
use Rattle.wiring.proofs.Few.{most_room_verdict}
use Rattle.wiring.proofs.Refusing.{wiring_apart, wiring_verdict}
use Rattle.wiring.proofs.Shortest.{take_legs}
use Rattle.wiring.proofs.Demand.{answer_comes}
use Rattle.mill.specs.declared.Cut.{Cut}
use Rattle.mill.specs.Segments.{CleanList, SameSteps}
use Rattle.mill.specs.Answer.{copper_of, mill_rows, cut_with, strip_of_cut}
use Rattle.mill.specs.Demand.{segments_in, CleanCopper}
use Rattle.mill.proofs.Demand.{cut_accepted, copper_demanded, clean_in_list}
use Rattle.lent.specs.Lent.{filled_with}
use Rattle.lent.proofs.Untouched.{none_filled}
use Rattle.lent.proofs.Demand.{filled_begins}
use Rattle.rows.specs.Calls.{Call, asking, milling}
use Rattle.rows.proofs.Rows.{net_apart, rows_apart}
use Rattle.rows.proofs.Passed.{OpenSeat, Passes, passes}
use Rattle.desk.specs.declared.Desk.{Desk}
use Rattle.desk.specs.Desk.{seat_of, sound, look_at, naming_net_at, rows_at, answer_of, step, empty_desk}
use Rattle.asked.specs.Asked.{wired_of, milled_of, milled_seat_of, segments_lent_of}
use Rattle.history.specs.History.{pins_in, past_of, nothing, history, after}
use Rattle.history.proofs.Opened.{open_lawful}
use Rattle.history.proofs.Refused.{each_refusal_exactly}
use Rattle.history.proofs.Leaving.{open_as_past, wired_open, wired_is}

-- ---- on any desk
-- An accepted wiring of a net of a seat has passed 28, 1, 2 and 21.
named_when : (d : Desk) (s net legs : ℕ) (favour : Favour) → accepted (wired_of d s net legs favour).answer.wiring.verdict ≡ true
    → accepted (first_of (naming_net_at d s net)) ≡ true
unfolding wired_of
named_when d s net legs favour z = (answer_comes (wiring_of (feed_of (seat_of d s).pins net) legs favour) _ z).1

module _ (d : Desk) (s net room : ℕ) (favour : Favour) where
  -- The verdict in the answer is what the call is answered,
  pub milled_verdict : (milled_of d s net room favour).answer.milling.verdict ≡ answer_of d (asking s (milling net room favour))
  unfolding milled_of answer_of cut_with
  milled_verdict = refl

  -- so each of its refusals is given exactly under its condition, and after those before it.
  pub milled_exactly : Exactly (rows_at d (asking s (milling net room favour))) (milled_of d s net room favour).answer.milling.verdict
  unfolding step
  milled_exactly = rw milled_verdict (each_refusal_exactly d (asking s (milling net room favour)))

  -- The answer hands back the desk that it was given.
  pub milled_leaves_the_desk : (milled_of d s net room favour).desk ≡ d
  unfolding milled_of
  milled_leaves_the_desk = refl

  -- A refusal is its verdict, with no segments.
  pub refused_has_no_segments : accepted (milled_of d s net room favour).answer.milling.verdict ≡ false
      → (milled_of d s net room favour).answer ≡ cut_with (milled_of d s net room favour).answer.milling.verdict []
  unfolding milled_of cut_with
  refused_has_no_segments e = ap (cut_with _) (choose_no _ _ e)

  module _ (e : accepted (milled_of d s net room favour).answer.milling.verdict ≡ true) where
    -- An accepted call finds the seat open,
    pub milled_open : OpenSeat (look_at d s)
    unfolding milled_of cut_with Passes
    milled_open = (passes (look_at d s) (asking s (milling net room favour)) e).0

    -- and gives the segments of the copper of the net's feed:
    pub milled_is : (milled_of d s net room favour).answer ≡ cut_with (Ok tt) (copper_of (feed_of (seat_of d s).pins net) favour)
    unfolding milled_of
    milled_is = cut_accepted (rows_at d (asking s (milling net room favour))) (rows_apart (look_at d s) (asking s (milling net room favour))) _ e

    -- Then a wiring of the net with room for 62 legs is accepted too,
    pub milled_is_wired : accepted (wired_of d s net most_legs favour).answer.wiring.verdict ≡ true
    unfolding milled_of cut_with wired_of accepted
    milled_is_wired =
        let feed = feed_of (seat_of d s).pins net in
        let l = open_lawful d s milled_open in
        let n = none-holds (rows_at d (asking s (milling net room favour))) (rows_apart (look_at d s) (asking s (milling net room favour))) e in
        let named = none-accepted (naming_net_at d s net) (none_before (naming_net_at d s net) (mill_rows feed room favour) n) in
        let treed = none-accepted (tree_rows feed) (none_before (tree_rows feed) _ (none_after (naming_net_at d s net) (mill_rows feed room favour) n)) in
        ap accepted (ap (λ (w : Laid). w.wiring.verdict) (choose_yes _ _ (ap accepted named)) ∙ most_room_verdict feed favour (feed_long _ net l) ∙ treed)

    -- and beside any accepted wiring of it the segments are WHAT DOCUMENT 02, [5] SAYS.
    pub milled_is_clean : (legs : ℕ) → accepted (wired_of d s net legs favour).answer.wiring.verdict ≡ true
        → CleanCopper (wired_of d s net legs favour).answer (milled_of d s net room favour).answer
    milled_is_clean legs z =
        let l = open_lawful d s milled_open in
        let w = wired_is d s net legs favour z in
        subst (λ laid. CleanCopper laid (milled_of d s net room favour).answer) (sym w)
        (copper_demanded (feed_of (seat_of d s).pins net) favour (feed_long _ net l) (feed_within _ net l) legs (rw w at z) milled_is)

  -- WHERE THE NET IS WIRED, ITS COPPER IS GIVEN, unless the room is smaller than the clean list of its steps: 19, counted in segments.
  pub room_in_segments : (legs : ℕ) → accepted (wired_of d s net legs favour).answer.wiring.verdict ≡ true
      → (l : List Leg) → CleanList l → SameSteps l (legs_in (wired_of d s net legs favour).answer)
      → (milled_of d s net room favour).answer.milling.verdict ≡ choose (ltb room (length l)) (Err RoomTooSmall) (Ok tt)
  unfolding milled_of cut_with first_of
  room_in_segments legs z l c same =
      let feed = feed_of (seat_of d s).pins net in
      let w = wired_is d s net legs favour z in
      let wired : accepted (wiring_of feed legs favour).wiring.verdict ≡ true = rw w at z in
      let k = open_lawful d s (wired_open d s net legs favour z) in
      let c' = copper_demanded feed favour (feed_long _ net k) (feed_within _ net k) legs wired refl in
      let e : l ≡ copper_of feed favour = c'.only l c (rw w at same) ∙ (unfold cut_with in take_legs (copper_of feed favour)) in
      let named = none-holds (naming_net_at d s net) (net_apart (not (sound d)) s (seat_of d s).opened net) (named_when d s net legs favour z) in
      let treed = none_before (tree_rows feed) _
      (none-holds (feed_rows feed legs favour) (wiring_apart feed _ legs) (ap accepted (sym (wiring_verdict feed legs favour)) ∙ wired)) in
      none_first (naming_net_at d s net) (mill_rows feed room favour) named
      ∙ none_first (tree_rows feed) (given (ltb room (length (copper_of feed favour))) RoomTooSmall ∷ []) treed
      ∙ ap (λ (m : List Leg). choose (ltb room (length m)) (Err RoomTooSmall) (Ok tt)) (sym e)

-- ANY TWO WIRINGS THAT COVER THE SAME STEPS GIVE THE SAME LIST, of whatever nets, seats, desks and shapes to favour.
pub same_copper : (d e : Desk) (s t net net' room room' legs legs' : ℕ) (f g : Favour)
    → accepted (milled_of d s net room f).answer.milling.verdict ≡ true → accepted (milled_of e t net' room' g).answer.milling.verdict ≡ true
    → accepted (wired_of d s net legs f).answer.wiring.verdict ≡ true → accepted (wired_of e t net' legs' g).answer.wiring.verdict ≡ true
    → SameSteps (legs_in (wired_of d s net legs f).answer) (legs_in (wired_of e t net' legs' g).answer)
    → (segments_in (milled_of d s net room f).answer ≡ segments_in (milled_of e t net' room' g).answer)
    × ((milled_of d s net room f).answer.milling.segments ≡ (milled_of e t net' room' g).answer.milling.segments)
same_copper d e s t net net' room room' legs legs' f g m n y z c =
    let a = milled_is_clean d s net room f m legs y in
    let b = milled_is_clean e t net' room' g n legs' z in
    let same = b.only (segments_in (milled_of d s net room f).answer) a.clean
    (record { there = λ step h. c.there step (a.covers.there step h); back = λ step h. a.covers.back step (c.back step h) }) in
    (same, a.number ∙ ap length same ∙ sym b.number)

-- ---- into a lent list
module _ (d : Desk) (s net : ℕ) (lent : List Leg) (favour : Favour) where
  -- The answer of the call with its segments by value, with the list's length as the room.
  abbrev cut : Cut
  cut = (milled_of d s net (length lent) favour).answer

  -- The verdict is what the call is answered,
  pub lent_milled_verdict : (milled_seat_of d s net lent favour).answer.verdict ≡ answer_of d (asking s (milling net (length lent) favour))
  unfolding milled_seat_of
  lent_milled_verdict = milled_verdict d s net (length lent) favour

  -- and the desk stays as it is.
  pub lent_milled_leaves_the_desk : (milled_seat_of d s net lent favour).desk ≡ d
  unfolding milled_seat_of
  lent_milled_leaves_the_desk = refl

  -- A refused call leaves the list as it was, and has no segments.
  pub refused_leaves_the_segments : accepted (milled_seat_of d s net lent favour).answer.verdict ≡ false
      → (segments_lent_of d s net lent favour ≡ lent) × ((milled_seat_of d s net lent favour).answer.segments ≡ 0)
  unfolding milled_seat_of segments_lent_of
  refused_leaves_the_segments e =
      let n : cut.milling.segments ≡ 0 =
      ap (λ (c : Cut). c.milling.segments) (refused_has_no_segments d s net (length lent) favour e) ∙ (unfold cut_with in refl) in
      (none_filled (strip_of_cut cut) lent n, n)

  module _ (e : accepted (milled_seat_of d s net lent favour).answer.verdict ≡ true) where
    -- An accepted one has as many segments as it says,
    lent_number : cut.milling.segments ≡ length (segments_in cut)
    unfolding milled_seat_of
    lent_number = (milled_is_clean d s net (length lent) favour e most_legs (milled_is_wired d s net (length lent) favour e)).number

    -- fills the first entries with them,
    pub lent_begins : take cut.milling.segments (segments_lent_of d s net lent favour) ≡ segments_in cut
    unfolding segments_lent_of
    lent_begins = filled_begins (strip_of_cut cut) lent lent_number

    -- keeps the contents of the entries after the last segment,
    pub lent_keeps : drop cut.milling.segments (segments_lent_of d s net lent favour) ≡ drop cut.milling.segments lent
    unfolding segments_lent_of filled_with
    lent_keeps = drop_at (segments_in cut) _ cut.milling.segments (sym lent_number)

    -- and with that list the answer is what document 02, [5] says.
    pub lent_is_clean : (legs : ℕ) → accepted (wired_of d s net legs favour).answer.wiring.verdict ≡ true
        → CleanCopper (wired_of d s net legs favour).answer
        (record { milling = (milled_seat_of d s net lent favour).answer; list = segments_lent_of d s net lent favour })
    unfolding milled_seat_of
    lent_is_clean legs z = clean_in_list (segments_lent_of d s net lent favour) lent_begins (milled_is_clean d s net (length lent) favour e legs z)

-- AFTER ANY CALLS from the empty desk: the segments are those of the copper of the net's pins in the seat's past.
pub milled_after_calls : (calls : List Call) (s net room : ℕ) (favour : Favour)
    → accepted (milled_of (after empty_desk calls) s net room favour).answer.milling.verdict ≡ true
    → (milled_of (after empty_desk calls) s net room favour).answer
    ≡ cut_with (Ok tt) (copper_of (feed_of (pins_in (past_of (history nothing calls) s)) net) favour)
milled_after_calls calls s net room favour e =
    let d = after empty_desk calls in
    milled_is d s net room favour e
    ∙ ap (λ (l : List Pin). cut_with (Ok tt) (copper_of (feed_of l net) favour)) (open_as_past calls s (milled_open d s net room favour e)).1

-- into a lent list too: the answer, and the segments that the list is filled with.
pub lent_milled_after_calls : (calls : List Call) (s net : ℕ) (lent : List Leg) (favour : Favour)
    → accepted (milled_seat_of (after empty_desk calls) s net lent favour).answer.verdict ≡ true
    → ((milled_seat_of (after empty_desk calls) s net lent favour).answer
    ≡ (cut_with (Ok tt) (copper_of (feed_of (pins_in (past_of (history nothing calls) s)) net) favour)).milling)
    × (segments_lent_of (after empty_desk calls) s net lent favour
    ≡ filled_with (strip_of_cut (cut_with (Ok tt) (copper_of (feed_of (pins_in (past_of (history nothing calls) s)) net) favour))) lent)
unfolding milled_seat_of segments_lent_of
lent_milled_after_calls calls s net lent favour e =
    let w = milled_after_calls calls s net (length lent) favour e in
    (ap (λ (c : Cut). c.milling) w, ap (λ (c : Cut). filled_with (strip_of_cut c) lent) w)
