-- What a sound desk says of its parts: each test that `sound` joins, as a fact. Assumes nothing.
use mathlib.Core.Path.{◌≡◌, ap, sym, ◌∙◌}
use mathlib.Core.Bool.{true, false, not}
use mathlib.Core.List.{◌∷◌, reverse}
use Prim.Native.Nat.{ℕ, suc, ◌+◌, ◌-◌, ◌<◌, ◌≤◌}
use native.Mathlib.Omega.{arith}
use borrow.Author.Tests.{eqb-true, eqb-false, leb-true, not-true, not-false}
use lib.ListN.{length, take, drop, get_or}
use lib.Seq.{drop-cons, length-take-le}
use Rattle.refusal.specs.Refusals.{accepted}
use Rattle.refusal.specs.Rows.{first_of}
use Rattle.basics.proofs.Tests.{both_left, both_right, choose_yes, choose_no}
use Rattle.board.specs.Spots.{most_pins}
use Rattle.drawing.specs.Pins.{lawful}
use Rattle.drawing.proofs.Feeds.{feed_long}
use Rattle.journal.proofs.Cut.{stands_more}
use Rattle.journal.proofs.Own.{own-length}
use Rattle.journal.specs.Journal.{most_seats, most_records, no_edit, seated, makeable_all, takeable_all}
use Rattle.sound.proofs.Tests.{seat_among}
use Rattle.rows.proofs.Rows.{net_open}
use Rattle.desk.specs.declared.Desk.{Desk}
use Rattle.desk.specs.Desk.{seat_of, naming_net_at, feed_at, in_use, edits_of, standing_of, taken_back_of, jobs_of, jobs_apart, sound_open, sound_closed, sound_seat, sound}

-- A sound desk.
module _ (d : Desk) (h : sound d ≡ true) where
  -- It has eight seats,
  pub eight_seats : length d.seats ≡ most_seats
  unfolding sound
  eight_seats = eqb-true _ _ (both_left _ _ h)

  -- a journal of 256 records,
  pub whole_journal : length d.journal.records ≡ most_records
  unfolding sound
  whole_journal = eqb-true _ _ (both_left _ _ (both_right _ _ h))

  -- no more of them in use than there are,
  pub used_within : d.journal.used ≤ most_records
  unfolding sound
  used_within = leb-true _ _ (both_left _ _ (both_right _ _ (both_right _ _ h)))

  -- each in use of one of the eight seats,
  pub all_seated_lem : seated (in_use d) ≡ true
  unfolding sound
  all_seated_lem = both_left _ _ (both_right _ _ (both_right _ _ (both_right _ _ h)))

  -- no job open twice,
  pub jobs_apart_lem : jobs_apart (jobs_of d) ≡ true
  unfolding sound
  jobs_apart_lem = both_left _ _ (both_right _ _ (both_right _ _ (both_right _ _ (both_right _ _ h))))

  -- and each seat sound with its edits.
  seat_sound : (s : ℕ) → s < most_seats → sound_seat (seat_of d s) (edits_of d s) ≡ true
  unfolding sound
  seat_sound s k = seat_among d.seats (in_use d) most_seats s (both_right _ _ (both_right _ _ (both_right _ _ (both_right _ _ (both_right _ _ h))))) k

  -- As many records are in use as the used count says.
  pub in_use_length : length (in_use d) ≡ d.journal.used
  in_use_length =
      let a : d.journal.used ≤ length d.journal.records = omega (arith, used_within, whole_journal) in
      length-take-le d.journal.used d.journal.records a

  -- A seat owns no more records than are in use.
  owned_within : (s : ℕ) → length (edits_of d s) ≤ d.journal.used
  owned_within s = omega (arith, own-length s (in_use d), in_use_length)

  -- A closed seat owns none,
  pub closed_owns_none : (s : ℕ) → s < most_seats → (seat_of d s).opened ≡ false → length (edits_of d s) ≡ 0
  unfolding sound_seat sound_closed
  closed_owns_none s k o = eqb-true _ _ (both_left _ _ (sym (choose_no _ _ o) ∙ seat_sound s k))

  -- and none of its edits stand.
  pub closed_stands_none : (s : ℕ) → s < most_seats → (seat_of d s).opened ≡ false → (seat_of d s).standing ≡ 0
  unfolding sound_seat sound_closed
  closed_stands_none s k o = eqb-true _ _ (both_right _ _ (sym (choose_no _ _ o) ∙ seat_sound s k))

  -- An open seat of it.
  module _ (s : ℕ) (k : s < most_seats) (o : (seat_of d s).opened ≡ true) where
    -- It is sound as an open one,
    opened : sound_open (seat_of d s) (edits_of d s) ≡ true
    unfolding sound_seat
    opened = sym (choose_yes _ _ o) ∙ seat_sound s k

    -- its job is not 0,
    pub job_not_zero : (seat_of d s).job ≡ 0 → ⊥
    unfolding sound_open
    job_not_zero = eqb-false _ _ (not-true _ (both_left _ _ opened))

    -- no more of its edits stand than it owns,
    pub standing_within : (seat_of d s).standing ≤ length (edits_of d s)
    unfolding sound_open
    standing_within = leb-true _ _ (both_left _ _ (both_right _ _ opened))

    -- its pins keep the rules,
    pub pins_lawful : lawful (seat_of d s).pins ≡ true
    unfolding sound_open
    pins_lawful = both_left _ _ (both_right _ _ (both_right _ _ opened))

    -- its standing edits can be taken back, the latest first,
    pub standing_takeable : takeable_all (seat_of d s).pins (standing_of d s) ≡ true
    unfolding sound_open
    standing_takeable = both_left _ _ (both_right _ _ (both_right _ _ (both_right _ _ opened)))

    -- and its taken-back ones made again.
    pub taken_back_replayable : makeable_all (seat_of d s).pins (taken_back_of d s) ≡ true
    unfolding sound_open
    taken_back_replayable = both_right _ _ (both_right _ _ (both_right _ _ (both_right _ _ opened)))

    -- No more of its edits stand than the journal has records.
    pub standing_small : (seat_of d s).standing ≤ most_records
    standing_small = omega (arith, standing_within, owned_within s, used_within)

    -- The latest standing edit comes first among those that undo takes back.
    pub latest_first : ((seat_of d s).standing ≡ 0 → ⊥)
        → standing_of d s ≡ get_or (edits_of d s) ((seat_of d s).standing - 1) no_edit ∷ reverse (take ((seat_of d s).standing - 1) (edits_of d s))
    latest_first z =
        let w : (seat_of d s).standing ≡ ((seat_of d s).standing - 1) + 1 = omega arith in
        let b : (seat_of d s).standing - 1 < length (edits_of d s) = omega (arith, standing_within) in
        ap (λ (n : ℕ). reverse (take n (edits_of d s))) w ∙ stands_more (edits_of d s) ((seat_of d s).standing - 1) no_edit b

    -- The next to redo comes first among the taken-back ones.
    pub next_first : (seat_of d s).standing < length (edits_of d s)
        → taken_back_of d s ≡ get_or (edits_of d s) (seat_of d s).standing no_edit ∷ drop (suc (seat_of d s).standing) (edits_of d s)
    next_first b = drop-cons (edits_of d s) (seat_of d s).standing no_edit b

-- Where 28, 1, 2 and 21 pass, the feed of the seat's net has 32 spots.
pub feed_whole : (d : Desk) (s net : ℕ) → accepted (first_of (naming_net_at d s net)) ≡ true → length (feed_at d s net) ≡ most_pins
feed_whole d s net y =
    let o = net_open (not (sound d)) s (seat_of d s).opened net y in
    feed_long _ net (pins_lawful d (not-false _ o.unbroken) s o.low o.shown)
