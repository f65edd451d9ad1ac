-- What the program's calls hand back: how a map is opened, and what is printed where it is refused and where it is wired. Assumes nothing.
use mathlib.Core.Path.{◌≡◌, refl, sym, ◌∙◌, ap, ap₂}
use mathlib.Core.Bool.{Bool, true, false, not}
use mathlib.Core.List.{List, [], ◌∷◌, ◌++◌}
use Prim.Native.Nat.{ℕ}
use lib.Dec.{eqb}
use Rattle.basics.specs.Tests.{both, either, choose, any_of, each_of, no_two}
use Rattle.refusal.specs.Refusals.{accepted}
use Rattle.refusal.specs.Rows.{first_of}
use Rattle.refusal.specs.Refusals.{Verdict}
use Rattle.basics.proofs.Tests.{choose_yes}
use Rattle.drawing.specs.Pins.{Pin}
use Rattle.board.specs.Spots.{Spot}
use Rattle.drawing.specs.Pins.{is_net, lawful, spots_of, feed_of}
use Rattle.pinmap.specs.declared.Form.TheVariants.{Old}
use Rattle.std.specs.Prelude.{Result, Ok, Err}
use Rattle.refusal.specs.declared.Refusal.{Refusal}
use Rattle.refusal.specs.Rows.{granted}
use Rattle.drawing.specs.Pins.{no_pins}
use Rattle.readmap.specs.Map.{records_of, with_pins_of, under_rows, read_by, read_map, pins_of}
use Rattle.readmap.proofs.Judging.{under_passed, read_passed}
use Rattle.roundtrip.proofs.Holding.{plain_feed}
use Rattle.roundtrip.proofs.RoundTrip.{read_lawful, read_held}
use Rattle.journal.specs.Journal.{own, filled, in_turn}
use Rattle.desk.specs.declared.Desk.{Desk}
use Rattle.seats.specs.declared.Seat.{Seat}
use Rattle.seats.specs.Seats.{same_job, open_seat}
use Rattle.rows.specs.Calls.{opening}
use Rattle.rows.specs.Refusals.{naming_rows}
use Rattle.pinrows.specs.PinRows.{net_row}
use Rattle.rows.specs.Found.{wired_by}
use Rattle.desk.specs.Desk.{job_of, sound_open, sound_closed, sound_seat, sound_to, sound, with_seat, naming_net_at, effect, answer_of, step, empty_desk}
use Rattle.asked.specs.Asked.{wired_of}
use Rattle.printed.specs.Answers.{verdict_line}
use Rattle.shown.specs.Shown.{map_text}
use Rattle.copper.specs.declared.Favour.{Favour}
use Rattle.wiring.specs.declared.Laid.{Laid}
use Rattle.laying.specs.Entries.{most_legs}
use Rattle.wiring.specs.Answer.{wiring_of}
use Rattle.mapped.specs.Mapped.{job_of_map, opened_with, wired_with, map_answer}

-- Opening a map at seat 0 of the empty desk: 4, then as the map is read.
opens : (job : ℕ) (map : List ℕ) → answer_of empty_desk (opening 0 job Old map) ≡ first_of (under_rows Old map job)
unfolding both either choose first_of own each_of same_job any_of job_of no_two sound_closed sound_seat sound_to sound answer_of empty_desk
opens job map = by (eqb job 0) refl
  where
    by : (t : Bool) → eqb job 0 ≡ t → answer_of empty_desk (opening 0 job Old map) ≡ first_of (under_rows Old map job)
    by true e = rw e
    by false e = rw e

-- The program's opening is turned away in that order.
pub opened : (map : List ℕ) → (opened_with map).verdict ≡ first_of (under_rows Old map (job_of_map map))
unfolding opened_with step
opened map = opens (job_of_map map) map

-- Where the opening is refused, its verdict is printed.
pub printed-refused : (map : List ℕ) {v : Verdict} → (opened_with map).verdict ≡ v → accepted v ≡ false → map_answer map ≡ verdict_line v
unfolding map_answer choose
printed-refused map e n = rw (e, n)

-- A map that is opened is printed as it is wired.
printed_wired : (map : List ℕ) → accepted (opened_with map).verdict ≡ true → map_answer map ≡ map_text (job_of_map map) (wired_with map)
unfolding map_answer choose
printed_wired map e = rw e

-- ---- the map read without the desk

-- The desk on which the program opened a map: the empty one, with seat 0 open for this job with these pins.
abbrev opened_for : ℕ → List Pin → Desk
opened_for job l = with_seat empty_desk 0 (open_seat job l)

-- It is sound where the job is not 0 and the pins keep the rules.
sound_opened : (job : ℕ) (l : List Pin) → eqb job 0 ≡ false → lawful l ≡ true → sound (opened_for job l) ≡ true
unfolding both either choose own filled in_turn each_of same_job any_of job_of no_two sound_open sound_closed sound_seat sound_to sound empty_desk
sound_opened job l e k = rw (e, k)

-- Its seat 0 passes 28, 1 and 2, and net 1 passes 21,
named : (job : ℕ) (l : List Pin) → eqb job 0 ≡ false → lawful l ≡ true → accepted (first_of (naming_net_at (opened_for job l) 0 1)) ≡ true
unfolding first_of choose accepted empty_desk is_net both
named job l e k = ap (λ (b : Bool). accepted (first_of (naming_rows (not b) 0 true ++ (net_row 1 ∷ [])))) (sound_opened job l e k)

-- so that it is wired as the feed of that net is.
wired_there : (job : ℕ) (l : List Pin) → eqb job 0 ≡ false → lawful l ≡ true
    → (wired_of (opened_for job l) 0 1 most_legs Favour.Lower).answer ≡ wiring_of (feed_of l 1) most_legs Favour.Lower
unfolding wired_of empty_desk
wired_there job l e k = choose_yes _ _ (named job l e k)

-- Net 1 of a seat that is open with these pins is wired as its feed is.
pub wired_open : (job : ℕ) (l : List Pin) {t : Seat} → t ≡ open_seat job l
    → wired_by (naming_rows false 0 t.opened ++ (net_row 1 ∷ [])) (feed_of t.pins 1) most_legs Favour.Lower ≡ wiring_of (feed_of l 1) most_legs Favour.Lower
unfolding first_of choose accepted is_net both
wired_open job l e = rw e

-- A map that passes 4, 13, 14 and 15 is open at seat 0.
opened_there : (map : List ℕ) → accepted (opened_with map).verdict ≡ true
    → (opened_with map).desk ≡ opened_for (job_of_map map) (pins_of (read_map Old map (job_of_map map)))
unfolding opened_with step effect
opened_there map y = choose_yes _ _ y

-- What the program reads under the job of a map.
module _ (map : List ℕ) {job : ℕ} {r : Result (List Pin) Refusal} (j : job ≡ job_of_map map) (o : r ≡ read_by (under_rows Old map job) Old map) where
  -- The rows are those of the program's opening.
  rows_so : first_of (under_rows Old map job) ≡ (opened_with map).verdict
  rows_so = ap (λ (n : ℕ). first_of (under_rows Old map n)) j ∙ sym (opened map)

  -- Refused, that is the answer.
  pub answer_refused : (x : Refusal) → r ≡ Err x → verdict_line (Err x) ≡ map_answer map
  unfolding accepted
  answer_refused x e = sym (printed-refused map (sym rows_so ∙ refused_by (first_of (under_rows Old map job)) (sym o ∙ e)) refl)
    where
      refused_by : (v : Verdict) → granted v (with_pins_of Old no_pins (records_of Old map)) ≡ Err x → v ≡ Err x
      refused_by (Ok tt) q = cc
      refused_by (Err y) q = ap (λ (z : Refusal). Err z) (cc)

  module _ (l : List Pin) (e : r ≡ Ok l) where
    -- Accepted, the job is not 0 and the pins are those of the map,
    rows_pass : accepted (first_of (under_rows Old map job)) ≡ true
    unfolding accepted
    rows_pass = sym (ap accepted (read_passed (under_rows Old map job) Old map (sym o ∙ e)).0)

    job_given : eqb job 0 ≡ false
    job_given = (under_passed Old map job rows_pass).0

    pins_read : l ≡ pins_of (read_map Old map job)
    pins_read = ap pins_of (sym e ∙ o ∙ (under_passed Old map job rows_pass).1)

    -- which keep the rules,
    pub read_keeps_rules : lawful l ≡ true
    read_keeps_rules = rw pins_read (read_lawful Old job map)

    -- and the answer is their wiring.
    pub answer_wired : {w : Laid} → w ≡ wiring_of (feed_of l 1) most_legs Favour.Lower → map_text job w.wiring ≡ map_answer map
    unfolding wired_with
    answer_wired {w} q =
        let z : accepted (opened_with map).verdict ≡ true = ap accepted (sym rows_so) ∙ rows_pass in
        let d : (opened_with map).desk ≡ opened_for (job_of_map map) l =
        opened_there map z ∙ ap (λ (k : List Pin). opened_for (job_of_map map) k) (ap (λ (n : ℕ). pins_of (read_map Old map n)) (sym j) ∙ sym pins_read) in
        let x : (wired_of (opened_with map).desk 0 1 most_legs Favour.Lower).answer ≡ w =
        ap (λ (k : Desk). (wired_of k 0 1 most_legs Favour.Lower).answer) d
        ∙ wired_there (job_of_map map) l (ap (λ (n : ℕ). eqb n 0) (sym j) ∙ job_given) read_keeps_rules ∙ sym q in
        ap₂ (λ (n : ℕ) (k : Laid). map_text n k.wiring) j (sym x) ∙ sym (printed_wired map z)

-- ALL PINS OF THE MAP ARE WIRED, AS BEFORE THERE WERE NETS: where a map is opened, what is printed is the wiring of all its pins.
pub all_pins_wired : (map : List ℕ) → accepted (opened_with map).verdict ≡ true
    → wired_with map ≡ (wiring_of (spots_of (pins_of (read_map Old map (job_of_map map)))) most_legs Favour.Lower).wiring
unfolding wired_with
all_pins_wired map y =
    let l = pins_of (read_map Old map (job_of_map map)) in
    let p = under_passed Old map (job_of_map map) (ap accepted (sym (opened map)) ∙ y) in
    ap (λ (d : Desk). (wired_of d 0 1 most_legs Favour.Lower).answer.wiring) (opened_there map y)
    ∙ ap (λ (w : Laid). w.wiring) (wired_there (job_of_map map) l p.0 (read_lawful Old (job_of_map map) map))
    ∙ ap (λ (f : List Spot). (wiring_of f most_legs Favour.Lower).wiring) (plain_feed l (read_held Old (job_of_map map) map))
