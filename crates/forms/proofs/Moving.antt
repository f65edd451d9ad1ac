-- What moving a map hands back, by what turns it away: the reading, 22 or 19. From the laws of rows and of pin maps; assumes nothing.
use mathlib.Core.Path.{◌≡◌, refl, ap, sym, ◌∙◌}
use mathlib.Core.Bool.{Bool, true, false, not}
use mathlib.Core.List.{List, [], ◌∷◌}
use Prim.Native.Nat.{ℕ}
use lib.Dec.{eqb}
use lib.ListN.{length}
use Rattle.std.specs.Prelude.{Result, Ok, Err}
use Rattle.basics.specs.Tests.{both, each_of}
use Rattle.refusal.specs.declared.Refusal.{Refusal}
use Rattle.refusal.specs.declared.Refusal.TheVariants.{JobZero, OtherNetOrPart}
use Rattle.refusal.specs.Refusals.{Verdict, accepted}
use Rattle.refusal.specs.Rows.{Row, given, first_of}
use Rattle.refusal.proofs.Rows.{hit, miss, no_row, unlike, distinct, Apart, apart_by, apart_both, granted_on, granted_away, decided_away, decided_on}
use Rattle.drawing.specs.Pins.{Pin, lawful, has_net}
use Rattle.drawing.proofs.Rules.{lawful_parts}
use Rattle.pinmap.specs.declared.Form.{Form}
use Rattle.pinmap.specs.declared.Form.TheVariants.{Old, New}
use Rattle.pinmap.specs.Map.{plain}
use Rattle.readmap.specs.Map.{map_rows, under_rows, read_by, read_as, pins_of}
use Rattle.writemap.specs.Map.{room_rows, written, write_map, buffer_after}
use Rattle.readmap.proofs.Judging.{not_of_map, map-differs, map_apart, under_passed, read_passed, read_refused}
use Rattle.roundtrip.proofs.RoundTrip.{read_lawful}
use Rattle.forms.specs.Moving.{other_than, form_rows, later_rows, pins_moved, map_moved, moved_of, buffer_moved}

-- ---- the rows are apart

-- 4, 13, 14 and 15 are,
pub under_apart : (form : Form) (map : List ℕ) (job : ℕ) → Apart (under_rows form map job)
unfolding distinct unlike both not_of_map each_of
under_apart form map job =
    apart_both (given (eqb job 0) JobZero ∷ []) (map_rows form map job) not_of_map (apart_by (given (eqb job 0) JobZero ∷ []) refl) refl
    (map-differs form map job) (map_apart form map job)

-- and so is 22, where there is such a row.
pub form_apart : (to : Form) (l : List Pin) → Apart (form_rows to l)
unfolding distinct unlike both
form_apart Old l = apart_by (form_rows Old l) refl
form_apart New l = apart_by (form_rows New l) refl

-- Moving back is turned away with 22 where the old form can't hold all pins,
pub told_back : (to : Form) (l : List Pin) {t : Bool} → to ≡ Old → t ≡ each_of plain l → t ≡ false → Err OtherNetOrPart ≡ first_of (form_rows to l)
told_back to l e s f = rw e (hit OtherNetOrPart [] (ap not (sym s ∙ f)))

-- not where it can.
pub back_passes : (to : Form) (l : List Pin) {t : Bool} → t ≡ each_of plain l → t ≡ true → Ok tt ≡ first_of (form_rows to l)
back_passes Old l s f = miss OtherNetOrPart [] (ap not (sym s ∙ f)) no_row
back_passes New l s f = no_row

-- ---- what is handed back

-- The reading of the map that is moved.
abbrev read_of : Form → ℕ → List ℕ → Result (List Pin) Refusal
read_of to job map = read_by (under_rows (other_than to) map job) (other_than to) map

module _ (to : Form) (job : ℕ) (map buffer : List ℕ) where
  -- What is asked first,
  abbrev under : List Row
  under = under_rows (other_than to) map job

  -- and what is asked after the reading.
  abbrev later : List Row
  later = later_rows to job (pins_moved to map) (length buffer)

  -- The rows are apart.
  apart : Apart under
  apart = under_apart (other_than to) map job

  -- The bytes that are asked for,
  abbrev many : ℕ
  many = length (map_moved to job map)

  -- and the buffer with them.
  abbrev filled : List ℕ
  filled = written (map_moved to job map) buffer

  -- A map that is turned away is not moved, and the buffer stays as it was.
  pub read_away : {r : Refusal} → read_of to job map ≡ Err r → (Err r ≡ moved_of to job map buffer) × (buffer ≡ buffer_moved to job map buffer)
  unfolding moved_of buffer_moved accepted
  read_away o =
      let e = read_refused under (other_than to) map o in
      (granted_away under later apart e many, decided_away under later apart e (λ v b. b) filled buffer refl)

  -- One that is read gives the pins that are moved:
  module _ {l : List Pin} (o : read_of to job map ≡ read_as l) where
    -- what was asked first turned nothing away.
    passed : Ok tt ≡ first_of under
    passed = (read_passed under (other_than to) map o).0

    -- They keep the rules,
    pins_keep : lawful l ≡ true
    unfolding accepted
    pins_keep =
        let q = sym (under_passed (other_than to) map job (ap accepted (sym passed))).1 ∙ o in
        ap (λ (x : Result (List Pin) Refusal). lawful (pins_of x)) (sym q) ∙ read_lawful (other_than to) job map

    -- so that each of them has a net.
    pub moved_nets : each_of has_net l ≡ true
    moved_nets = (lawful_parts l pins_keep).nets

    -- What is asked of them is the same.
    form_so : {v : Verdict} → v ≡ first_of (form_rows to l) → v ≡ first_of (form_rows to (pins_moved to map))
    form_so e = e ∙ ap (λ (m : List Pin). first_of (form_rows to m)) (read_passed under (other_than to) map o).1

    -- 22 turns it away, and the buffer stays as it was;
    pub form_away : {v : Verdict} {r : Refusal} → v ≡ first_of (form_rows to l) → v ≡ Err r
        → (Err r ≡ moved_of to job map buffer) × (buffer ≡ buffer_moved to job map buffer)
    unfolding moved_of buffer_moved accepted
    form_away e w =
        let m = pins_moved to map in
        let rows = room_rows to job m (length buffer) in
        let f = sym w ∙ form_so e in (
          granted_away (form_rows to m) rows (form_apart to m) f many ∙ granted_on under later apart passed refl many,
          decided_away (form_rows to m) rows (form_apart to m) f (λ v b. b) filled buffer refl
              ∙ decided_on under later apart passed (λ v b. b) filled buffer refl,
        )

    -- else it is written, or 19.
    pub form_on : {v : Verdict} → v ≡ first_of (form_rows to l) → v ≡ Ok tt
        → (write_map to l job buffer ≡ moved_of to job map buffer) × (buffer_after to l job buffer ≡ buffer_moved to job map buffer)
    unfolding moved_of buffer_moved write_map buffer_after accepted
    form_on e w =
        let m = pins_moved to map in
        let rows = room_rows to job m (length buffer) in
        let p = (read_passed under (other_than to) map o).1 in
        let f = sym w ∙ form_so e in (
          ap (λ (n : List Pin). write_map to n job buffer) p
              ∙ granted_on (form_rows to m) rows (form_apart to m) f refl many ∙ granted_on under later apart passed refl many,
          ap (λ (n : List Pin). buffer_after to n job buffer) p
              ∙ decided_on (form_rows to m) rows (form_apart to m) f (λ v b. b) filled buffer refl
              ∙ decided_on under later apart passed (λ v b. b) filled buffer refl,
        )
