-- Moving a map gives each refusal exactly under its condition and after those before it: 4, 13, 14 or 15, 22 on the way back, 19. Assumes nothing.
use mathlib.Core.Path.{◌≡◌, refl}
use mathlib.Core.Bool.{Bool, true}
use mathlib.Core.List.{List, [], ◌∷◌}
use Prim.Native.Nat.{ℕ, ◌+◌}
use lib.ListN.{length}
use Rattle.basics.specs.Tests.{both, each_of}
use Rattle.refusal.specs.declared.Refusal.{Refusal}
use Rattle.refusal.specs.declared.Refusal.TheVariants.{RoomTooSmall, OtherNetOrPart}
use Rattle.refusal.specs.Rows.{Row, given, first_of, Exactly}
use Rattle.writemap.specs.Map.{verdict_of}
use Rattle.writemap.proofs.Written.{verdict_is}
use Rattle.refusal.proofs.Rows.{unlike, distinct, Differs, Apart, differs_by, apart_by, apart_both, exactly}
use Rattle.drawing.specs.Pins.{Pin, no_pins}
use Rattle.pinmap.specs.declared.Form.{Form}
use Rattle.pinmap.specs.declared.Form.TheVariants.{Old, New}
use Rattle.records.specs.declared.MapRecord.{MapRecord}
use Rattle.readmap.specs.Map.{records_of, with_pin_of, rows_from, under_rows}
use Rattle.forms.specs.Moving.{other_than, later_rows, pins_moved, moving_rows, map_moved, moved_of}
use Rattle.forms.proofs.Moving.{under_apart}

-- The refusal is neither 22 nor 19.
unfoldable earlier : Refusal → Bool
earlier v = unlike v (given true OtherNetOrPart ∷ given true RoomTooSmall ∷ [])

-- Of the rows of records none is,
records_earlier : (form : Form) (job number next : ℕ) (l : List Pin) (records : List MapRecord)
    → each_of (λ (r : Row). earlier r.refusal) (rows_from form job number next l records) ≡ true
unfolding rows_from each_of earlier unlike both
records_earlier form job number next l [] = refl
records_earlier form job number next l (r ∷ records) = records_earlier form job (number + 1) (r.pin + 1) (with_pin_of form l r) records

-- nor of 4, 13, 14 and 15.
under_earlier : (form : Form) (map : List ℕ) (job : ℕ) → each_of (λ (r : Row). earlier r.refusal) (under_rows form map job) ≡ true
unfolding each_of earlier unlike both
under_earlier form map job = records_earlier form job 0 0 no_pins (records_of form map)

-- The later rows, 22 on the way back and 19, are apart,
later_apart : (to : Form) (job : ℕ) (l : List Pin) (room : ℕ) → Apart (later_rows to job l room)
unfolding distinct unlike both
later_apart Old job l room = apart_by (later_rows Old job l room) refl
later_apart New job l room = apart_by (later_rows New job l room) refl

-- and differ from every earlier one.
later_differ : (to : Form) (job : ℕ) (l : List Pin) (room : ℕ) (v : Refusal) → earlier v ≡ true → Differs v (later_rows to job l room)
unfolding earlier unlike Differs
later_differ Old job l room v t = differs_by v (later_rows Old job l room) t
later_differ New job l room v t = (differs_by v (given true OtherNetOrPart ∷ given true RoomTooSmall ∷ []) t).1

-- THE ROWS OF A MOVING ARE APART,
pub moving_apart : (to : Form) (job : ℕ) (map : List ℕ) (room : ℕ) → Apart (moving_rows to job map room)
moving_apart to job map room =
    let l = pins_moved to map in
    apart_both (under_rows (other_than to) map job) (later_rows to job l room) earlier (under_apart (other_than to) map job)
    (under_earlier (other_than to) map job) (later_differ to job l room) (later_apart to job l room)

-- AND EACH OF ITS REFUSALS IS GIVEN EXACTLY where its condition holds and none before it does.
pub moving_exactly : (to : Form) (job : ℕ) (map buffer : List ℕ) → Exactly (moving_rows to job map (length buffer)) (verdict_of (moved_of to job map buffer))
unfolding moved_of
moving_exactly to job map buffer =
    rw (verdict_is (first_of (moving_rows to job map (length buffer))) (length (map_moved to job map)))
    (exactly (moving_rows to job map (length buffer)) (moving_apart to job map (length buffer)))
