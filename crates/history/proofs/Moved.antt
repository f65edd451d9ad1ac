-- A map and what it was moved to open alike, at any seat of any desk. From the moving of maps and the rows of opening; assumes nothing.
use mathlib.Core.Path.{◌≡◌, sym, ap, ap₂, ◌∙◌}
use mathlib.Core.Bool.{true, not}
use mathlib.Core.List.{List}
use Prim.Native.Nat.{ℕ}
use Rattle.basics.specs.Tests.{choose}
use Rattle.refusal.specs.Refusals.{Verdict, accepted}
use Rattle.std.specs.Prelude.{Ok, is_ok}
use Rattle.refusal.specs.Rows.{first_of}
use Rattle.refusal.proofs.Rows.{joined, accepted_is}
use Rattle.drawing.specs.Pins.{Pin}
use Rattle.pinmap.specs.declared.Form.{Form}
use Rattle.readmap.specs.Map.{map_rows, read_map, pins_of}
use Rattle.readmap.proofs.Judging.{read_passed}
use Rattle.writemap.proofs.Written.{verdict_is}
use Rattle.forms.specs.Moving.{other_than, moved_of, bytes_moved}
use Rattle.forms.proofs.Back.{moved_map_opens, moved_opens_alike}
use Rattle.rows.specs.Calls.{opening}
use Rattle.rows.proofs.Rows.{taking_apart}
use Rattle.desk.specs.declared.Desk.{Desk}
use Rattle.desk.specs.declared.Answered.{Answered}
use Rattle.desk.specs.Desk.{seat_of, jobs_of, sound, open_seat, with_seat, effect, answer_of, step}
use Rattle.history.proofs.Untouched.{value_accepted}
use Rattle.history.proofs.Maps.{taking_at}

-- Opening with a map that is read.
module _ (d : Desk) (s job : ℕ) (form : Form) (map : List ℕ) (e : first_of (map_rows form map job) ≡ Ok tt) where
  -- The rows of an opening before the map: 28, 1, 3, 4 and 5.
  abbrev first : Verdict
  first = first_of (taking_at d s job)

  -- A map that is read is answered by them alone.
  answered_by_them : answer_of d (opening s job form map) ≡ choose (accepted first) (Ok tt) first
  unfolding answer_of
  answered_by_them =
      joined (taking_at d s job) (map_rows form map job)
      (taking_apart (not (sound d)) s (seat_of d s).opened job (jobs_of d))
      ∙ ap (λ (v : Verdict). choose (accepted first) v first) e

module _ (d : Desk) (s : ℕ) (to : Form) (job : ℕ) (map buffer : List ℕ) (z : is_ok (moved_of to job map buffer) ≡ true) where
  -- What was moved is read,
  there_read : first_of (map_rows to (bytes_moved to job map buffer) job) ≡ Ok tt
  unfolding read_map
  there_read = sym (read_passed (map_rows to (bytes_moved to job map buffer) job) to (bytes_moved to job map buffer) (moved_opens_alike to job map buffer z)).0

  -- and so is the map itself.
  here_read : first_of (map_rows (other_than to) map job) ≡ Ok tt
  unfolding read_map
  here_read = accepted_is _ (ap accepted (sym (verdict_is _ _)) ∙ value_accepted _ ∙ moved_map_opens to job map buffer z)

  -- BOTH OPEN ALIKE: on any desk, at any seat, opening a map under a job and opening what it was moved to are answered the same and leave the same desk.
  pub moved_map_opens_alike : step d (opening s job to (bytes_moved to job map buffer)) ≡ step d (opening s job (other_than to) map)
  unfolding step effect
  moved_map_opens_alike =
      let v = answered_by_them d s job to (bytes_moved to job map buffer) there_read ∙ sym (answered_by_them d s job (other_than to) map here_read) in
      let p : pins_of (read_map to (bytes_moved to job map buffer) job) ≡ pins_of (read_map (other_than to) map job) =
      ap pins_of (moved_opens_alike to job map buffer z) in
      ap₂ {C = Answered} (λ (a : Verdict) (l : List Pin). record { desk = choose (accepted a) (with_seat d s (open_seat job l)) d; verdict = a }) v p
