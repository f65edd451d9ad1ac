-- When a desk is as a history says, the history that a sound desk has, and when a seat is the same on two desks.
use Rattle.std.specs.Prelude.{◌≡◌, true, List, [], ◌∷◌, ◌++◌, ℕ, zero, suc, ◌<◌}
use Rattle.basics.specs.Tests.{choose}
use Rattle.drawing.specs.Pins.{Pin}
use Rattle.edits.specs.declared.Edit.{Edit}
use Rattle.edits.specs.Edits.{unmade}
use Rattle.journal.specs.Journal.{most_seats}
use Rattle.desk.specs.declared.Desk.{Desk}
use Rattle.desk.specs.Desk.{seat_of, edits_of, standing_of, taken_back_of, sound}
use Rattle.history.specs.History.{Past, closed, opened, is_open, job_in, pins_in, standing_in, taken_back_in, past_of, used_in}

-- A seat is as its past: open exactly where that is, then with its job and its pins; the standing and the taken-back edits are its own.
pub record AsPast (d : Desk) (s : ℕ) (t : Past) : Type 0 where
  pub opened : (seat_of d s).opened ≡ is_open t
  pub job : is_open t ≡ true → (seat_of d s).job ≡ job_in t
  pub pins : is_open t ≡ true → (seat_of d s).pins ≡ pins_in t
  pub standing : standing_of d s ≡ standing_in t
  pub taken_back : taken_back_of d s ≡ taken_back_in t

-- A desk is as a history says: sound, every seat as its past, the used count the sum over the seats of standing and taken-back edits.
pub record DeskAsPast (d : Desk) (h : List Past) : Type 0 where
  pub unbroken : sound d ≡ true
  pub used : d.journal.used ≡ used_in h
  pub seat : (s : ℕ) → s < most_seats → AsPast d s (past_of h s)

-- The pins before edits that stand, the latest first.
unfoldable pub pins_before : List Pin → List Edit → List Pin
pins_before q [] = q
pins_before q (e ∷ l) = pins_before (unmade q e) l

-- The past of an open seat of a desk: its job, the pins before its standing edits, these edits, and those taken back.
abbrev pub open_past : Desk → ℕ → Past
open_past d s = opened (seat_of d s).job (pins_before (seat_of d s).pins (standing_of d s)) (standing_of d s) (taken_back_of d s)

-- The past of a seat, open or closed.
unfoldable pub past_at : Desk → ℕ → Past
past_at d s = choose (seat_of d s).opened (open_past d s) closed

-- The pasts of the first n seats.
unfoldable pub pasts_below : ℕ → Desk → List Past
pasts_below zero d = []
pasts_below (suc n) d = pasts_below n d ++ (past_at d n ∷ [])

-- The history that a desk has.
abbrev pub history_of : Desk → List Past
history_of d = pasts_below most_seats d

-- A seat of a desk is the same on another: open or closed, job, pins and number of standing edits; and so are its edits, standing and taken back.
pub record Untouched (d e : Desk) (t : ℕ) : Type 0 where
  pub seat : seat_of e t ≡ seat_of d t
  pub edits : edits_of e t ≡ edits_of d t
  pub standing : standing_of e t ≡ standing_of d t
  pub taken_back : taken_back_of e t ≡ taken_back_of d t
