-- What fits into bytes stays so: after any calls from the empty desk, each of which states a job of two bytes, a map of bytes and a part number of four, the
-- job of an open seat has two bytes and the part numbers of its pins have four. From the history of the calls; assumes nothing.
use mathlib.Core.Path.{◌≡◌, refl, sym, ◌∙◌}
use mathlib.Core.Bool.{Bool, true, false, false≢true}
use mathlib.Core.List.{List, [], ◌∷◌}
use Prim.Native.Nat.{ℕ, zero, suc, ◌<◌}
use borrow.Author.Tests.{lt-ltb}
use lib.Dec.{eqb}
use lib.ListN.{set}
use Rattle.basics.specs.Lists.{numbered}
use Rattle.basics.specs.Tests.{choose, each_of}
use Rattle.basics.proofs.Lists.{blank_at}
use Rattle.basics.proofs.Tests.{both_left, both_right, both_of}
use Rattle.refusal.specs.Refusals.{accepted}
use Rattle.board.specs.declared.Place.{Place}
use Rattle.drawing.specs.Pins.{Pin, there, absent}
use Rattle.std.specs.Prelude.{None, Some}
use Rattle.edits.specs.declared.Edit.{Edit}
use Rattle.edits.specs.declared.Edit.TheVariants.{Placed, Moved, Removed}
use Rattle.edits.specs.declared.stated.Making.{Making}
use Rattle.edits.specs.declared.stated.Making.TheVariants.{Placing, Moving, Removing}
use Rattle.edits.specs.Edits.{moved_pin, pin_made, made}
use Rattle.edits.specs.Stated.{edit_of}
use Rattle.pinmap.specs.Map.{part_fits, parts_fit}
use Rattle.roundtrip.proofs.RoundTrip.{read_parts}
use Rattle.journal.specs.Journal.{most_seats}
use Rattle.rows.specs.Calls.{Call, seat_in, opening, closing, making, undoing, redoing, asking}
use Rattle.desk.specs.Desk.{seat_of, empty_desk}
use Rattle.history.specs.History.{Past, closed, opened, pins_by, is_open, job_in, pins_in, past_of, anew, undone, redone, next, answer_in, past_after, nothing, history, after}
use Rattle.history.specs.AsPast.{AsPast}
use Rattle.history.specs.Leaving.{MakingFits, CallFits, CallsFit}
use Rattle.history.proofs.Demand.{desk_as_past}

-- ---- edits and pins

-- What an edit places has a part number of four bytes.
abbrev EditFits : Edit → Type 0
EditFits (Placed p h) = h.part < 4294967296
EditFits (Moved p a b) = Unit {0}
EditFits (Removed p h) = Unit {0}

-- Such are all of these edits.
unfoldable EditsFit : List Edit → Type 0
EditsFit [] = Unit {0}
EditsFit (e ∷ l) = EditFits e × EditsFit l

-- The edit that a call makes is such where the call states such a part number.
stated_fits : (l : List Pin) (m : Making) → MakingFits m → EditFits (edit_of l m)
stated_fits l (Placing p h) f = f
stated_fits l (Moving p to) f = tt
stated_fits l (Removing p) f = tt

-- A pin whose part number fits, or one that fits in its stead, fits;
one-fits : (t : Bool) (q r : Pin) → part_fits q ≡ true → part_fits r ≡ true → part_fits (choose t q r) ≡ true
unfolding choose
one-fits true q r f g = f
one-fits false q r f g = g

-- a moved pin does,
moved_fits : (q : Pin) (to : Place) → part_fits q ≡ true → part_fits (moved_pin q to) ≡ true
unfolding part_fits moved_pin
moved_fits None to f = refl
moved_fits (Some h) to f = f

-- and so does a pin that such an edit was made on.
pin_made_fits : (e : Edit) (n : ℕ) (q : Pin) → EditFits e → part_fits q ≡ true → part_fits (pin_made e n q) ≡ true
unfolding pin_made part_fits
pin_made_fits (Placed p h) n q f g = one-fits (eqb n p) (there h) q (unfold part_fits in lt-ltb h.part 4294967296 f) g
pin_made_fits (Moved p a b) n q f g = one-fits (eqb n p) (moved_pin q b) q (moved_fits q b g) g
pin_made_fits (Removed p h) n q f g = one-fits (eqb n p) absent q refl g

-- So do all pins,
each_made_fits : (e : Edit) (n : ℕ) (l : List Pin) → EditFits e → each_of part_fits l ≡ true → each_of part_fits (numbered (pin_made e) n l) ≡ true
unfolding each_of numbered
each_made_fits e n [] f g = refl
each_made_fits e n (q ∷ l) f g =
    both_of (pin_made_fits e n q f (both_left _ _ g)) (each_made_fits e (suc n) l f (both_right (part_fits q) _ g))

-- with all such edits made.
pins_fit : (first : List Pin) (standing : List Edit) → parts_fit first ≡ true → EditsFit standing → parts_fit (pins_by first standing) ≡ true
unfolding pins_by EditsFit made
pins_fit first [] f g = f
pins_fit first (e ∷ l) f g = each_made_fits e 0 (pins_by first l) g.0 (pins_fit first l f g.1)

-- ---- one seat

-- An open seat: its job, the pins of its opening and its edits fit.
record Fitting (job : ℕ) (first : List Pin) (standing taken_back : List Edit) : Type 0 where
  pub small : job < 65536
  pub start : parts_fit first ≡ true
  pub stands : EditsFit standing
  pub redoes : EditsFit taken_back

-- A past fits: nothing is said where the seat is closed.
unfoldable PastFits : Past → Type 0
PastFits closed = Unit {0}
PastFits (opened job first standing taken_back) = Fitting job first standing taken_back

-- A new edit that fits keeps it so,
anew-fits : (e : Edit) (t : Past) → EditFits e → PastFits t → PastFits (anew e t)
unfolding PastFits anew EditsFit
anew-fits e closed f g = tt
anew-fits e (opened job first standing taken_back) f g = record { small = g.small; start = g.start; stands = (f, g.stands); redoes = tt }

-- and so does undo,
undone-fits : (t : Past) → PastFits t → PastFits (undone t)
unfolding PastFits undone EditsFit
undone-fits closed g = tt
undone-fits (opened job first [] taken_back) g = g
undone-fits (opened job first (e ∷ standing) taken_back) g =
    record { small = g.small; start = g.start; stands = g.stands.1; redoes = (g.stands.0, g.redoes) }

-- and redo.
redone-fits : (t : Past) → PastFits t → PastFits (redone t)
unfolding PastFits redone EditsFit
redone-fits closed g = tt
redone-fits (opened job first standing []) g = g
redone-fits (opened job first standing (e ∷ taken_back)) g =
    record { small = g.small; start = g.start; stands = (g.redoes.0, g.stands); redoes = g.redoes.1 }

-- What a call that states what fits makes of its own seat fits.
next_fits : (c : Call) (t : Past) → CallFits c → PastFits t → PastFits (next c t)
unfolding next PastFits EditsFit
next_fits (opening s job form map) t f g = record { small = f.0; start = read_parts form job map f.1; stands = tt; redoes = tt }
next_fits (closing s) t f g = tt
next_fits (making s m) t f g = anew-fits (edit_of (pins_in t) m) t (stated_fits (pins_in t) m f) g
next_fits (undoing s) t f g = undone-fits t g
next_fits (redoing s) t f g = redone-fits t g
next_fits (asking s a) t f g = g

-- ---- any calls

-- All pasts fit with one changed for another that does,
set-fits : (h : List Past) (s : ℕ) (t : Past) → PastFits t → ((u : ℕ) → PastFits (past_of h u)) → (u : ℕ) → PastFits (past_of (set h s t) u)
set-fits [] s t f g u = g u
set-fits (r ∷ h) zero t f g zero = f
set-fits (r ∷ h) zero t f g (suc u) = g (suc u)
set-fits (r ∷ h) (suc s) t f g zero = g zero
set-fits (r ∷ h) (suc s) t f g (suc u) = set-fits h s t f (λ v. g (suc v)) u

-- where a call changes it, accepted or not,
either-fits : (b : Bool) (h k : List Past) → ((u : ℕ) → PastFits (past_of h u)) → ((u : ℕ) → PastFits (past_of k u)) → (u : ℕ)
    → PastFits (past_of (choose b k h) u)
unfolding choose
either-fits true h k f g = g
either-fits false h k f g = f

-- and after all of the calls.
history-fits : (calls : List Call) (h : List Past) → CallsFit calls → ((u : ℕ) → PastFits (past_of h u)) → (u : ℕ) → PastFits (past_of (history h calls) u)
unfolding CallsFit history past_after
history-fits [] h f g = g
history-fits (c ∷ calls) h f g =
    let t = next c (past_of h (seat_in c)) in
    history-fits calls (past_after h c) f.1
    (either-fits (accepted (answer_in h c)) h (set h (seat_in c) t) g (set-fits h (seat_in c) t (next_fits c (past_of h (seat_in c)) f.0 (g (seat_in c))) g))

-- A past that fits has a job of two bytes, and pins whose part numbers have four.
past_fits : (t : Past) → is_open t ≡ true → PastFits t → (job_in t < 65536) × (parts_fit (pins_in t) ≡ true)
unfolding PastFits
past_fits closed o g = absurd (false≢true o)
past_fits (opened job first standing taken_back) o g = (g.small, pins_fit first standing g.start g.stands)

-- AFTER SUCH CALLS FROM THE EMPTY DESK THE JOB OF AN OPEN SEAT HAS TWO BYTES, AND THE PART NUMBERS OF ITS PINS HAVE FOUR.
pub seat_fits : (calls : List Call) → CallsFit calls → (s : ℕ) → s < most_seats → (seat_of (after empty_desk calls) s).opened ≡ true
    → ((seat_of (after empty_desk calls) s).job < 65536) × (parts_fit (seat_of (after empty_desk calls) s).pins ≡ true)
unfolding PastFits
seat_fits calls f s k o =
    let t = past_of (history nothing calls) s in
    let p : AsPast (after empty_desk calls) s t = (desk_as_past calls).seat s k in
    let y : is_open t ≡ true = sym p.opened ∙ o in
    let g = past_fits t y (history-fits calls nothing f (λ u. rw (blank_at most_seats u closed) tt) s) in
    rw (p.job y, p.pins y) g
