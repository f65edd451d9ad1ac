-- The rows of every call are apart, what was read of them first, and what they decide. From the laws of rows; assumes nothing.
use mathlib.Core.Path.{◌≡◌, refl, ap, sym}
use mathlib.Core.Bool.{Bool, true, false}
use mathlib.Core.List.{List, [], ◌∷◌, ◌++◌}
use Prim.Native.Nat.{ℕ, ◌<◌}
use lib.Dec.{leb}
use borrow.Author.Tests.{not-false, leb-false}
use Rattle.std.specs.Prelude.{Ok, Err}
use Rattle.basics.specs.Tests.{both, choose, each_of}
use Rattle.refusal.specs.Refusals.{accepted}
use Rattle.refusal.specs.Rows.{Row, given, first_of, NoneHolds, granted}
use Rattle.refusal.specs.Refusals.{Verdict}
use Rattle.refusal.specs.declared.Refusal.{Refusal}
use Rattle.refusal.specs.declared.Refusal.TheVariants.{SeatAbove, DeskBroken}
use Rattle.refusal.proofs.Rows.{unlike, distinct, Apart, apart_by, apart_both, none-holds, none_before, stops, goes, decided_away, decided_on}
use Rattle.edits.specs.declared.stated.Making.TheVariants.{Placing, Moving, Removing}
use lib.Ieee.{Float}
use Rattle.readmap.specs.Map.{map_rows}
use Rattle.writemap.specs.Map.{written, buffer_by}
use Rattle.readmap.proofs.Judging.{not_of_map, map-differs, map_apart}
use Rattle.copper.specs.declared.Leg.{Leg}
use Rattle.mill.specs.Answer.{cut_with, cut_by}
use Rattle.drops.specs.Drops.{no_drops, none_lost, lost_by}
use Rattle.journal.specs.Journal.{most_seats}
use Rattle.rows.specs.Calls.{Call, opening, closing, making, undoing, redoing, asking, writing, wiring, milling, dropping}
use Rattle.rows.specs.declared.Found.{Found}
use Rattle.rows.specs.Found.{naming_found}
use Rattle.rows.specs.Refusals.{Look, naming_rows, taking_rows, naming_net_rows, rows_of}
use Rattle.pinrows.specs.PinRows.{net_row}

-- ---- the rows are apart

-- 28, 1 and 2 are.
pub naming_apart : (broken : Bool) (seat : ℕ) (opened : Bool) → Apart (naming_rows broken seat opened)
unfolding distinct unlike both
naming_apart broken seat opened = apart_by (naming_rows broken seat opened) refl

-- 28, 1, 3, 4 and 5 are.
pub taking_apart : (broken : Bool) (seat : ℕ) (opened : Bool) (job : ℕ) (jobs : List ℕ) → Apart (taking_rows broken seat opened job jobs)
unfolding distinct unlike both
taking_apart broken seat opened job jobs = apart_by (taking_rows broken seat opened job jobs) refl

-- 28, 1, 2 and 21 are.
pub net_apart : (broken : Bool) (seat : ℕ) (opened : Bool) (net : ℕ) → Apart (naming_net_rows broken seat opened net)
unfolding distinct unlike both
net_apart broken seat opened net = apart_by (naming_net_rows broken seat opened net) refl

-- THE ROWS OF EVERY CALL ARE APART.
pub rows_apart : (l : Look) (c : Call) → Apart (rows_of l c)
unfolding distinct unlike both not_of_map each_of
rows_apart l (opening s job form map) =
    apart_both (taking_rows l.broken l.seat l.opened job l.jobs) (map_rows form map job) not_of_map
    (taking_apart l.broken l.seat l.opened job l.jobs) refl (map-differs form map job) (map_apart form map job)
rows_apart l (closing s) = naming_apart l.broken l.seat l.opened
rows_apart l (making s (Placing p h)) = apart_by (rows_of l (making s (Placing p h))) refl
rows_apart l (making s (Moving p to)) = apart_by (rows_of l (making s (Moving p to))) refl
rows_apart l (making s (Removing p)) = apart_by (rows_of l (making s (Removing p))) refl
rows_apart l (undoing s) = apart_by (rows_of l (undoing s)) refl
rows_apart l (redoing s) = apart_by (rows_of l (redoing s)) refl
rows_apart l (asking s (writing room)) = apart_by (rows_of l (asking s (writing room))) refl
rows_apart l (asking s (wiring net room favour)) = apart_by (rows_of l (asking s (wiring net room favour))) refl
rows_apart l (asking s (milling net room favour)) = apart_by (rows_of l (asking s (milling net room favour))) refl
rows_apart l (asking s (dropping net loads sheet)) = apart_by (rows_of l (asking s (dropping net loads sheet))) refl

-- ---- what was read first

-- Where 28, 1 and 2 are passed: the desk is sound, the seat is one of the desk's, and open.
pub record SeatOpen (broken : Bool) (seat : ℕ) (opened : Bool) : Type 0 where
  pub unbroken : broken ≡ false
  pub low : seat < most_seats
  pub shown : opened ≡ true

-- So it is where none of them holds.
pub seat_open : (broken : Bool) (seat : ℕ) (opened : Bool) → NoneHolds (naming_rows broken seat opened) → SeatOpen broken seat opened
unfolding NoneHolds
seat_open broken seat opened n = record { unbroken = n.0; low = leb-false _ _ n.1.0; shown = not-false _ n.1.1.0 }

-- And where none of them and 21 turns a call away.
pub net_open : (broken : Bool) (seat : ℕ) (opened : Bool) (net : ℕ) → accepted (first_of (naming_net_rows broken seat opened net)) ≡ true
    → SeatOpen broken seat opened
net_open broken seat opened net y =
    let rows = naming_rows broken seat opened in
    seat_open broken seat opened
    (none_before rows (net_row net ∷ []) (none-holds (rows ++ (net_row net ∷ [])) (net_apart broken seat opened net) y))

-- ---- what begins the rows of every call

-- 28 and 1 come first in the rows of every call.
pub rows_begin : (l : Look) (c : Call)
    → (k : List Row) × (rows_of l c ≡ given l.broken DeskBroken ∷ given (leb most_seats l.seat) SeatAbove ∷ k)
rows_begin l (opening s job form map) = (_, refl)
rows_begin l (closing s) = (_, refl)
rows_begin l (making s m) = (_, refl)
rows_begin l (undoing s) = (_, refl)
rows_begin l (redoing s) = (_, refl)
rows_begin l (asking s a) = (_, refl)

-- So a call that names a seat above 7 is answered alike whatever else it looks at.
pub above_alike : (l m : Look) (c : Call) → l.broken ≡ m.broken → l.seat ≡ m.seat → leb most_seats l.seat ≡ true
    → first_of (rows_of l c) ≡ first_of (rows_of m c)
unfolding first_of choose
above_alike l m c e f a = rw ((rows_begin l c).1, (rows_begin m c).1, ← e, ← f, a)

-- An accepted call is made on a desk that is not broken, at one of its seats.
pub seat_low : (l : Look) (c : Call) → accepted (first_of (rows_of l c)) ≡ true → (l.broken ≡ false) × (l.seat < most_seats)
unfolding NoneHolds
seat_low l c y =
    let n = rw (rows_begin l c).1 at (none-holds (rows_of l c) (rows_apart l c) y) in
    (n.0, leb-false _ _ n.1.0)

-- ---- what is found

-- Where 28, 1 and 2 were asked first of what is found: one of them applies, or none does.
module _ (f : Found) where
  -- Refused by one of them, a call is so whatever comes after;
  pub naming_stops : (more : List Row) {r : Refusal} → Err r ≡ first_of (naming_found f) → Err r ≡ first_of (naming_found f ++ more)
  unfolding accepted
  naming_stops more e = stops (naming_found f) more (naming_apart f.broken f.seat f.state.opened) e refl

  -- accepted, what comes after them decides,
  pub naming_goes : (more : List Row) {x : Verdict} → Ok tt ≡ first_of (naming_found f) → x ≡ first_of more → x ≡ first_of (naming_found f ++ more)
  unfolding accepted
  naming_goes more e g = goes (naming_found f) more (naming_apart f.broken f.seat f.state.opened) e refl g

  -- and the seat is open.
  pub naming_passed : Ok tt ≡ first_of (naming_found f) → SeatOpen f.broken f.seat f.state.opened
  unfolding accepted
  naming_passed e =
      seat_open f.broken f.seat f.state.opened
      (none-holds (naming_found f) (naming_apart f.broken f.seat f.state.opened) (ap accepted (sym e)))

-- ---- what is granted

-- What was given was asked for behind rows that accept,
pub granted_ok : {A : Type 0} (v : Verdict) (x : A) {y : A} → granted v x ≡ Ok y → (v ≡ Ok tt) × (y ≡ x)
granted_ok (Ok a) x e = (refl, cc)
granted_ok (Err r) x e = cc

-- and what was refused is what the rows answer.
pub granted_err : {A : Type 0} (v : Verdict) (x : A) {r : Refusal} → granted v x ≡ Err r → v ≡ Err r
granted_err (Ok a) x e = cc
granted_err (Err r) x e = cc

-- ---- what rows decide

-- Where the first rows were asked before:
module _ (rows more : List Row) (a : Apart rows) {v : Verdict} (e : v ≡ first_of rows) where
  -- a buffer to which no map is written stays as it is,
  pub buffer_away : (map buffer : List ℕ) → accepted v ≡ false → buffer ≡ buffer_by (rows ++ more) map buffer
  buffer_away map buffer n = decided_away rows more a e (λ v b. b) (written map buffer) buffer n

  -- and holds one that is written as the later rows decide;
  pub buffer_on : (map buffer : List ℕ) → accepted v ≡ true → buffer_by more map buffer ≡ buffer_by (rows ++ more) map buffer
  buffer_on map buffer y = decided_on rows more a e (λ v b. b) (written map buffer) buffer y

  -- so it is with volts lost that are not told,
  pub lost_away : (drops : List Float) → accepted v ≡ false → none_lost v ≡ lost_by (rows ++ more) drops
  unfolding none_lost
  lost_away drops n = decided_away rows more a e (λ v l. record { verdict = v; drops = l }) drops no_drops n

  -- and those that are;
  pub lost_on : (drops : List Float) → accepted v ≡ true → lost_by more drops ≡ lost_by (rows ++ more) drops
  lost_on drops y = decided_on rows more a e (λ v l. record { verdict = v; drops = l }) drops no_drops y

  -- with segments that are not given,
  pub cut_away : (segments : List Leg) → accepted v ≡ false → cut_with v [] ≡ cut_by (rows ++ more) segments
  cut_away segments n = decided_away rows more a e cut_with segments [] n

  -- and those that are.
  pub cut_on : (segments : List Leg) → accepted v ≡ true → cut_by more segments ≡ cut_by (rows ++ more) segments
  cut_on segments y = decided_on rows more a e cut_with segments [] y
