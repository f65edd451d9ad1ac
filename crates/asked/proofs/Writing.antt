-- What writing a map, wiring a seat, milling its copper and telling its volts lost hand back: the answer, the number of bytes and the buffer, the legs, the segments, the drops. From what is found; assumes nothing.
use mathlib.Core.Path.{◌≡◌, refl, ap, ◌∙◌}
use mathlib.Core.Bool.{Bool, true, false, not, false≢true}
use mathlib.Core.List.{List, [], ◌∷◌, ◌++◌}
use Prim.Native.Nat.{ℕ}
use borrow.Author.Tests.{leb-false, not-false}
use lib.Dec.{leb}
use lib.ListN.{length}
use Rattle.std.specs.Prelude.{Result}
use Rattle.basics.specs.Tests.{choose}
use Rattle.refusal.specs.Refusals.{accepted}
use Rattle.refusal.specs.Rows.{Row, first_of, granted}
use Rattle.refusal.specs.Refusals.{Verdict}
use Rattle.refusal.specs.declared.Refusal.{Refusal}
use Rattle.refusal.proofs.Rows.{decided}
use Rattle.drawing.specs.Pins.{lawful, feed_of}
use Rattle.pinmap.specs.declared.Form.TheVariants.{New}
use Rattle.writemap.specs.Map.{map_of, room_rows, written, write_by, buffer_by}
use Rattle.loads.specs.declared.Load.{Load}
use Rattle.loads.specs.declared.Sheet.{Sheet}
use Rattle.drops.specs.declared.Lost.{Lost}
use Rattle.drops.specs.Drops.{no_drops, drop_rows, drops_of, lost_by}
use Rattle.wiring.specs.declared.Laid.{Laid}
use Rattle.mill.specs.declared.Cut.{Cut}
use Rattle.mill.specs.Answer.{copper_of, mill_rows, cut_with, cut_by}
use Rattle.journal.specs.Journal.{most_seats}
use Rattle.seats.specs.declared.Seat.{Seat}
use Rattle.rows.specs.declared.Found.{Found}
use Rattle.pinrows.specs.PinRows.{net_row}
use Rattle.rows.specs.Found.{naming_found, naming_net, wired_by}
use Rattle.desk.specs.declared.Desk.{Desk}
use Rattle.desk.specs.Desk.{closed_seat, seat_of, naming_at, naming_net_at, feed_at, sound}
use Rattle.asked.specs.Asked.{Written, Wired, Milled, Dropped, written_of, buffer_of, wired_of, milled_of, dropped_of}
use Rattle.desk.proofs.Sound.{pins_lawful}
use Rattle.desk.proofs.Found.{found_at}
use Rattle.copper.specs.declared.Favour.{Favour}

-- The map of what is found,
abbrev map_found : Found → List ℕ
map_found f = map_of New f.state.job f.state.pins

-- the rows of writing it,
abbrev rows_found : Found → List ℕ → List Row
rows_found f buffer = naming_found f ++ room_rows New f.state.job f.state.pins (length buffer)

-- what is answered,
abbrev write_found : List ℕ → Found → Result ℕ Refusal
write_found buffer f = write_by (rows_found f buffer) (map_found f)

-- what the buffer holds then,
abbrev buffer_found : List ℕ → Found → List ℕ
buffer_found buffer f = buffer_by (rows_found f buffer) (map_found f) buffer

-- the volts lost,
abbrev lost_found : ℕ → List Load → Sheet → Found → Lost
lost_found net loads sheet f = lost_by (naming_net f net ++ drop_rows (feed_of f.state.pins net) loads sheet) (drops_of (feed_of f.state.pins net) loads sheet)

-- how it is wired,
abbrev wire_found : ℕ → ℕ → Favour → Found → Laid
wire_found net room favour f = wired_by (naming_net f net) (feed_of f.state.pins net) room favour

-- and the segments.
abbrev cut_found : ℕ → ℕ → Favour → Found → Cut
cut_found net room favour f = cut_by (naming_net f net ++ mill_rows (feed_of f.state.pins net) room favour) (copper_of (feed_of f.state.pins net) favour)

-- A call looks at the seat only where neither 28 nor 1 applies.
module _ (d : Desk) (s : ℕ) where
  -- What is decided of what is found is decided of the seat,
  decided_by : {A B : Type 0} (answer : Verdict → A → B) (nothing : A) (asked : Seat → A) (more : Seat → List Row) (b t : Bool)
      → not (sound d) ≡ b → leb most_seats s ≡ t
      → decided answer (asked (found_at d s).state) nothing (naming_found (found_at d s) ++ more (found_at d s).state)
      ≡ decided answer (asked (seat_of d s)) nothing (naming_at d s ++ more (seat_of d s))
  unfolding sound accepted first_of choose
  decided_by answer nothing asked more true t k e = rw k
  decided_by answer nothing asked more false true k e = rw (k, e)
  decided_by answer nothing asked more false false k e = rw (k, e)

  -- what is granted of it is granted of the seat,
  granted_by : {A : Type 0} (asked : Seat → A) (more : Seat → List Row) (b t : Bool) → not (sound d) ≡ b → leb most_seats s ≡ t
      → granted (first_of (naming_found (found_at d s) ++ more (found_at d s).state)) (asked (found_at d s).state)
      ≡ granted (first_of (naming_at d s ++ more (seat_of d s))) (asked (seat_of d s))
  unfolding sound first_of choose
  granted_by asked more true t k e = rw k
  granted_by asked more false true k e = rw (k, e)
  granted_by asked more false false k e = rw (k, e)

  -- and is wired as it is.
  wired_by_lem : (net room : ℕ) (favour : Favour) (b t : Bool) → not (sound d) ≡ b → leb most_seats s ≡ t
      → wire_found net room favour (found_at d s) ≡ wired_by (naming_net_at d s net) (feed_at d s net) room favour
  unfolding sound accepted first_of choose
  wired_by_lem net room favour true t k e = rw k
  wired_by_lem net room favour false true k e = rw (k, e)
  wired_by_lem net room favour false false k e = rw (k, e)

module _ (d : Desk) (s : ℕ) {f : Found} (g : f ≡ found_at d s) where
  -- Wiring: the answer with its legs.
  pub wire_laid : (net room : ℕ) (favour : Favour) {w : Laid} → w ≡ wire_found net room favour f
      → ◌≡◌ {A = Wired} (record { desk = d; answer = w }) (wired_of d s net room favour)
  unfolding wired_of
  wire_laid net room favour e =
      let q = e ∙ ap (wire_found net room favour) g ∙ wired_by_lem d s net room favour _ _ refl refl in
      λ i. record { desk = d; answer = q i }

  -- Milling: the answer with its segments.
  pub mill_cut : (net room : ℕ) (favour : Favour) {w : Cut} → w ≡ cut_found net room favour f
      → ◌≡◌ {A = Milled} (record { desk = d; answer = w }) (milled_of d s net room favour)
  unfolding milled_of
  mill_cut net room favour e =
      let q = e ∙ ap (cut_found net room favour) g
      ∙ decided_by d s cut_with [] (λ t. copper_of (feed_of t.pins net) favour) (λ t. net_row net ∷ mill_rows (feed_of t.pins net) room favour) _ _ refl refl in
      λ i. record { desk = d; answer = q i }

  -- Volts lost: the answer with its drops.
  pub drops_told : (net : ℕ) (loads : List Load) (sheet : Sheet) {w : Lost} → w ≡ lost_found net loads sheet f
      → ◌≡◌ {A = Dropped} (record { desk = d; answer = w }) (dropped_of d s net loads sheet)
  unfolding dropped_of
  drops_told net loads sheet e =
      let q = e ∙ ap (lost_found net loads sheet) g
      ∙ decided_by d s (λ v l. record { verdict = v; drops = l }) no_drops (λ t. drops_of (feed_of t.pins net) loads sheet)
      (λ t. net_row net ∷ drop_rows (feed_of t.pins net) loads sheet) _ _ refl refl in
      λ i. record { desk = d; answer = q i }

  -- Writing: the number of bytes, or why not,
  pub write_done : (b : List ℕ) {w : Result ℕ Refusal} → w ≡ write_found b f → ◌≡◌ {A = Written} (record { desk = d; answer = w }) (written_of d s b)
  unfolding written_of
  write_done b e =
      let q = e ∙ ap (write_found b) g ∙ granted_by d s (λ t. length (map_of New t.job t.pins)) (λ t. room_rows New t.job t.pins (length b)) _ _ refl refl in
      λ i. record { desk = d; answer = q i }

  -- and the buffer.
  pub write_left : (b : List ℕ) {x : List ℕ} → x ≡ buffer_found b f → x ≡ buffer_of d s b
  unfolding buffer_of
  write_left b e =
      e ∙ ap (buffer_found b) g
      ∙ decided_by d s (λ v l. l) b (λ t. written (map_of New t.job t.pins) b) (λ t. room_rows New t.job t.pins (length b)) _ _ refl refl

-- Above 7 a closed seat is found, else that of the desk, which keeps the rules where it is open.
lawful_by : (d : Desk) (s : ℕ) (t : Bool) → leb most_seats s ≡ t → not (sound d) ≡ false → (choose t closed_seat (seat_of d s)).opened ≡ true
    → lawful (choose t closed_seat (seat_of d s)).pins ≡ true
unfolding choose
lawful_by d s true e k o = absurd (false≢true o)
lawful_by d s false e k o = pins_lawful d (not-false _ k) s (leb-false most_seats s e) o

-- What is found at an open seat of a desk that is not broken keeps the rules.
pub found_lawful : (d : Desk) (s : ℕ) {f : Found} → f ≡ found_at d s → f.broken ≡ false → f.state.opened ≡ true → lawful f.state.pins ≡ true
unfolding sound
found_lawful d s g k o = rw g (lawful_by d s _ refl (rw g at k) (rw g at o))
