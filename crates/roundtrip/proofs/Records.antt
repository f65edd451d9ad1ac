-- One record, written and read: what its bytes say is what was written, and one without a fault is written with the bytes that it was read
-- from. From the laws of a number and its four bytes. Assumes nothing.
use mathlib.Core.Path.{◌≡◌, refl, sym, ap, ◌∙◌}
use mathlib.Core.Bool.{true}
use mathlib.Core.List.{List, [], ◌∷◌, ◌++◌, append-nil}
use Prim.Native.Nat.{ℕ, zero, suc, ◌+◌, ◌*◌, ◌/◌, ◌%◌, ◌<◌, ◌≤◌}
use native.Mathlib.Omega.{arith}
use lib.ListN.{length, get_or, set, take}
use lib.Seq.{set-get_or, take_all}
use mir.Syntax.{w32}
use mir.Val.{SFits}
use mir.Facts.{Fits-of_z}
use Rattle.basics.proofs.Tests.{both_left, both_right}
use Rattle.board.specs.declared.Place.{Place}
use Rattle.board.specs.Place.{inside}
use Rattle.board.proofs.Board.{number_held}
use Rattle.drawing.specs.declared.Held.{Held}
use Rattle.drawing.specs.Pins.{Pin, is_net}
use Rattle.pinmap.specs.declared.Form.{Form}
use Rattle.pinmap.specs.declared.Form.TheVariants.{Old, New}
use Rattle.pinmap.specs.Number.{bits_at, number_at, four_bytes, bits_of, put_at}
use Rattle.pinmap.specs.Map.{Bytes, record_size}
use Rattle.records.specs.Record.{part_at, record_of, held_of}
use Rattle.writemap.specs.Record.{byte_for, part_bytes, record_bytes}
use Rattle.pinmap.proofs.Sizes.{size_range}
use Rattle.records.proofs.Faults.{Faultless}
use Rattle.writemap.proofs.Written.{record_stored, part_stored}
use Rattle.roundtrip.proofs.Bytes.{join_split, number_split, first_byte_lem, second_byte_lem, third_byte_lem, fourth_byte_lem}
use Rattle.roundtrip.proofs.Bytes.{bits_fit, bits_number, written_read}
use Rattle.roundtrip.proofs.Holding.{part_given, byte_fits, byte_again}

-- An i32 holds the x of a place of the board,
x_held : (a : Place) → inside a ≡ true → SFits w32 a.x
unfolding inside
x_held a e = record { sfits = number_held a.x (both_left _ _ e) }

-- and its y.
y_held : (a : Place) → inside a ≡ true → SFits w32 a.y
unfolding inside
y_held a e = record { sfits = number_held a.y (both_right _ _ e) }

-- The part number that a record's bytes say: the one that was written, 0 in the old form.
part_read : (form : Form) (job pin : ℕ) (held : Held) → part_at form (record_bytes form job pin held) ≡ part_given form held.part
unfolding record_bytes bits_at four_bytes
part_read Old job pin held = refl
part_read New job pin held = join_split held.part

-- What a record's bytes say is what was written.
pub record_read : (form : Form) (job pin : ℕ) (held : Held) → inside held.place ≡ true
    → record_of form (record_bytes form job pin held)
    ≡ record { job = job; pin = pin; byte3 = byte_for form held.net; place = held.place; part = part_given form held.part }
unfolding record_of record_bytes number_at bits_at four_bytes
record_read form job pin held e =
    let k : job / 256 * 256 + job % 256 ≡ job = omega arith in
    let x = number_split held.place.x (x_held held.place e) in
    let y = number_split held.place.y (y_held held.place e) in
    λ i. record { job = k i; pin = pin; byte3 = byte_for form held.net; place = record { x = x i; y = y i }; part = part_read form job pin held i }

-- A byte put where it stands already changes nothing.
set_own : (l : List ℕ) (i v : ℕ) → v ≡ get_or l i 0 → set l i v ≡ l
set_own l i v e = rw e (set-get_or l i 0)

-- So does a number.
put_own : (l : List ℕ) (k n : ℕ) → Bytes l → k + 4 ≤ length l → n ≡ bits_at l k → put_at l k n ≡ l
put_own l k n b h e = rw e (written_read l k b h)

-- The bytes of a record after its y are those of its part number.
rest_written : (form : Form) (bytes : List ℕ) → length bytes ≡ record_size form → Bytes bytes → take 12 bytes ++ part_bytes form (part_at form bytes) ≡ bytes
rest_written Old bytes n b = append-nil (take 12 bytes) ∙ take_all 12 bytes (omega arith)
rest_written New bytes n b = sym (part_stored bytes (bits_at bytes 12) n) ∙ written_read bytes 12 b (omega arith)

-- A record without a fault that was read from the bytes of one is written with those bytes.
pub record_written : (form : Form) (bytes : List ℕ) (job next : ℕ) (earlier : List Pin) → length bytes ≡ record_size form → Bytes bytes
    → Faultless form job next earlier (record_of form bytes) → record_bytes form job (record_of form bytes).pin (held_of form (record_of form bytes)) ≡ bytes
unfolding record_of
record_written form bytes job next earlier n b f =
    let a : get_or bytes 0 0 < 256 = b 0 in
    let c : get_or bytes 1 0 < 256 = b 1 in
    let j : get_or bytes 0 0 * 256 + get_or bytes 1 0 ≡ job = f.own_job in
    let r = size_range form in
    let h : Held = held_of form (record_of form bytes) in
    let put : List ℕ → List ℕ = λ l. put_at (put_at l 4 (bits_of h.place.x)) 8 (bits_of h.place.y) in
    let own : put (set (set (set (set bytes 0 (job / 256)) 1 (job % 256)) 2 (get_or bytes 2 0)) 3 (byte_for form h.net)) ≡ bytes =
    ap (λ (l : List ℕ). put (set (set (set l 1 (job % 256)) 2 (get_or bytes 2 0)) 3 (byte_for form h.net))) (set_own bytes 0 (job / 256) (omega arith))
    ∙ ap (λ (l : List ℕ). put (set (set l 2 (get_or bytes 2 0)) 3 (byte_for form h.net))) (set_own bytes 1 (job % 256) (omega arith))
    ∙ ap (λ (l : List ℕ). put (set l 3 (byte_for form h.net))) (set-get_or bytes 2 0)
    ∙ ap put (set_own bytes 3 (byte_for form h.net) (byte_again form (get_or bytes 3 0) f.byte))
    ∙ ap (λ (l : List ℕ). put_at l 8 (bits_of h.place.y)) (put_own bytes 4 (bits_of h.place.x) b (omega arith) (bits_number bytes 4 b))
    ∙ put_own bytes 8 (bits_of h.place.y) b (omega arith) (bits_number bytes 8 b) in
    sym (record_stored form bytes job (get_or bytes 2 0) h (omega arith))
    ∙ ap (λ (l : List ℕ). take 12 l ++ part_bytes form h.part) own ∙ rest_written form bytes n b

-- The part number that a record of bytes gives takes four bytes at most.
pub part_given_lem : (form : Form) (bytes : List ℕ) → Bytes bytes → part_at form bytes < 4294967296
part_given_lem Old bytes b = omega arith
part_given_lem New bytes b = bits_fit bytes 12 b

-- A list written out, each entry below 256.
data Made : List ℕ → Type 0 where
  none : Made []
  then : {a : ℕ} {m : List ℕ} → a < 256 → Made m → Made (a ∷ m)

-- Such a list is one of bytes.
made_bytes : {m : List ℕ} → Made m → Bytes m
made_bytes none i = omega arith
made_bytes (then h b) zero = h
made_bytes (then h b) (suc i) = made_bytes b i

-- Two lists of bytes, one after the other, are one of bytes.
pub bytes_append : (m n : List ℕ) → Bytes m → Bytes n → Bytes (m ++ n)
bytes_append [] n b c i = c i
bytes_append (a ∷ m) n b c zero = b 0
bytes_append (a ∷ m) n b c (suc i) = bytes_append m n (λ k. b (suc k)) c i

-- The four bytes of a number of 32 bits are bytes,
four_bytes_lem : (n : ℕ) → n < 4294967296 → Bytes (four_bytes n)
unfolding four_bytes
four_bytes_lem n h = made_bytes (then (first_byte_lem n h) (then (second_byte_lem n) (then (third_byte_lem n) (then (fourth_byte_lem n) none))))

-- and so is what follows y in a record.
part_bytes_lem : (form : Form) (part : ℕ) → part < 4294967296 → Bytes (part_bytes form part)
part_bytes_lem Old part h = made_bytes none
part_bytes_lem New part h = four_bytes_lem part h

-- A record is made of bytes.
pub record_bytes_lem : (form : Form) (job pin : ℕ) (held : Held) → job < 65536 → pin < 256 → inside held.place ≡ true → is_net held.net ≡ true
    → held.part < 4294967296 → Bytes (record_bytes form job pin held)
unfolding record_bytes
record_bytes_lem form job pin held j p e n k =
    let x = Fits-of_z (x_held held.place e) in
    let y = Fits-of_z (y_held held.place e) in
    let xs : List ℕ = four_bytes (bits_of held.place.x) in
    let ys : List ℕ = four_bytes (bits_of held.place.y) in
    let rest : List ℕ = part_bytes form held.part in
    let front : List ℕ = job / 256 ∷ job % 256 ∷ pin ∷ byte_for form held.net ∷ [] in
    let f : Bytes front =
    made_bytes (then {a = job / 256} (omega arith) (then {a = job % 256} (omega arith) (then p (then (byte_fits form held.net n) none)))) in
    bytes_append (front ++ xs ++ ys) rest
    (bytes_append (front ++ xs) ys (bytes_append front xs f (four_bytes_lem (bits_of held.place.x) (omega (arith, x))))
    (four_bytes_lem (bits_of held.place.y) (omega (arith, y))))
    (part_bytes_lem form held.part k)
