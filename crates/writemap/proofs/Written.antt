-- What writing in a form leaves in a buffer: a record's stores, and pin after pin. Assumes nothing.
use mathlib.Core.Path.{◌≡◌, refl, sym, ap, ◌∙◌}
use mathlib.Core.Bool.{true, false}
use mathlib.Core.List.{List, [], ◌∷◌, ◌++◌, append-nil, append_assoc}
use Prim.Native.Nat.{ℕ, ◌+◌, ◌-◌, ◌*◌, ◌/◌, ◌%◌, ◌<◌, ◌≤◌}
use native.Mathlib.Omega.{arith}
use native.Mathlib.Numerals.{add-one}
use lib.ListN.{length, get_or, take, drop, set, length-append, drop_of_length-le}
use Rattle.std.specs.List.{filter}
use Rattle.std.specs.Int.{w16, to_be_bytes}
use lib.Seq.{sets, sets-eq, length-sets, drop-drop, take-append_seam, drop-append_seam}
use borrow.Rule.Slice.PartMut.{put_mid}
use borrow.Author.Tests.{lt-ltb, le-ltb}
use Rattle.std.specs.Prelude.{Ok, Err, None, Some, is_some, is_ok}
use Rattle.refusal.specs.declared.Refusal.TheVariants.{RoomTooSmall}
use Rattle.refusal.specs.Refusals.{Verdict, accepted}
use Rattle.refusal.specs.Rows.{Row, first_of, granted}
use Rattle.refusal.proofs.Rows.{hit}
use Rattle.basics.proofs.Tests.{opposite, choose_yes, choose_no}
use Rattle.basics.specs.Tests.{choose, each_of}
use Rattle.basics.proofs.Anyone.{each_at}
use Rattle.basics.proofs.Lists.{front, sets-append}
use Rattle.pinmap.specs.Number.{four_bytes, bits_of, put_at}
use Rattle.drawing.specs.declared.Held.{Held}
use Rattle.drawing.specs.Pins.{Pin, absent, has_net}
use Rattle.pinmap.specs.declared.Form.{Form}
use Rattle.pinmap.specs.declared.Form.TheVariants.{Old, New}
use Rattle.pinmap.specs.Map.{record_size}
use Rattle.writemap.specs.Record.{byte_for, part_bytes, record_bytes, pin_bytes}
use Rattle.writemap.specs.Map.{map_from, map_of, written, room_rows, write_by, buffer_by, write_map, buffer_after, bytes_of, verdict_of}
use Rattle.std.proofs.lemmas.List.Sums.{length-filter, count_by-le-length}
use Rattle.pinmap.proofs.Sizes.{whole, fewer, one_more}

-- Stores from the front on leave what follows them.
pub sets_front : (xs l : List ℕ) → length xs ≤ length l → sets l 0 xs ≡ written xs l
unfolding written
sets_front xs l h =
    let e : 0 + length xs ≡ length xs = omega arith in
    sets-eq xs l 0 (omega arith) ∙ rw e

-- A part number that is stored in a record of the new form is its last four bytes.
pub part_stored : (l : List ℕ) (n : ℕ) → length l ≡ record_size New → put_at l 12 n ≡ take 12 l ++ four_bytes n
unfolding put_at four_bytes
part_stored l n h = sets-eq (four_bytes n) l 12 (omega arith) ∙ rw (drop_of_length-le l {i = 16} (omega arith)) (append-nil (take 12 l ++ four_bytes n))

-- A job's two bytes, copied to the front, are stored there.
job_stored : (bytes l : List ℕ) (job : ℕ) → 2 ≤ length bytes → job < 65536 → l ≡ to_be_bytes w16 job
    → put_mid 0 2 bytes l ≡ set (set bytes 0 (job / 256)) 1 (job % 256)
job_stored [] l job h k e = absurd (omega arith)
job_stored (a ∷ []) l job h k e = absurd (omega arith)
job_stored (a ∷ b ∷ bytes) l job h k e =
    let q : job / 256 % 256 ≡ job / 256 = omega arith in
    rw e (ap (λ (n : ℕ). n ∷ job % 256 ∷ bytes) q)

-- The stores of a record up to its y fill its first twelve bytes, and those of its part number are the rest;
pub record_stored : (form : Form) (bytes : List ℕ) (job pin : ℕ) (held : Held) → 12 ≤ length bytes
    → let head : List ℕ = set (set (set (set bytes 0 (job / 256)) 1 (job % 256)) 2 pin) 3 (byte_for form held.net) in
    take 12 (put_at (put_at head 4 (bits_of held.place.x)) 8 (bits_of held.place.y))
    ++ part_bytes form held.part ≡ record_bytes form job pin held
unfolding put_at four_bytes record_bytes
record_stored form bytes job pin held h =
    let r : List ℕ =
    (job / 256 ∷ job % 256 ∷ pin ∷ byte_for form held.net ∷ []) ++ four_bytes (bits_of held.place.x) ++ four_bytes (bits_of held.place.y) in
    ap (λ (l : List ℕ). take 12 l ++ part_bytes form held.part) (sets-eq r bytes 0 (omega arith))

-- so they do where the job's two bytes are copied.
pub record_filled : (form : Form) (bytes l : List ℕ) (job pin : ℕ) (held : Held) → 12 ≤ length bytes → job < 65536 → l ≡ to_be_bytes w16 job
    → let head : List ℕ = set (set (put_mid 0 2 bytes l) 2 pin) 3 (byte_for form held.net) in
    take 12 (put_at (put_at head 4 (bits_of held.place.x)) 8 (bits_of held.place.y))
    ++ part_bytes form held.part ≡ record_bytes form job pin held
record_filled form bytes l job pin held h k e = rw (job_stored bytes l job (omega arith) k e) (record_stored form bytes job pin held h)

-- A record has the bytes of its form.
pub record_length : (form : Form) (job pin : ℕ) (held : Held) → length (record_bytes form job pin held) ≡ record_size form
unfolding record_bytes four_bytes
record_length Old job pin held = refl
record_length New job pin held = refl

-- Where each pin has a net, the pin of any number has.
pub net_at : (l : List Pin) (i : ℕ) → each_of has_net l ≡ true → has_net (get_or l i absent) ≡ true
unfolding has_net
net_at l i n = each_at has_net absent l i n (λ h. refl)

-- A record that was written into its own part of the buffer is stored there.
pub part_put : (form : Form) (buffer part : List ℕ) (at : ℕ) → length part ≡ record_size form → at + record_size form ≤ length buffer
    → put_mid at (at + record_size form - at) buffer part ≡ sets buffer at part
part_put form buffer part at e h =
    let k : at + record_size form - at ≡ length part = omega arith in
    rw k
    (sym
    (sets-eq part buffer at (omega arith) ∙ append_assoc (take at buffer) part (drop (at + length part) buffer)
    ∙ ap (λ (l : List ℕ). take at buffer ++ (part ++ l)) (sym (drop-drop (length part) at buffer))))

-- What the code that writes a pin's record takes from these.
pub ruleset record_laws = (record_length, part_put)

module _ (form : Form) (job : ℕ) (l : List Pin) (i : ℕ) where
  -- The map from pin i on: what it has for pin i, then the map from the next pin on;
  pub map_next : i < length l → map_from form job i (drop i l) ≡ pin_bytes form job i (get_or l i absent) ++ map_from form job (i + 1) (drop (i + 1) l)
  unfolding map_from
  map_next h = rw (front absent l i h, add-one)

  -- after the last pin there is nothing.
  pub map_end : length l ≤ i → map_from form job i (drop i l) ≡ []
  unfolding map_from
  map_end h = rw (drop_of_length-le l h)

-- ---- how long a map is

-- A map has a record for each pin that is there:
pub map_count : (form : Form) (job i : ℕ) (l : List Pin) → length (map_from form job i l) ≡ length (filter is_some l) * record_size form
unfolding map_from pin_bytes
map_count form job i [] = omega arith
map_count form job i (None ∷ l) = map_count form job (i + 1) l
map_count form job i (Some held ∷ l) =
    let n = length-append (record_bytes form job i held) (map_from form job (i + 1) l) in
    omega (arith, n, record_length form job i held, one_more form (length (filter is_some l)), map_count form job (i + 1) l)

-- a record at most for each pin, and nothing but records.
pub map_size : (form : Form) (job i : ℕ) (l : List Pin)
    → (length (map_from form job i l) ≤ length l * record_size form) × (length (map_from form job i l) % record_size form ≡ 0)
map_size form job i l =
    let k = fewer form (length (filter is_some l)) (length l) (omega (arith, length-filter is_some l, count_by-le-length is_some l)) in
    rw (map_count form job i l) (k, whole form (length (filter is_some l)))

-- ---- storing them

-- The pins below i are written: storing those from i on gives what storing the whole map gives.
pub record Storing (form : Form) (job : ℕ) (l : List Pin) (before now : List ℕ) (at i : ℕ) : Type 0 where
  pub same : length now ≡ length before
  pub room : at + length (map_from form job i (drop i l)) ≤ length before
  pub rest : sets now at (map_from form job i (drop i l)) ≡ sets before 0 (map_of form job l)

-- Before the first pin nothing is stored: the buffer has room for the whole map.
pub storing_start : (form : Form) (job : ℕ) (l : List Pin) (buffer : List ℕ) → length (map_of form job l) ≤ length buffer → Storing form job l buffer buffer 0 0
unfolding map_of
storing_start form job l buffer h = record { same = refl; room = omega arith; rest = refl }

module _ (form : Form) (job : ℕ) (l : List Pin) (before now : List ℕ) (at i : ℕ) (s : Storing form job l before now at i) where
  module _ (h : i < length l) where
    -- What the map has for pin i.
    abbrev own : List ℕ
    own = pin_bytes form job i (get_or l i absent)

    -- There is room for pin i,
    pub storing_room : at + length own ≤ length now
    storing_room =
        omega (arith, s.room, s.same, ap length (map_next form job l i h), length-append own (map_from form job (i + 1) (drop (i + 1) l)))

    -- and once it is stored, those from the next pin on are left.
    pub storing_next : {r : ℕ} {after : List ℕ} → r ≡ at + length own → after ≡ sets now at own → Storing form job l before after r (i + 1)
    storing_next {r} {after} er ea =
        record {
          same = ap length ea ∙ length-sets now at own ∙ s.same;
          room = omega (arith, s.room, er, ap length (map_next form job l i h), length-append own (map_from form job (i + 1) (drop (i + 1) l)));
          rest =
              rw (er, ea)
              (sets-append now at own (map_from form job (i + 1) (drop (i + 1) l)) ∙ ap (sets now at) (sym (map_next form job l i h)) ∙ s.rest);
        }

  -- After the last pin the buffer holds the map, and the bytes after it as they were.
  pub storing_end : length l ≤ i → length (map_of form job l) ≤ length before → now ≡ written (map_of form job l) before
  storing_end h k =
      ap (sets now at) (sym (map_end form job l i h)) ∙ s.rest ∙ sets_front (map_of form job l) before k

-- ---- the answer, by the room

module _ (form : Form) (l : List Pin) (job : ℕ) (buffer : List ℕ) {n : ℕ} (e : n ≡ length (map_of form job l)) where
  module _ (h : length buffer < n) where
    -- Room for fewer bytes than the map has is too small:
    too_small : Err RoomTooSmall ≡ first_of (room_rows form job l (length buffer))
    too_small = hit RoomTooSmall [] (lt-ltb (length buffer) (length (map_of form job l)) (omega arith))

    -- writing is answered 19
    pub answer_small : Err RoomTooSmall ≡ write_map form l job buffer
    unfolding write_map
    answer_small = rw (← too_small) refl

    -- and leaves the buffer as it was;
    pub buffer_small : buffer ≡ buffer_after form l job buffer
    unfolding buffer_after accepted
    buffer_small = rw (← too_small) (sym (choose_no _ _ refl))

  module _ (h : n ≤ length buffer) where
    -- where it is enough,
    enough : Ok tt ≡ first_of (room_rows form job l (length buffer))
    unfolding first_of
    enough = sym (choose_no _ _ (le-ltb (length buffer) (length (map_of form job l)) (omega arith)))

    -- writing is accepted with the number of bytes
    pub answer_written : Ok n ≡ write_map form l job buffer
    unfolding write_map
    answer_written = rw (← enough) (ap Ok e)

    -- and leaves the map in the buffer.
    pub buffer_written : written (map_of form job l) buffer ≡ buffer_after form l job buffer
    unfolding buffer_after accepted
    buffer_written = rw (← enough) (sym (choose_yes _ _ refl))

-- What the code that writes a map takes from these.
pub ruleset room_laws = (answer_small, buffer_small, answer_written, buffer_written)

-- ---- a writing, whatever rows decide it

-- The verdict of what was granted is the one that granted it.
pub verdict_is : {A : Type 0} (v : Verdict) (a : A) → verdict_of (granted v a) ≡ v
verdict_is (Ok tt) a = refl
verdict_is (Err r) a = refl

module _ (rows : List Row) (map buffer : List ℕ) where
  -- It is accepted where the rows accept.
  pub accepted_by : is_ok (write_by rows map) ≡ true → accepted (first_of rows) ≡ true
  unfolding accepted
  accepted_by a = by (first_of rows) a
    where
      by : (v : Verdict) → is_ok (granted v (length map)) ≡ true → accepted v ≡ true
      by (Ok tt) a = refl
      by (Err r) a = a

  -- Where it is accepted, the bytes written are the map,
  pub front_written : is_ok (write_by rows map) ≡ true → take (bytes_of (write_by rows map)) (buffer_by rows map buffer) ≡ map
  unfolding written accepted choose
  front_written a = by (first_of rows) a
    where
      by : (v : Verdict) → is_ok (granted v (length map)) ≡ true
          → take (bytes_of (granted v (length map))) (choose (accepted v) (written map buffer) buffer) ≡ map
      by (Ok tt) a = take-append_seam map _
      by (Err r) a = absurd (opposite a refl)

  -- and the bytes after it stay as they were.
  pub rest_stays : drop (bytes_of (write_by rows map)) (buffer_by rows map buffer) ≡ drop (bytes_of (write_by rows map)) buffer
  unfolding written accepted choose
  rest_stays = by (first_of rows)
    where
      by : (v : Verdict)
          → drop (bytes_of (granted v (length map))) (choose (accepted v) (written map buffer) buffer) ≡ drop (bytes_of (granted v (length map))) buffer
      by (Ok tt) = drop-append_seam map _
      by (Err r) = refl

  -- Where it is refused no byte is written, and the buffer stays as it was.
  pub refused_stays : is_ok (write_by rows map) ≡ false → (bytes_of (write_by rows map) ≡ 0) × (buffer_by rows map buffer ≡ buffer)
  unfolding accepted choose
  refused_stays a = by (first_of rows) a
    where
      by : (v : Verdict) → is_ok (granted v (length map)) ≡ false
          → (bytes_of (granted v (length map)) ≡ 0) × (choose (accepted v) (written map buffer) buffer ≡ buffer)
      by (Ok tt) a = absurd (opposite refl a)
      by (Err r) a = (refl, refl)
