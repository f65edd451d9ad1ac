-- How many bytes records take, in either form: laws of numbers, each by the two forms. Assumes nothing.
use mathlib.Core.Path.{◌≡◌, refl}
use Prim.Native.Nat.{ℕ, suc, ◌+◌, ◌*◌, ◌/◌, ◌%◌, ◌<◌, ◌≤◌}
use native.Mathlib.Omega.{arith}
use Rattle.board.specs.Spots.{most_pins}
use Rattle.pinmap.specs.declared.Form.{Form}
use Rattle.pinmap.specs.declared.Form.TheVariants.{Old, New}
use Rattle.pinmap.specs.Map.{record_size, most_bytes}

-- A record has at least the twelve bytes of the old form, and at most the sixteen of the new.
pub size_range : (form : Form) → (12 ≤ record_size form) × (record_size form ≤ 16)
size_range Old = (omega arith, omega arith)
size_range New = (omega arith, omega arith)

-- A map has at most a record for each pin.
pub most_records_lem : (form : Form) → most_pins * record_size form ≡ most_bytes form
most_records_lem Old = refl
most_records_lem New = refl

-- Fewer bytes than a record has are counted as none.
pub none_left : (form : Form) (bytes : ℕ) → bytes < record_size form → bytes / record_size form ≡ 0
none_left Old bytes h = omega arith
none_left New bytes h = omega arith

-- The bytes of so many records are a whole number of them,
pub whole : (form : Form) (n : ℕ) → n * record_size form % record_size form ≡ 0
whole Old n = omega arith
whole New n = omega arith

-- and fewer records have no more.
pub fewer : (form : Form) (a b : ℕ) → a ≤ b → a * record_size form ≤ b * record_size form
fewer Old a b h = omega arith
fewer New a b h = omega arith

-- A whole number of records is as many as are counted;
pub whole_count : (form : Form) (bytes : ℕ) → bytes % record_size form ≡ 0 → bytes ≡ bytes / record_size form * record_size form
whole_count Old bytes h = omega arith
whole_count New bytes h = omega arith

-- with one record before them there is one more,
pub count_more : (form : Form) (bytes : ℕ) → (record_size form + bytes) / record_size form ≡ suc (bytes / record_size form)
count_more Old bytes = omega arith
count_more New bytes = omega arith

-- and one more takes the bytes of one more.
pub one_more : (form : Form) (n : ℕ) → suc n * record_size form ≡ record_size form + n * record_size form
one_more Old n = omega arith
one_more New n = omega arith
