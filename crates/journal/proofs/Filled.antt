-- A journal filled up with blank records: its length, its records in use, one record more. From `filled`; assumes nothing.
use mathlib.Core.Path.{◌≡◌, refl}
use mathlib.Core.List.{List, [], ◌∷◌, ◌++◌}
use Prim.Native.Nat.{◌+◌, ◌<◌, ◌≤◌}
use lib.ListN.{length, take, set, replicate, length-append}
use Rattle.basics.proofs.Lists.{padded_first, padded_long, padded_more}
use Rattle.journal.specs.declared.Record.{Record}
use Rattle.journal.specs.Journal.{most_records, blank, filled, compacted, empty_journal, appended}

-- The records in use are those that it was filled from.
pub take-filled : (l : List Record) → take (length l) (filled l) ≡ l
unfolding filled
take-filled l = padded_first most_records blank l refl

-- It has room for all records.
pub filled-length : (l : List Record) → length l ≤ most_records → length (filled l) ≡ most_records
unfolding filled
filled-length l h = padded_long most_records blank l h

-- Without records it is blank.
pub filled_nil : filled [] ≡ replicate most_records blank
unfolding filled
filled_nil = refl

-- A record stored after those in use is in use after them.
pub filled-set : (l : List Record) (r : Record) → length l < most_records → set (filled l) (length l) r ≡ filled (l ++ (r ∷ []))
unfolding filled
filled-set l r h = padded_more most_records blank l r h

-- So a journal with these records in use, and one more after them, has that one in use too.
pub appended-compacted : (l : List Record) (r : Record) → length l < most_records → appended (compacted l) r ≡ compacted (l ++ (r ∷ []))
appended-compacted l r h =
    let n : length (l ++ (r ∷ [])) ≡ length l + 1 = length-append l (r ∷ []) in
    rw (filled-set l r h, n)

-- The journal without records in use has none.
pub empty_compacted : empty_journal ≡ compacted []
empty_compacted = rw filled_nil
