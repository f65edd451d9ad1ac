-- The journal: the edits of one seat in it, what dropping and appending leave, and when a seat's edits can be redone and taken back.
use Rattle.std.specs.Prelude.{Bool, true, List, [], ◌∷◌, ◌++◌, ℕ, zero, suc, ◌+◌, eqb, ltb, length, replicate, set, take}
use Rattle.basics.specs.Tests.{both, choose, each_of}
use Rattle.basics.specs.Lists.{padded, values_from}
use Rattle.board.specs.Place.{middle}
use Rattle.edits.specs.declared.Edit.{Edit}
use Rattle.drawing.specs.Pins.{Pin, holding}
use Rattle.edits.specs.declared.Edit.TheVariants.{Placed}
use Rattle.edits.specs.Edits.{makeable, made, takeable, unmade}
use Rattle.journal.specs.declared.Record.{Record}
use Rattle.journal.specs.declared.Journal.{Journal}

-- All seats share a journal of 256 records.
abbrev pub most_records : ℕ
most_records = 256

-- A desk has eight seats, 0 to 7.
abbrev pub most_seats : ℕ
most_seats = 8

-- The edit of a record that is not in use.
abbrev pub no_edit : Edit
no_edit = Placed 0 (holding middle 0 0)

-- A record that is not in use.
abbrev pub blank : Record
blank = record { seat = 0; edit = no_edit }

-- A journal record names its seat and holds an edit.
abbrev pub recorded : ℕ → Edit → Record
recorded s e = record { seat = s; edit = e }

-- The records of a journal that are in use: its first ones, as many as it says.
abbrev pub in_use : Journal → List Record
in_use j = take j.used j.records

-- The edits of one seat, in the order in which they were made.
unfoldable pub own : ℕ → List Record → List Edit
own s [] = []
own s (r ∷ l) = choose (eqb r.seat s) (r.edit ∷ own s l) (own s l)

-- How many records each seat of the desk owns.
abbrev pub counts_of : List Record → List ℕ
counts_of l = values_from (λ s. length (own s l)) 0 most_seats

-- The records without those of the seat beyond its first k.
unfoldable pub kept : ℕ → ℕ → List Record → List Record
kept s k [] = []
kept s zero (r ∷ l) = choose (eqb r.seat s) (kept s zero l) (r ∷ kept s zero l)
kept s (suc k) (r ∷ l) = r ∷ choose (eqb r.seat s) (kept s k l) (kept s (suc k) l)

-- A new edit first frees the records of its own seat beyond the k that stand, and takes a record after all others.
abbrev pub added : ℕ → ℕ → Edit → List Record → List Record
added s k e l = kept s k l ++ (recorded s e ∷ [])

-- A journal whose records in use are these: blank ones fill it up.
unfoldable pub filled : List Record → List Record
filled l = padded most_records blank l

-- The journal with these records in use, and their number.
abbrev pub compacted : List Record → Journal
compacted l = record { records = filled l; used = length l }

-- The journal of which no record is in use: all its records are blank.
abbrev pub empty_journal : Journal
empty_journal = record { records = replicate most_records blank; used = 0 }

-- A journal with its latest record after those in use.
abbrev pub appended : Journal → Record → Journal
appended j r = record { records = set j.records j.used r; used = j.used + 1 }

-- The seat of a record is one of the desk's.
abbrev pub of_desk : Record → Bool
of_desk r = ltb r.seat most_seats

-- The seat of every record is one of the desk's.
abbrev pub seated : List Record → Bool
seated l = each_of of_desk l

-- Each edit passes a test on the pins that the steps of those before it leave.
unfoldable pub in_turn : (List Pin → Edit → Bool) → (List Pin → Edit → List Pin) → List Pin → List Edit → Bool
in_turn test step q [] = true
in_turn test step q (e ∷ l) = both (test q e) (in_turn test step (step q e) l)

-- The edits can be made one after the other.
abbrev pub makeable_all : List Pin → List Edit → Bool
makeable_all q l = in_turn makeable made q l

-- The edits, the latest first, can be taken back one after the other.
abbrev pub takeable_all : List Pin → List Edit → Bool
takeable_all q l = in_turn takeable unmade q l
