-- A seat's edits found among the records that name it, from the newest back too. From `own`; assumes nothing.
use mathlib.Core.Path.{◌≡◌, refl, sym, ap, ap₂, ◌∙◌}
use mathlib.Core.Bool.{Bool, true, false, cond}
use mathlib.Core.List.{List, [], ◌∷◌, ◌++◌, map, reverse, reverse-append}
use Prim.Native.Nat.{ℕ}
use lib.Dec.{eqb}
use lib.ListN.{get_or}
use Rattle.std.proofs.lemmas.Option.{unwrap_or-slice_get}
use Rattle.std.specs.List.{filter, slice_get}
use Rattle.std.specs.Option.{unwrap_or}
use Rattle.std.specs.Prelude.{Option}
use Rattle.basics.specs.Tests.{choose}
use Rattle.edits.specs.declared.Edit.{Edit}
use Rattle.journal.specs.declared.Record.{Record}
use Rattle.journal.specs.Journal.{no_edit, own}
use Rattle.journal.proofs.Own.{own_nil, own-append}

-- A record is the seat's.
abbrev pub is_of : ℕ → Record → Bool
is_of s r = eqb r.seat s

-- The edit that a record holds.
abbrev pub edit_in : Record → Edit
edit_in r = r.edit

-- Taking a record or leaving it says the same of the records as of their edits.
taken : (r : Record) (b : Bool) (m : List Record) → choose b (r.edit ∷ map edit_in m) (map edit_in m) ≡ map edit_in (cond b (r ∷ m) m)
unfolding choose
taken r true m = refl
taken r false m = refl

-- A seat's edits are those of the records that are its own.
pub own-filter : (s : ℕ) (l : List Record) → own s l ≡ map edit_in (filter (is_of s) l)
unfolding own
own-filter s [] = refl
own-filter s (r ∷ l) = rw (own-filter s l) (taken r (is_of s r) (filter (is_of s) l))

-- One edit, or none, is the same turned round.
alone : (b : Bool) (e : Edit) → reverse (choose b (e ∷ []) []) ≡ choose b (e ∷ []) []
unfolding choose
alone true e = refl
alone false e = refl

-- So is what a seat has of one record.
own_alone : (s : ℕ) (r : Record) → reverse (own s (r ∷ [])) ≡ own s (r ∷ [])
unfolding own
own_alone s r = alone (is_of s r) r.edit

-- Of records turned round the seat's edits are turned round.
pub own-reverse : (s : ℕ) (l : List Record) → own s (reverse l) ≡ reverse (own s l)
own-reverse s [] = rw (own_nil s)
own-reverse s (r ∷ l) =
    ap (own s) (reverse-append (r ∷ []) l)
    ∙ own-append s (reverse l) (r ∷ [])
    ∙ ap₂ ◌++◌ (own-reverse s l) (sym (own_alone s r))
    ∙ sym (reverse-append (own s (r ∷ [])) (own s l))
    ∙ ap reverse (sym (own-append s (r ∷ []) l))

-- From the newest back, the seat's edit with n of its edits after it is the one at n.
pub own_back : (s n : ℕ) (l : List Record) (o : Option Edit) → o ≡ slice_get (map edit_in (filter (is_of s) (reverse l))) n
    → unwrap_or o no_edit ≡ get_or (reverse (own s l)) n no_edit
own_back s n l o e =
    rw e (unwrap_or-slice_get (map edit_in (filter (is_of s) (reverse l))) n no_edit)
    ∙ ap (λ (m : List Edit). get_or m n no_edit) (sym (own-filter s (reverse l)) ∙ own-reverse s l)
