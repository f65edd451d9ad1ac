-- How the rows of a call's refusals are read, and what it says that each refusal is given exactly under its condition.
use Rattle.std.specs.Prelude.{◌≡◌, Bool, true, false, List, [], ◌∷◌, ◌↔◌, ℕ, zero, suc, ◌<◌, length, Result, Ok, Err}
use Rattle.basics.specs.Tests.{choose}
use Rattle.refusal.specs.declared.Refusal.{Refusal}
use Rattle.refusal.specs.Refusals.{Verdict}

-- One row: a refusal and its condition.
pub record Row : Type 0 where
  pub condition : Bool
  pub refusal : Refusal

-- A row by its condition and its refusal.
abbrev pub given : Bool → Refusal → Row
given b r = record { condition = b; refusal = r }

-- What a call is answered: the refusal of the first row whose condition holds; accepted where none holds.
unfoldable pub first_of : List Row → Verdict
first_of [] = Ok tt
first_of (r ∷ rows) = choose r.condition (Err r.refusal) (first_of rows)

-- The refusal of row i.
unfoldable pub refusal_at : List Row → ℕ → Verdict
refusal_at [] i = Ok tt
refusal_at (r ∷ rows) zero = Err r.refusal
refusal_at (r ∷ rows) (suc i) = refusal_at rows i

-- Row i is given: its condition holds, and none before it does.
unfoldable pub Given : List Row → ℕ → Type 0
Given [] i = ⊥
Given (r ∷ rows) zero = r.condition ≡ true
Given (r ∷ rows) (suc i) = (r.condition ≡ false) × Given rows i

-- No condition holds.
unfoldable pub NoneHolds : List Row → Type 0
NoneHolds [] = Unit {0}
NoneHolds (r ∷ rows) = (r.condition ≡ false) × NoneHolds rows

-- Each refusal is given exactly where its condition holds and none before it does; the call is accepted exactly where none holds.
pub record Exactly (rows : List Row) (answer : Verdict) : Type 0 where
  pub refused : (i : ℕ) → i < length rows → (answer ≡ refusal_at rows i) ↔ Given rows i
  pub passes : (answer ≡ Ok tt) ↔ NoneHolds rows

-- A value that was asked for, or the refusal in its place.
abbrev pub granted : {A : Type 0} → Verdict → A → Result A Refusal
granted (Ok v) a = Ok a
granted (Err r) a = Err r
