-- A pin's own next run, where it has one: the runs of other pins before it are passed by, which does not change what is found.
-- From the laws of weighing one run on. Assumes nothing.
use mathlib.Core.Path.{◌≡◌, refl, sym, ap, ◌∙◌}
use mathlib.Core.Bool.{Bool, true, false}
use Prim.Native.Nat.{ℕ, zero, suc, ◌+◌, ◌-◌, ◌≤◌, ◌<◌}
use native.Mathlib.Numerals.{add-one}
use native.Mathlib.Omega.{arith}
use lib.Dec.{eqb}
use borrow.Author.Tests.{eqb-false, eq-eqb, ne_eqb}
use Rattle.std.specs.Prelude.{Option, None, Some}
use Rattle.basics.specs.Tests.{choose}
use Rattle.board.specs.declared.Place.{Place}
use Rattle.copper.specs.declared.Tally.{Tally}
use Rattle.least.specs.declared.Least.{Least}
use Rattle.least.specs.Asking.{owed_alone, least_kept, own_from}
use Rattle.least.proofs.Stepping.{more, no_more}
use Rattle.least.proofs.Weighing.{found_end, found_past}

module _ (near : ℕ → ℕ) (n i next : ℕ) where
  -- A run that leads on from the pin is the first from itself on ..
  pub own_hit : next < n → near next ≡ i → own_from near (n - next) i next ≡ Some next
  unfolding own_from choose
  own_hit l h = rw (more n next l, eq-eqb (near next) i h) refl

  -- .. a run of another pin is passed by ..
  pub own_past : next < n → (near next ≡ i → ⊥) → own_from near (n - next) i next ≡ own_from near (n - (next + 1)) i (next + 1)
  unfolding own_from choose
  own_past l h = rw (more n next l, ne_eqb (near next) i h, add-one next)

  -- .. and after the last run there is none.
  pub own_end : n ≤ next → own_from near (n - next) i next ≡ None
  unfolding own_from
  own_end l = rw (no_more n next l) refl

module _ (at : ℕ → Place) (near : ℕ → ℕ) (cost : ℕ → Bool → ℕ) (n i : ℕ) (t : Tally) where
  -- What is found from the first run that leads on, or where there is none.
  unfoldable found_at : Option ℕ → Least
  found_at (Some own) = least_kept at near cost n i own t
  found_at None = owed_alone t

  -- It is what is found from `next` on.
  found_on : (k next : ℕ) → n - next ≡ k → found_at (own_from near k i next) ≡ least_kept at near cost n i next t
  unfolding own_from found_at choose
  found_on zero next e = found_end at near cost n i next t (omega arith)
  found_on (suc k) next e = go (eqb (near next) i) refl (found_on k (suc next) (omega arith))
    where
      past : (near next ≡ i → ⊥) → least_kept at near cost n i (suc next) t ≡ least_kept at near cost n i next t
      past h = rw (sym (add-one next)) (found_past at near cost n i next t (omega arith) h)

      go : (b : Bool) → eqb (near next) i ≡ b → found_at (own_from near k i (suc next)) ≡ least_kept at near cost n i (suc next) t
          → found_at (choose b (Some next) (own_from near k i (suc next))) ≡ least_kept at near cost n i next t
      go true q later = refl
      go false q later = later ∙ past (eqb-false (near next) i q)

  -- So it is from the run that is found ..
  pub own_found : (next own : ℕ) → Some own ≡ own_from near (n - next) i next → least_kept at near cost n i own t ≡ least_kept at near cost n i next t
  unfolding found_at
  own_found next own e = ap found_at e ∙ found_on (n - next) next refl

  -- .. and where none is.
  pub none_found : (next : ℕ) → None ≡ own_from near (n - next) i next → owed_alone t ≡ least_kept at near cost n i next t
  unfolding found_at
  none_found next e = ap found_at e ∙ found_on (n - next) next refl
