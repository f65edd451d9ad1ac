-- Bare wiring gives each refusal exactly under its condition and after those before it: 16, 17, 8, 9, 19. Assumes nothing.
use mathlib.Core.Path.{◌≡◌, refl, sym, ap, ◌∙◌}
use mathlib.Core.Bool.{Bool, true, false}
use mathlib.Core.List.{List, [], ◌∷◌, ◌++◌}
use Prim.Native.Nat.{ℕ}
use lib.IntN.{ℤ}
use lib.Dec.{eqb}
use native.Mathlib.Omega.{arith}
use borrow.Author.Tests.{lt-ltb}
use lib.ListN.{length, drop}
use Rattle.basics.specs.Tests.{both, choose}
use Rattle.basics.specs.Lists.{values_from}
use Rattle.refusal.specs.Refusals.{accepted}
use Rattle.refusal.specs.Rows.{Row, first_of, NoneHolds, Exactly}
use Rattle.refusal.proofs.Rows.{distinct, unlike, Apart, apart_by, joined, miss, none-holds, exactly}
use Rattle.tree.specs.Growth.{kept_if, pins_from, pins_of}
use Rattle.tree.specs.Trees.{none}
use Rattle.wiring.specs.Answer.{wiring_of, feed_rows}
use Rattle.wiring.proofs.Refusing.{laid_behind, wiring_verdict}
use Rattle.bare.specs.Bare.{feed_of_lists, list_rows, bare_rows, bare_of}
use Rattle.bare.proofs.Verdicts.{list_apart}
use Rattle.copper.specs.declared.Favour.{Favour}

-- Lists that are not empty have a pin.
pins_there_lem : (xs ys : List ℤ) → eqb (length xs) 0 ≡ false → none (pins_of (feed_of_lists xs ys)) ≡ false
unfolding feed_of_lists values_from pins_of pins_from kept_if choose
pins_there_lem [] ys e = e
pins_there_lem (x ∷ xs) ys e = rw (lt-ltb 0 (length (x ∷ xs)) (omega arith)) refl

-- A row that never holds where those before it are passed can be left out.
left_out : (rows : List Row) (r : Row) (more : List Row) → Apart rows → (NoneHolds rows → r.condition ≡ false) → first_of (rows ++ (r ∷ more)) ≡ first_of (rows ++ more)
left_out rows r more a h = joined rows (r ∷ more) a ∙ by (accepted (first_of rows)) refl ∙ sym (joined rows more a)
  where
    by : (t : Bool) → accepted (first_of rows) ≡ t → choose t (first_of (r ∷ more)) (first_of rows) ≡ choose t (first_of more) (first_of rows)
    by true q = ap (λ v. choose true v (first_of rows)) (sym (miss r.refusal more (h (none-holds rows a q)) refl))
    by false q = unfold choose in refl

module _ (xs ys : List ℤ) (room : ℕ) (favour : Favour) where
  -- The answer carries the first of the rows that holds: after 17 of the lists there are pins, so that 17 of the feed never comes.
  answer_is : (bare_of xs ys room favour).wiring.verdict ≡ first_of (bare_rows xs ys room favour)
  unfolding bare_of NoneHolds
  answer_is =
      let feed = feed_of_lists xs ys in
      laid_behind (list_rows xs ys) (feed_rows feed room favour) (list_apart xs ys) (wiring_of feed room favour) (wiring_verdict feed room favour)
      ∙ left_out (list_rows xs ys) _ (drop 1 (feed_rows feed room favour)) (list_apart xs ys) (λ n. pins_there_lem xs ys n.1.0)

  -- The rows are apart.
  bare_apart : Apart (bare_rows xs ys room favour)
  unfolding distinct unlike both
  bare_apart = apart_by (bare_rows xs ys room favour) refl

  -- EACH REFUSAL OF BARE WIRING EXACTLY.
  pub bare_exactly : Exactly (bare_rows xs ys room favour) (bare_of xs ys room favour).wiring.verdict
  bare_exactly = rw answer_is (exactly (bare_rows xs ys room favour) bare_apart)
