-- Which lengths a map may have. Assumes nothing.
use mathlib.Core.Path.{◌≡◌, ◌∙◌, ap}
use mathlib.Core.Bool.{false, not}
use mathlib.Core.List.{List}
use Prim.Native.Nat.{ℕ, ◌%◌, ◌≤◌}
use lib.ListN.{length}
use borrow.Author.Tests.{le-ltb, ltb-false, eq-eqb, eqb-true, not-false}
use Rattle.basics.proofs.Tests.{either_right, either-false}
use Rattle.pinmap.specs.declared.Form.{Form}
use Rattle.pinmap.specs.Map.{record_size, most_bytes}
use Rattle.readmap.specs.Map.{wrong_length}

module _ (form : Form) (map : List ℕ) where
  -- A map of whole records, of no more bytes than its form has at most, has a right length,
  pub right_length : length map ≤ most_bytes form → length map % record_size form ≡ 0 → wrong_length form map ≡ false
  unfolding wrong_length
  right_length h k = either_right _ (le-ltb _ _ h) ∙ ap not (eq-eqb _ _ k)

  -- and a right one has at most so many bytes, and whole records.
  pub length_right : wrong_length form map ≡ false → (length map ≤ most_bytes form) × (length map % record_size form ≡ 0)
  unfolding wrong_length
  length_right e =
      let f = either-false _ _ e in
      (ltb-false _ _ f.0, eqb-true _ _ (not-false _ f.1))
