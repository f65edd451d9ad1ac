-- Straight and bent runs, and the bent runs at a pin.
use Rattle.std.specs.Prelude.{Bool, not, List, ℕ, eqb}
use Rattle.basics.specs.Tests.{both}
use Rattle.basics.specs.Sums.{how_many}
use Rattle.board.specs.Spots.{Spot}
use Rattle.board.specs.Place.{is_straight}
use Rattle.tree.specs.declared.Run.{Run}
use Rattle.board.specs.Spots.{place_at}
use Rattle.tree.specs.Boxes.{is_end}

-- A run that is not straight is bent.
unfoldable pub bent : List Spot → Run → Bool
bent feed r = not (is_straight (place_at feed r.near) (place_at feed r.far))

-- The bent runs at a pin.
abbrev pub bent_at : List Spot → List Run → ℕ → ℕ
bent_at feed runs n = how_many (λ r. both (is_end n r) (bent feed r)) runs

-- The bent runs leading on from a pin.
abbrev pub bent_from : List Spot → List Run → ℕ → ℕ
bent_from feed runs n = how_many (λ r. both (eqb n r.near) (bent feed r)) runs

-- The bent runs that reach a pin.
abbrev pub bent_into : List Spot → List Run → ℕ → ℕ
bent_into feed runs n = how_many (λ r. both (eqb n r.far) (bent feed r)) runs
