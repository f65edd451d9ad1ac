-- When the boxes of two runs share a point. No code asks for it: demand 2's reader is told that they never do.
use Rattle.std.specs.Prelude.{Bool, not, List, ℕ, ℤ, eqb}
use Rattle.std.specs.Int.Signed.{lt_z}
use Rattle.basics.specs.Tests.{both, either, no_two}
use Rattle.board.specs.declared.Place.{Place}
use Rattle.board.specs.Spots.{Spot}
use Rattle.tree.specs.declared.Run.{Run}
use Rattle.board.specs.Spots.{place_at}

-- A number is less than both c and d.
unfoldable pub below_both : ℤ → ℤ → ℤ → Bool
below_both a c d = both (lt_z a c) (lt_z a d)

-- Both a and b are less than both c and d.
unfoldable pub under : ℤ → ℤ → ℤ → ℤ → Bool
under a b c d = both (below_both a c d) (below_both b c d)

-- The stretch from a to b and the stretch from c to d share a number: neither lies wholly under the other.
unfoldable pub overlap : ℤ → ℤ → ℤ → ℤ → Bool
overlap a b c d = both (not (under a b c d)) (not (under c d a b))

-- The box of a and b and the box of c and d share a point; boxes that only touch do.
unfoldable pub boxes_share : Place → Place → Place → Place → Bool
boxes_share a b c d = both (overlap a.x b.x c.x d.x) (overlap a.y b.y c.y d.y)

-- A pin is an end of a run.
unfoldable pub is_end : ℕ → Run → Bool
is_end n r = either (eqb n r.near) (eqb n r.far)

-- Two runs have a common pin.
unfoldable pub common : Run → Run → Bool
common r s = either (is_end r.near s) (is_end r.far s)

-- Two runs without a common pin have boxes that share a point.
unfoldable pub clash : List Spot → Run → Run → Bool
clash feed r s =
    both (not (common r s))
    (boxes_share (place_at feed r.near) (place_at feed r.far) (place_at feed s.near) (place_at feed s.far))

-- No two of the runs, without a common pin, have boxes that share a point.
abbrev pub boxes_apart : List Spot → List Run → Bool
boxes_apart feed runs = no_two (clash feed) runs
