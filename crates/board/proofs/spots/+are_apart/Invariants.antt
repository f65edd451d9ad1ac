-- `board::spots::are_apart` looks at fewer and fewer pins. Assumes nothing.
use lib.ListN.{length}
use Rattle.board.proofs.spots.+are_apart.Given as goal

abbrev pub decreases-are_apart : goal.decreases-are_apart
decreases-are_apart l = length l.spots.now
