-- A lent list that is filled begins with what it is filled with, so that demand 2 holds of an answer with the legs in that list. Assumes nothing.
use mathlib.Core.Path.{◌≡◌, sym}
use mathlib.Core.Bool.{Bool}
use mathlib.Core.List.{List}
use lib.ListN.{length, take}
use lib.Seq.{take_at}
use Rattle.board.specs.Spots.{Spot}
use Rattle.copper.specs.declared.Leg.{Leg}
use Rattle.wiring.specs.declared.Laid.{Laid}
use Rattle.laying.specs.declared.Strip.{Strip}
use Rattle.wiring.specs.Demand.{BestWiring}
use Rattle.wiring.proofs.Demand.{best_in_list}
use Rattle.lent.specs.Lent.{strip_of, filled_with}

-- A list that is filled with the entries of a strip begins with them.
pub filled_begins : (strip : Strip) (lent : List Leg) → strip.count ≡ length (take strip.count strip.list)
    → take strip.count (filled_with strip lent) ≡ take strip.count strip.list
unfolding filled_with
filled_begins strip lent e = take_at (take strip.count strip.list) _ strip.count (sym e)

-- With the legs in such a list the answer is what is demanded.
pub filled_best : {favoured : Bool} {feed : List Spot} {laid : Laid} → BestWiring favoured feed laid → (lent : List Leg)
    → BestWiring favoured feed (record { wiring = laid.wiring; list = filled_with (strip_of laid) lent })
filled_best {laid = laid} b lent = best_in_list (filled_with (strip_of laid) lent) (filled_begins (strip_of laid) lent b.leg_count) b
