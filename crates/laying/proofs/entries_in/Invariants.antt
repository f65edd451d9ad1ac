-- `laying::entries_in` meets its contract: the entries are filled from the front. Assumes nothing.
use mathlib.Core.Path.{◌≡◌}
use Rattle.basics.specs.Lists.{values_from}
use Rattle.laying.specs.Reaching.{shaped_in}
use Rattle.laying.specs.Entries.{run_entries}
use Rattle.laying.proofs.entries_in.Given as goal

abbrev pub invariant-loop-at : goal.invariant-loop-at
invariant-loop-at l = l.entries ≡ run_entries (values_from (shaped_in l.spots l.favoured l.mask l.runs) 0 l.at)
