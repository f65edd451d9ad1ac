-- `least::Reached::own_from` meets its contract: what is left to look through gives the run. Assumes nothing.
use mathlib.Core.Path.{◌≡◌}
use Prim.Native.Nat.{◌-◌}
use Rattle.least.specs.Asking.{near_pin, own_from}
use Rattle.least.proofs.Reached.own_from.Given as goal

abbrev pub invariant-loop-run : goal.invariant-loop-run
invariant-loop-run l = own_from (near_pin l.self.near) (l.self.count - l.run) l.pin l.run ≡ own_from (near_pin l.self.near) (l.self.count - l.from) l.pin l.from
