-- `seats::jobs_of` meets its contract: `map` asks the job of each seat. Assumes nothing.
use mathlib.Core.Path.{sym, ap, ◌∙◌}
use mathlib.Core.List.{map-map}
use native.Mathlib.Omega.{arith}
use Rattle.std.proofs.Common.{rules}
use Rattle.std.specs.Borrow.{Bor}
use Rattle.basics.proofs.Mapped.{map_answers}
use Rattle.seats.specs.declared.Seat.{Seat}
use Rattle.seats.specs.Seats.{job_of, jobs_in}
use Rattle.seats.proofs.jobs_of.Goals as goal

pub returns : goal.returns
returns c =
    map_answers _ (λ y. job_of y.now) (λ x y q k. search rules) c.each_ref.result _ _ (omega arith) c.map.ensures.items
    ∙ sym (map-map job_of (λ (y : Bor Seat). y.now) c.each_ref.result)
    ∙ ap jobs_in c.each_ref.ensures.items
