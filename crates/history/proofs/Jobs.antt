-- The jobs of the seats: no job is repeated after a seat was closed, or opened for a job that is open nowhere. Assumes nothing.
use mathlib.Core.Path.{◌≡◌, refl, sym, ◌∙◌}
use mathlib.Core.Bool.{Bool, true, false}
use mathlib.Core.List.{List}
use Prim.Native.Nat.{ℕ}
use borrow.Author.Tests.{eqb-true, eqb-false, ne_eqb}
use lib.Dec.{eqb}
use lib.ListN.{set}
use Rattle.basics.specs.Tests.{both}
use Rattle.basics.proofs.Anyone.{none_ever, none-set, two_set}
use Rattle.basics.proofs.Tests.{both-none}
use Rattle.seats.specs.Seats.{same_job, job_among}
use Rattle.desk.specs.Desk.{jobs_apart}

-- By whether the two jobs are one.
turned_by : (i j : ℕ) (b : Bool) → eqb i j ≡ b → same_job i j ≡ same_job j i
unfolding same_job
turned_by i j true h = rw (eqb-true i j h)
turned_by i j false h = rw (h, ne_eqb j i (λ (e : j ≡ i). eqb-false i j h (sym e))) (both-none _ ∙ sym (both-none _))

-- Being open for one job goes both ways.
same_turned : (i j : ℕ) → same_job i j ≡ same_job j i
same_turned i j = turned_by i j (eqb i j) refl

-- A closed seat shares its job with none.
pub none-among : (l : List ℕ) → job_among 0 l ≡ false
unfolding same_job both
none-among l = none_ever (same_job 0) (λ i. refl) l

-- No job is that of a closed seat.
same_none : (i : ℕ) → same_job i 0 ≡ false
unfolding same_job both
same_none i = same_turned i 0

-- One seat has another job, open nowhere: still no job is repeated.
pub apart_set : (k : ℕ) (l : List ℕ) (s : ℕ) → jobs_apart l ≡ true → job_among k l ≡ false → jobs_apart (set l s k) ≡ true
apart_set k l s h e = two_set same_job same_turned 0 l s k h (none-set (same_job k) l s 0 e (same_none k))
