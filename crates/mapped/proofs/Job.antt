-- The job of a map by its bytes. Assumes nothing.
use mathlib.Core.Path.{◌≡◌, refl}
use mathlib.Core.List.{List, [], ◌∷◌}
use Prim.Native.Nat.{ℕ, ◌≤◌, ◌<◌}
use native.Mathlib.Omega.{arith}
use lib.ListN.{length}
use Rattle.records.specs.Record.{job_at}
use Rattle.mapped.specs.Mapped.{job_of_map}

-- With fewer than two bytes the job is 1.
pub job_short : (map : List ℕ) → length map < 2 → 1 ≡ job_of_map map
unfolding job_of_map
job_short [] h = refl
job_short (b ∷ []) h = refl
job_short (b ∷ c ∷ rest) h = absurd (omega arith)

-- With two or more it is in the first two.
pub job_long : (map : List ℕ) → 2 ≤ length map → job_at map ≡ job_of_map map
unfolding job_of_map
job_long [] h = absurd (omega arith)
job_long (b ∷ []) h = absurd (omega arith)
job_long (b ∷ c ∷ rest) h = refl
