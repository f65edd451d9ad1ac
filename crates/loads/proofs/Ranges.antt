-- The loads of the pins that are there, beside what stands at each pin number. Assumes nothing.
use Rattle.std.proofs.Common.{◌≡◌, ℕ, suc, ◌+◌, ◌<◌, Bool, true, List, [], ◌∷◌, length, get_or, None, Some, refl, sym, ap, ap₂, ◌∙◌, arith}
use Rattle.std.specs.List.{zip}
use Rattle.basics.specs.Tests.{both, each_of}
use Rattle.board.specs.Spots.{Spot}
use Rattle.tree.specs.Growth.{pins_from, pins_of}
use Rattle.tree.proofs.Membership.{kept_yes, kept_no}
use Rattle.loads.specs.declared.Load.{Load}
use Rattle.loads.specs.declared.Load.TheVariants.{Spare}
use Rattle.loads.specs.Loads.{load_fits, load_at, loads_fit}

-- A load is in its range, or its pin is not there.
abbrev pub load_passes : Load → Spot → Bool
load_passes load None = true
load_passes load (Some at) = load_fits load

-- The same of a pair.
abbrev pub passes : Load × Spot → Bool
passes p = load_passes p.0 p.1

-- From pin number i on.
from_on : (loads : List Load) (i : ℕ) (left : List Load) (feed : List Spot) → length left ≡ length feed
    → ((k : ℕ) → k < length feed → get_or left k Spare ≡ load_at loads (i + k)) → each_of passes (zip left feed) ≡ loads_fit loads (pins_from i feed)
unfolding pins_from each_of both
from_on loads i [] [] m g = refl
from_on loads i [] (s ∷ feed) m g = absurd (omega arith)
from_on loads i (l ∷ left) [] m g = absurd (omega arith)
from_on loads i (l ∷ left) (Some at ∷ feed) m g =
    let here : l ≡ load_at loads i = g 0 (omega arith) ∙ ap (load_at loads) (omega arith) in
    ap₂ both (ap load_fits here) (from_on loads (suc i) left feed (omega arith) (λ k q. g (suc k) (omega arith) ∙ ap (load_at loads) (omega arith)))
    ∙ sym (ap (loads_fit loads) (kept_yes i (pins_from (suc i) feed) refl))
from_on loads i (l ∷ left) (None ∷ feed) m g =
    from_on loads (suc i) left feed (omega arith) (λ k q. g (suc k) (omega arith) ∙ ap (load_at loads) (omega arith))
    ∙ sym (ap (loads_fit loads) (kept_no i (pins_from (suc i) feed) refl))

-- The loads of the pins that are there are in their ranges where, of each pin number, the load is or no pin is there.
pub loads_pass : (loads : List Load) (feed : List Spot) → length loads ≡ length feed → each_of passes (zip loads feed) ≡ loads_fit loads (pins_of feed)
unfolding pins_of
loads_pass loads feed m = from_on loads 0 loads feed m (λ k q. ap (load_at loads) (omega arith))
