-- WHERE DROPS ARE 0, and what the others are: no run leads to an absent pin or to the lowest-numbered one, so their drops stay 0; the drop of a run's far
-- pin is that of its near pin plus the run's own. From 32 spots and pins that stand on the board.
use mathlib.Core.Path.{◌≡◌, refl, sym, ◌∙◌, subst, ap}
use mathlib.Core.Bool.{true}
use mathlib.Core.List.{List, [], ◌∷◌}
use Prim.Native.Nat.{ℕ, zero, suc, ◌<◌}
use native.Mathlib.Omega.{arith}
use lib.ListN.{get_or, set, length, length-set, get_or-replicate}
use lib.Seq.{get_or-set_same, get_or-set_other}
use lib.Ieee.{Float, nan, add, binary32}
use Rattle.board.specs.Spots.{Spot, most_pins, all_within}
use Rattle.tree.specs.declared.Run.{Run}
use Rattle.tree.specs.Growth.{pins_of, without, runs_of}
use Rattle.basics.specs.Lists.{Among, first, later}
use Rattle.tree.proofs.Membership.{Distinct, also, without_in, pins_once}
use Rattle.tree.proofs.Earliest.{Earliest}
use Rattle.tree.proofs.Listing.{Listed, done, taking, runs_listed, pins_low}
use Rattle.spanning.proofs.Spanning.{far_among, runs_join, no_runs}
use Rattle.loads.specs.declared.Sheet.{Sheet}
use Rattle.loads.specs.declared.Load.{Load}
use Rattle.loads.specs.Loads.{nought, load_at, amps_of}
use Rattle.drops.specs.Drops.{currents_of, run_drop, distance_of_run, drops_after, no_drops, drops_of}
use Rattle.drops.proofs.Passes.{currents_long}
use Rattle.finite.specs.Demand.{AddsUp}

-- A pin to which no run leads keeps its drop.
pub untouched_drop : (feed : List Spot) (ohms : Float) (drops : List Float) (runs : List Run) (currents : List Float) (pin : ℕ)
    → ((r : Run) → Among r runs → pin ≡ r.far → ⊥) → get_or (drops_after feed ohms drops runs currents) pin nan ≡ get_or drops pin nan
unfolding drops_after
untouched_drop feed ohms drops [] currents pin past = refl
untouched_drop feed ohms drops (r ∷ runs) [] pin past = refl
untouched_drop feed ohms drops (r ∷ runs) (c ∷ currents) pin past =
    let v = add binary32 (get_or drops r.near nan) (run_drop c ohms (distance_of_run feed r)) in
    untouched_drop feed ohms (set drops r.far v) runs currents pin (λ q m. past q (later m)) ∙ get_or-set_other drops r.far pin v nan (past r (first refl))

-- No pin that is reached is left.
abbrev pub Parted : List ℕ → List ℕ → Type 0
Parted reached left = (p : ℕ) → Among p reached → Among p left → ⊥

-- The first pin is none of the others,
pub parted_first : {f : ℕ} {left : List ℕ} → Distinct (f ∷ left) → Parted (f ∷ []) left
parted_first {left = left} (also out d) p (later n) m = elim n [ ]
parted_first {left = left} (also out d) p (first z) m = out (subst (λ (a : ℕ). Among a left) z m)

-- and so it is after each run.
pub parted_next : {reached left : List ℕ} (far : ℕ) → Parted reached left → Parted (far ∷ reached) (without far left)
parted_next {left = left} far apart p (first z) m = (without_in far left m).1 z
parted_next {left = left} far apart p (later n) m = apart p n (without_in far left m).0

-- The near pin of a run that is taken is none of those left.
pub near_not : {key : ℕ → ℕ → ℕ} {reached left : List ℕ} {r : Run} → Earliest key reached left r → Parted reached left
    → (p : ℕ) → Among p left → r.near ≡ p → ⊥
near_not {left = left} {r = r} e apart p m z = apart r.near e.from (subst (λ (a : ℕ). Among a left) (sym z) m)

-- ---- the drop of a far pin
module _ (feed : List Spot) (ohms : Float) {key : ℕ → ℕ → ℕ} where
  -- So it is after all runs: no later run leads to either pin.
  far_adds : {reached left : List ℕ} {runs : List Run} → Listed key reached left runs → (drops currents : List Float) → length drops ≡ most_pins
      → length currents ≡ length runs → ((p : ℕ) → Among p left → p < most_pins) → Parted reached left
      → (k : ℕ) → k < length runs → AddsUp feed ohms (drops_after feed ohms drops runs currents) runs currents k
  unfolding drops_after
  far_adds done drops currents long many low apart k h = absurd (omega arith)
  far_adds (taking e l) drops [] long many low apart k h = absurd (omega arith)
  far_adds (taking {left = left} {r = r} {rs = rs} e l) drops (c ∷ currents) long many low apart zero h =
      let d = run_drop c ohms (distance_of_run feed r) in
      let v = add binary32 (get_or drops r.near nan) d in
      let put = set drops r.far v in
      let far : get_or (drops_after feed ohms put rs currents) r.far nan ≡ v =
      untouched_drop feed ohms put rs currents r.far (λ q m z. (without_in r.far left (far_among l q m)).1 (sym z))
      ∙ get_or-set_same drops r.far v nan (omega (arith, low r.far e.to, long)) in
      let near : get_or (drops_after feed ohms put rs currents) r.near nan ≡ get_or drops r.near nan =
      untouched_drop feed ohms put rs currents r.near
      (λ q m. near_not e apart q.far (without_in r.far left (far_among l q m)).0)
      ∙ get_or-set_other drops r.far r.near v nan (near_not e apart r.far e.to) in
      far ∙ ap (λ (x : Float). add binary32 x d) (sym near)
  far_adds (taking {left = left} {r = r} e l) drops (c ∷ currents) long many low apart (suc k) h =
      let v = add binary32 (get_or drops r.near nan) (run_drop c ohms (distance_of_run feed r)) in
      far_adds l (set drops r.far v) currents (length-set drops r.far v ∙ long) (omega arith)
      (λ p m. low p (without_in r.far left m).0) (parted_next r.far apart) k (omega arith)

-- ---- the theorems
module _ (feed : List Spot) (loads : List Load) (sheet : Sheet) (full : length feed ≡ most_pins) (ok : all_within feed ≡ true) where
  -- A pin to which no run of the feed leads has drop 0.
  unreached_zero : (pin : ℕ) → pin < most_pins → ((r : Run) → Among r (runs_of feed) → pin ≡ r.far → ⊥) → get_or (drops_of feed loads sheet) pin nan ≡ nought
  unfolding drops_of
  unreached_zero pin low past =
      untouched_drop feed sheet.ohms no_drops (runs_of feed) (currents_of (λ (p : ℕ). amps_of sheet (load_at loads p)) (runs_of feed)) pin past
      ∙ get_or-replicate most_pins pin nought nan low

  -- AN ABSENT PIN HAS DROP 0.
  pub absent_zero : (pin : ℕ) → pin < most_pins → (Among pin (pins_of feed) → ⊥) → get_or (drops_of feed loads sheet) pin nan ≡ nought
  absent_zero pin low out =
      unreached_zero pin low (λ r m e. out (subst (λ (p : ℕ). Among p (pins_of feed)) (sym e) ((runs_join feed full ok).far_there r m)))

  -- THE LOWEST-NUMBERED PIN HAS DROP 0.
  pub feed_pin_zero : (f : ℕ) (left : List ℕ) → pins_of feed ≡ f ∷ left → get_or (drops_of feed loads sheet) f nan ≡ nought
  feed_pin_zero f left e =
      unreached_zero f (pins_low feed full ok f left e f (first refl))
      (λ r m p. parted_first (pins_once feed f left e) f (first refl) (subst (λ (z : ℕ). Among z left) (sym p) (far_among (runs_listed feed full ok f left e) r m)))

  -- THE DROP OF A RUN'S FAR PIN is that of its near pin plus the run's own: for every run of a feed, by its position.
  pub drop_of_far : (k : ℕ) → k < length (runs_of feed)
      → AddsUp feed sheet.ohms (drops_of feed loads sheet) (runs_of feed) (currents_of (λ (pin : ℕ). amps_of sheet (load_at loads pin)) (runs_of feed)) k
  unfolding drops_of
  drop_of_far k h = go (pins_of feed) refl
    where
      amps : ℕ → Float
      amps pin = amps_of sheet (load_at loads pin)

      go : (l : List ℕ) → pins_of feed ≡ l → AddsUp feed sheet.ohms (drops_of feed loads sheet) (runs_of feed) (currents_of amps (runs_of feed)) k
      go [] e = absurd (omega (arith, ap length (no_runs feed e)))
      go (f ∷ left) e =
          far_adds feed sheet.ohms (runs_listed feed full ok f left e) no_drops (currents_of amps (runs_of feed)) refl (currents_long amps (runs_of feed))
          (λ p m. pins_low feed full ok f left e p (later m)) (parted_first (pins_once feed f left e)) k h
