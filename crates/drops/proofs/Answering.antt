-- What the parts of `lost_volts` and `drops_of` come to: a refusal of the tree, a number out of its range, or the drops. From pins that stand on the board.
use mathlib.Core.Path.{◌≡◌, refl, ap, ◌∙◌}
use mathlib.Core.Bool.{Bool, true, false, not}
use mathlib.Core.List.{List, [], ◌∷◌}
use Prim.Native.Nat.{◌<◌, ◌≤◌}
use native.Mathlib.Omega.{arith}
use lib.ListN.{length, take}
use lib.Seq.{get_or-take}
use lib.Ieee.{Float}
use Rattle.std.specs.Prelude.{Ok, Err, Result}
use Rattle.std.proofs.lemmas.List.Elements.{All-from_get_or}
use Rattle.basics.specs.Tests.{both, choose}
use Rattle.basics.specs.Lists.{padded}
use Rattle.refusal.specs.declared.Refusal.{Refusal}
use Rattle.refusal.specs.declared.Refusal.TheVariants.{OutOfRange}
use Rattle.refusal.specs.Refusals.{Verdict, accepted}
use Rattle.refusal.specs.Rows.{Row, given, first_of, granted}
use Rattle.refusal.proofs.Rows.{hit, miss, no_row, granted_on, granted_away}
use Rattle.board.specs.Spots.{Spot, most_pins, all_within}
use Rattle.tree.specs.declared.Run.{Run}
use Rattle.tree.specs.declared.Tree.{Tree}
use Rattle.tree.specs.Growth.{run, pins_of, runs_of}
use Rattle.tree.specs.Trees.{most_runs, tree_with, tree_rows, tree_of}
use Rattle.tree.proofs.Answer.{tree_apart, runs_few}
use Rattle.tree.proofs.Result.{take-entries, count_few, low_ends}
use Rattle.loads.specs.declared.Sheet.{Sheet}
use Rattle.loads.specs.declared.Load.{Load}
use Rattle.loads.specs.Loads.{nought, sheet_fits, loads_fit}
use Rattle.drops.specs.declared.Lost.{Lost}
use Rattle.drops.specs.Drops.{currents_of, drops_after, no_drops, drops_of, drop_rows, none_lost, lost_by}
use Rattle.drops.specs.Passes.{PinNumbers, amps_at}
use Rattle.drops.proofs.Passes.{currents_long, drops_first}

-- ---- what a verdict grants
-- A refusal of what was asked for is the verdict's,
refused_by : {A : Type 0} (v : Verdict) (a : A) {r : Refusal} → granted v a ≡ Err r → Err r ≡ v
refused_by (Ok tt) a e = cc
refused_by (Err r) a e = cc

-- and where it is granted the call is accepted, and it is what was asked for.
granted_by : {A : Type 0} (v : Verdict) (a : A) {b : A} → granted v a ≡ Ok b → (Ok tt ≡ v) × (b ≡ a)
granted_by (Ok tt) a e = (refl, cc)
granted_by (Err r) a e = cc

-- ---- the runs of a tree
module _ (feed : List Spot) (full : length feed ≡ most_pins) (ok : all_within feed ≡ true) (t : Tree) (e : t ≡ tree_with (runs_of feed)) where
  -- The runs of a tree are those of the feed,
  runs_are : take t.count t.runs ≡ runs_of feed
  unfolding tree_with
  runs_are = rw e (take-entries (runs_of feed))

  -- as many as the tree says,
  runs_long : length (take t.count t.runs) ≡ t.count
  unfolding tree_with
  runs_long = rw (runs_are, e) refl

  -- and their ends are pin numbers.
  ends_low : PinNumbers (take t.count t.runs)
  ends_low =
      record {
        few = rw runs_are (runs_few feed full);
        ends =
            All-from_get_or (λ (r : Run). (r.near < most_pins) × (r.far < most_pins)) (take t.count t.runs) (run 0 0)
            (λ i h.
            let l : i < t.count = omega (arith, h, runs_long) in
            let low = low_ends feed full ok t e i l in
            rw (get_or-take t.count t.runs i (run 0 0) l) (low.near, low.far));
      }

  module _ (loads : List Load) (sheet : Sheet) {currents told : List Float}
      (ec : currents ≡ padded most_runs nought (currents_of (amps_at loads sheet) (take t.count t.runs)))
      (ed : told ≡ drops_after feed sheet.ohms no_drops (take t.count t.runs) currents) where
    -- So the drops over these runs are those of the feed.
    drops_are : told ≡ drops_of feed loads sheet
    unfolding drops_of
    drops_are =
        ed ∙ rw (ec, runs_are)
        (drops_first feed sheet.ohms (runs_of feed) (currents_of (amps_at loads sheet) (runs_of feed)) _ no_drops
        (omega (arith, currents_long (amps_at loads sheet) (runs_of feed))))

-- ---- the drops, or why there are none
module _ (feed : List Spot) (loads : List Load) (sheet : Sheet) where
  -- The sheet and the loads of the pins that are there are in their ranges.
  abbrev fit : Bool
  fit = both (sheet_fits sheet) (loads_fit loads (pins_of feed))

  -- What is answered.
  abbrev pub volts : Result (List Float) Refusal
  volts = granted (first_of (drop_rows feed loads sheet)) (drops_of feed loads sheet)

  -- 17, where the tree refuses,
  pub tree_refused : {r : Refusal} → tree_of feed ≡ Err r → Err r ≡ volts
  unfolding tree_of
  tree_refused e =
      granted_away (tree_rows feed) (given (not fit) OutOfRange ∷ []) (tree_apart feed)
      (refused_by (first_of (tree_rows feed)) (tree_with (runs_of feed)) e) _

  module _ {t : Tree} (e : tree_of feed ≡ Ok t) where
    -- and else what the row after it says.
    tree_passes : {x : Verdict} → x ≡ first_of (given (not fit) OutOfRange ∷ []) → granted x (drops_of feed loads sheet) ≡ volts
    unfolding tree_of accepted
    tree_passes g =
        ap (λ (v : Verdict). granted v (drops_of feed loads sheet)) g
        ∙ granted_on (tree_rows feed) (given (not fit) OutOfRange ∷ []) (tree_apart feed)
        (granted_by (first_of (tree_rows feed)) (tree_with (runs_of feed)) e).0 refl _

    -- 20, where a number is out of its range,
    pub range_refused : fit ≡ false → Err OutOfRange ≡ volts
    range_refused n = tree_passes (hit OutOfRange [] (ap not n))

    -- else the drops, over runs whose ends are pin numbers.
    pub taken : t ≡ tree_with (runs_of feed)
    unfolding tree_of
    taken = (granted_by (first_of (tree_rows feed)) (tree_with (runs_of feed)) e).1

    module _ (full : length feed ≡ most_pins) (ok : all_within feed ≡ true) where
      pub count_low : t.count ≤ most_runs
      count_low = count_few feed full ok t taken

      pub runs_low : PinNumbers (take t.count t.runs)
      runs_low = ends_low feed full ok t taken

      pub drops_told : {currents told : List Float} → fit ≡ true → currents ≡ padded most_runs nought (currents_of (amps_at loads sheet) (take t.count t.runs))
          → told ≡ drops_after feed sheet.ohms no_drops (take t.count t.runs) currents → Ok told ≡ volts
      drops_told y ec ed =
          ap (λ (l : List Float). Ok l) (drops_are feed full ok t taken loads sheet ec ed) ∙ tree_passes (miss OutOfRange [] (ap not y) no_row)

-- ---- the answer
module _ (rows : List Row) (drops : List Float) where
  -- The drops with the verdict, where they are told,
  pub drops_answered : {told : List Float} → Ok told ≡ granted (first_of rows) drops
      → ◌≡◌ {A = Lost} (record { verdict = Ok tt; drops = told }) (lost_by rows drops)
  unfolding choose accepted
  drops_answered {told} e = by (first_of rows) e
    where
      by : (v : Verdict) → Ok told ≡ granted v drops
          → ◌≡◌ {A = Lost} (record { verdict = Ok tt; drops = told }) (record { verdict = v; drops = choose (accepted v) drops no_drops })
      by (Ok a) e = let d : told ≡ drops = cc in ap (λ (l : List Float). record { verdict = Ok tt; drops = l }) d
      by (Err r) e = cc

  -- all 0 with the refusal, where not.
  pub none_answered : {r : Refusal} → Err r ≡ granted (first_of rows) drops → none_lost (Err r) ≡ lost_by rows drops
  unfolding none_lost choose accepted
  none_answered {r} e = by (first_of rows) e
    where
      by : (v : Verdict) → Err r ≡ granted v drops
          → ◌≡◌ {A = Lost} (record { verdict = Err r; drops = no_drops }) (record { verdict = v; drops = choose (accepted v) drops no_drops })
      by (Ok a) e = cc
      by (Err q) e = let d : r ≡ q = cc in ap (λ (x : Refusal). record { verdict = Err x; drops = no_drops }) d
