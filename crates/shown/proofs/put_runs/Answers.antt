-- `shown::put_runs` meets its contract. Assumes nothing.
use mathlib.Core.Path.{◌≡◌, refl, ap}
use Prim.Native.Nat.{ℕ, min}
use native.Mathlib.Omega.{arith}
use lib.ListN.{length, take, get_or, length-take}
use Rattle.text.specs.Text.{text_for_each}
use Rattle.text.proofs.Printing.{then_put, put_as, each_more}
use Rattle.shown.proofs.Lines.{turns_all}
use Rattle.shown.specs.Shown.{entry_line}
use Rattle.copper.specs.declared.Shape.TheVariants.{Straight}
use Rattle.tree.specs.Trees.{most_runs}
use Rattle.laying.specs.Entries.{run_entry}
use Rattle.shown.proofs.put_runs.Goals as goal

pub loop-run-init : goal.loop-run-init
unfolding text_for_each
loop-run-init c = ((omega arith, omega arith), (omega arith, refl))

pub loop-run-preserved : goal.loop-run-preserved
loop-run-preserved c =
    let s = c.args in
    let q = c.loop-run in
    let l = take (min s.count most_runs) s.runs.now in
    let m : take c.min.result s.runs.now ≡ l = ap (λ (k : ℕ). take k s.runs.now) c.min.ensures in
    let e = rw m at c.put_entry-next.ensures in
    let h = then_put s.out.now s.at (text_for_each entry_line (take q.run-index l)) (entry_line (get_or l q.run-index (run_entry 0 0 Straight))) q.invariant.1 (e.value.0, e.out_after) in
    ((omega (arith, length-take (min s.count most_runs) s.runs.now), omega (arith, e.value.1)), put_as s.out.now s.at (each_more entry_line (run_entry 0 0 Straight) l q.run-index (omega (arith, ap length m))) h)

pub returns : goal.returns
returns c =
    let s = c.args in
    let q = c.loop-run in
    let m = ap (λ (k : ℕ). length (take k s.runs.now)) c.min.ensures in
    let e = turns_all s.runs.now s.count most_runs q.run-index (omega arith) (omega (arith, m)) in
    let h = put_as s.out.now s.at (ap (text_for_each entry_line) e) q.invariant.1 in
    record { value = (h.0, omega arith); out_after = h.1 }
