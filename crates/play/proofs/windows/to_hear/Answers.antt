-- `play::to_hear` meets its contract. Assumes nothing.
use Rattle.std.proofs.Common.{◌≡◌, ◌∙◌, ℕ, ◌≤◌, List, length, take, sym, arith, length-take-le, ne_eqb}
use Rattle.basics.proofs.Tests.{choose_no}
use Rattle.play.proofs.Ended.{ended_by}
use Rattle.play.proofs.windows.to_hear.Goals as goal

-- Bytes that a window has are counted in it.
counts : (n : ℕ) (w : List ℕ) → n ≤ length w → (n ≤ length w) × (n ≡ length (take n w))
counts n w h = (h, sym (length-take-le n w h))

pub returns-then-came-ne0 : goal.returns-then-came-ne0
returns-then-came-ne0 c =
    let n = ne_eqb c.args.came 0 c.if-came-ne0.true in
    record { value = sym (choose_no _ _ n); window_after = sym (choose_no _ _ n); in_bounds = counts _ _ c.requires.0 }

pub returns-clause-value : goal.returns-clause-value
returns-clause-value c = c.from.ensures ∙ ended_by c.args.line.now c.is_empty.result (omega arith) c.is_empty.ensures
