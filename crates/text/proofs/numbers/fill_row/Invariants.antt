use Rattle.std.proofs.Common.{◌≡◌, ◌+◌, ◌-◌, ◌≤◌, List, ℕ, map, length, take, Bor}
use Rattle.text.specs.Text.{over}
use Rattle.text.specs.Words.{comma, pieces}
use Rattle.text.proofs.Rows.{Passed}
use Rattle.text.proofs.numbers.fill_row.Given as goal

-- What the words gone through come to is stored from the start of the list on.
abbrev pub invariant-loop-at : goal.invariant-loop-at
invariant-loop-at g l =
    record {
      within : l.at ≤ length l.word + 1;
      long : length l.values ≡ g.row.N;
      passed : Passed l.word l.count l.at;
      stored : (of : List ℕ → g.row.T.Denot) → ((piece : Bor (List ℕ)) (v : g.row.T.Denot) → goal.F-post g l.value piece v → v ≡ of piece.now)
          → l.values ≡ over (take l.count (map of (pieces comma l.word))) l.initial.values;
    }

-- Each turn goes on behind one more comma, or past the end.
abbrev pub decreases-loop-at : goal.decreases-loop-at
decreases-loop-at g l = length l.word + 1 - l.at
