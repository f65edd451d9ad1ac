use Rattle.std.proofs.Common.{length}
use Rattle.text.proofs.Cutting.{Counted}
use Rattle.text.proofs.words.count_words.Given as goal

-- As many words have been counted as stand before what is left.
abbrev pub invariant-loop-rest : goal.invariant-loop-rest
invariant-loop-rest l = Counted l.text l.count l.rest

-- Each word makes what is left shorter.
abbrev pub decreases-loop-rest : goal.decreases-loop-rest
decreases-loop-rest l = length l.rest
