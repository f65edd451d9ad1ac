use Rattle.text.proofs.Cutting.{Behind}
use Rattle.text.proofs.words.word.Given as goal

-- As many words have been passed as the loop has had turns.
abbrev pub invariant-loop : goal.invariant-loop
invariant-loop l = Behind l.text l.counter l.rest
