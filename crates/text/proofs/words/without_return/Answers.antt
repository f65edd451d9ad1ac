-- `text::words::without_return` meets its contract. Assumes nothing.
use Rattle.std.proofs.Common.{◌∙◌, ap, List, ℕ}
use Rattle.std.specs.Borrow.{Bor}
use Rattle.text.proofs.Library.{stripped}
use Rattle.text.proofs.words.without_return.Goals as goal

pub returns : goal.returns
returns c = ap (λ (x : Bor (List ℕ)). x.now) c.unwrap_or.ensures ∙ stripped c.args.line c.strip_suffix.result c.strip_suffix.ensures.cases
