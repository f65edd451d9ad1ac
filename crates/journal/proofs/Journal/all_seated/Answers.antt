-- `Journal::all_seated` meets its contract: `all` asks whether each is of the desk. Assumes nothing.
use mathlib.Core.Path.{ap, ◌∙◌}
use Rattle.std.proofs.Common.{rules}
use Rattle.std.proofs.lemmas.Iterator.{YieldsList-from_slice}
use Rattle.basics.proofs.Chains.{each_answers}
use Rattle.journal.specs.Journal.{of_desk, seated}
use Rattle.journal.proofs.Journal.all_seated.Goals as goal

pub returns : goal.returns
returns c =
    each_answers _ _ of_desk _ (YieldsList-from_slice c.in_use.result.now cc) (λ x b q k. search rules) c.all.ensures.ran
    ∙ ap seated c.in_use.ensures
