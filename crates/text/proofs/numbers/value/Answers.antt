-- `text::numbers::value` meets its contract. Assumes nothing.
use Rattle.std.proofs.Common.{◌≡◌, ◌∙◌, ◌+◌, ap, refl, min, ℕ, rules}
use Rattle.std.specs.List.{fold}
use Rattle.text.specs.Numbers.{most_number}
use Rattle.text.proofs.Values.{longer, value_cut}
use Rattle.text.proofs.numbers.value.Goals as goal

pub returns : goal.returns
returns c =
    let e : c.fold.result ≡ fold longer 0 c.args.word.now = search rules in
    c.min.ensures ∙ ap (λ (n : ℕ). min n (most_number + 1)) e ∙ value_cut c.args.word.now 0 0 refl
