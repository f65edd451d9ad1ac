-- `script::calls::ends_in_favour` meets its contract. Assumes nothing.
use Rattle.std.proofs.Common.{◌∙◌, sym}
use Rattle.script.proofs.Asking.{ends_none, ends_five}
use Rattle.text.specs.Words.{words_of}
use Rattle.script.proofs.calls.ends_in_favour.Goals as goal

pub returns-in_default-matches-2 : goal.returns-in_default-matches-2
returns-in_default-matches-2 c =
    sym (ends_none c.word.result.now (rw c.in_default-matches.is at c.from_utf8.ensures.cases).0)
    ∙ ends_five (words_of c.args.text.now) c.count_words.ensures c.in-5.is c.word.ensures
