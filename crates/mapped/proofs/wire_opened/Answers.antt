-- `mapped::wire_opened` meets its contract. Assumes nothing.
use mathlib.Core.Path.{◌∙◌}
use Rattle.mapped.proofs.Opening.{wired_open}
use Rattle.mapped.proofs.wire_opened.Goals as goal

pub feed_wired-requires : goal.feed_wired-requires
feed_wired-requires c = λ unbroken shown. rw c.«open».ensures c.requires

pub returns : goal.returns
returns c =
    c.feed_wired.ensures ∙ wired_open c.args.job c.args.pins c.«open».ensures
