-- `script::newline` meets its contract. Assumes nothing.
use Rattle.text.specs.Words.{newline}
use Rattle.text.proofs.Cutting.{stop_from, stop_within}
use Rattle.play.proofs.windows.newline.Goals as goal

pub returns : goal.returns
returns c =
    let s = c.args in
    record {
      value = c.stop_at.ensures;
      lower_bound = (
        rw c.stop_at.ensures (stop_from newline _ s.at),
        rw c.stop_at.ensures (stop_within newline _ s.at c.requires),
      );
    }
