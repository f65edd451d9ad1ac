-- `tried::can_take_back_all` tries the edits that take back those that stand.
use Rattle.edits.specs.Changes.{reversed}
use Rattle.tried.proofs.can_take_back_all.Given as goal

abbrev pub ghost-can_make_all : goal.ghost-can_make_all
ghost-can_make_all a = reversed
