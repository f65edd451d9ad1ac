-- `tried::can_redo_all` tries each edit as it is.
use Rattle.tried.proofs.can_redo_all.Given as goal

abbrev pub ghost-can_make_all : goal.ghost-can_make_all
ghost-can_make_all a = λ e. e
