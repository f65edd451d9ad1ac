-- `answer::wire_bare` meets its contract. Assumes nothing.
use lib.IntN.{pos}
use Rattle.text.specs.Numbers.{most_numbers}
use Rattle.bare.specs.Bare.{bare_of}
use Rattle.script.specs.Said.{xs_given, ys_given, favour_given}
use Rattle.shown.specs.Shown.{laid_text}
use Rattle.answer.proofs.Answering.{stored_within, stored_count, stored_first}
use Rattle.answer.proofs.Telling.{asked}
use Rattle.answer.proofs.wire_bare.Goals as goal

pub slice_bounds-xs-end : goal.slice_bounds-xs-end
slice_bounds-xs-end c =
    let g = c.given_xs-across.ensures in
    stored_within most_numbers (pos 0) (xs_given c.args.line.now) g.xs_after g.value.1

pub slice_bounds-wire_bare-end : goal.slice_bounds-wire_bare-end
slice_bounds-wire_bare-end c =
    let g = c.given_xs-across.ensures in
    stored_count most_numbers (pos 0) (xs_given c.args.line.now) g.xs_after g.value.1

pub slice_bounds-ys-end : goal.slice_bounds-ys-end
slice_bounds-ys-end c =
    let g = c.given_ys-up.ensures in
    stored_within most_numbers (pos 0) (ys_given c.args.line.now) g.ys_after g.value.1

pub slice_bounds-wire_bare-end-2 : goal.slice_bounds-wire_bare-end-2
slice_bounds-wire_bare-end-2 c =
    let g = c.given_ys-up.ensures in
    stored_count most_numbers (pos 0) (ys_given c.args.line.now) g.ys_after g.value.1

pub returns : goal.returns
returns c =
    let favour = c.given_favour-favour.ensures in
    let g = c.given_xs-across.ensures in
    let h = c.given_ys-up.ensures in
    let s = c.args in
    let xs = stored_first most_numbers (pos 0) (xs_given s.line.now) g.xs_after g.value.1 g.value.0 in
    let ys = stored_first most_numbers (pos 0) (ys_given s.line.now) h.ys_after h.value.1 h.value.0 in
    asked laid_text (bare_of (xs_given s.line.now) (ys_given s.line.now) s.room (favour_given s.line.now)) s.out.now
    (rw favour at (rw ys at (rw xs at c.wire_bare-laid.ensures))) c.print_laid.ensures
