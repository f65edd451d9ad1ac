-- `script::calls::call_in` meets its contract. Assumes nothing.
use Rattle.std.proofs.Common.{◌∙◌, ℕ}
use Rattle.basics.specs.Tests.{both, choose}
use Rattle.board.specs.declared.Place.{Place}
use Rattle.text.specs.Text.{same}
use Rattle.text.specs.Words.{words_of}
use Rattle.script.specs.Said.{said_as, seat_call, pair_call, move_call, lending_call}
use Rattle.script.specs.declared.Said.{Said}
use Rattle.script.proofs.Asking.{asked, not_asked, named, none_named, no_name}
use Rattle.script.proofs.calls.call_in.Goals as goal

pub returns-in_default : goal.returns-in_default
returns-in_default c = no_name (words_of c.args.text.now) c.word.ensures c.in_default.ensures.cases.0

pub returns-in_default-name : goal.returns-in_default-name
returns-in_default-name c =
    let d = c.in_default-name in
    none_named (words_of c.args.text.now) c.word.ensures c.in-Ok.ensures.cases.0
    d.not-open d.not-close d.not-place d.not-move d.not-remove d.not-undo d.not-redo d.not-write
    d.not-wire d.not-mill d.not-bare d.not-drops d.not-over d.not-back d.not-pins

pub returns-in-open : goal.returns-in-open
unfolding both choose said_as same
returns-in-open c = c.open.ensures ∙ named "open" (words_of c.args.text.now) c.word.ensures c.in-Ok.ensures.cases.0 c.in-open.is

pub returns-in-place : goal.returns-in-place
unfolding both choose said_as same
returns-in-place c = c.place.ensures ∙ named "place" (words_of c.args.text.now) c.word.ensures c.in-Ok.ensures.cases.0 c.in-place.is

pub returns-in-bare : goal.returns-in-bare
unfolding both choose said_as same
returns-in-bare c = c.bare.ensures ∙ named "bare" (words_of c.args.text.now) c.word.ensures c.in-Ok.ensures.cases.0 c.in-bare.is

pub returns-in-drops : goal.returns-in-drops
unfolding both choose said_as same
returns-in-drops c = c.drops.ensures ∙ named "drops" (words_of c.args.text.now) c.word.ensures c.in-Ok.ensures.cases.0 c.in-drops.is

pub returns-in-over : goal.returns-in-over
unfolding both choose said_as same
returns-in-over c = c.moving.ensures ∙ named "over" (words_of c.args.text.now) c.word.ensures c.in-Ok.ensures.cases.0 c.in-over.is

pub returns-in-back : goal.returns-in-back
unfolding both choose said_as same
returns-in-back c = c.moving-in-back.ensures ∙ named "back" (words_of c.args.text.now) c.word.ensures c.in-Ok.ensures.cases.0 c.in-back.is

pub returns-in_err-seat_alone-in-close : goal.returns-in_err-seat_alone-in-close
unfolding both choose said_as same seat_call
returns-in_err-seat_alone-in-close c =
    not_asked Said.Close _ _ c.seat_alone.ensures c.in_err-seat_alone-in-close.was c.from_residual.ensures
    ∙ named "close" (words_of c.args.text.now) c.word.ensures c.in-Ok.ensures.cases.0 c.in-close.is

pub returns-in_ok-seat_alone-in-close : goal.returns-in_ok-seat_alone-in-close
unfolding both choose said_as same seat_call
returns-in_ok-seat_alone-in-close c = asked Said.Close _ _ c.seat_alone.ensures c.in_ok-seat_alone-in-close.was ∙ named "close" (words_of c.args.text.now) c.word.ensures c.in-Ok.ensures.cases.0 c.in-close.is

pub returns-in_err-seat-in-move : goal.returns-in_err-seat-in-move
unfolding both choose said_as same move_call
returns-in_err-seat-in-move c =
    not_asked (λ (p : ℕ × ℕ × Place). Said.Move p.0 p.1 p.2) _ _ c.placing.ensures c.in_err-seat-in-move.was c.from_residual-in_err-seat-in-move.ensures
    ∙ named "move" (words_of c.args.text.now) c.word.ensures c.in-Ok.ensures.cases.0 c.in-move.is

pub returns-in_ok-seat-in-move : goal.returns-in_ok-seat-in-move
unfolding both choose said_as same move_call
returns-in_ok-seat-in-move c = asked (λ (p : ℕ × ℕ × Place). Said.Move p.0 p.1 p.2) _ _ c.placing.ensures c.in_ok-seat-in-move.was ∙ named "move" (words_of c.args.text.now) c.word.ensures c.in-Ok.ensures.cases.0 c.in-move.is

pub returns-in_err-seat-in-remove : goal.returns-in_err-seat-in-remove
unfolding both choose said_as same pair_call
returns-in_err-seat-in-remove c =
    not_asked (λ (p : ℕ × ℕ). Said.Remove p.0 p.1) _ _ c.pair.ensures c.in_err-seat-in-remove.was c.from_residual-in_err-seat-in-remove.ensures
    ∙ named "remove" (words_of c.args.text.now) c.word.ensures c.in-Ok.ensures.cases.0 c.in-remove.is

pub returns-in_ok-seat-in-remove : goal.returns-in_ok-seat-in-remove
unfolding both choose said_as same pair_call
returns-in_ok-seat-in-remove c = asked (λ (p : ℕ × ℕ). Said.Remove p.0 p.1) _ _ c.pair.ensures c.in_ok-seat-in-remove.was ∙ named "remove" (words_of c.args.text.now) c.word.ensures c.in-Ok.ensures.cases.0 c.in-remove.is

pub returns-in_err-seat_alone-in-undo : goal.returns-in_err-seat_alone-in-undo
unfolding both choose said_as same seat_call
returns-in_err-seat_alone-in-undo c =
    not_asked Said.Undo _ _ c.seat_alone-in-undo.ensures c.in_err-seat_alone-in-undo.was c.from_residual-in_err-seat_alone-in-undo.ensures
    ∙ named "undo" (words_of c.args.text.now) c.word.ensures c.in-Ok.ensures.cases.0 c.in-undo.is

pub returns-in_ok-seat_alone-in-undo : goal.returns-in_ok-seat_alone-in-undo
unfolding both choose said_as same seat_call
returns-in_ok-seat_alone-in-undo c = asked Said.Undo _ _ c.seat_alone-in-undo.ensures c.in_ok-seat_alone-in-undo.was ∙ named "undo" (words_of c.args.text.now) c.word.ensures c.in-Ok.ensures.cases.0 c.in-undo.is

pub returns-in_err-seat_alone-in-redo : goal.returns-in_err-seat_alone-in-redo
unfolding both choose said_as same seat_call
returns-in_err-seat_alone-in-redo c =
    not_asked Said.Redo _ _ c.seat_alone-in-redo.ensures c.in_err-seat_alone-in-redo.was c.from_residual-in_err-seat_alone-in-redo.ensures
    ∙ named "redo" (words_of c.args.text.now) c.word.ensures c.in-Ok.ensures.cases.0 c.in-redo.is

pub returns-in_ok-seat_alone-in-redo : goal.returns-in_ok-seat_alone-in-redo
unfolding both choose said_as same seat_call
returns-in_ok-seat_alone-in-redo c = asked Said.Redo _ _ c.seat_alone-in-redo.ensures c.in_ok-seat_alone-in-redo.was ∙ named "redo" (words_of c.args.text.now) c.word.ensures c.in-Ok.ensures.cases.0 c.in-redo.is

pub returns-in_err-seat-in-write : goal.returns-in_err-seat-in-write
unfolding both choose said_as same pair_call
returns-in_err-seat-in-write c =
    not_asked (λ (p : ℕ × ℕ). Said.Write p.0 p.1) _ _ c.pair-in-write.ensures c.in_err-seat-in-write.was c.from_residual-in_err-seat-in-write.ensures
    ∙ named "write" (words_of c.args.text.now) c.word.ensures c.in-Ok.ensures.cases.0 c.in-write.is

pub returns-in_ok-seat-in-write : goal.returns-in_ok-seat-in-write
unfolding both choose said_as same pair_call
returns-in_ok-seat-in-write c = asked (λ (p : ℕ × ℕ). Said.Write p.0 p.1) _ _ c.pair-in-write.ensures c.in_ok-seat-in-write.was ∙ named "write" (words_of c.args.text.now) c.word.ensures c.in-Ok.ensures.cases.0 c.in-write.is

pub returns-in_err-seat-in-wire : goal.returns-in_err-seat-in-wire
unfolding both choose said_as same lending_call
returns-in_err-seat-in-wire c =
    not_asked (λ (p : ℕ × ℕ × ℕ). Said.Wire p.0 p.1 p.2) _ _ c.lending.ensures c.in_err-seat-in-wire.was c.from_residual-in_err-seat-in-wire.ensures
    ∙ named "wire" (words_of c.args.text.now) c.word.ensures c.in-Ok.ensures.cases.0 c.in-wire.is

pub returns-in_ok-seat-in-wire : goal.returns-in_ok-seat-in-wire
unfolding both choose said_as same lending_call
returns-in_ok-seat-in-wire c = asked (λ (p : ℕ × ℕ × ℕ). Said.Wire p.0 p.1 p.2) _ _ c.lending.ensures c.in_ok-seat-in-wire.was ∙ named "wire" (words_of c.args.text.now) c.word.ensures c.in-Ok.ensures.cases.0 c.in-wire.is

pub returns-in_err-seat-in-mill : goal.returns-in_err-seat-in-mill
unfolding both choose said_as same lending_call
returns-in_err-seat-in-mill c =
    not_asked (λ (p : ℕ × ℕ × ℕ). Said.Mill p.0 p.1 p.2) _ _ c.lending-in-mill.ensures c.in_err-seat-in-mill.was c.from_residual-in_err-seat-in-mill.ensures
    ∙ named "mill" (words_of c.args.text.now) c.word.ensures c.in-Ok.ensures.cases.0 c.in-mill.is

pub returns-in_ok-seat-in-mill : goal.returns-in_ok-seat-in-mill
unfolding both choose said_as same lending_call
returns-in_ok-seat-in-mill c = asked (λ (p : ℕ × ℕ × ℕ). Said.Mill p.0 p.1 p.2) _ _ c.lending-in-mill.ensures c.in_ok-seat-in-mill.was ∙ named "mill" (words_of c.args.text.now) c.word.ensures c.in-Ok.ensures.cases.0 c.in-mill.is

pub returns-in_err-seat_alone-in-pins : goal.returns-in_err-seat_alone-in-pins
unfolding both choose said_as same seat_call
returns-in_err-seat_alone-in-pins c =
    not_asked Said.Pins _ _ c.seat_alone-in-pins.ensures c.in_err-seat_alone-in-pins.was c.from_residual-in_err-seat_alone-in-pins.ensures
    ∙ named "pins" (words_of c.args.text.now) c.word.ensures c.in-Ok.ensures.cases.0 c.in-pins.is

pub returns-in_ok-seat_alone-in-pins : goal.returns-in_ok-seat_alone-in-pins
unfolding both choose said_as same seat_call
returns-in_ok-seat_alone-in-pins c = asked Said.Pins _ _ c.seat_alone-in-pins.ensures c.in_ok-seat_alone-in-pins.was ∙ named "pins" (words_of c.args.text.now) c.word.ensures c.in-Ok.ensures.cases.0 c.in-pins.is
