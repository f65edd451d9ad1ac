-- `play::take_in` meets its contract. Assumes nothing.
use Rattle.std.proofs.Common.{◌≡◌, ℕ, ◌-◌, List, take, drop, ap, subst}
use Rattle.std.specs.Prelude.{IfOk}
use Rattle.std.specs.Io.KnownBytes.{Appends}
use Rattle.play.specs.Log.{Log, log_of, next_line}
use Rattle.play.specs.Answers.{Writes}
use Rattle.play.proofs.Passing.{adds_none}
use Rattle.play.proofs.Turns.{line_kept, stretch_ended, stretch_open, answer_ended, answer_open}
use Rattle.play.proofs.take_in.Goals as goal

pub returns-then-to-window-clause-out_after : goal.returns-then-to-window-clause-out_after
returns-then-to-window-clause-out_after g c =
    let s = c.args in
    let stretch : List ℕ = take (s.to - s.at) (drop s.at s.window.now) in
    let e =
    line_kept s.session s.line.now s.out.now stretch c.requires.0 c.keep.array_long c.keep.ensures.value c.keep.ensures.line_after in
    subst
    (λ (l : Log). IfOk c.end_line.result (λ s. log_of s c.keep.new.line c.end_line.new.out ≡ l))
    (stretch_ended (log_of s.session s.line.now s.out.now) stretch c.if-to-window.true (ap next_line e))
    c.end_line.ensures.out_after

pub returns-then-to-window-clause-written : goal.returns-then-to-window-clause-written
returns-then-to-window-clause-written g c =
    let s = c.args in
    let stretch : List ℕ = take (s.to - s.at) (drop s.at s.window.now) in
    let e =
    line_kept s.session s.line.now s.out.now stretch c.requires.0 c.keep.array_long c.keep.ensures.value c.keep.ensures.line_after in
    subst
    (Writes c.end_line.result (g.W.Write.contents s.writer.now) (g.W.Write.contents c.end_line.new.writer))
    (answer_ended (log_of s.session s.line.now s.out.now) stretch c.if-to-window.true e)
    c.end_line.ensures.written

pub returns-clause-out_after : goal.returns-clause-out_after
returns-clause-out_after g c =
    let s = c.args in
    let stretch : List ℕ = take (s.to - s.at) (drop s.at s.window.now) in
    let e =
    line_kept s.session s.line.now s.out.now stretch c.requires.0 c.keep.array_long c.keep.ensures.value c.keep.ensures.line_after in
    stretch_open (log_of s.session s.line.now s.out.now) stretch c.if-to-window.false e

pub returns-clause-written : goal.returns-clause-written
returns-clause-written g c =
    let s = c.args in
    let stretch : List ℕ = take (s.to - s.at) (drop s.at s.window.now) in
    subst
    (Appends (g.W.Write.contents s.writer.now) (g.W.Write.contents s.writer.now))
    (answer_open (log_of s.session s.line.now s.out.now) stretch c.if-to-window.false)
    (adds_none (g.W.Write.contents s.writer.now))
