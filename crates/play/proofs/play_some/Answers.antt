-- `play::play_some` meets its contract. Assumes nothing.
use Rattle.std.proofs.Common.{◌<◌, length, rules}
use Rattle.play.proofs.Turns.{turned, failed_read}
use Rattle.play.proofs.play_some.Goals as goal

pub returns-in_err-n-clause-failed : goal.returns-in_err-n-clause-failed
returns-in_err-n-clause-failed g c = failed_read c.from_residual.result _ _ _ _ c.in_err-n.ensures.bytes

pub returns-clause-comes_of : goal.returns-clause-comes_of
returns-clause-comes_of g c =
    let s = c.args in
    let h = c.to_hear-heard.ensures in
    let room : 0 < length c.read.new.buf = search rules in
    let t =
    turned s.session s.line.now s.out.now c.read.new.buf c.play_window.new.line c.play_window.new.out (g.R.Read.remaining s.reader.now)
    (g.R.Read.remaining c.read.new.self) (g.W.Write.contents s.writer.now) (g.W.Write.contents c.play_window.new.writer) c.play_window.result c.in_ok-n.n
    c.requires.1 h.value h.window_after h.in_bounds.0 c.play_window.ensures.out_after c.play_window.ensures.written
    c.in_ok-n.ensures.bytes.0 c.in_ok-n.ensures.bytes.1 room in
    t.comes

pub returns-clause-streamed : goal.returns-clause-streamed
returns-clause-streamed g c =
    let s = c.args in
    let h = c.to_hear-heard.ensures in
    let room : 0 < length c.read.new.buf = search rules in
    let t =
    turned s.session s.line.now s.out.now c.read.new.buf c.play_window.new.line c.play_window.new.out (g.R.Read.remaining s.reader.now)
    (g.R.Read.remaining c.read.new.self) (g.W.Write.contents s.writer.now) (g.W.Write.contents c.play_window.new.writer) c.play_window.result c.in_ok-n.n
    c.requires.1 h.value h.window_after h.in_bounds.0 c.play_window.ensures.out_after c.play_window.ensures.written
    c.in_ok-n.ensures.bytes.0 c.in_ok-n.ensures.bytes.1 room in
    t.streamed

pub returns-clause-failed : goal.returns-clause-failed
returns-clause-failed g c =
    let s = c.args in
    let h = c.to_hear-heard.ensures in
    let room : 0 < length c.read.new.buf = search rules in
    let t =
    turned s.session s.line.now s.out.now c.read.new.buf c.play_window.new.line c.play_window.new.out (g.R.Read.remaining s.reader.now)
    (g.R.Read.remaining c.read.new.self) (g.W.Write.contents s.writer.now) (g.W.Write.contents c.play_window.new.writer) c.play_window.result c.in_ok-n.n
    c.requires.1 h.value h.window_after h.in_bounds.0 c.play_window.ensures.out_after c.play_window.ensures.written
    c.in_ok-n.ensures.bytes.0 c.in_ok-n.ensures.bytes.1 room in
    t.failed
