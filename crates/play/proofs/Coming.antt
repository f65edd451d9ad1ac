-- How one log comes of another by what is read. Assumes nothing.
use Rattle.std.proofs.Common.{◌≡◌, ℕ, true, false, List, [], ◌++◌, sym, refl, ap, ◌∙◌, append-nil, true≢false}
use Rattle.desk.specs.declared.Desk.{Desk}
use Rattle.desk.specs.Desk.{empty_desk}
use Rattle.play.specs.declared.Session.{Session}
use Rattle.basics.specs.Tests.{choose}
use Rattle.play.specs.Log.{Log, log_of, heard, last_heard, log_after, ComesOf}
use Rattle.play.specs.Lines.{Played}
use Rattle.std.specs.declared.option.Option.{Option}
use Rattle.std.specs.Io.KnownBytes.{Consumes, Appends, IsAtEnd}
use Rattle.play.specs.Answers.{heard_answers, last_answers, answers_after, AppendsFront, Streamed, Failed, Answers, CutShort}
use Rattle.play.proofs.Passing.{takes_none, takes_both, adds_none, adds_both, front_after}
use Rattle.play.proofs.Hearing.{heard_parts, heard_ended, last_ended, answers_parts}
use Rattle.play.proofs.Lines.{start_of, all_told, all_answers}

-- By a window.
pub by_window : (l : Log) (w : List ℕ) {m : Log} → l.ended ≡ false → m ≡ heard l w → ComesOf l m
unfolding log_after choose
by_window l w {m} h e =
    let t : m.ended ≡ false = ap (λ (n : Log). n.ended) e ∙ heard_ended w l ∙ h in
    record { input = w; is = e ∙ sym (ap (log_after l w) t) }

-- By the end of the input.
pub by_end : (l : Log) {m : Log} → m ≡ last_heard l → ComesOf l m
unfolding log_after choose heard
by_end l {m} e =
    let t : m.ended ≡ true = ap (λ (n : Log). n.ended) e ∙ last_ended l in
    record { input = []; is = e ∙ sym (ap (log_after l []) t) }

-- By nothing.
pub by_none : (l : Log) → l.ended ≡ false → ComesOf l l
unfolding heard
by_none l h = by_window l [] h refl

-- By what comes first and then by what comes next.
pub by_both : {k l m : Log} → ComesOf k l → l.ended ≡ false → ComesOf l m → ComesOf k m
unfolding log_after choose
by_both {k} {l} {m} p h q =
    let e : l ≡ heard k p.input = p.is ∙ ap (log_after k p.input) h in
    let g : heard l q.input ≡ heard k (p.input ++ q.input) =
    ap (λ (n : Log). heard n q.input) e ∙ heard_parts p.input q.input k in
    record { input = p.input ++ q.input; is = q.is ∙ ap (λ (n : Log). choose m.ended (last_heard n) n) g }

-- From the start on: the lines of all that was read.
pub from_start : (s : Session) (line : List ℕ) {d : Desk} {old out : List ℕ} → d ≡ empty_desk → ComesOf (start_of d old) (log_of s line out) → Played s
from_start s line {d} {old} {out} e p =
    let from : Desk → Log = λ d. log_after (start_of d old) p.input s.ended in
    let is : log_of s line out ≡ from empty_desk = p.is ∙ ap from e in
    let t = all_told s.ended p.input empty_desk old in
    record { input = p.input; desk = ap (λ (l : Log). l.desk) is ∙ t.0; lines = ap (λ (l : Log). l.lines) is ∙ t.1 }

-- ---- with what was taken from a reader and written

module _ {r₀ r₁ w₀ w₁ : Option (List ℕ)} where
  -- By a window, and the answers to it.
  pub streamed_window : (l : Log) (w : List ℕ) {m : Log} → l.ended ≡ false → m ≡ heard l w
      → Consumes r₀ r₁ w → Appends w₀ w₁ (heard_answers l w) → Streamed l m r₀ r₁ w₀ w₁
  unfolding log_after answers_after choose
  streamed_window l w {m} h e p q =
      let t : m.ended ≡ false = ap (λ (n : Log). n.ended) e ∙ heard_ended w l ∙ h in
      record {
        comes = record { input = w; is = e ∙ sym (ap (log_after l w) t) };
        taken = p;
        at_end = λ g. absurd (true≢false (sym g ∙ t));
        written = rw (t, append-nil (heard_answers l w)) q;
      }

  -- By the end of the input, and the answer to the last line.
  pub streamed_end : (l : Log) {m : Log} → m ≡ last_heard l
      → Consumes r₀ r₁ [] → IsAtEnd r₁ → Appends w₀ w₁ (last_answers l) → Streamed l m r₀ r₁ w₀ w₁
  unfolding log_after answers_after choose heard heard_answers
  streamed_end l {m} e p g q =
      let t : m.ended ≡ true = ap (λ (n : Log). n.ended) e ∙ last_ended l in
      record {
        comes = record { input = []; is = e ∙ sym (ap (log_after l []) t) };
        taken = p;
        at_end = λ _. g;
        written = rw t q;
      }

module _ {r₀ r₁ r₂ w₀ w₁ w₂ : Option (List ℕ)} where
  -- By what comes first and then by what comes next.
  pub streamed_both : {k l m : Log} → Streamed k l r₀ r₁ w₀ w₁ → l.ended ≡ false → Streamed l m r₁ r₂ w₁ w₂ → Streamed k m r₀ r₂ w₀ w₂
  unfolding log_after answers_after choose
  streamed_both {k} {l} {m} p h q =
      let u : List ℕ = p.comes.input in
      let v : List ℕ = q.comes.input in
      let e : l ≡ heard k u = p.comes.is ∙ ap (log_after k u) h in
      let a : Appends w₀ w₁ (heard_answers k u) = rw (ap (answers_after k u) h ∙ append-nil (heard_answers k u)) at p.written in
      let b : Appends w₁ w₂ (answers_after (heard k u) v m.ended) = rw e at q.written in
      let is : heard l v ≡ heard k (u ++ v) = ap (λ (n : Log). heard n v) e ∙ heard_parts u v k in
      record {
        comes = record { input = u ++ v; is = q.comes.is ∙ ap (λ (n : Log). choose m.ended (last_heard n) n) is };
        taken = takes_both r₀ r₁ r₂ u v p.taken q.taken;
        at_end = q.at_end;
        written = rw (← answers_parts u v k m.ended) (adds_both w₀ w₁ w₂ (heard_answers k u) (answers_after (heard k u) v m.ended) a b);
      }

  -- By what comes first, and then a failure.
  pub failed_after : {k l : Log} → Streamed k l r₀ r₁ w₀ w₁ → l.ended ≡ false → Failed l r₁ r₂ w₁ w₂ → Failed k r₀ r₂ w₀ w₂
  unfolding log_after answers_after choose
  failed_after {k} {l} p h q =
      let u : List ℕ = p.comes.input in
      let v : List ℕ = q.input in
      let e : l ≡ heard k u = p.comes.is ∙ ap (log_after k u) h in
      let a : Appends w₀ w₁ (heard_answers k u) = rw (ap (answers_after k u) h ∙ append-nil (heard_answers k u)) at p.written in
      let b : AppendsFront w₁ w₂ (answers_after (heard k u) v true) = rw e at q.written in
      record {
        input = u ++ v;
        taken = takes_both r₀ r₁ r₂ u v p.taken q.taken;
        written = rw (← answers_parts u v k true) (front_after w₀ w₁ w₂ (heard_answers k u) (answers_after (heard k u) v true) a b);
      }

-- By nothing.
pub streamed_none : (l : Log) (r w : Option (List ℕ)) → l.ended ≡ false → Streamed l l r r w w
unfolding heard heard_answers
streamed_none l r w h = streamed_window l [] h refl (takes_none r) (adds_none w)

-- From the start on: the lines of all that was read, and the answers to them.
pub answers_from_start : (s : Session) (line : List ℕ) {d : Desk} {old out : List ℕ} {r₀ r₁ w₀ w₁ : Option (List ℕ)} → d ≡ empty_desk
    → Streamed (start_of d old) (log_of s line out) r₀ r₁ w₀ w₁ → Answers s r₀ r₁ w₀ w₁
answers_from_start s line {d} {old} {out} {r₀} {r₁} {w₀} {w₁} e p =
    let input : List ℕ = p.comes.input in
    let from : Desk → Log = λ d. log_after (start_of d old) input s.ended in
    let is : log_of s line out ≡ from empty_desk = p.comes.is ∙ ap from e in
    let t = all_told s.ended input empty_desk old in
    record {
      played = record { input = input; desk = ap (λ (l : Log). l.desk) is ∙ t.0; lines = ap (λ (l : Log). l.lines) is ∙ t.1 };
      taken = p.taken;
      at_end = p.at_end;
      written =
          rw (ap (λ (d : Desk). answers_after (start_of d old) input s.ended) e ∙ all_answers s.ended input empty_desk old) at p.written;
    }

-- From the start on, and then a failure.
pub cut_from_start : {d : Desk} {old : List ℕ} {r₀ r₁ w₀ w₁ : Option (List ℕ)} → d ≡ empty_desk → Failed (start_of d old) r₀ r₁ w₀ w₁ → CutShort r₀ r₁ w₀ w₁
cut_from_start {d} {old} e p =
    record {
      input = p.input;
      taken = p.taken;
      written = rw (ap (λ (d : Desk). answers_after (start_of d old) p.input true) e ∙ all_answers true p.input empty_desk old) at p.written;
    }
