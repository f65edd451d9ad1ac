-- What the steps of a session make of its log. Assumes nothing.
use Rattle.std.proofs.Common.{◌≡◌, ℕ, ◌+◌, ◌-◌, ◌%◌, ◌^◌, ◌<◌, ◌≤◌, min, Bool, true, false, eqb, ltb, List, [], ◌∷◌, ◌++◌, length, take, drop, set, sym, refl, ap, ◌∙◌, arith, append_assoc, append-nil, drop_of_length-le, length-take, le-ltb, lt-ltb, eqb-true, subst}
use lib.Seq.{sets, length-sets}
use Rattle.basics.specs.Tests.{choose}
use Rattle.text.specs.Text.{over}
use Rattle.text.specs.Words.{newline, stop_at}
use Rattle.play.specs.Log.{most_kept}
use Rattle.play.proofs.Clipping.{keeping}
use Rattle.desk.specs.declared.Desk.{Desk}
use Rattle.answer.specs.Answered.{played, answered}
use Rattle.play.specs.declared.Session.{Session}
use Rattle.play.specs.Log.{Log, log_of, next_line, longer, stretched, heard, bytes_heard, window_heard, last_heard, ComesOf}
use Rattle.std.specs.Prelude.{Result, Ok, Err, IfOk, OnErr}
use Rattle.std.specs.declared.option.Option.{Option}
use Rattle.std.specs.Io.KnownBytes.{Keeps, Consumes, Appends, IsAtEnd}
use Rattle.play.specs.Answers.{line_answer, stretched_answers, heard_answers, last_answers, answers_after, AppendsFront, Writes, Streamed, Failed}
use Rattle.play.proofs.Passing.{takes_kept, adds_none, adds_both, front_none, front_longer, front_after}
use Rattle.play.proofs.Hearing.{stretch_at, stretch_answers_at}
use Rattle.play.proofs.Coming.{by_window, by_end, streamed_window, streamed_end}

module _ (s : Session) (line out : List ℕ) where
  -- A line was played and the next begins.
  pub line_ended : {d : Desk} {n : ℕ} {new : List ℕ} → d ≡ played s.desk (take s.kept line) → n ≡ (s.lines + 1) % 2 ^ 64
      → new ≡ over (answered s.desk n (take s.kept line)) out
      → log_of (record { desk = d; kept = 0; lines = n; ended = s.ended }) line new ≡ next_line (log_of s line out)
  line_ended p q r = rw (p, r, q)

  -- Bytes were kept after those kept so far.
  pub line_kept : (bytes : List ℕ) {k : ℕ} {new : List ℕ} → s.kept ≤ most_kept → length new ≡ most_kept
      → k ≡ min (s.kept + length bytes) most_kept → new ≡ sets line s.kept (take (most_kept - s.kept) bytes)
      → log_of (record { desk = s.desk; kept = k; lines = s.lines; ended = s.ended }) new out ≡ longer (log_of s line out) bytes
  line_kept bytes h g p q =
      let m : length line ≡ most_kept = sym (length-sets line s.kept (take (most_kept - s.kept) bytes)) ∙ sym (ap length q) ∙ g in
      rw (p, q) (ap (λ (kept : List ℕ). record { desk = s.desk; line = kept; lines = s.lines; ended = s.ended; out = out }) (keeping line bytes s.kept h m))

  -- A stretch of a window was taken in: what is to come of the whole stays the same.
  pub window_more : (w : List ℕ) (at : ℕ) {to : ℕ} {m n : Log} → s.kept ≤ most_kept → at ≤ length w → to ≡ stop_at newline w at
      → m ≡ stretched (log_of s line out) (take (to - at) (drop at w)) (ltb to (length w))
      → heard (log_of s line out) (drop at w) ≡ n → heard m (drop (to + 1) w) ≡ n
  window_more w at {to} h k e p q =
      let short : length (take s.kept line) ≤ most_kept = omega (arith, length-take s.kept line) in
      ap (λ (l : Log). heard l (drop (to + 1) w)) p ∙ stretch_at w at to (log_of s line out) short k e ∙ q

  -- At the window's end nothing is to come.
  pub window_done : (w : List ℕ) {at : ℕ} {n : Log} → length w ≤ at → heard (log_of s line out) (drop at w) ≡ n → log_of s line out ≡ n
  unfolding heard
  window_done w {at} h q = ap (heard (log_of s line out)) (sym (drop_of_length-le w h)) ∙ q

-- ---- a turn: what came, or the end of the input

-- A window that begins with a newline, cut to it.
first_newline : (w : List ℕ) → 1 ≤ length (set w 0 newline) → take 1 (set w 0 newline) ≡ newline ∷ []
first_newline [] h = absurd (omega arith)
first_newline (b ∷ rest) h = refl

-- A session with the input ended or not.
abbrev ended_if : Session → Bool → Session
ended_if s b = record { desk = s.desk; kept = s.kept; lines = s.lines; ended = b }

module _ (s : Session) (line out window : List ℕ) where
  -- The input has ended.
  turn_ended : (t : Bool) → eqb (length (take s.kept line)) 0 ≡ t → {l : Log} → choose t 0 1 ≤ length (set window 0 newline)
      → l ≡ heard (log_of (ended_if s true) line out) (take (choose t 0 1) (set window 0 newline)) → l ≡ last_heard (log_of s line out)
  unfolding heard choose last_heard
  turn_ended true e k q = rw e q
  turn_ended false e k q = rw e (q ∙ ap (heard (log_of (ended_if s true) line out)) (first_newline window k))

  -- It has, or bytes came: the log comes of the one before it.
  turn_by : (came : ℕ) (t : Bool) → s.ended ≡ false → {l : Log}
      → choose t (choose (eqb (length (take s.kept line)) 0) 0 1) came ≤ length (choose t (set window 0 newline) window)
      → l ≡ heard (log_of (ended_if s t) line out) (take (choose t (choose (eqb (length (take s.kept line)) 0) 0 1) came) (choose t (set window 0 newline) window))
      → ComesOf (log_of s line out) l
  unfolding choose
  turn_by came true g k q = by_end (log_of s line out) (turn_ended (eqb (length (take s.kept line)) 0) refl k q)
  turn_by came false g k q =
      by_window (log_of s line out) (take came window) g (q ∙ ap (λ (b : Bool). heard (log_of (ended_if s b) line out) (take came window)) (sym g))

-- One turn.
pub turn : (s : Session) (line out window : List ℕ) {w : List ℕ} (came : ℕ) {m : ℕ} {l : Log} → s.ended ≡ false → m ≡ bytes_heard came (take s.kept line)
    → w ≡ window_heard came window → m ≤ length w → l ≡ heard (log_of (ended_if s (eqb came 0)) line out) (take m w) → ComesOf (log_of s line out) l
turn s line out window came g p q k e = turn_by s line out window came (eqb came 0) g (rw (p, q) at k) (e ∙ rw (p, q))

-- A stretch ended at a newline: its line ends.
pub stretch_ended : (l : Log) (bytes : List ℕ) {to n : ℕ} {m : Log} → to < n → m ≡ next_line (longer l bytes) → m ≡ stretched l bytes (ltb to n)
unfolding choose
stretch_ended l bytes {to} {n} h e = rw (lt-ltb to n h) e

-- It ended with the window: its line goes on.
pub stretch_open : (l : Log) (bytes : List ℕ) {to n : ℕ} {m : Log} → n ≤ to → m ≡ longer l bytes → m ≡ stretched l bytes (ltb to n)
unfolding choose
stretch_open l bytes {to} {n} h e = rw (le-ltb to n h) e

-- ---- what is written

-- While a window is taken in: the answers so far, and those that are to come, are the answers to the window.
pub record Answering (l₀ : Log) (window : List ℕ) (l : Log) (at : ℕ) (held holds : Option (List ℕ)) : Type 0 where
  pub so_far : List ℕ
  pub written : Appends held holds so_far
  pub whole : so_far ++ heard_answers l (drop at window) ≡ heard_answers l₀ window

-- At its start none.
pub answering_none : (l : Log) (window : List ℕ) (held : Option (List ℕ)) → Answering l window l 0 held held
answering_none l window held = record { so_far = []; written = adds_none held; whole = refl }

module _ (s : Session) (line out window : List ℕ) (at to : ℕ) (l₀ : Log) (held mid holds : Option (List ℕ))
    (h : s.kept ≤ most_kept) (k : at ≤ length window) (e : to ≡ stop_at newline window at) (a : Answering l₀ window (log_of s line out) at held mid) where
  -- A stretch more was taken in, and its line answered if it ended.
  pub answering_more : {m : Log} → m ≡ stretched (log_of s line out) (take (to - at) (drop at window)) (ltb to (length window))
      → Appends mid holds (stretched_answers (log_of s line out) (take (to - at) (drop at window)) (ltb to (length window)))
      → Answering l₀ window m (to + 1) held holds
  answering_more {m} p q =
      let short : length (take s.kept line) ≤ most_kept = omega (arith, length-take s.kept line) in
      record {
        so_far = a.so_far ++ stretched_answers (log_of s line out) (take (to - at) (drop at window)) (ltb to (length window));
        written = adds_both held mid holds a.so_far (stretched_answers (log_of s line out) (take (to - at) (drop at window)) (ltb to (length window))) a.written q;
        whole =
            ap
            (λ (n : Log). (a.so_far ++ stretched_answers (log_of s line out) (take (to - at) (drop at window)) (ltb to (length window))) ++ heard_answers n (drop (to + 1) window))
            p
            ∙ append_assoc
            a.so_far
            (stretched_answers (log_of s line out) (take (to - at) (drop at window)) (ltb to (length window)))
            (heard_answers (stretched (log_of s line out) (take (to - at) (drop at window)) (ltb to (length window))) (drop (to + 1) window))
            ∙ ap (λ (w : List ℕ). a.so_far ++ w) (stretch_answers_at window at to (log_of s line out) short k e)
            ∙ a.whole;
      }

  -- Its answer was not written whole.
  pub answering_failed : AppendsFront mid holds (stretched_answers (log_of s line out) (take (to - at) (drop at window)) (ltb to (length window)))
      → AppendsFront held holds (heard_answers l₀ window)
  answering_failed q =
      let short : length (take s.kept line) ≤ most_kept = omega (arith, length-take s.kept line) in
      let u : List ℕ = stretched_answers (log_of s line out) (take (to - at) (drop at window)) (ltb to (length window)) in
      let v : List ℕ = heard_answers (stretched (log_of s line out) (take (to - at) (drop at window)) (ltb to (length window))) (drop (to + 1) window) in
      let is : a.so_far ++ (u ++ v) ≡ heard_answers l₀ window =
      ap (λ (w : List ℕ). a.so_far ++ w) (stretch_answers_at window at to (log_of s line out) short k e) ∙ a.whole in
      rw is at (front_after held mid holds a.so_far (u ++ v) a.written (front_longer mid holds u v q))

-- At the window's end all are written.
pub answering_all : (l₀ l : Log) (window : List ℕ) {at : ℕ} {held holds : Option (List ℕ)} → length window ≤ at → Answering l₀ window l at held holds
    → Appends held holds (heard_answers l₀ window)
unfolding heard_answers
answering_all l₀ l window {at} h a =
    let is : a.so_far ≡ heard_answers l₀ window =
    sym (append-nil a.so_far) ∙ sym (ap (λ (w : List ℕ). a.so_far ++ heard_answers l w) (drop_of_length-le window h)) ∙ a.whole in
    rw is at a.written

-- ---- a turn, with what was taken from the reader and written

-- What a turn comes to.
pub record Turn {E : Type 0} (before : Log) (line out : List ℕ) (r : Result Session E) (left still held holds : Option (List ℕ)) : Type 0 where
  pub comes : IfOk r (λ n. ComesOf before (log_of n line out))
  pub streamed : IfOk r (λ n. Streamed before (log_of n line out) left still held holds)
  pub failed : OnErr r (Failed before left still held holds)

module _ {E : Type 0} (s : Session) (line out window line' out' : List ℕ) (left still held holds : Option (List ℕ)) where
  -- The input has ended.
  turned_end : (r : Result Session E) (t : Bool) → eqb (length (take s.kept line)) 0 ≡ t
      → choose t 0 1 ≤ length (set window 0 newline)
      → IfOk r (λ n. log_of n line' out' ≡ heard (log_of (ended_if s true) line out) (take (choose t 0 1) (set window 0 newline)))
      → Writes r held holds (heard_answers (log_of (ended_if s true) line out) (take (choose t 0 1) (set window 0 newline)))
      → Consumes left still [] → IsAtEnd still
      → Turn (log_of s line out) line' out' r left still held holds
  unfolding choose last_answers heard_answers answers_after heard
  turned_end (Ok n) t e k q w c g =
      let u = streamed_end (log_of s line out) (turn_ended s line out window t e k q) c g (last_written t e k w) in
      record { comes = u.comes; streamed = u; failed = tt }
    where
      last_written : (t : Bool) → eqb (length (take s.kept line)) 0 ≡ t → choose t 0 1 ≤ length (set window 0 newline)
          → Appends held holds (heard_answers (log_of (ended_if s true) line out) (take (choose t 0 1) (set window 0 newline)))
          → Appends held holds (last_answers (log_of s line out))
      last_written true e k w = rw e w
      last_written false e k w = rw e (rw (first_newline window k, append-nil (line_answer (log_of s line out))) at w)
  turned_end (Err x) t e k q w c g =
      record { comes = tt; streamed = tt; failed = record { input = []; taken = c; written = last_written t e k w } }
    where
      last_written : (t : Bool) → eqb (length (take s.kept line)) 0 ≡ t → choose t 0 1 ≤ length (set window 0 newline)
          → AppendsFront held holds (heard_answers (log_of (ended_if s true) line out) (take (choose t 0 1) (set window 0 newline)))
          → AppendsFront held holds (last_answers (log_of s line out))
      last_written true e k w = rw e w
      last_written false e k w = rw e (rw (first_newline window k, append-nil (line_answer (log_of s line out))) at w)

  -- Bytes came.
  turned_window : (r : Result Session E) (came : ℕ) → s.ended ≡ false
      → IfOk r (λ n. log_of n line' out' ≡ heard (log_of (ended_if s false) line out) (take came window))
      → Writes r held holds (heard_answers (log_of (ended_if s false) line out) (take came window))
      → Consumes left still (take came window)
      → Turn (log_of s line out) line' out' r left still held holds
  unfolding answers_after choose
  turned_window (Ok n) came g q w c =
      let to : Log → Log = λ l. heard l (take came window) in
      let is : log_of (ended_if s false) line out ≡ log_of s line out = ap (λ (b : Bool). log_of (ended_if s b) line out) (sym g) in
      let u = streamed_window (log_of s line out) (take came window) g (q ∙ ap to is) c (rw is at w) in
      record { comes = u.comes; streamed = u; failed = tt }
  turned_window (Err x) came g q w c =
      let is : log_of (ended_if s false) line out ≡ log_of s line out = ap (λ (b : Bool). log_of (ended_if s b) line out) (sym g) in
      record {
        comes = tt;
        streamed = tt;
        failed =
            record {
              input = take came window;
              taken = c;
              written =
                  front_longer held holds (heard_answers (log_of s line out) (take came window)) (last_answers (heard (log_of s line out) (take came window))) (rw is at w);
            };
      }

  -- One or the other.
  turned_by : (r : Result Session E) (came : ℕ) (t : Bool) → s.ended ≡ false
      → choose t (choose (eqb (length (take s.kept line)) 0) 0 1) came ≤ length (choose t (set window 0 newline) window)
      → IfOk r
      (λ n. log_of n line' out'
      ≡ heard (log_of (ended_if s t) line out) (take (choose t (choose (eqb (length (take s.kept line)) 0) 0 1) came) (choose t (set window 0 newline) window)))
      → Writes r held holds
      (heard_answers (log_of (ended_if s t) line out) (take (choose t (choose (eqb (length (take s.kept line)) 0) 0 1) came) (choose t (set window 0 newline) window)))
      → (t ≡ true → Consumes left still [] × IsAtEnd still) → Consumes left still (take came window)
      → Turn (log_of s line out) line' out' r left still held holds
  unfolding choose
  turned_by r came true g k q w f c = turned_end r (eqb (length (take s.kept line)) 0) refl k q w (f refl).0 (f refl).1
  turned_by r came false g k q w f c = turned_window r came g q w c

-- ---- a stretch that was taken in, with what was written

-- A stretch ended at a newline: the answer to its line.
pub answer_ended : (l : Log) (bytes : List ℕ) {to n : ℕ} {m : Log} → to < n → m ≡ longer l bytes → line_answer m ≡ stretched_answers l bytes (ltb to n)
unfolding choose
answer_ended l bytes {to} {n} h e = rw (lt-ltb to n h) (ap line_answer e)

-- It ended with the window: no answer.
pub answer_open : (l : Log) (bytes : List ℕ) {to n : ℕ} → n ≤ to → [] ≡ stretched_answers l bytes (ltb to n)
unfolding choose
answer_open l bytes {to} {n} h = rw (le-ltb to n h)

-- One turn.
pub turned : {E : Type 0} (s : Session) (line out window line' out' : List ℕ) (left still held holds : Option (List ℕ)) (r : Result Session E) {w : List ℕ} (came : ℕ) {m : ℕ}
    → s.ended ≡ false → m ≡ bytes_heard came (take s.kept line) → w ≡ window_heard came window → m ≤ length w
    → IfOk r (λ n. log_of n line' out' ≡ heard (log_of (ended_if s (eqb came 0)) line out) (take m w))
    → Writes r held holds (heard_answers (log_of (ended_if s (eqb came 0)) line out) (take m w))
    → Consumes left still (take came window) → (came ≡ 0 → 0 < length window → IsAtEnd still) → 0 < length window
    → Turn (log_of s line out) line' out' r left still held holds
turned s line out window line' out' left still held holds r came g p q k f w c a h =
    turned_by s line out window line' out' left still held holds r came (eqb came 0) g (rw (p, q) at k) (rw (p, q) at f) (rw (p, q) at w)
    (λ t. let z = eqb-true came 0 t in (subst (λ (n : ℕ). Consumes left still (take n window)) z c, a z h))
    c

-- A read that failed.
pub failed_read : {A E : Type 0} (r : Result A E) (l : Log) (left still held : Option (List ℕ)) → Keeps left still → OnErr r (Failed l left still held held)
failed_read (Ok x) l left still held h = tt
failed_read (Err e) l left still held h = record { input = []; taken = takes_kept left still h; written = front_none held (answers_after l [] true) }
