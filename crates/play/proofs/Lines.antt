-- What input makes of a log is what its lines make of it, each whole. Assumes nothing.
use Rattle.std.proofs.Common.{◌≡◌, ℕ, suc, ◌+◌, ◌-◌, ◌%◌, ◌^◌, Bool, true, false, not, eqb, List, [], ◌∷◌, ◌++◌, length, take, sym, refl, ap, ◌∙◌, append_assoc, append-nil, arith}
use native.Mathlib.Nat.{mod-add-mod}
use lib.Dec.{eqb-suc-zero}
use Rattle.basics.specs.Tests.{both, choose}
use Rattle.text.specs.Words.{newline, before_first, pieces}
use Rattle.play.specs.Log.{most_kept}
use Rattle.play.proofs.Clipping.{clipped}
use Rattle.desk.specs.declared.Desk.{Desk}
use Rattle.printed.specs.Answers.{not_a_call_line}
use Rattle.answer.specs.Answered.{played, answered}
use Rattle.answer.proofs.Answering.{long_played, long_answered}
use Rattle.play.specs.Log.{Log, next_line, longer, heard, stopped, last_heard, log_after}
use Rattle.play.specs.Lines.{lines_in, lines_of, played_all}
use Rattle.play.specs.Answers.{line_answer, heard_answers, last_answers, answers_after, answers_of}
use Rattle.play.proofs.Hearing.{cut_once}

-- A line that is kept only as far as is enough to read it makes of the desk what the whole line does,
pub clipped_played : (d : Desk) (line : List ℕ) → played d (take most_kept line) ≡ played d line
clipped_played d line = clipped (played d) d (λ l h. long_played d l h) line

-- and prints what the whole line does.
pub clipped_answer : (d : Desk) (n : ℕ) (line : List ℕ) → answered d n (take most_kept line) ≡ answered d n line
clipped_answer d n line = clipped (answered d n) (not_a_call_line n) (λ l h. long_answered d l h n) line

-- There is a first piece.
record Some (pieces : List (List ℕ)) : Type 0 where
  first : List ℕ
  rest : List (List ℕ)
  are : pieces ≡ first ∷ rest

-- There is always a first piece.
some : (v : List ℕ) → Some (pieces newline v)
unfolding pieces before_first choose
some [] = record { first = []; rest = []; are = refl }
some (b ∷ v) = by (eqb b newline) (some v)
  where
    by : (t : Bool) → Some (pieces newline v) → Some (choose t ([] ∷ pieces newline v) (before_first b (pieces newline v)))
    by true s = record { first = []; rest = pieces newline v; are = refl }
    by false s = record { first = b ∷ s.first; rest = s.rest; are = ap (before_first b) s.are }

-- The pieces with the part of a line before them.
unfoldable grown : List ℕ → List (List ℕ) → List (List ℕ)
grown part [] = part ∷ []
grown part (p ∷ rest) = (part ++ p) ∷ rest

-- A log after lines: its desk and its count.
record Told (l : Log) (d : Desk) (n : ℕ) (lines : List (List ℕ)) : Type 0 where
  desk : l.desk ≡ played_all d lines
  count : l.lines ≡ (n + length lines) % 2 ^ 64

-- One line more is counted.
counted : (n : ℕ) {k : ℕ} → k ≡ n % 2 ^ 64 → (k + 1) % 2 ^ 64 ≡ (n + 1) % 2 ^ 64
counted n e = ap (λ (x : ℕ). (x + 1) % 2 ^ 64) e ∙ mod-add-mod n (2 ^ 64) 1

-- At the end of what there is, with a part of a line kept.
told_end : (ended : Bool) (part : List ℕ) (l : Log) (n : ℕ) → l.line ≡ take most_kept part → l.lines ≡ n % 2 ^ 64
    → Told (choose ended (last_heard l) l) l.desk n (lines_in ended (part ∷ []))
unfolding lines_in played_all both choose last_heard
told_end false part l n h k = record { desk = refl; count = k ∙ ap (λ (x : ℕ). x % 2 ^ 64) (omega arith) }
told_end true [] l n h k =
    let last : Bool → Log = λ t. choose t (stopped l) (next_line (stopped l)) in
    let e : eqb (length l.line) 0 ≡ true = ap (λ (w : List ℕ). eqb (length w) 0) h in
    record {
      desk = ap (λ (t : Bool). (last t).desk) e;
      count = ap (λ (t : Bool). (last t).lines) e ∙ k ∙ ap (λ (x : ℕ). x % 2 ^ 64) (omega arith);
    }
told_end true (b ∷ p) l n h k =
    let last : Bool → Log = λ t. choose t (stopped l) (next_line (stopped l)) in
    let e : eqb (length l.line) 0 ≡ false = ap (λ (w : List ℕ). eqb (length w) 0) h ∙ eqb-suc-zero (length (take (most_kept - 1) p)) in
    let f : lines_in true ((b ∷ p) ∷ []) ≡ (b ∷ p) ∷ [] = ap (λ (t : Bool). choose (not t) ((b ∷ p) ∷ []) []) (eqb-suc-zero (length p)) in
    record {
      desk = ap (λ (t : Bool). (last t).desk) e ∙ ap (played l.desk) h ∙ clipped_played l.desk (b ∷ p) ∙ sym (ap (played_all l.desk) f);
      count = ap (λ (t : Bool). (last t).lines) e ∙ counted n k ∙ sym (ap (λ (w : List (List ℕ)). (n + length w) % 2 ^ 64) f);
    }

-- At a newline.
told_newline : (ended : Bool) (part : List ℕ) (q : List (List ℕ)) (l m : Log) (n : ℕ) → Some q → l.line ≡ take most_kept part
    → Told m (played l.desk l.line) (n + 1) (lines_in ended (grown [] q)) → Told m l.desk n (lines_in ended (grown part ([] ∷ q)))
unfolding lines_in played_all grown
told_newline ended part q l m n s h t =
    let x : List (List ℕ) = lines_in ended (s.first ∷ s.rest) in
    let e : lines_in ended (grown [] q) ≡ x = ap (λ (w : List (List ℕ)). lines_in ended (grown [] w)) s.are in
    let f : lines_in ended (grown part ([] ∷ q)) ≡ part ∷ x =
    ap (λ (w : List (List ℕ)). lines_in ended (grown part ([] ∷ w))) s.are ∙ ap (λ (w : List ℕ). w ∷ x) (append-nil part) in
    let g : played l.desk l.line ≡ played l.desk part = ap (played l.desk) h ∙ clipped_played l.desk part in
    let z : n + 1 + length x ≡ n + suc (length x) = omega arith in
    let after : ℕ → List (List ℕ) → ℕ = λ m w. (m + length w) % 2 ^ 64 in
    record {
      desk = t.desk ∙ ap (played_all (played l.desk l.line)) e ∙ ap (λ (d : Desk). played_all d x) g ∙ sym (ap (played_all l.desk) f);
      count = t.count ∙ ap (after (n + 1)) e ∙ ap (λ (y : ℕ). y % 2 ^ 64) z ∙ sym (ap (after n) f);
    }

-- At another byte the part grows.
grown_more : (part : List ℕ) (b : ℕ) (q : List (List ℕ)) → Some q → grown (part ++ (b ∷ [])) q ≡ grown part (before_first b q)
unfolding grown before_first
grown_more part b q s = rw s.are (ap (λ (w : List ℕ). w ∷ s.rest) (append_assoc part (b ∷ []) s.first))

-- Input taken in, byte by byte.
told : (ended : Bool) (v part : List ℕ) (l : Log) (n : ℕ) → l.line ≡ take most_kept part → l.lines ≡ n % 2 ^ 64
    → Told (log_after l v ended) l.desk n (lines_in ended (grown part (pieces newline v)))
unfolding heard log_after pieces grown choose
told ended [] part l n h k =
    rw (append-nil part) (told_end ended part l n h k)
told ended (b ∷ v) part l n h k = by (eqb b newline) (told ended v)
  where
    by : (t : Bool)
        → ((part : List ℕ) (l : Log) (n : ℕ) → l.line ≡ take most_kept part → l.lines ≡ n % 2 ^ 64
        → Told (log_after l v ended) l.desk n (lines_in ended (grown part (pieces newline v))))
        → Told (log_after (choose t (next_line l) (longer l (b ∷ []))) v ended) l.desk n
        (lines_in ended (grown part (choose t ([] ∷ pieces newline v) (before_first b (pieces newline v)))))
    by true step =
        told_newline ended part (pieces newline v) l (log_after (next_line l) v ended) n (some v) h
        (step [] (next_line l) (n + 1) refl (counted n k))
    by false step =
        rw (← grown_more part b (pieces newline v) (some v))
        (step (part ++ (b ∷ [])) (longer l (b ∷ [])) n (ap (λ (w : List ℕ). take most_kept (w ++ (b ∷ []))) h ∙ cut_once most_kept part (b ∷ [])) k)

-- The log at the start: no line read yet.
abbrev pub start_of : Desk → List ℕ → Log
start_of d out = record { desk = d; line = []; lines = 0; ended = false; out = out }

-- From there on all that was read makes of desk and count what its lines do.
pub all_told : (ended : Bool) (input : List ℕ) (d : Desk) (out : List ℕ)
    → ((log_after (start_of d out) input ended).desk ≡ played_all d (lines_of ended input))
    × ((log_after (start_of d out) input ended).lines ≡ length (lines_of ended input) % 2 ^ 64)
unfolding lines_of grown
all_told ended input d out =
    let t = told ended input [] (start_of d out) 0 refl refl in
    let e : lines_in ended (grown [] (pieces newline input)) ≡ lines_of ended input = rw (some input).are in
    (t.desk ∙ ap (played_all d) e, t.count ∙ ap (λ (w : List (List ℕ)). (0 + length w) % 2 ^ 64) e ∙ ap (λ (x : ℕ). x % 2 ^ 64) (omega arith))

-- ---- the answers

-- The answer to the line that is kept is that to the whole line.
answer_told : (part : List ℕ) (l : Log) (n : ℕ) → l.line ≡ take most_kept part → l.lines ≡ n % 2 ^ 64 → line_answer l ≡ answered l.desk ((n + 1) % 2 ^ 64) part
answer_told part l n h k =
    ap (λ (m : ℕ). answered l.desk m l.line) (counted n k) ∙ ap (answered l.desk ((n + 1) % 2 ^ 64)) h ∙ clipped_answer l.desk ((n + 1) % 2 ^ 64) part

-- At the end of what there is.
answers_end : (ended : Bool) (part : List ℕ) (l : Log) (n : ℕ) → l.line ≡ take most_kept part → l.lines ≡ n % 2 ^ 64
    → choose ended (last_answers l) [] ≡ answers_of l.desk n (lines_in ended (part ∷ []))
unfolding lines_in answers_of both choose last_answers
answers_end false part l n h k = refl
answers_end true [] l n h k = ap (λ (w : List ℕ). choose (eqb (length w) 0) [] (line_answer l)) h
answers_end true (b ∷ p) l n h k =
    let e : eqb (length l.line) 0 ≡ false = ap (λ (w : List ℕ). eqb (length w) 0) h ∙ eqb-suc-zero (length (take (most_kept - 1) p)) in
    let f : lines_in true ((b ∷ p) ∷ []) ≡ (b ∷ p) ∷ [] = ap (λ (t : Bool). choose (not t) ((b ∷ p) ∷ []) []) (eqb-suc-zero (length p)) in
    ap (λ (t : Bool). choose t [] (line_answer l)) e
    ∙ answer_told (b ∷ p) l n h k
    ∙ sym (append-nil (answered l.desk ((n + 1) % 2 ^ 64) (b ∷ p)))
    ∙ sym (ap (answers_of l.desk n) f)

-- At a newline.
answers_newline : (ended : Bool) (part : List ℕ) (q : List (List ℕ)) (l : Log) (n : ℕ) {rest : List ℕ} → Some q → l.line ≡ take most_kept part → l.lines ≡ n % 2 ^ 64
    → rest ≡ answers_of (played l.desk l.line) (n + 1) (lines_in ended (grown [] q))
    → line_answer l ++ rest ≡ answers_of l.desk n (lines_in ended (grown part ([] ∷ q)))
unfolding lines_in answers_of grown
answers_newline ended part q l n {rest} s h k t =
    let x : List (List ℕ) = lines_in ended (s.first ∷ s.rest) in
    let e : lines_in ended (grown [] q) ≡ x = ap (λ (w : List (List ℕ)). lines_in ended (grown [] w)) s.are in
    let f : lines_in ended (grown part ([] ∷ q)) ≡ part ∷ x =
    ap (λ (w : List (List ℕ)). lines_in ended (grown part ([] ∷ w))) s.are ∙ ap (λ (w : List ℕ). w ∷ x) (append-nil part) in
    let g : played l.desk l.line ≡ played l.desk part = ap (played l.desk) h ∙ clipped_played l.desk part in
    ap (λ (w : List ℕ). w ++ rest) (answer_told part l n h k)
    ∙ ap (λ (w : List ℕ). answered l.desk ((n + 1) % 2 ^ 64) part ++ w)
    (t ∙ ap (answers_of (played l.desk l.line) (n + 1)) e ∙ ap (λ (d : Desk). answers_of d (n + 1) x) g)
    ∙ sym (ap (answers_of l.desk n) f)

-- Input taken in, byte by byte.
answers_told : (ended : Bool) (v part : List ℕ) (l : Log) (n : ℕ) → l.line ≡ take most_kept part → l.lines ≡ n % 2 ^ 64
    → answers_after l v ended ≡ answers_of l.desk n (lines_in ended (grown part (pieces newline v)))
unfolding heard heard_answers answers_after pieces grown choose
answers_told ended [] part l n h k =
    rw (append-nil part) (answers_end ended part l n h k)
answers_told ended (b ∷ v) part l n h k = by (eqb b newline) (answers_told ended v)
  where
    by : (t : Bool)
        → ((part : List ℕ) (l : Log) (n : ℕ) → l.line ≡ take most_kept part → l.lines ≡ n % 2 ^ 64
        → answers_after l v ended ≡ answers_of l.desk n (lines_in ended (grown part (pieces newline v))))
        → choose t (line_answer l ++ heard_answers (next_line l) v) (heard_answers (longer l (b ∷ [])) v)
        ++ choose ended (last_answers (heard (choose t (next_line l) (longer l (b ∷ []))) v)) []
        ≡ answers_of l.desk n (lines_in ended (grown part (choose t ([] ∷ pieces newline v) (before_first b (pieces newline v)))))
    by true step =
        append_assoc (line_answer l) (heard_answers (next_line l) v) (choose ended (last_answers (heard (next_line l) v)) [])
        ∙ answers_newline ended part (pieces newline v) l n (some v) h k (step [] (next_line l) (n + 1) refl (counted n k))
    by false step =
        rw (← grown_more part b (pieces newline v) (some v))
        (step (part ++ (b ∷ [])) (longer l (b ∷ [])) n (ap (λ (w : List ℕ). take most_kept (w ++ (b ∷ []))) h ∙ cut_once most_kept part (b ∷ [])) k)

-- From the start on.
pub all_answers : (ended : Bool) (input : List ℕ) (d : Desk) (out : List ℕ)
    → answers_after (start_of d out) input ended ≡ answers_of d 0 (lines_of ended input)
unfolding lines_of grown
all_answers ended input d out =
    answers_told ended input [] (start_of d out) 0 refl refl
    ∙ ap (λ (w : List (List ℕ)). answers_of d 0 (lines_in ended w)) (rw (some input).are)
