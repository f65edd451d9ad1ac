-- Input taken in a stretch at a time is what it is byte by byte, and input in parts what it is in one. Assumes nothing.
use Rattle.std.proofs.Common.{◌≡◌, ℕ, suc, ◌+◌, ◌-◌, ◌<◌, ◌≤◌, Bool, true, false, eqb, ltb, ◌⊎◌, List, [], ◌∷◌, ◌++◌, length, take, drop, sym, refl, ap, ◌∙◌, inl, inr, append_assoc, append-nil, arith, length-drop, length-take, length-take-le, take_all, drop-drop, take_at, le-ltb, lt-ltb}
use lib.Dec.{leb-suc-suc}
use lib.Seq.{take-append-le}
use Rattle.text.specs.Words.{index_of, index_after}
use Rattle.basics.specs.Tests.{choose}
use Rattle.text.specs.Words.{newline, stop_at}
use Rattle.play.specs.Log.{most_kept}
use Rattle.board.proofs.Flat.{order}
use Rattle.play.specs.Log.{Log, next_line, longer, stretched, heard, stopped, last_heard}
use Rattle.play.specs.Answers.{line_answer, stretched_answers, heard_answers, last_answers, answers_after}

-- Cut and gone on with, then cut, is gone on with and cut.
pub cut_once : (m : ℕ) (a b : List ℕ) → take m (take m a ++ b) ≡ take m (a ++ b)
cut_once m a b = by (order (length a) m)
  where
    by : (length a ≤ m) ⊎ (m < length a) → take m (take m a ++ b) ≡ take m (a ++ b)
    by (inl h) = rw (take_all m a h)
    by (inr h) =
        take_at (take m a) b m (length-take-le m a (omega arith)) ∙ sym (take-append-le m a b (omega arith))

-- A log with another line.
abbrev with_line : Log → List ℕ → Log
with_line l line = record { desk = l.desk; line = line; lines = l.lines; ended = l.ended; out = l.out }

-- A line that goes on for nothing stays.
longer-none : (l : Log) → length l.line ≤ most_kept → longer l [] ≡ l
longer-none l h = ap (with_line l) (rw append-nil (take_all most_kept l.line h))

-- A line that goes on twice goes on by both.
longer_more : (l : Log) (a b : List ℕ) → longer (longer l a) b ≡ longer l (a ++ b)
longer_more l a b = ap (with_line l) (cut_once most_kept (l.line ++ a) b ∙ ap (take most_kept) (append_assoc l.line a b))

-- What is kept of a line is not too long.
short : (l : Log) (a : List ℕ) → length (longer l a).line ≤ most_kept
short l a = omega (arith, length-take most_kept (l.line ++ a))

-- The log at the next newline, or at the end of what there is.
abbrev to_newline : Log → List ℕ → Log
to_newline l v = stretched l (take (index_of newline v) v) (ltb (index_of newline v) (length v))

-- What comes after the next newline.
abbrev past_newline : List ℕ → List ℕ
past_newline v = drop (suc (index_of newline v)) v

-- Input taken in is the stretch up to the next newline taken in, and then what comes after it.
stretch : (v : List ℕ) (l : Log) → length l.line ≤ most_kept → heard l v ≡ heard (to_newline l v) (past_newline v)
unfolding index_of index_after heard choose
stretch [] l h = sym (longer-none l h)
stretch (b ∷ v) l h = by (eqb b newline) (stretch v (longer l (b ∷ [])) (short l (b ∷ [])))
  where
    by : (t : Bool) → heard (longer l (b ∷ [])) v ≡ heard (to_newline (longer l (b ∷ [])) v) (past_newline v)
        → heard (choose t (next_line l) (longer l (b ∷ []))) v
        ≡ heard (stretched l (take (index_after t (index_of newline v)) (b ∷ v)) (ltb (index_after t (index_of newline v)) (suc (length v))))
        (drop (suc (index_after t (index_of newline v))) (b ∷ v))
    by true step =
        ap (λ (m : Log). heard (next_line m) v) (sym (longer-none l h))
        ∙ ap (λ (t : Bool). heard (stretched l [] t) v) (sym (lt-ltb 0 (suc (length v)) (omega arith)))
    by false step =
        let n : ℕ = index_of newline v in
        let line : List ℕ = take n v in
        step
        ∙ ap (λ (m : Log). heard (choose (ltb n (length v)) (next_line m) m) (past_newline v)) (longer_more l (b ∷ []) line)
        ∙ ap (λ (t : Bool). heard (stretched l (b ∷ line) t) (past_newline v)) (sym (leb-suc-suc (suc n) (length v)))

-- The same of a window, from a position in it up to the next newline.
pub stretch_at : (w : List ℕ) (at to : ℕ) (l : Log) → length l.line ≤ most_kept → at ≤ length w → to ≡ stop_at newline w at
    → heard (stretched l (take (to - at) (drop at w)) (ltb to (length w))) (drop (to + 1) w) ≡ heard l (drop at w)
unfolding stop_at
stretch_at w at to l h k e =
    let n : ℕ = index_of newline (drop at w) in
    let p : to - at ≡ n = omega arith in
    let q : at + suc n ≡ to + 1 = omega arith in
    let t : ltb n (length (drop at w)) ≡ ltb to (length w) = by (order (length w) to) in
    sym (stretch (drop at w) l h ∙ rw (p, t, drop-drop (suc n) at w, q))
  where
    by : (length w ≤ to) ⊎ (to < length w) → ltb (index_of newline (drop at w)) (length (drop at w)) ≡ ltb to (length w)
    by (inl g) =
        le-ltb (index_of newline (drop at w)) (length (drop at w)) (omega (arith, length-drop at w)) ∙ sym (le-ltb to (length w) g)
    by (inr g) =
        lt-ltb (index_of newline (drop at w)) (length (drop at w)) (omega (arith, length-drop at w)) ∙ sym (lt-ltb to (length w) g)

-- Input in parts is the same input in one.
pub heard_parts : (a b : List ℕ) (l : Log) → heard (heard l a) b ≡ heard l (a ++ b)
unfolding heard
heard_parts [] b l = refl
heard_parts (c ∷ a) b l = heard_parts a b (choose (eqb c newline) (next_line l) (longer l (c ∷ [])))

-- No byte says that the input has ended.
pub heard_ended : (v : List ℕ) (l : Log) → (heard l v).ended ≡ l.ended
unfolding heard choose
heard_ended [] l = refl
heard_ended (b ∷ v) l = by (eqb b newline) (heard_ended v)
  where
    by : (t : Bool) → ((m : Log) → (heard m v).ended ≡ m.ended)
        → (heard (choose t (next_line l) (longer l (b ∷ []))) v).ended ≡ l.ended
    by true step = step (next_line l)
    by false step = step (longer l (b ∷ []))

-- At its end it has.
pub last_ended : (l : Log) → (last_heard l).ended ≡ true
unfolding last_heard choose
last_ended l = by (eqb (length l.line) 0)
  where
    by : (t : Bool) → (choose t (stopped l) (next_line (stopped l))).ended ≡ true
    by true = refl
    by false = refl

-- ---- the answers that are written while input is taken in

-- The answers to some input are the one to the line that ends at the next newline, if there is one, and then those to what comes after it.
stretch_answers : (v : List ℕ) (l : Log) → length l.line ≤ most_kept
    → heard_answers l v
    ≡ stretched_answers l (take (index_of newline v) v) (ltb (index_of newline v) (length v)) ++ heard_answers (to_newline l v) (past_newline v)
unfolding index_of index_after heard_answers choose
stretch_answers [] l h = refl
stretch_answers (b ∷ v) l h = by (eqb b newline) (stretch_answers v (longer l (b ∷ [])) (short l (b ∷ [])))
  where
    by : (t : Bool)
        → heard_answers (longer l (b ∷ [])) v
        ≡ stretched_answers (longer l (b ∷ [])) (take (index_of newline v) v) (ltb (index_of newline v) (length v))
        ++ heard_answers (to_newline (longer l (b ∷ [])) v) (past_newline v)
        → choose t (line_answer l ++ heard_answers (next_line l) v) (heard_answers (longer l (b ∷ [])) v)
        ≡ stretched_answers l (take (index_after t (index_of newline v)) (b ∷ v)) (ltb (index_after t (index_of newline v)) (suc (length v)))
        ++ heard_answers
        (stretched l (take (index_after t (index_of newline v)) (b ∷ v)) (ltb (index_after t (index_of newline v)) (suc (length v))))
        (drop (suc (index_after t (index_of newline v))) (b ∷ v))
    by true step =
        ap (λ (m : Log). line_answer m ++ heard_answers (next_line m) v) (sym (longer-none l h))
        ∙ ap (λ (t : Bool). stretched_answers l [] t ++ heard_answers (stretched l [] t) v) (sym (lt-ltb 0 (suc (length v)) (omega arith)))
    by false step =
        let n : ℕ = index_of newline v in
        let line : List ℕ = take n v in
        step
        ∙ ap (λ (m : Log). choose (ltb n (length v)) (line_answer m) [] ++ heard_answers (choose (ltb n (length v)) (next_line m) m) (past_newline v)) (longer_more l (b ∷ []) line)
        ∙ ap (λ (t : Bool). stretched_answers l (b ∷ line) t ++ heard_answers (stretched l (b ∷ line) t) (past_newline v)) (sym (leb-suc-suc (suc n) (length v)))

-- The same of a window, from a position in it up to the next newline.
pub stretch_answers_at : (w : List ℕ) (at to : ℕ) (l : Log) → length l.line ≤ most_kept → at ≤ length w → to ≡ stop_at newline w at
    → stretched_answers l (take (to - at) (drop at w)) (ltb to (length w))
    ++ heard_answers (stretched l (take (to - at) (drop at w)) (ltb to (length w))) (drop (to + 1) w)
    ≡ heard_answers l (drop at w)
unfolding stop_at
stretch_answers_at w at to l h k e =
    let n : ℕ = index_of newline (drop at w) in
    let p : to - at ≡ n = omega arith in
    let q : at + suc n ≡ to + 1 = omega arith in
    let t : ltb n (length (drop at w)) ≡ ltb to (length w) = by (order (length w) to) in
    sym (stretch_answers (drop at w) l h ∙ rw (p, t, drop-drop (suc n) at w, q))
  where
    by : (length w ≤ to) ⊎ (to < length w) → ltb (index_of newline (drop at w)) (length (drop at w)) ≡ ltb to (length w)
    by (inl g) =
        le-ltb (index_of newline (drop at w)) (length (drop at w)) (omega (arith, length-drop at w)) ∙ sym (le-ltb to (length w) g)
    by (inr g) =
        lt-ltb (index_of newline (drop at w)) (length (drop at w)) (omega (arith, length-drop at w)) ∙ sym (lt-ltb to (length w) g)

-- The answers to input in parts.
pub heard_answers_parts : (a b : List ℕ) (l : Log) → heard_answers l a ++ heard_answers (heard l a) b ≡ heard_answers l (a ++ b)
unfolding heard heard_answers choose
heard_answers_parts [] b l = refl
heard_answers_parts (c ∷ a) b l = by (eqb c newline) (heard_answers_parts a b)
  where
    by : (t : Bool) → ((m : Log) → heard_answers m a ++ heard_answers (heard m a) b ≡ heard_answers m (a ++ b))
        → choose t (line_answer l ++ heard_answers (next_line l) a) (heard_answers (longer l (c ∷ [])) a)
        ++ heard_answers (heard (choose t (next_line l) (longer l (c ∷ []))) a) b
        ≡ choose t (line_answer l ++ heard_answers (next_line l) (a ++ b)) (heard_answers (longer l (c ∷ [])) (a ++ b))
    by true step =
        append_assoc (line_answer l) (heard_answers (next_line l) a) (heard_answers (heard (next_line l) a) b)
        ∙ ap (λ (w : List ℕ). line_answer l ++ w) (step (next_line l))
    by false step = step (longer l (c ∷ []))

-- The same of input that may have ended.
pub answers_parts : (a b : List ℕ) (l : Log) (ended : Bool) → heard_answers l a ++ answers_after (heard l a) b ended ≡ answers_after l (a ++ b) ended
unfolding answers_after
answers_parts a b l ended =
    let rest : Log → List ℕ = λ m. choose ended (last_answers m) [] in
    sym (append_assoc (heard_answers l a) (heard_answers (heard l a) b) (rest (heard (heard l a) b)))
    ∙ ap (λ (w : List ℕ). w ++ rest (heard (heard l a) b)) (heard_answers_parts a b l)
    ∙ ap (λ (m : Log). heard_answers l (a ++ b) ++ rest m) (heard_parts a b l)
