-- What a log in play writes while its input is read, and what is left of a reader and held by a writer, as far as their bytes are known.
use Rattle.std.specs.Prelude.{◌≡◌, ℕ, ◌+◌, ◌%◌, ◌^◌, Bool, true, List, [], ◌∷◌, ◌++◌, length, take, ◌==◌, Result, MatchResult}
use Rattle.std.specs.declared.option.Option.{Option}
use Rattle.std.specs.Io.KnownBytes.{Consumes, Appends, IsAtEnd}
use Rattle.basics.specs.Tests.{choose}
use Rattle.text.specs.Words.{newline}
use Rattle.desk.specs.declared.Desk.{Desk}
use Rattle.desk.specs.Desk.{empty_desk}
use Rattle.answer.specs.Answered.{played, answered}
use Rattle.play.specs.declared.Session.{Session}
use Rattle.play.specs.Log.{Log, line_number, next_line, longer, heard, ComesOf}
use Rattle.play.specs.Lines.{lines_of, Played}

-- The answer to the line that is kept, where it ends.
abbrev pub line_answer : Log → List ℕ
line_answer l = answered l.desk (line_number l) l.line

-- The answer to a line that goes on for a stretch of the input, if it ends then.
abbrev pub stretched_answers : Log → List ℕ → Bool → List ℕ
stretched_answers l bytes ends = choose ends (line_answer (longer l bytes)) []

-- The answers to the lines that end while input is taken in, byte by byte.
unfoldable pub heard_answers : Log → List ℕ → List ℕ
heard_answers l [] = []
heard_answers l (b ∷ rest) =
    choose (b == newline) (line_answer l ++ heard_answers (next_line l) rest) (heard_answers (longer l (b ∷ [])) rest)

-- The answer to the last line, if it lacks its newline.
unfoldable pub last_answers : Log → List ℕ
last_answers l = choose (length l.line == 0) [] (line_answer l)

-- The answers to some input, its last line included where the input has ended.
unfoldable pub answers_after : Log → List ℕ → Bool → List ℕ
answers_after l input ended = heard_answers l input ++ choose ended (last_answers (heard l input)) []

-- The answers to lines, played one after the other after so many others.
unfoldable pub answers_of : Desk → ℕ → List (List ℕ) → List ℕ
answers_of d n [] = []
answers_of d n (line ∷ rest) = answered d ((n + 1) % 2 ^ 64) line ++ answers_of (played d line) (n + 1) rest

-- A writer holds the first of some bytes more than before.
abbrev pub AppendsFront : Option (List ℕ) → Option (List ℕ) → List ℕ → Type 0
AppendsFront held holds bytes = (n : ℕ) × Appends held holds (take n bytes)

-- Some bytes were written; at an error the first of them.
abbrev pub Writes : {A E : Type 0} → Result A E → Option (List ℕ) → Option (List ℕ) → List ℕ → Type 0
Writes r held holds bytes = MatchResult r (λ _. Appends held holds bytes) (λ _. AppendsFront held holds bytes)

-- One log comes of another by what was taken from a reader, all of it where the input has ended, and the answers to that were written.
pub record Streamed (before now : Log) (left still held holds : Option (List ℕ)) : Type 0 where
  pub comes : ComesOf before now
  pub taken : Consumes left still comes.input
  pub at_end : now.ended ≡ true → IsAtEnd still
  pub written : Appends held holds (answers_after before comes.input now.ended)

-- A read or a write failed: some input was taken from a reader, and of the answers to it the first bytes were written.
pub record Failed (before : Log) (left still held holds : Option (List ℕ)) : Type 0 where
  pub input : List ℕ
  pub taken : Consumes left still input
  pub written : AppendsFront held holds (answers_after before input true)

-- A whole log was played: its input was taken from a reader, all of it where the input has ended, and the answers to its lines were written.
pub record Answers (s : Session) (left still held holds : Option (List ℕ)) : Type 0 where
  pub played : Played s
  pub taken : Consumes left still played.input
  pub at_end : s.ended ≡ true → IsAtEnd still
  pub written : Appends held holds (answers_of empty_desk 0 (lines_of s.ended played.input))

-- A log was cut short: some input was taken from a reader, and of the answers to its lines the first bytes were written.
pub record CutShort (left still held holds : Option (List ℕ)) : Type 0 where
  pub input : List ℕ
  pub taken : Consumes left still input
  pub written : AppendsFront held holds (answers_of empty_desk 0 (lines_of true input))
