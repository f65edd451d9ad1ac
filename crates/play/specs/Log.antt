-- A log in play: what the bytes of the input make of it.
use Rattle.std.specs.Prelude.{◌≡◌, ℕ, ◌+◌, ◌%◌, ◌^◌, Bool, true, List, [], ◌∷◌, ◌++◌, length, take, ◌==◌, slice_set}
use Rattle.basics.specs.Tests.{choose}
use Rattle.text.specs.Text.{over}
use Rattle.text.specs.Words.{newline}
use Rattle.desk.specs.declared.Desk.{Desk}
use Rattle.answer.specs.Answered.{played, answered}
use Rattle.play.specs.declared.Session.{Session}

-- Of a longer line it is enough to keep so many bytes: with or without a carriage return they are too many.
abbrev pub most_kept : ℕ
most_kept = 16386

-- The log after some input: the desk as it stands, what is kept of the line that is being read, how many lines were played,
-- whether the input has ended, and the buffer that each answer is put into.
pub record Log : Type 0 where
  pub desk : Desk
  pub line : List ℕ
  pub lines : ℕ
  pub ended : Bool
  pub out : List ℕ

-- The log of a session, with the buffer that keeps its line and the buffer of its answers.
abbrev pub log_of : Session → List ℕ → List ℕ → Log
log_of s line out = record { desk = s.desk; line = take s.kept line; lines = s.lines; ended = s.ended; out = out }

-- The number of the line that is being read: lines are counted from 1, in 64 bits.
abbrev pub line_number : Log → ℕ
line_number l = (l.lines + 1) % 2 ^ 64

-- The line ends: it is played, answered and counted, and the next one begins.
abbrev pub next_line : Log → Log
next_line l =
    record {
      desk = played l.desk l.line;
      line = [];
      lines = line_number l;
      ended = l.ended;
      out = over (answered l.desk (line_number l) l.line) l.out;
    }

-- The line goes on, and is kept as far as is enough to read it.
abbrev pub longer : Log → List ℕ → Log
longer l bytes =
    record {
      desk = l.desk;
      line = take most_kept (l.line ++ bytes);
      lines = l.lines;
      ended = l.ended;
      out = l.out;
    }

-- The line goes on for a stretch of the input, and then ends or not.
abbrev pub stretched : Log → List ℕ → Bool → Log
stretched l bytes ends = choose ends (next_line (longer l bytes)) (longer l bytes)

-- Input taken in, byte by byte: at a newline the line ends.
unfoldable pub heard : Log → List ℕ → Log
heard l [] = l
heard l (b ∷ rest) = heard (choose (b == newline) (next_line l) (longer l (b ∷ []))) rest

-- How many bytes of a window are taken in, where so many came and this is kept of the line: where none came, the input has ended, and a line that was begun
-- lacks its newline.
abbrev pub bytes_heard : ℕ → List ℕ → ℕ
bytes_heard came line = choose (came == 0) (choose (length line == 0) 0 1) came

-- The window then begins with that newline.
abbrev pub window_heard : ℕ → List ℕ → List ℕ
window_heard came window = choose (came == 0) (slice_set window 0 newline) window

-- The input is known to have ended.
abbrev pub stopped : Log → Log
stopped l = record { desk = l.desk; line = l.line; lines = l.lines; ended = true; out = l.out }

-- The input ends. The last line may lack its newline; with no byte after the last newline there is no line more.
unfoldable pub last_heard : Log → Log
last_heard l = choose (length l.line == 0) (stopped l) (next_line (stopped l))

-- What some input makes of a log, its end included where the input has ended.
unfoldable pub log_after : Log → List ℕ → Bool → Log
log_after l input ended = choose ended (last_heard (heard l input)) (heard l input)

-- One log comes of another: by some input, which is all that was read between them.
pub record ComesOf (before now : Log) : Type 0 where
  pub input : List ℕ
  pub is : now ≡ log_after before input now.ended
