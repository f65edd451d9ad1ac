-- A whole log: its lines, played one after the other on one desk that is empty at first.
use Rattle.std.specs.Prelude.{◌≡◌, ℕ, ◌%◌, ◌^◌, Bool, not, List, [], ◌∷◌, length, ◌==◌}
use Rattle.basics.specs.Tests.{both, choose}
use Rattle.text.specs.Words.{newline, pieces}
use Rattle.desk.specs.declared.Desk.{Desk}
use Rattle.desk.specs.Desk.{empty_desk}
use Rattle.answer.specs.Answered.{played}
use Rattle.play.specs.declared.Session.{Session}

-- The lines among the pieces between newlines. What follows the last newline is a line where the input has ended and it is not empty.
unfoldable pub lines_in : Bool → List (List ℕ) → List (List ℕ)
lines_in ended [] = []
lines_in ended (last ∷ []) = choose (both ended (not (length last == 0))) (last ∷ []) []
lines_in ended (line ∷ next ∷ rest) = line ∷ lines_in ended (next ∷ rest)

-- The lines of an input that has ended or goes on.
unfoldable pub lines_of : Bool → List ℕ → List (List ℕ)
lines_of ended input = lines_in ended (pieces newline input)

-- The desk that lines leave, played one after the other.
unfoldable pub played_all : Desk → List (List ℕ) → Desk
played_all d [] = d
played_all d (line ∷ rest) = played_all (played d line) rest

-- What a session has come to: its desk is what the lines of some input make of the empty desk, and its count is theirs, in 64 bits.
pub record Played (s : Session) : Type 0 where
  pub input : List ℕ
  pub desk : s.desk ≡ played_all empty_desk (lines_of s.ended input)
  pub lines : s.lines ≡ length (lines_of s.ended input) % 2 ^ 64
