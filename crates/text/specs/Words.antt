-- A line cut into its words.
use Rattle.std.specs.Prelude.{Bool, true, false, List, [], ◌∷◌, ℕ, suc, ◌+◌, ◌-◌, eqb, length, take, drop, get_or}
use Rattle.basics.specs.Tests.{choose}

-- The byte of a space.
abbrev pub space : ℕ
space = 32

-- The byte of a newline.
abbrev pub newline : ℕ
newline = 10

-- The byte of a carriage return.
abbrev pub return : ℕ
return = 13

-- The byte of a comma.
abbrev pub comma : ℕ
comma = 44

-- The byte of a minus.
abbrev pub minus : ℕ
minus = 45

-- The byte of the sign before a remark.
abbrev pub hash : ℕ
hash = 35

-- Where a line ends, when a carriage return at its end is dropped.
unfoldable pub end_of : List ℕ → ℕ
end_of line = choose (eqb (get_or line (length line - 1) 0) return) (length line - 1) (length line)

-- A line without a carriage return at its end.
abbrev pub without_return : List ℕ → List ℕ
without_return line = take (end_of line) line

-- A byte put before the first of some pieces.
unfoldable pub before_first : ℕ → List (List ℕ) → List (List ℕ)
before_first b [] = (b ∷ []) ∷ []
before_first b (p ∷ rest) = (b ∷ p) ∷ rest

-- The pieces between single separators.
unfoldable pub pieces : ℕ → List ℕ → List (List ℕ)
pieces s [] = [] ∷ []
pieces s (b ∷ rest) = choose (eqb b s) ([] ∷ pieces s rest) (before_first b (pieces s rest))

-- The pieces that hold something.
unfoldable pub non_empty : List (List ℕ) → List (List ℕ)
non_empty [] = []
non_empty ([] ∷ rest) = non_empty rest
non_empty ((b ∷ p) ∷ rest) = (b ∷ p) ∷ non_empty rest

-- Words are separated by one or more spaces, also before the first and after the last.
unfoldable pub words_of : List ℕ → List (List ℕ)
words_of line = non_empty (pieces space line)

-- The word of a number, counted from 0; empty where there are not so many.
abbrev pub word : ℕ → List (List ℕ) → List ℕ
word k words = get_or words k []

-- How many spaces a text begins with.
unfoldable pub spaces_of : List ℕ → ℕ
spaces_of [] = 0
spaces_of (b ∷ rest) = choose (eqb b space) (suc (spaces_of rest)) 0

-- Where a separator is found: here, or one after where it is found in what follows.
unfoldable pub index_after : Bool → ℕ → ℕ
index_after true n = 0
index_after false n = suc n

-- Where a separator first stands in a text, or the text's length where it stands nowhere.
unfoldable pub index_of : ℕ → List ℕ → ℕ
index_of s [] = 0
index_of s (b ∷ rest) = index_after (eqb b s) (index_of s rest)

-- Where the next separator stands, from a position on.
unfoldable pub stop_at : ℕ → List ℕ → ℕ → ℕ
stop_at s line at = at + index_of s (drop at line)
