-- Texts as bytes, and what a lent buffer holds once something is written from its start on.
use Rattle.std.specs.Prelude.{◌≡◌, Bool, true, false, List, [], ◌∷◌, ◌++◌, ℕ, ◌≤◌, eqb, length}
use Prim.Native.Char.{code}
use Prim.Native.String.{String}
use Rattle.std.proofs.lemmas.List.Edits.{sets}
use Rattle.basics.specs.Tests.{both}

-- The bytes of a text.
abbrev pub text : String → List ℕ
text String.[] = []
text (String.◌∷◌ c rest) = code c ∷ text rest

-- A text for each of a list, one after the other.
unfoldable pub text_for_each : {A : Type 0} → (A → List ℕ) → List A → List ℕ
text_for_each print [] = []
text_for_each print (a ∷ rest) = print a ++ text_for_each print rest

-- Two lists hold the same bytes.
unfoldable pub same : List ℕ → List ℕ → Bool
same [] [] = true
same [] (b ∷ v) = false
same (a ∷ u) [] = false
same (a ∷ u) (b ∷ v) = both (eqb a b) (same u v)

-- A buffer with something stored in it, one after the other, from its start on; what lies after that stays.
abbrev pub over : {A : Type 0} → List A → List A → List A
over new old = sets old 0 new

-- The most bytes that a call lends.
abbrev pub most_room : ℕ
most_room = 1024

-- An answer has room for so many bytes.
abbrev pub answer_bytes : ℕ
answer_bytes = 8192

-- So many bytes of a lent buffer, at most `most`, are the text that is printed, from its start on; what lies after them stays.
abbrev pub Holds : ℕ → List ℕ → List ℕ → ℕ → List ℕ → Type 0
Holds most printed before count after = ((count ≡ length printed) × (count ≤ most)) × (after ≡ over printed before)
