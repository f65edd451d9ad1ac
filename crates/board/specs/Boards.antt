-- The boards that document 01 works by hand, W1 to W8: where their pins stand, by pin number.
use Rattle.std.specs.Prelude.{List, [], ◌∷◌, ℕ, ℤ, pos, neg_ℤ}
use Rattle.board.specs.declared.Place.{Place}
use Rattle.board.specs.Place.{place}

-- So much below zero.
abbrev pub below : ℕ → ℤ
below n = neg_ℤ (pos n)

-- W1: (100,100).
abbrev pub W1 : List Place
W1 = place (pos 100) (pos 100) ∷ []

-- W2: (0,0) (60,40).
abbrev pub W2 : List Place
W2 = place (pos 0) (pos 0) ∷ place (pos 60) (pos 40) ∷ []

-- W3: (0,0) (80,40) (80,-40).
abbrev pub W3 : List Place
W3 = place (pos 0) (pos 0) ∷ place (pos 80) (pos 40) ∷ place (pos 80) (below 40) ∷ []

-- W4: (0,0) (80,-40) (80,40).
abbrev pub W4 : List Place
W4 = place (pos 0) (pos 0) ∷ place (pos 80) (below 40) ∷ place (pos 80) (pos 40) ∷ []

-- W5: (0,20) (0,-20) (-20,0) (20,0).
abbrev pub W5 : List Place
W5 = place (pos 0) (pos 20) ∷ place (pos 0) (below 20) ∷ place (below 20) (pos 0) ∷ place (pos 20) (pos 0) ∷ []

-- W6: (0,0) (60,-20) (20,-60).
abbrev pub W6 : List Place
W6 = place (pos 0) (pos 0) ∷ place (pos 60) (below 20) ∷ place (pos 20) (below 60) ∷ []

-- W7: (0,0) (0,140).
abbrev pub W7 : List Place
W7 = place (pos 0) (pos 0) ∷ place (pos 0) (pos 140) ∷ []

-- W8: (0,0) (40,0) (-40,0) (0,40).
abbrev pub W8 : List Place
W8 = place (pos 0) (pos 0) ∷ place (pos 40) (pos 0) ∷ place (below 40) (pos 0) ∷ place (pos 0) (pos 40) ∷ []

-- All eight.
abbrev pub boards : List (List Place)
boards = W1 ∷ W2 ∷ W3 ∷ W4 ∷ W5 ∷ W6 ∷ W7 ∷ W8 ∷ []
