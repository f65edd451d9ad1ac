-- Bare wiring: lists of x and y as a feed, and its refusals.
use Rattle.std.specs.Prelude.{Bool, not, List, [], ◌∷◌, ◌++◌, ℕ, ℤ, pos, eqb, ltb, length, get_or, drop, None, Some}
use Rattle.basics.specs.Tests.{either, choose}
use Rattle.basics.specs.Lists.{values_from}
use Rattle.refusal.specs.Refusals.{accepted}
use Rattle.refusal.specs.Rows.{Row, given, first_of}
use Rattle.refusal.specs.declared.Refusal.TheVariants.{ListLengths, NoPins, Outside, PinTooNear}
use Rattle.board.specs.Place.{place}
use Rattle.board.specs.Spots.{Spot, most_pins, all_within, all_apart}
use Rattle.wiring.specs.declared.Laid.{Laid}
use Rattle.wiring.specs.Answer.{turned_away, wiring_of, feed_rows}
use Rattle.copper.specs.declared.Favour.{Favour}

-- The pin at a position of lists of x and y: one is there for each x.
abbrev pub listed_at : List ℤ → List ℤ → ℕ → Spot
listed_at xs ys i = choose (ltb i (length xs)) (Some (place (get_or xs i (pos 0)) (get_or ys i (pos 0)))) None

-- The pins of lists of x and y, numbered by position.
unfoldable pub feed_of_lists : List ℤ → List ℤ → List Spot
feed_of_lists xs ys = values_from (listed_at xs ys) 0 most_pins

-- x and y lists differ in length, or exceed 32.
unfoldable pub wrong_lengths : List ℤ → List ℤ → Bool
wrong_lengths xs ys = either (not (eqb (length xs) (length ys))) (ltb most_pins (length xs))

-- What the lists say: 16, 17, 8, 9.
abbrev pub list_rows : List ℤ → List ℤ → List Row
list_rows xs ys =
    given (wrong_lengths xs ys) ListLengths
    ∷ given (eqb (length xs) 0) NoPins
    ∷ given (not (all_within (feed_of_lists xs ys))) Outside
    ∷ given (not (all_apart (feed_of_lists xs ys))) PinTooNear
    ∷ []

-- Bare wiring: 16, 17, 8, 9, then what wiring the feed says after its 17: 19.
abbrev pub bare_rows : List ℤ → List ℤ → ℕ → Favour → List Row
bare_rows xs ys room favour = list_rows xs ys ++ drop 1 (feed_rows (feed_of_lists xs ys) room favour)

-- Bare wiring: what the lists say, or the wiring of their feed.
unfoldable pub bare_of : List ℤ → List ℤ → ℕ → Favour → Laid
bare_of xs ys room favour =
    choose (accepted (first_of (list_rows xs ys))) (wiring_of (feed_of_lists xs ys) room favour) (turned_away (first_of (list_rows xs ys)))
