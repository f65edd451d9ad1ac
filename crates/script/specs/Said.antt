-- What a line says: nothing, no call, or a call with its numbers; and the map, the lists, the shape to favour, the board sheet and the loads that it gives.
use Rattle.std.specs.Prelude.{Bool, List, [], ◌∷◌, ℕ, ℤ, ltb, eqb, length, get_or}
use Prim.Native.String.{String}
use Rattle.basics.specs.Tests.{both, either, choose}
use Rattle.board.specs.Place.{place}
use Rattle.board.specs.declared.Place.{Place}
use Rattle.copper.specs.declared.Favour.{Favour}
use Rattle.loads.specs.declared.Sheet.{Sheet}
use Rattle.loads.specs.declared.Load.{Load}
use Rattle.text.specs.Text.{text, same, most_room}
use Rattle.text.specs.Words.{hash, without_return, words_of, word}
use Rattle.text.specs.Numbers.{most_number, most_job, value_of, is_number, is_coordinate, signed, listed, is_list, spelled, is_map, is_bits, float_of}
use Rattle.pinmap.specs.declared.Form.{Form}
use Rattle.pinmap.specs.declared.Form.TheVariants.{Old, New}
use Rattle.script.specs.declared.Said.{Said}
use Rattle.script.specs.Loads.{is_loads, loads_in}

-- A line of more bytes is not a call.
abbrev pub most_line : ℕ
most_line = 16384

-- The most legs or segments that a call lends.
abbrev pub most_legs_lent : ℕ
most_legs_lent = 64

-- Words out of their form or range, too few or too many, are not a call.
unfoldable pub only : Bool → Said → Said
only b said = choose b said Said.NotACall

-- The number that is the word of a number.
abbrev pub number_in : ℕ → List (List ℕ) → ℕ
number_in k words = value_of (word k words)

-- NAME SEAT.
unfoldable pub is_seat_alone : List (List ℕ) → Bool
is_seat_alone words = both (eqb (length words) 2) (is_number most_number (word 1 words))

-- After the name a seat and one number more, up to the given one.
abbrev pub has_two : ℕ → List (List ℕ) → Bool
has_two top words = both (is_number most_number (word 1 words)) (is_number top (word 2 words))

-- NAME SEAT and such a number.
unfoldable pub is_pair : ℕ → List (List ℕ) → Bool
is_pair top words = both (eqb (length words) 3) (has_two top words)

-- So many words, of which those after the name are SEAT PIN X Y.
unfoldable pub is_placing : ℕ → List (List ℕ) → Bool
is_placing n words =
    both (eqb (length words) n)
    (both (is_number most_number (word 1 words))
    (both (is_number most_number (word 2 words)) (both (is_coordinate (word 3 words)) (is_coordinate (word 4 words)))))

-- The place of X and Y.
abbrev pub place_in : List (List ℕ) → Place
place_in words = place (signed (word 3 words)) (signed (word 4 words))

-- A call on a seat.
unfoldable pub seat_call : (ℕ → Said) → List (List ℕ) → Said
seat_call call words = only (is_seat_alone words) (call (number_in 1 words))

-- A call on a seat with one number more, up to the given one.
unfoldable pub pair_call : ℕ → (ℕ → ℕ → Said) → List (List ℕ) → Said
pair_call top call words = only (is_pair top words) (call (number_in 1 words) (number_in 2 words))

-- NET PART, after X and Y.
abbrev pub has_net_and_part : List (List ℕ) → Bool
has_net_and_part words = both (is_number most_number (word 5 words)) (is_number most_number (word 6 words))

-- place SEAT PIN X Y NET PART.
unfoldable pub place_call : List (List ℕ) → Said
place_call words =
    only (both (is_placing 7 words) (has_net_and_part words))
    (Said.Place (number_in 1 words) (number_in 2 words) (place_in words) (number_in 5 words) (number_in 6 words))

-- move SEAT PIN X Y.
unfoldable pub move_call : List (List ℕ) → Said
move_call words = only (is_placing 5 words) (Said.Move (number_in 1 words) (number_in 2 words) (place_in words))

-- FAVOUR: the shape that a word names; where it names none, nothing is said.
unfoldable pub favour_in : List ℕ → Favour
favour_in w = choose (same w (text "lower")) Favour.Lower (choose (same w (text "upper")) Favour.Upper Favour.Unsaid)

-- Four words, or one more that is `lower` or `upper`.
unfoldable pub ends_in_favour : List (List ℕ) → Bool
ends_in_favour words =
    either (eqb (length words) 4)
    (both (eqb (length words) 5) (either (same (word 4 words) (text "lower")) (same (word 4 words) (text "upper"))))

-- FORM: `old` or `new`.
unfoldable pub is_form : List ℕ → Bool
is_form w = either (same w (text "old")) (same w (text "new"))

-- The form that such a word names.
unfoldable pub form_in : List ℕ → Form
form_in w = choose (same w (text "old")) Old New

-- open SEAT JOB FORM MAP.
unfoldable pub open_call : List (List ℕ) → Said
open_call words =
    only
    (both (eqb (length words) 5)
    (both (is_number most_number (word 1 words)) (both (is_number most_job (word 2 words)) (both (is_form (word 3 words)) (is_map (word 4 words))))))
    (Said.Open (number_in 1 words) (number_in 2 words) (form_in (word 3 words)))

-- NAME JOB ROOM MAP: moving a map to a form.
unfoldable pub moving_call : Form → List (List ℕ) → Said
moving_call to words =
    only
    (both (eqb (length words) 4) (both (is_number most_job (word 1 words)) (both (is_number most_room (word 2 words)) (is_map (word 3 words)))))
    (Said.Moved to (number_in 1 words) (number_in 2 words))

-- NAME SEAT NET ROOM [FAVOUR].
unfoldable pub is_lending : List (List ℕ) → Bool
is_lending words = both (ends_in_favour words) (both (has_two most_number words) (is_number most_legs_lent (word 3 words)))

-- A call that lends a list for what is asked of a net of a seat.
unfoldable pub lending_call : (ℕ → ℕ → ℕ → Said) → List (List ℕ) → Said
lending_call call words = only (is_lending words) (call (number_in 1 words) (number_in 2 words) (number_in 3 words))

-- bare ROOM XS YS [FAVOUR].
unfoldable pub bare_call : List (List ℕ) → Said
bare_call words =
    only
    (both (ends_in_favour words) (both (is_number most_legs_lent (word 1 words)) (both (is_list (word 2 words)) (is_list (word 3 words)))))
    (Said.Bare (number_in 1 words))

-- drops SEAT NET VOLTS OHMS LOADS.
unfoldable pub drops_call : List (List ℕ) → Said
drops_call words =
    only
    (both (eqb (length words) 6)
    (both (has_two most_number words) (both (is_bits (word 3 words)) (both (is_bits (word 4 words)) (is_loads (word 5 words))))))
    (Said.Drops (number_in 1 words) (number_in 2 words))

-- The calls: the name of each, and what the words of such a line say.
abbrev pub calls : List (String × (List (List ℕ) → Said))
calls =
    ("open", open_call)
    ∷ ("close", seat_call Said.Close)
    ∷ ("place", place_call)
    ∷ ("move", move_call)
    ∷ ("remove", pair_call most_number Said.Remove)
    ∷ ("undo", seat_call Said.Undo)
    ∷ ("redo", seat_call Said.Redo)
    ∷ ("write", pair_call most_room Said.Write)
    ∷ ("wire", lending_call Said.Wire)
    ∷ ("mill", lending_call Said.Mill)
    ∷ ("bare", bare_call)
    ∷ ("drops", drops_call)
    ∷ ("over", moving_call New)
    ∷ ("back", moving_call Old)
    ∷ ("pins", seat_call Said.Pins)
    ∷ []

-- What words say by the first of these calls that has the name given; with none it is not a call.
unfoldable pub said_as : List (String × (List (List ℕ) → Said)) → List ℕ → List (List ℕ) → Said
said_as [] name words = Said.NotACall
said_as (call ∷ rest) name words = choose (same name (text call.0)) (call.1 words) (said_as rest name words)

-- The call that the first word names.
unfoldable pub call_in : List (List ℕ) → Said
call_in words = said_as calls (word 0 words) words

-- A line with no word, or whose first word begins with #, is skipped.
unfoldable pub is_skipped : List ℕ → Bool
is_skipped name = either (eqb (length name) 0) (eqb (get_or name 0 0) hash)

-- What the words of a line say.
unfoldable pub said_in : List (List ℕ) → Said
said_in words = choose (is_skipped (word 0 words)) Said.Skip (call_in words)

-- A line of more than 16,384 bytes is not a call.
unfoldable pub is_long : List ℕ → Bool
is_long line = ltb most_line (length (without_return line))

-- The words of a line.
abbrev pub words_in : List ℕ → List (List ℕ)
words_in line = words_of (without_return line)

-- What a line says.
unfoldable pub said_by : List ℕ → Said
said_by line = choose (is_long line) Said.NotACall (said_in (words_in line))

-- The bytes of the map in a line, in the word after so many.
unfoldable pub map_given : ℕ → List ℕ → List ℕ
map_given n line = spelled (word n (words_in line))

-- The x in a bare wiring's line,
unfoldable pub xs_given : List ℕ → List ℤ
xs_given line = listed (word 2 (words_in line))

-- and its y.
unfoldable pub ys_given : List ℕ → List ℤ
ys_given line = listed (word 3 (words_in line))

-- What the line says of the shape to favour, in the word after four.
unfoldable pub favour_given : List ℕ → Favour
favour_given line = favour_in (word 4 (words_in line))

-- The board sheet in a line that asks for drops: VOLTS, OHMS.
unfoldable pub sheet_given : List ℕ → Sheet
sheet_given line = record { volts = float_of (word 3 (words_in line)); ohms = float_of (word 4 (words_in line)) }

-- The loads in such a line, by pin number.
unfoldable pub loads_given : List ℕ → List Load
loads_given line = loads_in (word 5 (words_in line))
