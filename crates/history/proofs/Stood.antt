-- Standing edits, each of which could be made in its turn: the pins that they lead to keep the rules, and from these they can be taken back.
-- And the way back: edits that can be taken back from these pins stood on the pins before. From the laws of edits; assumes nothing.
use mathlib.Core.Path.{◌≡◌, refl}
use mathlib.Core.Bool.{true}
use mathlib.Core.List.{List, [], ◌∷◌}
use Rattle.drawing.specs.Pins.{Pin, lawful}
use Rattle.edits.specs.declared.Edit.{Edit}
use Rattle.edits.specs.Edits.{makeable, made, takeable, unmade}
use Rattle.edits.proofs.Making.{unmade-made, made-lawful, made-takeable, unmade-makeable, made-unmade, unmade-lawful}
use Rattle.journal.specs.Journal.{takeable_all}
use Rattle.journal.proofs.Turns.{turn_nil, turn_first, turn_rest, turn_cons}
use Rattle.history.specs.History.{pins_by}
use Rattle.history.specs.AsPast.{pins_before}

-- Standing edits, the latest first, each of which could be made in its turn.
unfoldable pub stood : List Pin → List Edit → Type 0
stood first [] = Unit {0}
stood first (e ∷ earlier) = (makeable (pins_by first earlier) e ≡ true) × stood first earlier

-- The pins that they lead to keep the rules.
pub stood_lawful : (first : List Pin) (l : List Edit) → lawful first ≡ true → stood first l → lawful (pins_by first l) ≡ true
unfolding stood pins_by
stood_lawful first [] h s = h
stood_lawful first (e ∷ l) h s = made-lawful (pins_by first l) e s.0

-- From these they can be taken back.
pub stood_takeable : (first : List Pin) (l : List Edit) → lawful first ≡ true → stood first l → takeable_all (pins_by first l) l ≡ true
unfolding stood pins_by
stood_takeable first [] h s = turn_nil takeable unmade first
stood_takeable first (e ∷ l) h s =
    turn_cons takeable unmade (made (pins_by first l) e) e l
    (made-takeable (pins_by first l) e s.0 (stood_lawful first l h s.1))
    (rw (unmade-made (pins_by first l) e s.0) (stood_takeable first l h s.1))

-- Those pins keep the rules, the edits stood on them, and lead to the pins as they are.
pub record Traced (q : List Pin) (l : List Edit) : Type 0 where
  pub start : lawful (pins_before q l) ≡ true
  pub stands : stood (pins_before q l) l
  pub ends : pins_by (pins_before q l) l ≡ q

-- So it is with edits that can all be taken back from pins that keep the rules.
pub traced : (l : List Edit) (q : List Pin) → lawful q ≡ true → takeable_all q l ≡ true → Traced q l
unfolding pins_before stood pins_by
traced [] q h t = record { start = h; stands = tt; ends = refl }
traced (e ∷ l) q h t =
    let m : takeable q e ≡ true = turn_first takeable unmade q e l t in
    let i : Traced (unmade q e) l = traced l (unmade q e) (unmade-lawful q e m) (turn_rest takeable unmade q e l t) in
    record {
      start = i.start;
      stands = (rw i.ends (unmade-makeable q e m), i.stands);
      ends = rw i.ends (made-unmade q e m);
    }
