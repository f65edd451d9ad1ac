-- Edits as changes of the one pin that they name: what making and taking back leave, and that on pins that keep the rules the test of that pin is the
-- test of the edit. Assumes nothing.
use mathlib.Core.Path.{◌≡◌, refl, ap, sym, ◌∙◌}
use mathlib.Core.Bool.{true, false, not}
use mathlib.Core.List.{List}
use Prim.Native.Nat.{ℕ, ◌<◌, ◌≤◌}
use native.Mathlib.Omega.{arith}
use borrow.Author.Tests.{eq-eqb, ne_eqb, ltb-true, lt-ltb, not-true}
use lib.Dec.{eqb}
use lib.ListN.{length, get_or, set, length-set}
use lib.Seq.{get_or-set_same, set-set, set-get_or}
use Rattle.basics.specs.Tests.{both, choose}
use Rattle.basics.proofs.Tests.{fails_if, both_left, both_right, both_of, both_if, same_test, choose_yes, choose_no}
use Rattle.basics.proofs.Anyone.{each_at}
use Rattle.basics.proofs.Numbered.{one_number, one_decides}
use Rattle.board.specs.declared.Place.{Place}
use Rattle.board.specs.Place.{inside, same_place}
use Rattle.std.specs.Prelude.{None, Some}
use Rattle.board.specs.Spots.{Spot, most_pins, within, too_near_other, all_within, all_apart, crowded}
use Rattle.board.proofs.Board.{place_self}
use Rattle.board.proofs.Rules.{absent_clear, apart_at, within_at}
use Rattle.drawing.specs.declared.Held.{Held}
use Rattle.edits.specs.declared.Edit.{Edit}
use Rattle.edits.specs.declared.Edit.TheVariants.{Placed, Moved, Removed}
use Rattle.drawing.specs.Pins.{Pin, absent, there, is_there, is_net, has_net, same_pin, spot_of, spots_of, lawful, stands_at}
use Rattle.edits.specs.Edits.{moved_pin, pin_made, pin_unmade, made, unmade, found_as, all_found, proper, makeable, takeable}
use Rattle.edits.specs.Changes.{pin_of, fits, pin_fits, makeable_at, left_by, takeable_at}
use Rattle.drawing.proofs.Rules.{pin_same, pin_self, pins_self, spots_put, Lawful, lawful_parts, spots_long, lawful-set}
use Rattle.edits.proofs.Making.{makeable-proper, makeable_found, unmade-lawful, unmade-makeable, made-unmade}

-- ---- the pins that an edit does not name

module _ (n p : ℕ) (d : n ≡ p → ⊥) where
  -- Another number is not the pin's.
  other : eqb n p ≡ false
  other = ne_eqb n p d

-- An edit makes nothing of another pin,
made_other : (e : Edit) (n : ℕ) (q : Pin) → (n ≡ pin_of e → ⊥) → pin_made e n q ≡ q
unfolding pin_made
made_other (Placed p h) n q d = choose_no _ _ (other n p d)
made_other (Moved p a b) n q d = choose_no _ _ (other n p d)
made_other (Removed p h) n q d = choose_no _ _ (other n p d)

-- nor does taking it back,
unmade_other : (e : Edit) (n : ℕ) (q : Pin) → (n ≡ pin_of e → ⊥) → pin_unmade e n q ≡ q
unfolding pin_unmade
unmade_other (Placed p h) n q d = choose_no _ _ (other n p d)
unmade_other (Moved p a b) n q d = choose_no _ _ (other n p d)
unmade_other (Removed p h) n q d = choose_no _ _ (other n p d)

-- and it asks nothing of another pin.
found_other : (e : Edit) (n : ℕ) (q : Pin) → (n ≡ pin_of e → ⊥) → found_as e n q ≡ true
unfolding found_as
found_other (Placed p h) n q d = choose_no _ _ (other n p d)
found_other (Moved p a b) n q d = choose_no _ _ (other n p d)
found_other (Removed p h) n q d = choose_no _ _ (other n p d)

-- ---- the pin that an edit names

-- What is chosen where it is the pin itself.
named : {A : Type 0} (p : ℕ) (a b : A) → choose (eqb p p) a b ≡ a
named p a b = choose_yes a b (eq-eqb p p refl)

module _ {e : Edit} (q : Pin) where
  -- A placing makes a pin of what it holds, taken back leaves none, and finds none;
  pub placed_pin : {p : ℕ} {h : Held} → e ≡ Placed p h
      → (pin_made e (pin_of e) q ≡ there h) × (pin_unmade e (pin_of e) q ≡ absent) × (found_as e (pin_of e) q ≡ not (is_there q))
  unfolding pin_made pin_unmade found_as
  placed_pin {p} {h} g = rw g (named p (there h) q, named p absent q, named p (not (is_there q)) true)

  -- a move moves it, back too, and finds it where the move begins;
  pub moved_to : {p : ℕ} {a b : Place} → e ≡ Moved p a b
      → (pin_made e (pin_of e) q ≡ moved_pin q b) × (pin_unmade e (pin_of e) q ≡ moved_pin q a) × (found_as e (pin_of e) q ≡ stands_at q a)
  unfolding pin_made pin_unmade found_as
  moved_to {p} {a} {b} g = rw g (named p (moved_pin q b) q, named p (moved_pin q a) q, named p (stands_at q a) true)

  -- a removal leaves none, taken back makes a pin of what it held, and finds that.
  pub removed_pin : {p : ℕ} {h : Held} → e ≡ Removed p h
      → (pin_made e (pin_of e) q ≡ absent) × (pin_unmade e (pin_of e) q ≡ there h) × (found_as e (pin_of e) q ≡ same_pin q (there h))
  unfolding pin_made pin_unmade found_as
  removed_pin {p} {h} g = rw g (named p absent q, named p (there h) q, named p (same_pin q (there h)) true)

module _ (l : List Pin) (e : Edit) where
  -- Making an edit changes that pin alone,
  pub made_is : made l e ≡ set l (pin_of e) (pin_made e (pin_of e) (get_or l (pin_of e) absent))
  unfolding made
  made_is = one_number (pin_made e) absent (pin_of e) l (λ n q d. made_other e n q d)

  -- and so does taking it back;
  pub unmade_is : unmade l e ≡ set l (pin_of e) (pin_unmade e (pin_of e) (get_or l (pin_of e) absent))
  unfolding unmade
  unmade_is = one_number (pin_unmade e) absent (pin_of e) l (λ n q d. unmade_other e n q d)

  -- the edit finds every pin as it says where it finds that one so.
  found_is : pin_of e < length l → all_found l e ≡ found_as e (pin_of e) (get_or l (pin_of e) absent)
  unfolding all_found
  found_is h = one_decides (found_as e) absent (pin_of e) l h (λ n q d. found_other e n q d)

-- A proper edit names a pin from 0 to 31.
pub proper_number : (e : Edit) → proper e ≡ true → pin_of e < most_pins
unfolding proper
proper_number (Placed p h) t = ltb-true p most_pins t
proper_number (Moved p a b) t = ltb-true p most_pins (both_left _ _ t)
proper_number (Removed p h) t = ltb-true p most_pins t

-- One that names a pin above 31 is none.
pub improper_number : (e : Edit) → most_pins ≤ pin_of e → proper e ≡ false
improper_number e h = fails_if (proper e) (λ t. omega (arith, h, proper_number e t))

-- One that names a pin up to 31 and is no move is a proper one.
pub proper_stays : (e : Edit) → ((p : ℕ) (a b : Place) → e ≡ Moved p a b → ⊥) → pin_of e < most_pins → proper e ≡ true
unfolding proper
proper_stays (Placed p h) d n = lt-ltb p most_pins n
proper_stays (Moved p a b) d n = absurd (d p a b refl)
proper_stays (Removed p h) d n = lt-ltb p most_pins n

-- ---- pins that keep the rules

-- A pin that was put among others, all of which keep the rules with it, fits among them.
put_fits : (feed : List Spot) (p : ℕ) (s : Spot) → p < length feed → all_within (set feed p s) ≡ true → all_apart (set feed p s) ≡ true → fits feed p s ≡ true
unfolding fits too_near_other
put_fits feed p s k w a =
    let g = get_or-set_same feed p s None k in
    both_of (rw g at (within_at (set feed p s) p w)) (ap not (rw (g, set-set) at (apart_at (set feed p s) p a)))

-- With pin p of a drawing changed, the drawing keeps the rules just where that pin fits.
lawful_change : (l : List Pin) (p : ℕ) (q : Pin) → lawful l ≡ true → p < most_pins → lawful (set l p q) ≡ pin_fits (spots_of l) p q
unfolding fits pin_fits has_net
lawful_change l p q e n =
    same_test (lawful (set l p q)) (pin_fits (spots_of l) p q)
    (λ t.
    let h : Lawful (set l p q) = lawful_parts (set l p q) t in
    let k = (lawful_parts l e).long in
    both_of (rw (get_or-set_same l p q absent (omega arith)) at (each_at has_net absent (set l p q) p h.nets (λ w. refl)))
    (put_fits (spots_of l) p (spot_of q) (omega (arith, spots_long l e)) (rw (spots_put l p q) at h.board) (rw (spots_put l p q) at h.apart)))
    (λ t.
    let f = both_right _ _ t in
    lawful-set l p q e (both_left _ _ t) (both_left _ _ f) (not-true _ (both_right _ _ f)))

module _ (l : List Pin) (k : lawful l ≡ true) (e : Edit) where
  -- An edit can be made where the pin that it names says so.
  pub makeable_at_lem : makeable l e ≡ makeable_at e (get_or l (pin_of e) absent) (spots_of l)
  unfolding makeable makeable_at
  makeable_at_lem =
      both_if (proper e)
      (λ t.
      let n = proper_number e t in
      let w = (lawful_parts l k).long in
      rw (found_is l e (omega arith), made_is l e, lawful_change l (pin_of e) (pin_made e (pin_of e) (get_or l (pin_of e) absent)) k n))

  -- The pin with the edit taken back.
  abbrev former : Pin
  former = pin_unmade e (pin_of e) (get_or l (pin_of e) absent)

  module _ (n : pin_of e < most_pins) where
    -- It stands at its number among the pins with the edit taken back;
    former_at : get_or (unmade l e) (pin_of e) absent ≡ former
    former_at = let w = (lawful_parts l k).long in rw (unmade_is l e, get_or-set_same l (pin_of e) former absent (omega arith))

    -- the edit finds those as it says where it finds that pin so;
    former_found : all_found (unmade l e) e ≡ found_as e (pin_of e) former
    former_found =
        let w = (lawful_parts l k).long in
        let v : length (unmade l e) ≡ length l = ap length (unmade_is l e) ∙ length-set l (pin_of e) former in
        found_is (unmade l e) e (omega arith) ∙ ap (found_as e (pin_of e)) former_at

    -- they keep the rules where it fits;
    former_fits : lawful (unmade l e) ≡ pin_fits (spots_of l) (pin_of e) former
    former_fits = rw (unmade_is l e) (lawful_change l (pin_of e) former k n)

    -- and with the edit made again the pin that it names is what the edit makes of it.
    remade_is : made (unmade l e) e ≡ set l (pin_of e) (pin_made e (pin_of e) former)
    remade_is = made_is (unmade l e) e ∙ rw (former_at, unmade_is l e, set-set)

  -- An edit that could have been made: the pin that it names says so.
  taken_at : takeable l e ≡ true → takeable_at e (get_or l (pin_of e) absent) (spots_of l) ≡ true
  unfolding takeable_at left_by
  taken_at t =
      let m = unmade-makeable l e t in
      let y = makeable-proper (unmade l e) e m in
      let n = proper_number e y in
      let w = (lawful_parts l k).long in
      let g : pin_made e (pin_of e) former ≡ get_or l (pin_of e) absent =
      sym (get_or-set_same l (pin_of e) (pin_made e (pin_of e) former) absent (omega arith)) ∙ ap (λ (z : List Pin). get_or z (pin_of e) absent) (sym (remade_is n) ∙ made-unmade l e t) in
      both_of y
      (both_of (sym (former_found n) ∙ makeable_found (unmade l e) e m)
      (both_of (rw g (pin_self (get_or l (pin_of e) absent))) (sym (former_fits n) ∙ unmade-lawful l e t)))

  -- One of which that pin says so could have been made.
  at_taken : takeable_at e (get_or l (pin_of e) absent) (spots_of l) ≡ true → takeable l e ≡ true
  unfolding takeable_at left_by takeable makeable
  at_taken t =
      let y = both_left _ _ t in
      let n = proper_number e y in
      let u = both_right _ _ (both_right _ _ t) in
      let g : made (unmade l e) e ≡ l =
      remade_is n ∙ ap (set l (pin_of e)) (pin_same (pin_made e (pin_of e) former) (get_or l (pin_of e) absent) (both_left _ _ u)) ∙ set-get_or l (pin_of e) absent in
      both_of (former_fits n ∙ both_right _ _ u)
      (rw g (both_of (both_of y (both_of (former_found n ∙ both_left _ _ (both_right _ _ t)) k)) (pins_self l)))

  -- An edit could have been made where the pin that it names says so.
  pub takeable_at_lem : takeable l e ≡ takeable_at e (get_or l (pin_of e) absent) (spots_of l)
  takeable_at_lem = same_test (takeable l e) (takeable_at e (get_or l (pin_of e) absent) (spots_of l)) taken_at at_taken

-- ---- what the refusals 6 to 9 leave

-- A pin that is absent fits anywhere.
pub absent_fits : (spots : List Spot) (p : ℕ) → pin_fits spots p absent ≡ true
unfolding pin_fits fits has_net spot_of within too_near_other
absent_fits spots p = both_of refl (both_of refl (ap not (absent_clear (set spots p None))))

-- One that is there fits where it has a net from 1 to 8 and its place fits.
pub there_fits : (spots : List Spot) (p : ℕ) (h : Held) → pin_fits spots p (there h) ≡ both (is_net h.net) (fits spots p (Some h.place))
unfolding pin_fits has_net spot_of
there_fits spots p h = refl

-- A pin that is there has a net from 1 to 8.
there_net : (l : List Pin) → lawful l ≡ true → (p : ℕ) (h : Held) → get_or l p absent ≡ there h → is_net h.net ≡ true
unfolding has_net
there_net l k p h q = rw q at (each_at has_net absent l p (lawful_parts l k).nets (λ w. refl))

module _ (l : List Pin) (k : lawful l ≡ true) (p : ℕ) (n : p < most_pins) where
  -- A pin from 0 to 31 that is not there can be placed, of a net from 1 to 8, on the board where no other is too near.
  pub placed_makeable : (h : Held) → is_there (get_or l p absent) ≡ false → is_net h.net ≡ true → inside h.place ≡ true → crowded (spots_of l) p h.place ≡ false
      → makeable l (Placed p h) ≡ true
  unfolding makeable_at proper pin_fits fits has_net within spot_of crowded
  placed_makeable h q t i c =
      let m = placed_pin {e = Placed p h} (get_or l p absent) refl in
      makeable_at_lem l k (Placed p h)
      ∙ both_of (lt-ltb p most_pins n) (both_of (m.2 ∙ ap not q) (rw m.0 (both_of t (both_of i (ap not c)))))

  module _ (h : Held) (q : get_or l p absent ≡ there h) where
    -- A pin that is there can be moved to another place on the board where no other is too near,
    pub moved_makeable : (to : Place) → same_place h.place to ≡ false → inside to ≡ true → crowded (spots_of l) p to ≡ false
        → makeable l (Moved p h.place to) ≡ true
    unfolding makeable_at proper pin_fits fits has_net within spot_of crowded stands_at moved_pin
    moved_makeable to s i c =
        let m = moved_to {e = Moved p h.place to} (get_or l p absent) refl in
        makeable_at_lem l k (Moved p h.place to)
        ∙ both_of (both_of (lt-ltb p most_pins n) (ap not s)) (both_of (m.2 ∙ rw q (place_self h.place)) (rw (m.0, q) (both_of (there_net l k p h q) (both_of i (ap not c)))))

    -- and removed.
    pub removed_makeable : makeable l (Removed p h) ≡ true
    unfolding makeable_at proper
    removed_makeable =
        let m = removed_pin {e = Removed p h} (get_or l p absent) refl in
        makeable_at_lem l k (Removed p h)
        ∙ both_of (lt-ltb p most_pins n) (both_of (m.2 ∙ rw q (pin_self (there h))) (rw m.0 (absent_fits (spots_of l) p)))
