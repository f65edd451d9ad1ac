-- Loads read byte by byte are those that the definitions give. Assumes nothing.
use mathlib.Core.Path.{◌≡◌, refl, sym, ◌∙◌, ap}
use mathlib.Core.Bool.{Bool, true, false, cond, ◌&&◌, ◌||◌}
use mathlib.Core.List.{List, [], ◌∷◌, map}
use Prim.Native.Nat.{ℕ}
use lib.Ieee.{Float}
use native.Mathlib.Omega.{arith}
use lib.Dec.{eqb, ltb}
use lib.ListN.{length, drop, get_or}
use lib.Pointwise.{pointwise}
use borrow.Author.Tests.{lt-ltb, ne_eqb}
use Rattle.std.specs.Prelude.{Some, None, is_some, unwrap_or}
use Rattle.basics.specs.Tests.{choose, each_of}
use Rattle.basics.proofs.Tests.{opposite, both_left, both_right, both_true, both-none, choose_yes, choose_no}
use Rattle.board.specs.Spots.{most_pins}
use Rattle.loads.specs.declared.Load.{Load}
use Rattle.loads.specs.declared.Load.TheVariants.{Amps, Watts, Spare}
use Rattle.text.specs.Text.{text, same, over}
use Rattle.text.specs.Numbers.{is_bits, float_of, none_word}
use Rattle.text.proofs.Library.{rest_from, choose_cond, equal_same, both_and}
use Rattle.text.specs.Words.{comma, pieces}
use Rattle.text.proofs.Rows.{row_words}
use Rattle.text.proofs.Values.{either_or, chosen_some}
use Rattle.script.specs.Loads.{amps_letter, watts_letter, begins_with, is_load, load_of, is_loads, is_load_row, loads_listed, all_spare, loads_in}

-- A word begins with a letter where it has a first byte and that is the letter.
begins_is : (letter : ℕ) (w : List ℕ) → begins_with letter w ≡ (ltb 0 (length w) && eqb (get_or w 0 0) letter)
unfolding begins_with
begins_is letter [] = refl
begins_is letter (b ∷ rest) = rw (lt-ltb 0 (length (b ∷ rest)) (omega arith))

-- A word is the letter `s` where it has one byte and that is the letter.
spare_is : (w : List ℕ) → same w (text "s") ≡ (eqb (length w) 1 && eqb (get_or w 0 0) 115)
unfolding same
spare_is [] = refl
spare_is (b ∷ []) = both_true (eqb b 115)
spare_is (b ∷ a ∷ rest) = rw (ne_eqb (length (b ∷ a ∷ rest)) 1 (λ q. omega arith)) (both-none (eqb b 115))

-- A load, by the library's tests;
is_load_is : (w : List ℕ)
    → is_load w
    ≡ cond ((ltb 0 (length w) && eqb (get_or w 0 0) amps_letter) || (ltb 0 (length w) && eqb (get_or w 0 0) watts_letter)) (is_bits (drop 1 w))
    (eqb (length w) 1 && eqb (get_or w 0 0) 115)
unfolding is_load
is_load_is w =
    rw (begins_is amps_letter w, begins_is watts_letter w, spare_is w)
    (ap (λ (t : Bool). choose t (is_bits (drop 1 w)) (eqb (length w) 1 && eqb (get_or w 0 0) 115))
    (sym (either_or (ltb 0 (length w) && eqb (get_or w 0 0) amps_letter) (ltb 0 (length w) && eqb (get_or w 0 0) watts_letter)))
    ∙ sym (choose_cond _ _ _))

-- the load that a word is;
load_of_is : (w : List ℕ)
    → load_of w
    ≡ cond (ltb 0 (length w) && eqb (get_or w 0 0) amps_letter) (Amps (float_of (drop 1 w)))
    (cond (ltb 0 (length w) && eqb (get_or w 0 0) watts_letter) (Watts (float_of (drop 1 w))) Spare)
unfolding load_of
load_of_is w =
    rw (begins_is amps_letter w, begins_is watts_letter w)
    (sym (choose_cond (ltb 0 (length w) && eqb (get_or w 0 0) amps_letter) _ _
    ∙ ap (choose (ltb 0 (length w) && eqb (get_or w 0 0) amps_letter) (Amps (float_of (drop 1 w)))) (choose_cond (ltb 0 (length w) && eqb (get_or w 0 0) watts_letter) _ _)))

-- A word as a load, where it is one.
pub load_is : (w : List ℕ)
    → choose (is_load w) (Some (load_of w)) None
    ≡ cond (ltb 0 (length w) && eqb (get_or w 0 0) amps_letter) (cond (is_bits (drop 1 w)) (Some (Amps (float_of (drop 1 w)))) None)
    (cond (ltb 0 (length w) && eqb (get_or w 0 0) watts_letter) (cond (is_bits (drop 1 w)) (Some (Watts (float_of (drop 1 w)))) None)
    (cond (eqb (length w) 1 && eqb (get_or w 0 0) 115) (Some Spare) None))
unfolding choose
load_is w =
    rw (is_load_is w, load_of_is w)
    (by (ltb 0 (length w) && eqb (get_or w 0 0) amps_letter) (ltb 0 (length w) && eqb (get_or w 0 0) watts_letter) (is_bits (drop 1 w))
    (eqb (length w) 1 && eqb (get_or w 0 0) 115) (float_of (drop 1 w)))
  where
    by : (a b t s : Bool) (x : Float)
        → choose (cond (a || b) t s) (Some (cond a (Amps x) (cond b (Watts x) Spare))) None
        ≡ cond a (cond t (Some (Amps x)) None) (cond b (cond t (Some (Watts x)) None) (cond s (Some Spare) None))
    by true b true s x = refl
    by true b false s x = refl
    by false true true s x = refl
    by false true false s x = refl
    by false false t true x = refl
    by false false t false x = refl

-- What the check of a word as a load goes by.
pub ruleset loading = (load_is, rest_from)

-- A list of loads, or none.
pub loads_is : (w : List ℕ) → is_loads w ≡ (pointwise eqb w none_word || is_load_row w)
unfolding is_loads
loads_is w = rw (← (equal_same w none_word)) (sym (either_or (pointwise eqb w none_word) (is_load_row w)))

-- ---- rows of loads
chosen_or : {A : Type 0} (t : Bool) (a b : A) → t ≡ true → unwrap_or (choose t (Some a) None) b ≡ a
unfolding choose
chosen_or true a b h = refl
chosen_or false a b h = absurd (opposite h refl)

-- A word is read as a load where it is one;
pub some_load : (w : List ℕ) → is_some (choose (is_load w) (Some (load_of w)) None) ≡ is_load w
some_load w = chosen_some (is_load w) (load_of w)

-- the load of a word that is one, and else spare;
abbrev pub loaded_in : List ℕ → Load
loaded_in w = unwrap_or (choose (is_load w) (Some (load_of w)) None) Spare

loaded_same : (w : List ℕ) → is_load w ≡ true → loaded_in w ≡ load_of w
loaded_same w h = chosen_or (is_load w) (load_of w) Spare h

-- and of words that are all loads.
pub loads_same : (ws : List (List ℕ)) → each_of is_load ws ≡ true → map loaded_in ws ≡ map load_of ws
unfolding each_of
loads_same [] h = refl
loads_same (w ∷ ws) h =
    ap (λ (x : Load). x ∷ map loaded_in ws) (loaded_same w (both_left _ _ h)) ∙ ap (λ (l : List Load). load_of w ∷ l) (loads_same ws (both_right _ _ h))

-- The loads of a row are stored over spare ones,
pub row_loads : (w : List ℕ) {l : List Load} → is_load_row w ≡ true → l ≡ over (map loaded_in (pieces comma w)) all_spare → l ≡ loads_in w
unfolding loads_in loads_listed
row_loads w h e =
    e
    ∙ ap (λ (l : List Load). over l all_spare)
    (loads_same (pieces comma w) (row_words is_load most_pins w h).0 ∙ sym (choose_yes (map load_of (pieces comma w)) [] h))

-- and where there is no row all are spare.
pub no_loads : (w : List ℕ) → is_load_row w ≡ false → all_spare ≡ loads_in w
unfolding loads_in loads_listed
no_loads w h = ap (λ (l : List Load). over l all_spare) (sym (choose_no (map load_of (pieces comma w)) [] h))
