-- Pins printed one by one come to their text, counted one by one to their number, and the parts of an answer to the answer. Assumes nothing.
use mathlib.Core.Path.{◌≡◌, refl, sym, ◌∙◌, ap}
use mathlib.Core.Bool.{Bool, true, false, cond}
use mathlib.Core.List.{List, [], ◌∷◌, ◌++◌, append_assoc, append-nil}
use Prim.Native.Nat.{ℕ, suc, ◌+◌, ◌<◌, ◌≤◌, min}
use native.Mathlib.Nat.{add-zero}
use native.Mathlib.Omega.{arith}
use lib.ListN.{length, take, get_or}
use lib.Seq.{length-take-le, take_all}
use Rattle.basics.specs.Sums.{how_many, one_if}
use Rattle.std.specs.List.{filter}
use Rattle.drawing.specs.Pins.{Pin}
use Rattle.drawing.specs.Pins.{absent, is_there}
use Rattle.refusal.specs.Refusals.{accepted}
use Rattle.std.specs.Result.{is_err}
use Rattle.printed.proofs.Telling.{refused_is}
use Rattle.basics.proofs.Tests.{choose_yes, choose_no}
use Rattle.wiring.specs.declared.Wiring.{Wiring}
use Rattle.wiring.specs.declared.Laid.{Laid}
use Rattle.mill.specs.declared.Cut.{Cut}
use Rattle.text.specs.Text.{text, over}
use Rattle.printed.specs.Answers.{verdict_line, wired_line, milled_line, job_line}
use Rattle.text.proofs.Printing.{Put, take-smaller}
use Rattle.text.proofs.Steps.{first_more}
use Rattle.shown.specs.Shown.{runs_text, legs_text, pin_text, pins_text, pins_there, wired_text, laid_text, milled_text, cut_text, job_text, map_text}

-- As many elements as are asked for, or all there are.
pub first_all : {A : Type 0} (l : List A) (count n i : ℕ) → length l ≡ n → i ≡ min count n → take i l ≡ take count l
first_all l count n i h e =
    let m : i ≡ min (length l) count = omega arith in
    ap (λ (k : ℕ). take k l) m ∙ take-smaller l count

-- So it is after as many turns as there are of them.
pub turns_all : {A : Type 0} (l : List A) (count n i : ℕ) → length l ≡ n → length (take (min count n) l) ≤ i → take i (take (min count n) l) ≡ take count l
turns_all l count n i h e = take_all i (take (min count n) l) e ∙ first_all l count n (min count n) h refl

-- The text of pins with one more is longer by that pin;
pins_snoc : (k : ℕ) (l : List Pin) (q : Pin) → pins_text k l ++ pin_text (k + length l) q ≡ pins_text k (l ++ (q ∷ []))
unfolding pins_text
pins_snoc k [] q = ap (λ (n : ℕ). pin_text n q) (add-zero k) ∙ sym (append-nil (pin_text k q))
pins_snoc k (b ∷ rest) q =
    let e : k + suc (length rest) ≡ suc k + length rest = omega arith in
    append_assoc (pin_text k b) (pins_text (suc k) rest) (pin_text (k + suc (length rest)) q)
    ∙ ap (λ (t : List ℕ). pin_text k b ++ t)
    (ap (λ (n : ℕ). pins_text (suc k) rest ++ pin_text n q) e ∙ pins_snoc (suc k) rest q)

module _ (pins : List Pin) (number : ℕ) (h : number < length pins) where
  -- so the text of the first pins grows pin by pin.
  pub pins_more : pins_text 0 (take number pins) ++ pin_text number (get_or pins number absent) ≡ pins_text 0 (take (number + 1) pins)
  pins_more =
      let e : number ≡ 0 + length (take number pins) = omega (arith, length-take-le number pins (omega arith)) in
      ap (λ (n : ℕ). pins_text 0 (take number pins) ++ pin_text n (get_or pins number absent)) e
      ∙ pins_snoc 0 (take number pins) (get_or pins number absent)
      ∙ ap (pins_text 0) (first_more absent pins number h)

-- Those that are there are as many as are counted one by one.
pub counted : (pins : List Pin) → length (filter is_there pins) ≡ pins_there pins
unfolding how_many
counted [] = refl
counted (q ∷ pins) = by (is_there q) (counted pins)
  where
    by : (b : Bool) → length (filter is_there pins) ≡ pins_there pins → length (cond b (q ∷ filter is_there pins) (filter is_there pins)) ≡ one_if b + pins_there pins
    by true e = omega arith
    by false e = omega arith

-- What is printed from the start on, as a piece that others follow.
pub begun : (o p : List ℕ) {n : ℕ} {v : List ℕ} → n ≡ length p → v ≡ over p o → Put o 0 p n v
begun o p e f = (omega (arith, e), f)

-- The answer of a wiring with its legs, where it is refused,
pub laid_refused : (laid : Laid) → accepted laid.wiring.verdict ≡ false → verdict_line laid.wiring.verdict ≡ laid_text laid
unfolding laid_text
laid_refused laid h = sym (choose_no (wired_text laid.wiring laid.list) (verdict_line laid.wiring.verdict) h)

-- and where it is accepted.
pub laid_accepted : (laid : Laid) → accepted laid.wiring.verdict ≡ true
    → wired_line laid.wiring.length laid.wiring.runs laid.wiring.legs laid.wiring.weighed
    ++ runs_text (take laid.wiring.runs laid.wiring.entries)
    ++ legs_text (text "leg ") (take laid.wiring.legs laid.list)
    ≡ laid_text laid
unfolding laid_text wired_text
laid_accepted laid h = sym (choose_yes (wired_text laid.wiring laid.list) (verdict_line laid.wiring.verdict) h)

-- The answer of a milling with its segments, where it is refused,
pub cut_refused : (cut : Cut) → accepted cut.milling.verdict ≡ false → verdict_line cut.milling.verdict ≡ cut_text cut
unfolding cut_text
cut_refused cut h = sym (choose_no (milled_text cut.milling cut.list) (verdict_line cut.milling.verdict) h)

-- and where it is accepted.
pub cut_accepted : (cut : Cut) → accepted cut.milling.verdict ≡ true
    → milled_line cut.milling.segments ++ legs_text (text "segment ") (take cut.milling.segments cut.list) ≡ cut_text cut
unfolding cut_text milled_text
cut_accepted cut h = sym (choose_yes (milled_text cut.milling cut.list) (verdict_line cut.milling.verdict) h)

-- The answer of the wiring of a map, where it is refused,
pub map-refused : (job : ℕ) (wiring : Wiring) → accepted wiring.verdict ≡ false → verdict_line wiring.verdict ≡ map_text job wiring
unfolding map_text
map-refused job wiring h = sym (choose_no (job_text job wiring) (verdict_line wiring.verdict) h)

-- so that its line is as long as its answer,
pub map_told : (job : ℕ) (wiring : Wiring) {n : ℕ} → is_err wiring.verdict ≡ true → n ≡ length (verdict_line wiring.verdict) → n ≡ length (map_text job wiring)
map_told job wiring e h = h ∙ ap length (map-refused job wiring (refused_is wiring.verdict e))

-- and stands printed as its answer;
pub map_over : (job : ℕ) (wiring : Wiring) (out : List ℕ) {after : List ℕ} → is_err wiring.verdict ≡ true
    → after ≡ over (verdict_line wiring.verdict) out → after ≡ over (map_text job wiring) out
map_over job wiring out e h = h ∙ ap (λ (t : List ℕ). over t out) (map-refused job wiring (refused_is wiring.verdict e))

-- and where it is accepted.
pub map-accepted : (job : ℕ) (wiring : Wiring) → accepted wiring.verdict ≡ true
    → job_line job wiring.length wiring.runs wiring.weighed ++ runs_text (take wiring.runs wiring.entries) ≡ map_text job wiring
unfolding map_text job_text
map-accepted job wiring h = sym (choose_yes (job_text job wiring) (verdict_line wiring.verdict) h)
