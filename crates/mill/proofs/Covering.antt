-- Legs of the board cover the same steps just where their spans cover the same numbers. From legs on the board.
use mathlib.Core.Path.{◌≡◌, refl, sym, ap₂, ◌∙◌}
use mathlib.Core.Bool.{true}
use mathlib.Core.List.{List, [], ◌∷◌, ◌++◌, map, map-append}
use Prim.Native.Nat.{ℕ}
use Rattle.basics.specs.Tests.{each_of}
use Rattle.basics.specs.Lists.{Among}
use Rattle.basics.proofs.Anyone.{each_first, each_rest}
use Rattle.basics.proofs.Members.{From, in_map, from_map}
use Rattle.copper.specs.declared.Leg.{Leg}
use Rattle.copper.specs.Length.{Step, steps_of_all}
use Rattle.spans.proofs.Lists.{Covered, Alike}
use Rattle.spans.proofs.Numbers.{numbers_of, numbers_of_all, covered_in, in_covered}
use Rattle.mill.specs.Segments.{SameSteps}
use Rattle.mill.specs.Numbered.{span_of, is_inside}
use Rattle.mill.proofs.Steps.{step_at, step_number, leg_steps}

-- The steps of legs of the board are those with the numbers of their spans.
pub legs_steps : (legs : List Leg) → each_of is_inside legs ≡ true → steps_of_all legs ≡ map step_at (numbers_of_all (map span_of legs))
unfolding steps_of_all numbers_of_all
legs_steps [] e = refl
legs_steps (l ∷ ls) e =
    ap₂ (◌++◌) (leg_steps l (each_first is_inside l ls e)) (legs_steps ls (each_rest is_inside l ls e))
    ∙ sym (map-append step_at (numbers_of (span_of l)) (numbers_of_all (map span_of ls)))

-- A number that spans of legs cover, with its step.
pub record Numbered (step : Step) (legs : List Leg) : Type 0 where
  pub number : ℕ
  pub covered : Covered number (map span_of legs)
  pub is : step_at number ≡ step

module _ (legs : List Leg) (on : each_of is_inside legs ≡ true) where
  -- A step that they cover has such a number,
  pub step-numbered : (step : Step) → Among step (steps_of_all legs) → Numbered step legs
  step-numbered step h = found (from_map step_at (numbers_of_all (map span_of legs)) (rw (legs_steps legs on) at h))
    where
      found : From step_at step (numbers_of_all (map span_of legs)) → Numbered step legs
      found r = record { number = r.source; covered = in_covered (map span_of legs) r.among; is = r.is }

  -- and the step with such a number they cover.
  number_covered : (n : ℕ) → Covered n (map span_of legs) → Among (step_at n) (steps_of_all legs)
  number_covered n h = rw (legs_steps legs on) (in_map step_at (covered_in h))

module _ (l m : List Leg) (h : each_of is_inside l ≡ true) (k : each_of is_inside m ≡ true) where
  -- Where spans cover the numbers of others, the legs cover the steps of the others,
  step-there : ((n : ℕ) → Covered n (map span_of l) → Covered n (map span_of m)) → (step : Step) → Among step (steps_of_all l) → Among step (steps_of_all m)
  step-there f step w = let r : Numbered step l = step-numbered l h step w in rw (← r.is) (number_covered m k r.number (f r.number r.covered))

  -- and the other way round.
  number_there : ((step : Step) → Among step (steps_of_all l) → Among step (steps_of_all m)) → (n : ℕ) → Covered n (map span_of l) → Covered n (map span_of m)
  number_there f n w =
      let r : Numbered (step_at n) m = step-numbered m k (step_at n) (f (step_at n) (number_covered l h n w)) in
      rw (step_number r.number n r.is) at r.covered

module _ (l m : List Leg) (h : each_of is_inside l ≡ true) (k : each_of is_inside m ≡ true) where
  -- Spans that cover the same numbers: legs that cover the same steps,
  pub alike_steps : Alike (map span_of l) (map span_of m) → SameSteps l m
  alike_steps e = record { there = step-there l m h k e.there; back = step-there m l k h e.back }

  -- and the other way round.
  pub steps_alike : SameSteps l m → Alike (map span_of l) (map span_of m)
  steps_alike e = record { there = number_there l m h k e.there; back = number_there m l k h e.back }
