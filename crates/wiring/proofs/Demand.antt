-- DEMAND 2 FOR AN ACCEPTED ANSWER: every accepted wiring of a feed is what demand 2 and document 01 say. From 32 spots and pins that stand on the board.
use mathlib.Core.Path.{◌≡◌, refl, sym, ap, ◌∙◌, subst}
use mathlib.Core.Bool.{Bool, true, false}
use mathlib.Core.List.{List, [], ◌∷◌, map}
use Prim.Native.Nat.{ℕ, suc, ◌-◌, ◌*◌, ◌≤◌}
use lib.ListN.{length, take, drop, replicate, length-map}
use lib.Seq.{drop-append_seam}
use Rattle.basics.specs.Tests.{choose}
use Rattle.basics.proofs.Tests.{opposite}
use Rattle.basics.proofs.Lists.{padded_first}
use Rattle.refusal.specs.Refusals.{accepted}
use Rattle.refusal.specs.Rows.{first_of}
use Rattle.refusal.specs.Refusals.{Verdict}
use Rattle.board.specs.Spots.{Spot}
use Rattle.board.specs.Place.{distance_of}
use Rattle.board.specs.Spots.{most_pins, place_at, all_within}
use Rattle.tree.specs.declared.Run.{Run}
use Rattle.tree.specs.Growth.{run, pins_of, runs_of}
use Rattle.basics.specs.Lists.{Among, first, later}
use Rattle.tree.specs.Trees.{most_runs}
use Rattle.spanning.proofs.Spanning.{none-among}
use Rattle.spanning.proofs.TheTree.{runs_are_the_tree}
use Rattle.spanning.proofs.Apart.{never_meet}
use Rattle.copper.specs.declared.Shape.{Shape}
use Rattle.copper.specs.declared.Leg.{Leg}
use Rattle.copper.specs.Shapes.{shape_of, legs_of}
use Rattle.copper.specs.Length.{steps_of_all, length_of}
use Rattle.laying.specs.declared.RunEntry.{RunEntry}
use Rattle.wiring.specs.declared.Laid.{Laid}
use Rattle.laying.specs.Entries.{near_end, far_end, no_run, most_legs, no_leg, run_entries, leg_entries}
use Rattle.wiring.specs.Choices.{choices_of, legs_of_choice, length_of_choice, best_choice, weighed_of}
use Rattle.wiring.specs.Answer.{shaped_runs, turned_away, answer_with, wiring_rows, wiring_with, wiring_favouring}
use Rattle.laying.specs.Reaching.{shapes_by}
use Rattle.wiring.specs.Demand.{listed_in, runs_in, shapes_in, legs_in, BestWiring}
use Rattle.wiring.proofs.Masks.{bends}
use Rattle.wiring.proofs.Ordered.{choice_told}
use Rattle.wiring.proofs.Weighed.{weighed_most}
use Rattle.wiring.proofs.Shortest.{best_first, best_among, none_shorter}
use Rattle.wiring.proofs.Lines.{choice_in_line, told_as_long}

-- ---- what an accepted wiring is
-- An answer behind a verdict that may turn it away: where what comes is accepted, it is the answer, and the verdict was accepted.
pub answer_comes : (a : Laid) (v : Verdict) → accepted (choose (accepted v) a (turned_away v)).wiring.verdict ≡ true
    → (choose (accepted v) a (turned_away v) ≡ a) × (accepted v ≡ true)
answer_comes a v = by (accepted v) refl
  where
    by : (t : Bool) → accepted v ≡ t → accepted (choose t a (turned_away v)).wiring.verdict ≡ true → (choose t a (turned_away v) ≡ a) × (accepted v ≡ true)
    by true e z = unfold choose in (refl, e)
    by false e z = let y : accepted v ≡ true = unfold choose turned_away in z in absurd (opposite y e)

-- Wiring that is accepted has pins: 17 does not apply.
some_pins : (feed : List Spot) (shapes : List Shape) (room : ℕ) → accepted (first_of (wiring_rows feed shapes room)) ≡ true
    → (f : ℕ) × (left : List ℕ) × (pins_of feed ≡ f ∷ left)
some_pins feed shapes room z = by (pins_of feed) refl
  where
    none-refused : pins_of feed ≡ [] → accepted (first_of (wiring_rows feed shapes room)) ≡ false
    none-refused e = unfold first_of choose accepted in rw e

    by : (l : List ℕ) → pins_of feed ≡ l → (f : ℕ) × (left : List ℕ) × (pins_of feed ≡ f ∷ left)
    by [] e = absurd (opposite z (none-refused e))
    by (f ∷ left) e = (f, left, e)

-- ---- what its parts are
-- The runs with their shapes have these runs,
shaped_runs_lem : (feed : List Spot) (upper : ℕ → Bool) (runs : List Run) → map (λ (e : RunEntry). run e.near e.far) (shaped_runs runs (shapes_by feed upper runs)) ≡ runs
unfolding shaped_runs shapes_by
shaped_runs_lem feed upper [] = refl
shaped_runs_lem feed upper (r ∷ runs) = ap (λ (l : List Run). r ∷ l) (shaped_runs_lem feed (λ q. upper (suc q)) runs)

-- these shapes,
shaped_shapes : (feed : List Spot) (upper : ℕ → Bool) (runs : List Run)
    → map (λ (e : RunEntry). e.shape) (shaped_runs runs (shapes_by feed upper runs)) ≡ shapes_by feed upper runs
unfolding shaped_runs shapes_by
shaped_shapes feed upper [] = refl
shaped_shapes feed upper (r ∷ runs) =
    ap (λ (l : List Shape). shape_of (upper 0) (near_end feed r) (far_end feed r) ∷ l) (shaped_shapes feed (λ q. upper (suc q)) runs)

-- The legs of a run entry are together as long as the distance of its ends.
abbrev AsLong : List Spot → RunEntry → Type 0
AsLong feed e = length (steps_of_all (legs_of e.shape (place_at feed e.near) (place_at feed e.far))) ≡ distance_of (place_at feed e.near) (place_at feed e.far)

-- and legs as long as the distances.
shaped_long : (feed : List Spot) (upper : ℕ → Bool) (runs : List Run) (e : RunEntry) → Among e (shaped_runs runs (shapes_by feed upper runs)) → AsLong feed e
unfolding shaped_runs shapes_by
shaped_long feed upper [] e i = absurd (none-among refl i)
shaped_long feed upper (r ∷ runs) e (first p) = subst (AsLong feed) (sym p) (told_as_long (upper 0) (near_end feed r) (far_end feed r))
shaped_long feed upper (r ∷ runs) e (later i) = shaped_long feed (λ q. upper (suc q)) runs e i

module _ (feed : List Spot) (c : List Shape) where
  abbrev runs : List Run
  runs = runs_of feed

  abbrev laid : Laid
  laid = answer_with feed c

  -- The run entries in use are the runs with their shapes,
  listed_are : listed_in laid.wiring ≡ shaped_runs runs c
  unfolding answer_with run_entries
  listed_are = padded_first most_runs no_run (shaped_runs runs c) refl

  -- those after them blank.
  after_are : drop laid.wiring.runs laid.wiring.entries ≡ replicate (most_runs - laid.wiring.runs) no_run
  unfolding answer_with run_entries
  after_are = drop-append_seam (shaped_runs runs c) _

  -- The legs are those of the choice,
  legs_are : legs_in laid ≡ legs_of_choice feed runs c
  unfolding answer_with leg_entries
  legs_are = padded_first most_legs no_leg (legs_of_choice feed runs c) refl

  -- and so many.
  legs_many : laid.wiring.legs ≡ length (legs_in laid)
  legs_many = rw legs_are (unfold answer_with in refl)

  module _ (upper : ℕ → Bool) (told : c ≡ shapes_by feed upper runs) where
    -- The runs are those of the feed,
    pub runs_are : runs_in laid.wiring ≡ runs
    unfolding runs_in
    runs_are = ap (map (λ (e : RunEntry). run e.near e.far)) (listed_are ∙ ap (shaped_runs runs) told) ∙ shaped_runs_lem feed upper runs

    -- and so many,
    pub runs_many : laid.wiring.runs ≡ length runs
    unfolding answer_with
    runs_many =
        ap (λ (s : List Shape). length (shaped_runs runs s)) told
        ∙ sym (length-map (shaped_runs runs (shapes_by feed upper runs)) (λ (e : RunEntry). run e.near e.far))
        ∙ ap length (shaped_runs_lem feed upper runs)

    -- the shapes those of the choice.
    shapes_are : shapes_in laid.wiring ≡ c
    unfolding shapes_in
    shapes_are = ap (map (λ (e : RunEntry). e.shape)) (listed_are ∙ ap (shaped_runs runs) told) ∙ shaped_shapes feed upper runs ∙ sym told

    -- Each run's legs are as long as its distance.
    runs_long : (e : RunEntry) → Among e (listed_in laid.wiring) → AsLong feed e
    runs_long e i = shaped_long feed upper runs e (subst (λ (l : List RunEntry). Among e l) (listed_are ∙ ap (shaped_runs runs) told) i)

-- ---- the theorem
module _ (favoured : Bool) (feed : List Spot) (full : length feed ≡ most_pins) (ok : all_within feed ≡ true) where
  abbrev best : List Shape
  best = best_choice favoured feed (runs_of feed)

  -- The answer with the best choice of shapes is what is demanded.
  answer_best : (f : ℕ) (left : List ℕ) → pins_of feed ≡ f ∷ left → BestWiring favoured feed (answer_with feed best)
  answer_best f left e =
      let i = best_among feed (runs_of feed) favoured in
      let told = choice_told favoured feed (runs_of feed) best i in
      let r : runs_in (answer_with feed best).wiring ≡ runs_of feed = runs_are feed best (bends best) told in
      let s : shapes_in (answer_with feed best).wiring ≡ best = shapes_are feed best (bends best) told in
      record {
        tree = rw r (runs_are_the_tree feed full ok f left e);
        taken = r;
        boxes_are_apart = rw r (never_meet feed full ok);
        blank_after = after_are feed best;
        shapes = rw (r, s) (best_first feed (runs_of feed) favoured);
        legs = rw (r, s) (legs_are feed best);
        leg_count = legs_many feed best;
        covered = long;
        least = rw r shortest;
        weighed = rw r many;
        weighed_few = few;
        in_line = rw (legs_are feed best) (λ l m. choice_in_line favoured feed (runs_of feed) best i l m);
        run_long = runs_long feed best (bends best) told;
      }
    where
      long : (answer_with feed best).wiring.length ≡ length_of (legs_in (answer_with feed best))
      long = rw (legs_are feed best) (unfold answer_with length_of_choice in refl)

      shortest : (c : List Shape) → Among c (choices_of favoured feed (runs_of feed)) → (answer_with feed best).wiring.length ≤ length_of_choice feed (runs_of feed) c
      shortest c m = unfold answer_with in none_shorter feed (runs_of feed) favoured c m

      many : (answer_with feed best).wiring.weighed ≡ weighed_of feed (runs_of feed) (pins_of feed)
      many = unfold answer_with in refl

      few : (answer_with feed best).wiring.weighed ≤ 64 * length (pins_of feed)
      few = unfold answer_with in weighed_most feed full ok

  -- EVERY ACCEPTED WIRING OF A FEED IS WHAT DEMAND 2 AND DOCUMENT 01 SAY, whichever shape is favoured.
  pub accepted_is_best : (room : ℕ) → accepted (wiring_favouring favoured feed room).wiring.verdict ≡ true
      → BestWiring favoured feed (wiring_favouring favoured feed room)
  unfolding wiring_favouring wiring_with
  accepted_is_best room z =
      let h = answer_comes (answer_with feed best) (first_of (wiring_rows feed best room)) z in
      let p = some_pins feed best room h.1 in
      subst (BestWiring favoured feed) (sym h.0) (answer_best p.0 p.1 p.2)

-- An answer stays what is demanded where its legs stand in another list, which begins with them.
pub best_in_list : {favoured : Bool} {feed : List Spot} {laid : Laid} (list : List Leg) → take laid.wiring.legs list ≡ legs_in laid → BestWiring favoured feed laid
    → BestWiring favoured feed (record { wiring = laid.wiring; list = list })
best_in_list list e b =
    record {
      tree = b.tree;
      taken = b.taken;
      boxes_are_apart = b.boxes_are_apart;
      blank_after = b.blank_after;
      shapes = b.shapes;
      legs = rw e b.legs;
      leg_count = rw e b.leg_count;
      covered = rw e b.covered;
      least = b.least;
      weighed = b.weighed;
      weighed_few = b.weighed_few;
      in_line = rw e b.in_line;
      run_long = b.run_long;
    }
