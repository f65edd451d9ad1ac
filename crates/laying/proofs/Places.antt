-- Where the pins stand, as some runs reach them: each pin that is reached has its place in the list, and every other number the middle of the board. So the
-- list asks nothing of pins that the runs do not reach. Assumes nothing.
use mathlib.Core.Path.{◌≡◌, refl, sym, ap, ◌∙◌}
use mathlib.Core.Bool.{Bool, true, false}
use mathlib.Core.List.{List}
use Prim.Native.Nat.{ℕ, zero, suc, ◌≤◌, ◌<◌}
use native.Mathlib.Omega.{arith}
use lib.Dec.{ltb}
use lib.ListN.{length, take, get_or-eq_default}
use lib.Seq.{length-take-le}
use borrow.Author.Tests.{ltb-true, ltb-false}
use Rattle.std.proofs.lemmas.List.{get_or-take}
use Rattle.std.specs.Prelude.{Option, slice_get}
use Rattle.std.specs.Option.{option_map_or}
use Rattle.std.proofs.lemmas.Option.{slice_get-get_or, slice_get_past}
use Rattle.basics.specs.Tests.{both}
use Rattle.basics.specs.Lists.{values_from}
use Rattle.basics.proofs.Lists.{values_long, value_at}
use Rattle.board.specs.declared.Place.{Place}
use Rattle.board.specs.Place.{on_board, inside, middle}
use Rattle.board.specs.Spots.{Spot, most_pins, place_in}
use Rattle.tree.specs.declared.Run.{Run}
use Rattle.tree.specs.Growth.{run}
use Rattle.tree.specs.Trees.{most_runs}
use Rattle.tree.specs.Reached.{run_at, reached_pin, reached_place}
use Rattle.least.specs.Asking.{least_of_tree}
use Rattle.least.proofs.Alike.{Alike, found_alike}
use Rattle.laying.specs.Entries.{near_end, far_end}
use Rattle.laying.specs.Reaching.{place_if_reached, places_of}

-- The middle of the board is on it.
middle_inside : inside middle ≡ true
unfolding inside on_board both
middle_inside = refl

module _ (feed : List Spot) (runs : List Run) where
  -- Where there is a run with this number, its end stands where it does,
  at_run : (end : Run → Place) (r : ℕ) → r < length runs → option_map_or end (slice_get runs r) middle ≡ end (run_at runs r)
  at_run end r l = ap (λ (o : Option Run). option_map_or end o middle) (slice_get-get_or runs r (run 0 0) l)

  -- so that it is on the board if the run's end is; the middle stands in where there is no such run.
  run_inside : (end : Run → Place) (r : ℕ) (b : Bool) → ltb r (length runs) ≡ b → (r < length runs → inside (end (run_at runs r)) ≡ true)
      → inside (option_map_or end (slice_get runs r) middle) ≡ true
  run_inside end r true e on = rw (at_run end r (ltb-true r _ e)) (on (ltb-true r _ e))
  run_inside end r false e on = rw (slice_get_past runs r (ltb-false r _ e)) middle_inside

  -- The list has the place of each number.
  listed : (i : ℕ) → i < most_pins → place_in (places_of feed runs) i ≡ place_if_reached feed runs i
  unfolding places_of
  listed i l = value_at (place_if_reached feed runs) most_pins i middle l

  -- A pin that the runs reach stands where the list says.
  pub place_is : (i : ℕ) → 0 < length runs → i ≤ length runs → i < most_pins → place_in (places_of feed runs) i ≡ reached_place feed runs i
  unfolding place_if_reached reached_pin
  place_is zero some upto l = listed 0 l ∙ at_run (near_end feed) 0 some
  place_is (suc r) some upto l = listed (suc r) l ∙ at_run (far_end feed) r (omega arith)

  module _ (on : (i : ℕ) → 0 < length runs → i ≤ length runs → i < most_pins → inside (reached_place feed runs i) ≡ true) where
    -- Where all pins that the runs reach are on the board, so is the place of each number,
    one_inside : (i : ℕ) → i < most_pins → inside (place_if_reached feed runs i) ≡ true
    unfolding place_if_reached reached_pin
    one_inside zero l = run_inside (near_end feed) 0 _ refl (λ some. on 0 some (omega arith) l)
    one_inside (suc r) l = run_inside (far_end feed) r _ refl (λ there. on (suc r) (omega arith) (omega arith) l)

    -- and each place of the list, past whose end the middle stands in.
    pub places_inside : (i : ℕ) → inside (place_in (places_of feed runs) i) ≡ true
    places_inside i = go (ltb i most_pins) refl
      where
        long : length (places_of feed runs) ≡ most_pins
        long = unfold places_of in values_long (place_if_reached feed runs) 0 most_pins

        go : (b : Bool) → ltb i most_pins ≡ b → inside (place_in (places_of feed runs) i) ≡ true
        go true e = rw (listed i (ltb-true i most_pins e)) (one_inside i (ltb-true i most_pins e))
        go false e = rw (get_or-eq_default (places_of feed runs) middle {n = i} (omega (arith, long, ltb-false i most_pins e))) middle_inside

module _ (feed : List Spot) (all : List Run) (count : ℕ) (long : length all ≡ most_runs) (few : count ≤ most_runs) where
  -- Of an array of 31 runs there are as many first ones as are counted,
  many : length (take count all) ≡ count
  many = length-take-le count all (omega arith)

  -- and they reach the pins that all of them reach as the same numbers.
  reached_first : (i : ℕ) → 0 < count → i ≤ count → reached_place feed (take count all) i ≡ reached_place feed all i
  unfolding reached_pin
  reached_first zero some l = ap (near_end feed) (get_or-take count all 0 (run 0 0) some)
  reached_first (suc r) some l = ap (far_end feed) (get_or-take count all r (run 0 0) (omega arith))

  -- So the first runs ask no more than the whole array: where the pins that its 31 entries reach are on the board, so is each place that the first give.
  pub first_runs_inside : ((i : ℕ) → i < most_pins → inside (reached_place feed all i) ≡ true) → (i : ℕ) → inside (place_in (places_of feed (take count all)) i) ≡ true
  first_runs_inside on =
      places_inside feed (take count all) (λ i some upto l. rw (reached_first i (omega (arith, many)) (omega (arith, many))) (on i l))

  -- And what is found for them is the same, whether their pins stand where the first runs say or where the whole array does.
  pub first_runs_found : (near : ℕ → ℕ) → ((r : ℕ) → r < count → near r ≤ r) → (favoured : Bool)
      → least_of_tree (place_in (places_of feed (take count all))) near favoured count
      ≡ least_of_tree (place_in (values_from (reached_place feed all) 0 most_pins)) near favoured count
  first_runs_found near before favoured = found_alike (place_in (places_of feed (take count all))) (place_in whole) near near count alike favoured
    where
      whole : List Place
      whole = values_from (reached_place feed all) 0 most_pins

      same : (i : ℕ) → 0 < count → i ≤ count → place_in (places_of feed (take count all)) i ≡ place_in whole i
      same i some upto =
          place_is feed (take count all) i (omega (arith, many)) (omega (arith, many)) (omega arith)
          ∙ reached_first i some upto
          ∙ sym (value_at (reached_place feed all) most_pins i middle (omega arith))

      alike : Alike (place_in (places_of feed (take count all))) (place_in whole) near near count
      alike =
          record {
            nears = λ r l. refl;
            near_ends = λ r l. same (near r) (omega arith) (omega (arith, before r l));
            far_ends = λ r l. same (suc r) (omega arith) (omega arith);
          }
