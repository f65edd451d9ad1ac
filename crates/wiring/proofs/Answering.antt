-- What the parts of `wire_favouring` come to: a refusal of the tree, too little room, or the answer. From pins that stand on the board, no two
-- of them too near.
use mathlib.Core.Path.{◌≡◌, refl, sym, ap, ◌∙◌, subst}
use mathlib.Core.Bool.{Bool, true, false}
use mathlib.Core.List.{List, [], ◌∷◌, ◌++◌}
use Prim.Native.Nat.{ℕ, suc, ◌/◌, ◌%◌, ◌≤◌, ◌<◌}
use native.Mathlib.Omega.{arith}
use lib.Dec.{ltb}
use lib.ListN.{length, take}
use borrow.Author.Tests.{lt-ltb, le-ltb}
use Rattle.basics.specs.Tests.{choose}
use Rattle.basics.specs.Lists.{values_from}
use Rattle.refusal.specs.Refusals.{accepted}
use Rattle.refusal.specs.Rows.{first_of}
use Rattle.refusal.specs.declared.Refusal.{Refusal}
use Rattle.refusal.specs.declared.Refusal.TheVariants.{NoPins, RoomTooSmall}
use Rattle.std.specs.Prelude.{Result, Ok, Err}
use Rattle.basics.proofs.Tests.{choose_yes, choose_no}
use Rattle.basics.proofs.Lists.{padded_at, padded_first, value_at, values_shift, values_same}
use Rattle.board.specs.declared.Place.{Place}
use Rattle.board.specs.Spots.{Spot}
use Rattle.tree.specs.declared.Run.{Run}
use Rattle.tree.specs.declared.Tree.{Tree}
use Rattle.board.specs.Spots.{most_pins, place_in, all_within, all_apart}
use Rattle.tree.specs.Growth.{run, pins_of, runs_of}
use Rattle.tree.specs.Trees.{most_runs, entries, tree_with, none, tree_of}
use Rattle.tree.specs.Reached.{run_at, reached_pin, reached_near, reached_place}
use Rattle.board.proofs.Rules.{inside_at}
use Rattle.tree.proofs.Answer.{Answer, no_pins, the_runs, answer, runs_few}
use Rattle.copper.specs.declared.Shape.{Shape}
use Rattle.copper.specs.declared.Leg.{Leg}
use Rattle.copper.specs.Shapes.{shape_of, legs_of}
use Rattle.least.proofs.Tallies.{least_of}
use Rattle.least.specs.declared.Least.{Least}
use Rattle.least.specs.Asking.{base, mark_of, least_of_tree, Grown, near_pin}
use Rattle.least.proofs.Whole.{tree_cost}
use Rattle.least.proofs.Alike.{Alike, found_alike}
use Rattle.laying.specs.declared.RunEntry.{RunEntry}
use Rattle.laying.specs.declared.Strip.{Strip}
use Rattle.laying.specs.Entries.{near_end, far_end, run_entry, no_run, run_entries, leg_entries}
use Rattle.wiring.specs.Choices.{best_choice, legs_of_choice, length_of_choice, weighed_of}
use Rattle.wiring.specs.Answer.{shaped_runs, turned_away, answer_with, wiring_rows, wiring_with, wiring_favouring}
use Rattle.laying.proofs.Places.{place_is, places_inside}
use Rattle.laying.specs.Reaching.{places_of, reached_as, nears_of, Numbered, upper_in, shaped_run, shaped_in, entries_in, legs_of_entry, legs_of_entries, strip, shapes_by}
use Rattle.wiring.proofs.Laying.{grown, near_low, far_low, near_told}
use Rattle.wiring.proofs.Best.{length_found, shapes_found}
use Rattle.wiring.proofs.Weighed.{weighed_told}

-- ---- how a feed is refused, and how it has a tree
-- What a feed that has a tree says: its first pin and the others, and what the tree holds.
pub record Wired (feed : List Spot) (t : Tree) : Type 0 where
  pub first : ℕ
  pub left : List ℕ
  pub pins : pins_of feed ≡ first ∷ left
  pub count : t.count ≡ length (runs_of feed)
  pub runs : take t.count t.runs ≡ runs_of feed

-- Its tree is that of its runs.
wired_by : (feed : List Spot) (f : ℕ) (left : List ℕ) → pins_of feed ≡ f ∷ left → Wired feed (tree_with (runs_of feed))
unfolding tree_with entries
wired_by feed f left p = record { first = f; left = left; pins = p; count = refl; runs = padded_first most_runs (run 0 0) (runs_of feed) refl }

-- Without pins the wiring is refused as the tree is.
pins_refused : (favoured : Bool) (feed : List Spot) (room : ℕ) → pins_of feed ≡ [] → turned_away (Err NoPins) ≡ wiring_favouring favoured feed room
unfolding wiring_favouring wiring_with first_of accepted choose
pins_refused favoured feed room p = rw p

-- What a tree comes to: a refusal that the wiring passes on, or a tree that holds the runs.
unfoldable TreeSays : Bool → List Spot → ℕ → Result Tree Refusal → Type 0
TreeSays favoured feed room (Ok t) = Wired feed t
TreeSays favoured feed room (Err r) = turned_away (Err r) ≡ wiring_favouring favoured feed room

tree_says : (favoured : Bool) (feed : List Spot) (room : ℕ) → TreeSays favoured feed room (tree_of feed)
unfolding TreeSays
tree_says favoured feed room = go (answer feed)
  where
    go : Answer feed → TreeSays favoured feed room (tree_of feed)
    go (no_pins p q) = rw q (pins_refused favoured feed room p)
    go (the_runs f left p q) = rw q (wired_by feed f left p)

-- The tree refuses: so does the wiring.
pub tree_refuses : (favoured : Bool) (feed : List Spot) (room : ℕ) (r : Refusal) → Err r ≡ tree_of feed → turned_away (Err r) ≡ wiring_favouring favoured feed room
unfolding TreeSays
tree_refuses favoured feed room r e = subst (TreeSays favoured feed room) (sym e) (tree_says favoured feed room)

-- The tree is there: there is a first pin, and its runs are those of the feed.
pub tree_accepts : (feed : List Spot) (t : Tree) → Ok t ≡ tree_of feed → Wired feed t
unfolding TreeSays
tree_accepts feed t e = subst (TreeSays true feed 0) (sym e) (tree_says true feed 0)

-- ---- the shapes, run by run
-- A run with the shape that its bend gives it.
abbrev bent_as : List Spot → (ℕ → Bool) → List Run → ℕ → RunEntry
bent_as feed upper runs r = run_entry (run_at runs r).near (run_at runs r).far (shape_of (upper r) (near_end feed (run_at runs r)) (far_end feed (run_at runs r)))

-- One after the other these are the runs with their shapes.
shaped_values : (feed : List Spot) (upper : ℕ → Bool) (runs : List Run) → values_from (bent_as feed upper runs) 0 (length runs) ≡ shaped_runs runs (shapes_by feed upper runs)
unfolding shaped_runs shapes_by
shaped_values feed upper [] = unfold values_from in refl
shaped_values feed upper (r ∷ runs) =
    front (bent_as feed upper (r ∷ runs)) (length runs)
    ∙ ap (λ (l : List RunEntry). bent_as feed upper (r ∷ runs) 0 ∷ l)
    (values_shift (bent_as feed upper (r ∷ runs)) 0 (length runs) ∙ shaped_values feed (λ q. upper (suc q)) runs)
  where
    front : (f : ℕ → RunEntry) (k : ℕ) → values_from f 0 (suc k) ≡ f 0 ∷ values_from f 1 k
    front f k = unfold values_from in refl

-- So the run entries that a mask gives are those of the shapes that it tells.
entries_shaped : (feed : List Spot) (favoured : Bool) (mask : ℕ) (runs : List Run)
    → entries_in feed favoured mask runs ≡ run_entries (shaped_runs runs (shapes_by feed (upper_in favoured mask) runs))
unfolding entries_in
entries_shaped feed favoured mask runs =
    ap run_entries
    (values_same (shaped_in feed favoured mask runs) (bent_as feed (upper_in favoured mask) runs) 0 (length runs) (λ j. same j)
    ∙ shaped_values feed (upper_in favoured mask) runs)
  where
    same : (j : ℕ) → shaped_in feed favoured mask runs j ≡ bent_as feed (upper_in favoured mask) runs j
    same j = unfold shaped_in shaped_run in refl

-- There are as many as runs.
shaped_long : (feed : List Spot) (upper : ℕ → Bool) (runs : List Run) → length (shaped_runs runs (shapes_by feed upper runs)) ≡ length runs
unfolding shaped_runs shapes_by
shaped_long feed upper [] = refl
shaped_long feed upper (r ∷ runs) = ap suc (shaped_long feed (λ q. upper (suc q)) runs)

-- The first run entries are those before the blanks.
take-entries : (l : List RunEntry) (n : ℕ) → length l ≡ n → take n (run_entries l) ≡ l
unfolding run_entries
take-entries l n e = padded_first most_runs no_run l e

-- The legs of the run entries are those of the choice.
legs_shaped : (feed : List Spot) (runs : List Run) (shapes : List Shape) → legs_of_entries feed (shaped_runs runs shapes) ≡ legs_of_choice feed runs shapes
unfolding legs_of_entries shaped_runs legs_of_choice legs_of_entry
legs_shaped feed [] shapes = refl
legs_shaped feed (r ∷ runs) [] = refl
legs_shaped feed (r ∷ runs) (s ∷ shapes) = ap (λ (l : List Leg). legs_of s (near_end feed r) (far_end feed r) ++ l) (legs_shaped feed runs shapes)

module _ (feed : List Spot) (full : length feed ≡ most_pins) (ok : all_within feed ≡ true) (free : all_apart feed ≡ true) (favoured : Bool)
    (t : Tree) (w : Wired feed t) where
  abbrev runs : List Run
  runs = runs_of feed

  abbrev n : ℕ
  n = length runs

  -- There are at most 31 runs.
  pub few : n ≤ most_runs
  few = runs_few feed full

  -- Where its pins stand, as they are reached,
  abbrev places : List Place
  places = places_of feed runs

  -- and the near pins of its runs.
  abbrev nears : List ℕ
  nears = nears_of runs

  -- Near pins are reached as the same numbers.
  near_is : (r : ℕ) → r < n → near_pin nears r ≡ reached_near runs r
  unfolding nears_of
  near_is r l =
      let number : ℕ → ℕ = λ q. reached_as runs q (run_at runs q).near in
      padded_at most_runs 0 (values_from number 0 n) r ∙ value_at number n r 0 l ∙ near_told feed full ok w.first w.left w.pins r l

  -- The ends of its runs are pins from 0 to 31.
  pub runs_numbered : Numbered runs
  runs_numbered =
      record { few = few; near = λ r l. near_low feed full ok w.first w.left w.pins r l; far = λ r l. far_low feed full ok w.first w.left w.pins r l }

  abbrev before : (r : ℕ) → r < n → reached_near runs r ≤ r
  before = grown feed full ok w.first w.left w.pins

  -- The tree can be asked.
  pub tree_grown : Grown places nears n
  tree_grown =
      record {
        few = few;
        near_first = λ r l. rw (near_is r l) (before r l);
        on_board = places_inside feed runs (λ i some upto l. inside_at feed ok (reached_pin runs i));
      }

  -- The tree by its lists is told as the tree by its runs.
  alike : Alike (place_in places) (reached_place feed runs) (near_pin nears) (reached_near runs) n
  alike =
      record {
        nears = near_is;
        near_ends = λ r l.
            ap (place_in places) (near_is r l)
            ∙ place_is feed runs (reached_near runs r) (omega arith) (omega (arith, before r l)) (omega (arith, few, before r l));
        far_ends = λ r l. place_is feed runs (suc r) (omega arith) (omega arith) (omega (arith, few));
      }

  module _ (f : Least) (ef : f ≡ least_of_tree (place_in places) (near_pin nears) favoured n) where
    abbrev choice : List Shape
    choice = best_choice favoured feed runs

    -- What is found for the one is found for the other:
    found_is : f ≡ least_of_tree (reached_place feed runs) (reached_near runs) favoured n
    found_is = ef ∙ found_alike (place_in places) (reached_place feed runs) (near_pin nears) (reached_near runs) n alike favoured

    -- the cost is the least of all choices of shapes,
    cost_is : f.cost ≡ least_of (reached_place feed runs) (reached_near runs) base (mark_of favoured) n
    unfolding least_of_tree
    cost_is = ap (λ (z : Least). z.cost) found_is ∙ tree_cost (reached_place feed runs) (reached_near runs) favoured n

    -- its length that of the best choice,
    length_is : f.cost / base ≡ length_of_choice feed runs choice
    length_is = ap (λ (c : ℕ). c / base) cost_is ∙ length_found feed full ok w.first w.left w.pins free few favoured

    -- its shapes those of the best choice,
    shapes_is : shapes_by feed (upper_in favoured (f.cost % base)) runs ≡ choice
    shapes_is =
        ap (λ (c : ℕ). shapes_by feed (upper_in favoured (c % base)) runs) cost_is
        ∙ shapes_found feed full ok w.first w.left w.pins free few favoured

    -- and the choices weighed those of the definition.
    weighed_is : f.weighed ≡ weighed_of feed runs (pins_of feed)
    unfolding least_of_tree
    weighed_is = ap (λ (z : Least). z.weighed) found_is ∙ weighed_told feed full ok w.first w.left w.pins

    module _ (E : List RunEntry) (e_e : E ≡ entries_in feed favoured (f.cost % base) runs) (S : Strip) (e_s : S ≡ strip (legs_of_entries feed (take n E))) where
      -- The run entries are those of the best choice ..
      entries_is : E ≡ run_entries (shaped_runs runs choice)
      entries_is = e_e ∙ entries_shaped feed favoured (f.cost % base) runs ∙ ap (λ (c : List Shape). run_entries (shaped_runs runs c)) shapes_is

      -- .. as many as runs ..
      count_is : length (shaped_runs runs choice) ≡ n
      count_is = rw shapes_is at (shaped_long feed (upper_in favoured (f.cost % base)) runs)

      -- .. and so are the legs ..
      strip_is : S ≡ strip (legs_of_choice feed runs choice)
      strip_is =
          e_s ∙ ap (λ (l : List RunEntry). strip (legs_of_entries feed l)) (ap (take n) entries_is ∙ take-entries (shaped_runs runs choice) n count_is)
          ∙ ap strip (legs_shaped feed runs choice)

      -- .. their number ..
      many_is : S.count ≡ length (legs_of_choice feed runs choice)
      unfolding strip
      many_is = ap (λ (s : Strip). s.count) strip_is

      -- .. and their entries.
      legs_is : S.list ≡ leg_entries (legs_of_choice feed runs choice)
      unfolding strip
      legs_is = ap (λ (s : Strip). s.list) strip_is

      -- There are pins,
      some : none (pins_of feed) ≡ false
      some = rw w.pins

      -- so that the room alone decides.
      verdict_is : (room : ℕ) → first_of (wiring_rows feed choice room) ≡ choose (ltb room S.count) (Err RoomTooSmall) (Ok tt)
      unfolding first_of choose
      verdict_is room = rw (some, many_is)

      -- Too little room.
      pub room_refused : (room : ℕ) → room < S.count → turned_away (Err RoomTooSmall) ≡ wiring_favouring favoured feed room
      unfolding wiring_favouring wiring_with
      room_refused room l =
          let v : first_of (wiring_rows feed choice room) ≡ Err RoomTooSmall = verdict_is room ∙ choose_yes (Err RoomTooSmall) (Ok tt) (lt-ltb room S.count l) in
          rw v (sym (choose_no (answer_with feed choice) (turned_away (Err RoomTooSmall)) (unfold accepted in refl)))

      -- The answer.
      pub answer_is : (room : ℕ) → S.count ≤ room
          → record {
            wiring = record { verdict = Ok tt; length = f.cost / base; runs = n; entries = E; legs = S.count; weighed = f.weighed };
            list = S.list;
          } ≡ wiring_favouring favoured feed room
      unfolding wiring_favouring wiring_with
      answer_is room l =
          let v : first_of (wiring_rows feed choice room) ≡ Ok tt = verdict_is room ∙ choose_no (Err RoomTooSmall) (Ok tt) (le-ltb room S.count l) in
          rw v (unfold accepted choose answer_with in rw (length_is, weighed_is, entries_is, many_is, legs_is, count_is))

-- ---- the same of the tree as the code has it: its first runs, as many as it says
module _ (feed : List Spot) (full : length feed ≡ most_pins) (ok : all_within feed ≡ true) (free : all_apart feed ≡ true) (favoured : Bool) (room : ℕ)
    (t : Tree) (et : Ok t ≡ tree_of feed) (R : List Run) (er : R ≡ take t.count t.runs) where
  -- What the tree says.
  w : Wired feed t
  w = tree_accepts feed t et

  -- These are the runs of the feed:
  runs_are : R ≡ runs_of feed
  runs_are = er ∙ w.runs

  -- at most 31,
  pub count_few : t.count ≤ most_runs
  count_few = omega (arith, few feed full ok free favoured t w, w.count)

  pub runs_few_lem : length R ≤ most_runs
  runs_few_lem = rw runs_are (few feed full ok free favoured t w)

  -- between pins from 0 to 31, and the tree can be asked.
  pub wire_asked : Numbered R × Grown (places_of feed R) (nears_of R) (length R)
  wire_asked = rw runs_are (runs_numbered feed full ok free favoured t w, tree_grown feed full ok free favoured t w)

  module _ (f : Least) (ef : f ≡ least_of_tree (place_in (places_of feed R)) (near_pin (nears_of R)) favoured (length R))
      (E : List RunEntry) (e_e : E ≡ entries_in feed favoured (f.cost % base) R)
      (L : List RunEntry) (el : L ≡ take t.count E) (S : Strip) (e_s : S ≡ strip (legs_of_entries feed L)) where
    -- What is found, by the tree of the definition.
    found_as : f ≡ least_of_tree (place_in (places_of feed (runs_of feed))) (near_pin (nears_of (runs_of feed))) favoured (length (runs_of feed))
    found_as = rw runs_are at ef

    -- The run entries, by the tree of the definition,
    entries_as : E ≡ entries_in feed favoured (f.cost % base) (runs_of feed)
    entries_as = rw runs_are at e_e

    -- and the legs.
    strip_as : S ≡ strip (legs_of_entries feed (take (length (runs_of feed)) E))
    strip_as = e_s ∙ ap (λ (l : List RunEntry). strip (legs_of_entries feed l)) (el ∙ ap (λ (k : ℕ). take k E) w.count)

    -- Too little room is refused ..
    pub wire_room : room < S.count → turned_away (Err RoomTooSmall) ≡ wiring_favouring favoured feed room
    wire_room l = room_refused feed full ok free favoured t w f found_as E entries_as S strip_as room l

    -- .. and otherwise this is the answer.
    pub wire_answer : S.count ≤ room
        → record {
          wiring = record { verdict = Ok tt; length = f.cost / base; runs = t.count; entries = E; legs = S.count; weighed = f.weighed };
          list = S.list;
        } ≡ wiring_favouring favoured feed room
    wire_answer l = rw w.count (answer_is feed full ok free favoured t w f found_as E entries_as S strip_as room l)
