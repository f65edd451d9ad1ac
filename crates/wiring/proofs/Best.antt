-- THE SHAPES FOUND ARE THE FIRST OF THE SHORTEST: what is asked pin by pin tells, as a length and a mask, the choice that the definition finds by
-- looking through all of them. From pins that stand on the board, no two of them too near.
use mathlib.Core.Path.{◌≡◌, refl, sym, ap, ap₂, ◌∙◌}
use mathlib.Core.Bool.{Bool, true, false, not}
use mathlib.Core.List.{List, [], ◌∷◌, ◌++◌}
use mathlib.Core.Logic.{◌⊎◌, inl, inr, ⊎_elim}
use Prim.Native.Nat.{ℕ, zero, suc, ◌+◌, ◌*◌, ◌/◌, ◌%◌, ◌≤◌, ◌<◌}
use native.Mathlib.Nat.{add-mul-div_right, add-mul-mod_self_right, div-eq_of_lt, mod-eq_of_lt}
use native.Mathlib.Omega.{arith}
use lib.ListN.{length}
use borrow.Author.Tests.{not-false}
use Rattle.board.specs.declared.Place.{Place}
use Rattle.board.specs.Spots.{Spot}
use Rattle.board.specs.Place.{is_straight}
use Rattle.tree.specs.declared.Run.{Run}
use Rattle.board.specs.Spots.{most_pins, all_within, all_apart}
use Rattle.tree.specs.Growth.{pins_of, runs_of}
use Rattle.tree.specs.Trees.{most_runs}
use Rattle.tree.specs.Reached.{run_at, reached_near, reached_place}
use Rattle.tree.proofs.Membership.{Among}
use Rattle.copper.specs.declared.Shape.{Shape}
use Rattle.copper.specs.declared.Leg.{Leg}
use Rattle.copper.specs.Shapes.{shape_of, legs_of}
use Rattle.copper.specs.Length.{length_of}
use Rattle.copper.specs.Least.{is_bent}
use Rattle.basics.proofs.Sums.{sum_below, sum_same}
use Rattle.least.proofs.Choices.{May}
use Rattle.least.proofs.Tallies.{least_of}
use Rattle.least.proofs.Wired.{legs_of_runs, first_shortest, join_below, join_first, runs_joined}
use Rattle.least.proofs.Planted.{places_held}
use Rattle.least.specs.Asking.{base, mark_of}
use Rattle.laying.specs.Entries.{near_end, far_end}
use Rattle.wiring.specs.Choices.{choices_of, legs_of_choice, length_of_choice, best_choice}
use Rattle.laying.specs.Reaching.{upper_in, shapes_by}
use Rattle.wiring.proofs.Ordered.{choice_told, told_choice, choice_long, choices_rising, choice_may, bends_told, first_found}
use Rattle.wiring.proofs.Masks.{bends, mask_from, mask_by, mask_sum, mask_choice, mask_less, mask_read}
use Rattle.wiring.proofs.Laying.{near_place, far_place, laid}

-- Equal legs of each run, joined, are the same.
join_same : (n : ℕ) (g h : ℕ → List Leg) → ((r : ℕ) → r < n → g r ≡ h r) → join_below g n ≡ join_below h n
unfolding join_below
join_same zero g h e = refl
join_same (suc n) g h e = ap₂ (λ (a b : List Leg). a ++ b) (join_same n g h (λ r l. e r (omega arith))) (e n (omega arith))

-- The legs of run r.
abbrev legs_at : List Spot → List Run → (ℕ → Bool) → ℕ → List Leg
legs_at feed runs upper r =
    legs_of (shape_of (upper r) (near_end feed (run_at runs r)) (far_end feed (run_at runs r))) (near_end feed (run_at runs r)) (far_end feed (run_at runs r))

-- The legs of a choice, run by run.
legs_join : (feed : List Spot) (runs : List Run) (upper : ℕ → Bool) → legs_of_choice feed runs (shapes_by feed upper runs) ≡ join_below (legs_at feed runs upper) (length runs)
unfolding legs_of_choice shapes_by
legs_join feed [] upper = unfold join_below in refl
legs_join feed (r ∷ runs) upper =
    ap (λ (l : List Leg). legs_of (shape_of (upper 0) (near_end feed r) (far_end feed r)) (near_end feed r) (far_end feed r) ++ l) (legs_join feed runs (λ q. upper (suc q)))
    ∙ sym (join_first (legs_at feed (r ∷ runs) upper) (length runs))

-- Shapes that bend alike are the same.
shapes_same : (feed : List Spot) (runs : List Run) (u v : ℕ → Bool) → ((r : ℕ) → r < length runs → u r ≡ v r) → shapes_by feed u runs ≡ shapes_by feed v runs
unfolding shapes_by
shapes_same feed [] u v h = refl
shapes_same feed (r ∷ runs) u v h =
    ap₂ (λ (b : Bool) (c : List Shape). shape_of b (near_end feed r) (far_end feed r) ∷ c) (h 0 (omega arith))
    (shapes_same feed runs (λ q. u (suc q)) (λ q. v (suc q)) (λ q l. h (suc q) (omega arith)))

-- A length and a mask as one number, taken apart again.
split_length : (mask long : ℕ) → mask < base → (mask + long * base) / base ≡ long
split_length mask long l = add-mul-div_right mask long {z = base} (omega arith) ∙ (let z : mask / base ≡ 0 = div-eq_of_lt l in omega (arith, z))

-- And the mask.
split_mask : (mask long : ℕ) → mask < base → (mask + long * base) % base ≡ mask
split_mask mask long l = add-mul-mod_self_right mask long base ∙ mod-eq_of_lt l

module _ (feed : List Spot) (full : length feed ≡ most_pins) (ok : all_within feed ≡ true) (f : ℕ) (left : List ℕ) (e : pins_of feed ≡ f ∷ left)
    (free : all_apart feed ≡ true) (few : length (runs_of feed) ≤ most_runs) (favoured : Bool) where
  abbrev runs : List Run
  runs = runs_of feed

  abbrev n : ℕ
  n = length runs

  abbrev at : ℕ → Place
  at = reached_place feed runs

  abbrev near : ℕ → ℕ
  near = reached_near runs

  -- The legs of a choice are those of the runs by when their pins are reached.
  legs_told : (upper : ℕ → Bool) → legs_of_choice feed runs (shapes_by feed upper runs) ≡ legs_of_runs at near upper n
  legs_told upper =
      legs_join feed runs upper
      ∙ join_same n (legs_at feed runs upper) (λ r. legs_of (shape_of (upper r) (at (near r)) (at (suc r))) (at (near r)) (at (suc r)))
      (λ r l. ap₂ (λ (a b : Place). legs_of (shape_of (upper r) a b) a b) (sym (near_place feed full ok f left e r l)) (sym (far_place feed full ok f left e r)))
      ∙ sym (runs_joined at near upper n)

  -- So is its length.
  length_told : (upper : ℕ → Bool) → length_of_choice feed runs (shapes_by feed upper runs) ≡ length_of (legs_of_runs at near upper n)
  unfolding length_of_choice
  length_told upper = ap length_of (legs_told upper)

  -- The cost that is asked pin by pin.
  abbrev cost : ℕ
  cost = least_of at near base (mark_of favoured) n

  -- A mask of all runs is small.
  small : (upper : ℕ → Bool) → sum_below n (λ r. mark_of favoured r (upper r)) < base
  small upper = let z : mask_by favoured 0 n upper < base = mask_less favoured 0 n upper (omega arith) in omega (arith, mask_sum favoured n upper)

  -- The mask of a choice is the sum of its marks.
  mask_told : (c : List Shape) → length c ≡ n → mask_from favoured 0 c ≡ sum_below n (λ r. mark_of favoured r (bends c r))
  mask_told c l = mask_choice favoured 0 c ∙ ap (λ (k : ℕ). mask_by favoured 0 k (bends c)) l ∙ sym (mask_sum favoured n (bends c))

  -- Bends that may be, by the ends of the runs and by when their pins are reached.
  may_reached : (upper : ℕ → Bool) → ((r : ℕ) → r < n → is_straight (near_end feed (run_at runs r)) (far_end feed (run_at runs r)) ≡ true → upper r ≡ false)
      → (r : ℕ) → r < n → May (is_bent at near r) (upper r)
  unfolding is_bent
  may_reached upper h r l q =
      h r l
      (ap₂ is_straight (sym (near_place feed full ok f left e r l)) (sym (far_place feed full ok f left e r))
      ∙ not-false (is_straight (at (near r)) (at (suc r))) q)

  -- And back.
  may_ends : (upper : ℕ → Bool) → ((r : ℕ) → r < n → May (is_bent at near r) (upper r))
      → (r : ℕ) → r < n → is_straight (near_end feed (run_at runs r)) (far_end feed (run_at runs r)) ≡ true → upper r ≡ false
  unfolding is_bent
  may_ends upper h r l q =
      h r l (ap not (ap₂ is_straight (near_place feed full ok f left e r l) (far_place feed full ok f left e r) ∙ q))

  module _ (s : ℕ → Bool) (may : (r : ℕ) → r < n → May (is_bent at near r) (s r))
      (is : cost ≡ sum_below n (λ r. mark_of favoured r (s r)) + length_of (legs_of_runs at near s n) * base)
      (ahead : (t : ℕ → Bool) → ((r : ℕ) → r < n → May (is_bent at near r) (t r))
      → (length_of (legs_of_runs at near s n) < length_of (legs_of_runs at near t n))
      ⊎ ((length_of (legs_of_runs at near s n) ≡ length_of (legs_of_runs at near t n))
      × (sum_below n (λ r. mark_of favoured r (s r)) ≤ sum_below n (λ r. mark_of favoured r (t r))))) where
    abbrev best : List Shape
    best = shapes_by feed s runs

    -- The shapes found are a choice,
    best_in : Among best (choices_of favoured feed runs)
    best_in = told_choice favoured feed runs s

    -- whose mask is found too;
    best_mask : mask_from favoured 0 best ≡ sum_below n (λ r. mark_of favoured r (s r))
    best_mask =
        mask_told best (choice_long favoured feed runs best best_in)
        ∙ sum_same n (λ r. mark_of favoured r (bends best r)) (λ r. mark_of favoured r (s r)) (λ r l. ap (mark_of favoured r) (bends_told feed runs s (may_ends s may) r l))

    -- no choice is shorter, and none as short has a smaller mask;
    best_first : (d : List Shape) → Among d (choices_of favoured feed runs)
        → (length_of_choice feed runs best < length_of_choice feed runs d)
        ⊎ ((length_of_choice feed runs best ≡ length_of_choice feed runs d) × (mask_from favoured 0 best ≤ mask_from favoured 0 d))
    best_first d m =
        let l : length_of_choice feed runs d ≡ length_of (legs_of_runs at near (bends d) n) =
        ap (length_of_choice feed runs) (choice_told favoured feed runs d m) ∙ length_told (bends d) in
        let b : length_of_choice feed runs best ≡ length_of (legs_of_runs at near s n) = length_told s in
        ⊎_elim (λ h. inl (omega (arith, h, l, b)))
        (λ h. inr (omega (arith, h.0, l, b), omega (arith, h.1, best_mask, mask_told d (choice_long favoured feed runs d m))))
        (ahead (bends d) (may_reached (bends d) (choice_may favoured feed runs d m)))

    -- so they are the best choice,
    best_is : best_choice favoured feed runs ≡ best
    unfolding best_choice
    best_is = first_found feed runs (mask_from favoured 0) best (choices_of favoured feed runs) best_in (choices_rising favoured feed 0 runs (omega arith)) best_first

    -- with its length
    length_is : cost / base ≡ length_of_choice feed runs (best_choice favoured feed runs)
    length_is = ap (λ (c : ℕ). c / base) is ∙ split_length _ _ (small s) ∙ sym (length_told s) ∙ ap (length_of_choice feed runs) (sym best_is)

    -- and its shapes.
    shapes_is : shapes_by feed (upper_in favoured (cost % base)) runs ≡ best_choice favoured feed runs
    shapes_is =
        shapes_same feed runs (upper_in favoured (cost % base)) s
        (λ r l.
        ap (λ (m : ℕ). upper_in favoured m r) (ap (λ (c : ℕ). c % base) is ∙ split_mask _ _ (small s) ∙ mask_sum favoured n s) ∙ mask_read favoured n s r few l)
        ∙ sym best_is

  -- The length of the best choice ..
  pub length_found : cost / base ≡ length_of_choice feed runs (best_choice favoured feed runs)
  length_found =
      let z = first_shortest at near n (λ i l. places_held feed full ok f left e i) (laid feed full ok f left e free) base (mark_of favoured) small in
      length_is z.0 z.1 z.2 z.3

  -- .. and its shapes.
  pub shapes_found : shapes_by feed (upper_in favoured (cost % base)) runs ≡ best_choice favoured feed runs
  shapes_found =
      let z = first_shortest at near n (λ i l. places_held feed full ok f left e i) (laid feed full ok f left e free) base (mark_of favoured) small in
      shapes_is z.0 z.1 z.2 z.3
