-- The runs of a feed, its pins numbered by when they are reached, are laid as the length asks: the boxes of two without a common pin share no point.
-- From pins that stand on the board at places of their own.
use mathlib.Core.Path.{◌≡◌, ◌∙◌}
use mathlib.Core.Bool.{true}
use mathlib.Core.List.{List, [], ◌∷◌, reverse_aux}
use mathlib.Core.Logic.{inl}
use Prim.Native.Nat.{ℕ, suc, ◌≤◌, ◌<◌}
use native.Mathlib.Omega.{arith}
use lib.IntN.{ℤ}
use lib.ListN.{length}
use borrow.Author.Tests.{eq-eqb}
use Rattle.basics.proofs.Tests.{both_of}
use Rattle.board.specs.declared.Place.{Place}
use Rattle.board.specs.Spots.{Spot}
use Rattle.board.specs.Place.{same_number, same_place}
use Rattle.board.proofs.Signed.{off, I32}
use Rattle.board.proofs.Flat.{Site, span, site, PlaceI32}
use Rattle.tree.specs.declared.Run.{Run}
use Rattle.board.specs.Spots.{most_pins, all_within, place_at}
use Rattle.tree.specs.Growth.{pins_of, runs_of}
use Rattle.tree.specs.Reached.{reached_pin, reached_near, reached_place}
use Rattle.tree.proofs.Membership.{Among}
use Rattle.tree.proofs.Numbering.{site_at, key_at, stands, fits, keyed}
use Rattle.tree.proofs.Branches.{HasRun, here, further}
use Rattle.tree.proofs.Listing.{Rooted, runs_rooted, runs_grown, pins_low}
use Rattle.spanning.proofs.Positions.{near_before, near_pin_lem, pin_there, reached_once}
use Rattle.spanning.proofs.Spanning.{in_turned, has_run, entry_in}
use Rattle.spanning.proofs.Neighbours.{Joined, onward, backward, beyond, neighbours}
use Rattle.spanning.proofs.FourPins.{InBox, key_span}
use Rattle.spanning.proofs.Apart.{separate}
use Rattle.copper.proofs.Numbers.{low_held, same_off}
use Rattle.least.proofs.Sharing.{Same}
use Rattle.least.proofs.Laid.{Joins, out, back, Spaced}

-- A run of a list joins its ends.
run_onward : {s t : ℕ} {rs : List Run} → HasRun s t rs → Joined s t rs
run_onward (here e f) = onward e f
run_onward (further h) = beyond (run_onward h)

-- The other way round.
run_backward : {s t : ℕ} {rs : List Run} → HasRun s t rs → Joined t s rs
run_backward (here e f) = backward f e
run_backward (further h) = beyond (run_backward h)

module _ (feed : List Spot) (full : length feed ≡ most_pins) (ok : all_within feed ≡ true) (f : ℕ) (left : List ℕ) (e : pins_of feed ≡ f ∷ left) where
  abbrev runs : List Run
  runs = runs_of feed

  abbrev n : ℕ
  n = length runs

  abbrev pin : ℕ → ℕ
  pin = reached_pin runs

  abbrev at : ℕ → Place
  at = reached_place feed runs

  abbrev near : ℕ → ℕ
  near = reached_near runs

  -- The runs start at the lowest pin.
  root : Rooted f left runs
  root = runs_rooted feed full ok f left e

  -- Every place is held by i32.
  pub places_held : (i : ℕ) → PlaceI32 (at i)
  places_held i = (stands feed ok (pin i)).held

  -- Pins at places of their own.
  module _ (distinct : (a b : ℕ) → Among a (f ∷ left) → Among b (f ∷ left) → same_place (place_at feed a) (place_at feed b) ≡ true → a ≡ b) where
    -- The near pin of a run is one of those that are reached.
    near_low : (r : ℕ) → r < n → near r < suc n
    near_low r l = omega (arith, near_before f left runs root r l)

    -- Two numbers tell two pins.
    differ : (i j : ℕ) → i < suc n → j < suc n → (i ≡ j → ⊥) → pin i ≡ pin j → ⊥
    differ i j l k ne z = ne (reached_once f left runs root i j l k z)

    -- Sites that are the same are of one pin.
    same_pin_lem : (i j : ℕ) → 0 < n → i < suc n → j < suc n → Same (site (at i)) (site (at j)) → i ≡ j
    unfolding Same same_place
    same_pin_lem i j o l k s =
        reached_once f left runs root i j l k
        (distinct (pin i) (pin j) (pin_there f left runs root i o l) (pin_there f left runs root j o k)
        (both_of (number (at i).x (at j).x (places_held i).x (places_held j).x s.0)
        (number (at i).y (at j).y (places_held i).y (places_held j).y s.1)))
      where
        number : (a b : ℤ) → I32 a → I32 b → off a ≡ off b → same_number a b ≡ true
        number a b p q z = same_off a b (low_held a p) (low_held b q) ∙ eq-eqb (off a) (off b) z

    -- Each run is one of the list, newest first,
    in_list : (r : ℕ) → r < n → HasRun (pin (near r)) (pin (suc r)) (reverse_aux runs [])
    unfolding reached_pin
    in_list r l = rw (near_pin_lem f left runs root r l) (has_run (in_turned runs (inl (entry_in runs r l))))

    -- so the pins that it joins are joined there,
    joined : (r i j : ℕ) → r < n → Joins near r i j → Joined (pin i) (pin j) (reverse_aux runs [])
    joined r i j l (out a b) = rw (a, b) (run_onward (in_list r l))
    joined r i j l (back a b) = rw (a, b) (run_backward (in_list r l))

    -- and both are reached.
    ends_in : (r i j : ℕ) → r < n → Joins near r i j → (i < suc n) × (j < suc n)
    ends_in r i j l (out a b) = let z = near_low r l in (omega arith, omega arith)
    ends_in r i j l (back a b) = let z = near_low r l in (omega arith, omega arith)

    -- Two pins joined to one are no nearer to each other than either is to it.
    spans : (i j k : ℕ) → 0 < n → i < suc n → j < suc n → k < suc n
        → Joined (pin i) (pin j) (reverse_aux runs []) → Joined (pin i) (pin k) (reverse_aux runs []) → (j ≡ k → ⊥)
        → (span (site (at i)) (site (at j)) ≤ span (site (at j)) (site (at k)))
        × (span (site (at i)) (site (at k)) ≤ span (site (at j)) (site (at k)))
    unfolding key_at
    spans i j k o li lj lk a b ne =
        let fj = fits feed ok (pin j) (pins_low feed full ok f left e (pin j) (pin_there f left runs root j o lj)) in
        let fk = fits feed ok (pin k) (pins_low feed full ok f left e (pin k) (pin_there f left runs root k o lk)) in
        let w = neighbours (key_at feed) (keyed feed ok).swap (runs_grown feed full ok f left e) (pin i) (pin j) (pin k) a b (differ j k lj lk ne) in (
          key_span (site_at feed (pin i)) (pin i) (site_at feed (pin j)) (pin j) (site_at feed (pin j)) (pin j) (site_at feed (pin k)) (pin k) fj fk w.0,
          key_span (site_at feed (pin i)) (pin i) (site_at feed (pin k)) (pin k) (site_at feed (pin j)) (pin j) (site_at feed (pin k)) (pin k) fj fk w.1,
        )

    -- Two runs without a common pin have boxes apart.
    apart_by : (r q : ℕ) → r < n → q < n → (r ≡ q → ⊥) → (near r ≡ near q → ⊥) → (near r ≡ suc q → ⊥) → (suc r ≡ near q → ⊥)
        → (p : Site) → InBox (site (at (near r))) (site (at (suc r))) p → InBox (site (at (near q))) (site (at (suc q))) p → ⊥
    apart_by r q l m ne a b c p h k =
        separate feed full ok f left e (runs_grown feed full ok f left e) (pin (near r)) (pin (suc r)) (pin (near q)) (pin (suc q)) (in_list r l) (in_list q m)
        (differ (near r) (near q) (near_low r l) (near_low q m) a) (differ (near r) (suc q) (near_low r l) (omega arith) b)
        (differ (suc r) (near q) (omega arith) (near_low q m) c) (differ (suc r) (suc q) (omega arith) (omega arith) (λ z. ne (omega arith)))
        (record { point = p; in_first = h; in_second = k })

    -- The runs are laid as the length asks.
    pub planted : Spaced (λ i. site (at i)) near n
    planted =
        record {
          grown = near_before f left runs root;
          full = λ r l z. let q = same_pin_lem (near r) (suc r) (omega arith) (near_low r l) (omega arith) z in omega (arith, near_before f left runs root r l);
          separate = apart_by;
          distant = λ r q i j k l h jr jq ne.
              spans i j k (omega arith) (ends_in r i j l jr).0 (ends_in r i j l jr).1 (ends_in q i k h jq).1 (joined r i j l jr) (joined q i k h jq) ne;
        }
