-- The runs of a feed by their positions, as they are taken: each starts at the first pin or at the far end of an earlier run, and reaches a pin
-- that none before it reaches; together they reach every pin. From pins that stand on the board.
use mathlib.Core.Path.{◌≡◌, refl, sym, ◌∙◌}
use mathlib.Core.Bool.{true}
use mathlib.Core.List.{List, [], ◌∷◌, reverse_aux}
use mathlib.Core.Logic.{◌⊎◌, inl, inr, ⊎_elim}
use Prim.Native.Nat.{ℕ, zero, suc, ◌<◌}
use native.Mathlib.Omega.{arith}
use lib.ListN.{length}
use Rattle.board.specs.Spots.{Spot}
use Rattle.board.proofs.Flat.{same_or_not}
use Rattle.tree.specs.declared.Run.{Run}
use Rattle.board.specs.Spots.{most_pins, all_within}
use Rattle.tree.specs.Growth.{pins_of, without, next_run, grown, runs_among, runs_of}
use Rattle.tree.proofs.Membership.{Among, first, later, Distinct, also, without_in, in_without, length_without, distinct_without, pin_in, pins_once, distinct_rest}
use Rattle.tree.specs.Reached.{run_at}
use Rattle.tree.proofs.Earliest.{Keyed, Earliest, next-earliest}
use Rattle.tree.proofs.Numbering.{key_at, keyed}
use Rattle.tree.proofs.Branches.{start, new, old, JoinsEarliest, Grown, seed, grow, IsReached}

-- Runs as they are taken: each is the earliest between the pins reached and those left.
pub data Listed (key : ℕ → ℕ → ℕ) : List ℕ → List ℕ → List Run → Type 0 where
  done : {reached : List ℕ} → Listed key reached [] []
  taking : {reached left : List ℕ} {r : Run} {rs : List Run} → Earliest key reached left r
      → Listed key (r.far ∷ reached) (without r.far left) rs → Listed key reached left (r ∷ rs)

-- The growth lists them so.
pub grown-listed : {feed : List Spot} {key : ℕ → ℕ → ℕ} → Keyed feed key → (turns : ℕ) (reached left : List ℕ) (a : ℕ) → Among a reached
    → ((b : ℕ) → Among b reached → b < most_pins) → ((b : ℕ) → Among b left → b < most_pins) → Distinct left → length left ≡ turns
    → Listed key reached left (grown feed turns reached left)
unfolding grown
grown-listed k zero reached [] a ha low low' d e = done
grown-listed k zero reached (b ∷ left) a ha low low' d e = absurd (omega arith)
grown-listed k (suc turns) reached [] a ha low low' d e = absurd (omega arith)
grown-listed {feed} k (suc turns) reached (b ∷ left) a ha low low' d e =
    let h = next-earliest k reached (b ∷ left) low low' a b ha (first refl) in
    let t : ℕ = (next_run feed reached (b ∷ left)).far in
    let n = length_without t d h.to in
    taking h
    (grown-listed k turns (t ∷ reached) (without t (b ∷ left)) t (first refl) (lows t h.to)
    (λ c m. low' c (without_in t (b ∷ left) m).0) (distinct_without t d) (omega arith))
  where
    lows : (t : ℕ) → Among t (b ∷ left) → (c : ℕ) → Among c (t ∷ reached) → c < most_pins
    lows t m c (first q) = omega (arith, low' t m)
    lows t m c (later n) = low c n

module _ {key : ℕ → ℕ → ℕ} where
  -- There are as many runs as pins left.
  many : {reached left : List ℕ} {rs : List Run} → Listed key reached left rs → Distinct left → length rs ≡ length left
  many done d = refl
  many (taking {left = left} {r = r} h l) d =
      omega (arith, length_without r.far d h.to, many l (distinct_without r.far d))

  -- A far pin is one of those left.
  far_left : {reached left : List ℕ} {rs : List Run} → Listed key reached left rs → (r : ℕ) → r < length rs → Among (run_at rs r).far left
  far_left done r h = absurd (omega arith)
  far_left (taking e l) zero h = e.to
  far_left (taking {left = left} {r = q} e l) (suc r) h = (without_in q.far left (far_left l r (omega arith))).0

  -- No pin is the far pin of two runs.
  far_once : {reached left : List ℕ} {rs : List Run} → Listed key reached left rs → (q r : ℕ) → q < r → r < length rs → (run_at rs q).far ≡ (run_at rs r).far → ⊥
  far_once done q r h k e = omega arith
  far_once (taking f l) q zero h k e = omega arith
  far_once (taking {left = left} {r = s} f l) zero (suc r) h k e = (without_in s.far left (far_left l r (omega arith))).1 (sym e)
  far_once (taking f l) (suc q) (suc r) h k e = far_once l q r (omega arith) (omega arith) e

  -- A near pin was reached before, or is the far pin of an earlier run.
  near_known : {reached left : List ℕ} {rs : List Run} → Listed key reached left rs → (r : ℕ) → r < length rs
      → Among (run_at rs r).near reached ⊎ ((q : ℕ) × (q < r) × ((run_at rs r).near ≡ (run_at rs q).far))
  near_known done r h = absurd (omega arith)
  near_known (taking e l) zero h = inl e.from
  near_known (taking {reached = reached} {r = s} {rs = rs} e l) (suc r) h = ⊎_elim known (λ z. inr (suc z.0, omega (arith, z.1), z.2)) (near_known l r (omega arith))
    where
      known : Among (run_at rs r).near (s.far ∷ reached) → Among (run_at rs r).near reached ⊎ ((q : ℕ) × (q < suc r) × ((run_at rs r).near ≡ (run_at (s ∷ rs) q).far))
      known (first q) = inr (0, omega arith, q)
      known (later m) = inl m

  -- Every pin left is the far pin of a run.
  all_reached : {reached left : List ℕ} {rs : List Run} → Listed key reached left rs → (p : ℕ) → Among p left → (r : ℕ) × (r < length rs) × (p ≡ (run_at rs r).far)
  all_reached (done {reached = reached}) p m = elim m [ ]
  all_reached (taking {left = left} {r = s} {rs = rs} e l) p m = go (same_or_not p s.far) (all_reached l p)
    where
      go : (p ≡ s.far) ⊎ (p ≡ s.far → ⊥) → (Among p (without s.far left) → (r : ℕ) × (r < length rs) × (p ≡ (run_at rs r).far))
          → (r : ℕ) × (r < suc (length rs)) × (p ≡ (run_at (s ∷ rs) r).far)
      go (inl q) ih = (0, omega arith, q)
      go (inr q) ih = let z = ih (in_without s.far m q) in (suc z.0, omega (arith, z.1), z.2)

-- What holds of the runs of a feed whose lowest pin is `first` and whose other pins are `left`, by their positions.
pub record Rooted (first : ℕ) (left : List ℕ) (runs : List Run) : Type 0 where
  -- There is one run fewer than pins.
  pub many : length runs ≡ length left
  -- A run's near pin is the first pin or the far pin of an earlier run.
  pub near_reached : (r : ℕ) → r < length runs → ((run_at runs r).near ≡ first) ⊎ ((q : ℕ) × (q < r) × ((run_at runs r).near ≡ (run_at runs q).far))
  -- Its near pin is there.
  pub near_there : (r : ℕ) → r < length runs → Among (run_at runs r).near (first ∷ left)
  -- Its far pin is there, and not the first pin.
  pub far_there : (r : ℕ) → r < length runs → Among (run_at runs r).far left
  pub far_new : (r : ℕ) → r < length runs → (run_at runs r).far ≡ first → ⊥
  -- No pin is the far pin of two runs.
  pub far_once : (q r : ℕ) → q < r → r < length runs → (run_at runs q).far ≡ (run_at runs r).far → ⊥
  -- A run's ends are different pins.
  pub ends_differ : (r : ℕ) → r < length runs → (run_at runs r).near ≡ (run_at runs r).far → ⊥
  -- Every pin but the first is the far pin of a run.
  pub all_reached : (p : ℕ) → Among p left → (r : ℕ) × (r < length runs) × (p ≡ (run_at runs r).far)

-- Runs listed so, from the first pin on, are such runs.
pub listed_rooted : {key : ℕ → ℕ → ℕ} {f : ℕ} {left : List ℕ} {runs : List Run} → Distinct (f ∷ left) → Listed key (f ∷ []) left runs → Rooted f left runs
listed_rooted {f = f} {left = left} {runs = runs} (also out d) l =
    record {
      many = many l d;
      near_reached = λ r h. near r (near_known l r h);
      near_there = λ r h. there r h (near r (near_known l r h));
      far_there = λ r h. far_left l r h;
      far_new = λ r h. new' r h;
      far_once = λ q r h k e. far_once l q r h k e;
      ends_differ = λ r h e. ends r h e (near r (near_known l r h));
      all_reached = λ p m. all_reached l p m;
    }
  where
    near : (r : ℕ) → Among (run_at runs r).near (f ∷ []) ⊎ ((q : ℕ) × (q < r) × ((run_at runs r).near ≡ (run_at runs q).far))
        → ((run_at runs r).near ≡ f) ⊎ ((q : ℕ) × (q < r) × ((run_at runs r).near ≡ (run_at runs q).far))
    near r (inl (later x9)) = elim x9 [ ]
    near r (inl (first q)) = inl q
    near r (inr z) = inr z

    there : (r : ℕ) → r < length runs → ((run_at runs r).near ≡ f) ⊎ ((q : ℕ) × (q < r) × ((run_at runs r).near ≡ (run_at runs q).far)) → Among (run_at runs r).near (f ∷ left)
    there r h (inl q) = first q
    there r h (inr z) = later {l = left} (rw z.2 (far_left l z.0 (omega (arith, z.1))))

    new' : (r : ℕ) → r < length runs → (run_at runs r).far ≡ f → ⊥
    new' r h e = out (rw e at (far_left l r h))

    ends : (r : ℕ) → r < length runs → (run_at runs r).near ≡ (run_at runs r).far
        → ((run_at runs r).near ≡ f) ⊎ ((q : ℕ) × (q < r) × ((run_at runs r).near ≡ (run_at runs q).far)) → ⊥
    ends r h e (inl q) = new' r h (sym e ∙ q)
    ends r h e (inr z) = far_once l z.0 r z.1 h (sym z.2 ∙ e)

-- ---- the same, the newest first
pub listed-grown : {key : ℕ → ℕ → ℕ} {There : ℕ → Type 0} {o : ℕ} {reached left : List ℕ} {rs : List Run} → Listed key reached left rs
    → (before : List Run) → Grown key There o before
    → ((a : ℕ) → Among a reached → IsReached o a before) → ((a : ℕ) → IsReached o a before → Among a reached)
    → ((a : ℕ) → Among a left → There a × (IsReached o a before → ⊥)) → ((a : ℕ) → There a → (IsReached o a before → ⊥) → Among a left)
    → Grown key There o (reverse_aux rs before)
listed-grown done before g to from out into = g
listed-grown {key = key} {There = There} {o = o} (taking {reached = reached} {left = left} {r = r} {rs = rs} e l) before g to from out into =
    listed-grown l (r ∷ before) (grow one g) to' from' out' into'
  where
    one : JoinsEarliest key There o r before
    one =
        record {
          joins = record { from = to r.near e.from; unmet = (out r.far e.to).1; there = (out r.far e.to).0 };
          least = λ a b ha nb tb. e.least a b (from a ha) (into b tb nb);
        }

    to' : (a : ℕ) → Among a (r.far ∷ reached) → IsReached o a (r ∷ before)
    to' a (first q) = new q
    to' a (later m) = old (to a m)

    from' : (a : ℕ) → IsReached o a (r ∷ before) → Among a (r.far ∷ reached)
    from' a (new q) = first q
    from' a (old h) = later (from a h)

    out' : (a : ℕ) → Among a (without r.far left) → There a × (IsReached o a (r ∷ before) → ⊥)
    out' a m = let z = without_in r.far left m in ((out a z.0).0, λ h. no a z.0 z.1 h)
      where
        no : (a : ℕ) → Among a left → (a ≡ r.far → ⊥) → IsReached o a (r ∷ before) → ⊥
        no a m q (new p) = q p
        no a m q (old h) = (out a m).1 h

    into' : (a : ℕ) → There a → (IsReached o a (r ∷ before) → ⊥) → Among a (without r.far left)
    into' a t n = in_without r.far (into a t (λ h. n (old h))) (λ q. n (new q))

-- ---- the runs of a feed
module _ (feed : List Spot) (full : length feed ≡ most_pins) (ok : all_within feed ≡ true) (f : ℕ) (left : List ℕ) (e : pins_of feed ≡ f ∷ left) where
  -- No pin is listed twice.
  distinct : Distinct (f ∷ left)
  distinct = pins_once feed f left e

  -- The pins of a feed have numbers below 32.
  pub pins_low : (a : ℕ) → Among a (f ∷ left) → a < most_pins
  pins_low a m = omega (arith, (pin_in feed (rw (sym e) at m)).0)

  -- The runs of a feed are listed so.
  pub runs_listed : Listed (key_at feed) (f ∷ []) left (runs_of feed)
  unfolding runs_of runs_among
  runs_listed =
      rw e (grown-listed (keyed feed ok) (length left) (f ∷ []) left f (first refl) low (λ b m. pins_low b (later m)) (distinct_rest distinct) refl)
    where
      low : (b : ℕ) → Among b (f ∷ []) → b < most_pins
      low b (later x3) = elim x3 [ ]
      low b (first q) = omega (arith, pins_low f (first refl))

  -- THE RUNS JOIN ALL PINS, one run fewer than pins, each from a pin reached before to one that is not.
  pub runs_rooted : Rooted f left (runs_of feed)
  runs_rooted = listed_rooted distinct runs_listed

  -- THEY ARE GROWN by the earliest pair.
  pub runs_grown : Grown (key_at feed) (λ (a : ℕ). Among a (f ∷ left)) f (reverse_aux (runs_of feed) [])
  runs_grown = listed-grown runs_listed [] seed to from out into
    where
      to : (a : ℕ) → Among a (f ∷ []) → IsReached f a []
      to a (later x3) = elim x3 [ ]
      to a (first q) = start q

      from : (a : ℕ) → IsReached f a [] → Among a (f ∷ [])
      from a (start q) = first q

      apart : Distinct (f ∷ left) → Among f left → ⊥
      apart (also n d) m = n m

      out : (a : ℕ) → Among a left → Among a (f ∷ left) × (IsReached f a [] → ⊥)
      out a m = (later m, λ h. no a m h)
        where
          no : (a : ℕ) → Among a left → IsReached f a [] → ⊥
          no a m (start q) = apart distinct (rw q at m)

      into : (a : ℕ) → Among a (f ∷ left) → (IsReached f a [] → ⊥) → Among a left
      into a (first q) n = absurd (n (start q))
      into a (later m) n = m
