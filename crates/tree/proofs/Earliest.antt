-- The run that the growth takes next is the earliest between a reached pin and one not reached, and the only one.
-- From one number for each pair of pins, its key, that orders pairs as `comes_before` does.
use mathlib.Core.Path.{◌≡◌, refl, sym, ap₂, ◌∙◌}
use mathlib.Core.Bool.{true, false}
use mathlib.Core.List.{List, [], ◌∷◌}
use mathlib.Core.Logic.{◌⊎◌, inl, inr, ⊎_elim}
use Prim.Native.Nat.{ℕ, ◌<◌, ◌≤◌}
use native.Mathlib.Omega.{arith}
use lib.Dec.{ltb}
use borrow.Author.Tests.{ltb-true, ltb-false}
use Rattle.basics.specs.Tests.{choose}
use Rattle.basics.proofs.Tests.{decide, choose_yes, choose_no}
use Rattle.board.specs.Spots.{Spot}
use Rattle.board.specs.Spots.{most_pins}
use Rattle.tree.specs.Weight.{comes_before}
use Rattle.tree.specs.declared.Run.{Run}
use Rattle.tree.proofs.Membership.{LowEnds, Among, first, later, between_in, in_between}
use Rattle.tree.specs.Growth.{run, pair_at, sooner, runs_between, earliest, earliest_of, next_run}

-- A number for each pair of pins below 32: pairs are in the order of their keys, and equal keys are of one pair.
pub record Keyed (feed : List Spot) (key : ℕ → ℕ → ℕ) : Type 0 where
  pub swap : (a b : ℕ) → key a b ≡ key b a
  pub order : (a b c d : ℕ) → a < most_pins → b < most_pins → c < most_pins → d < most_pins
      → comes_before (pair_at feed a b) (pair_at feed c d) ≡ ltb (key a b) (key c d)
  pub told : (a b c d : ℕ) → a < most_pins → b < most_pins → c < most_pins → d < most_pins → key a b ≡ key c d
      → ((a ≡ c) × (b ≡ d)) ⊎ ((a ≡ d) × (b ≡ c))

-- The key of a run.
abbrev pub key_of : (ℕ → ℕ → ℕ) → Run → ℕ
key_of key r = key r.near r.far

-- The run joins a reached pin to one that is left, and none that does has a smaller key.
pub record Earliest (key : ℕ → ℕ → ℕ) (reached left : List ℕ) (r : Run) : Type 0 where
  pub from : Among r.near reached
  pub to : Among r.far left
  pub least : (a b : ℕ) → Among a reached → Among b left → key_of key r ≤ key a b

-- Only one run is the earliest, where no pin is both reached and left.
pub one-earliest : {feed : List Spot} {key : ℕ → ℕ → ℕ} {reached left : List ℕ} → Keyed feed key
    → ((a : ℕ) → Among a reached → a < most_pins) → ((a : ℕ) → Among a left → a < most_pins) → ((a : ℕ) → Among a reached → Among a left → ⊥)
    → (r s : Run) → Earliest key reached left r → Earliest key reached left s → r ≡ s
one-earliest {key = key} {left = left} k low low' apart r s h g =
    go (k.told r.near r.far s.near s.far (low r.near h.from) (low' r.far h.to) (low s.near g.from) (low' s.far g.to)
    (omega (arith, h.least s.near s.far g.from g.to, g.least r.near r.far h.from h.to)))
  where
    go : ((r.near ≡ s.near) × (r.far ≡ s.far)) ⊎ ((r.near ≡ s.far) × (r.far ≡ s.near)) → r ≡ s
    go (inl e) = ap₂ run e.0 e.1
    go (inr e) = absurd (apart r.near h.from (rw e.0 g.to))

module _ {feed : List Spot} {key : ℕ → ℕ → ℕ} (k : Keyed feed key) where
  -- Of two runs the growth keeps the one with the smaller key.
  record Kept (r s e : Run) : Type 0 where
    one : (e ≡ r) ⊎ (e ≡ s)
    left : key_of key e ≤ key_of key r
    right : key_of key e ≤ key_of key s

  -- The earlier of two runs is kept.
  keeps : (r s : Run) → LowEnds r → LowEnds s → Kept r s (choose (sooner feed s r) s r)
  unfolding sooner
  keeps r s hr hs = go (decide (comes_before (pair_at feed s.near s.far) (pair_at feed r.near r.far)))
    where
      same : comes_before (pair_at feed s.near s.far) (pair_at feed r.near r.far) ≡ ltb (key_of key s) (key_of key r)
      same = k.order s.near s.far r.near r.far hs.near hs.far hr.near hr.far

      go : (comes_before (pair_at feed s.near s.far) (pair_at feed r.near r.far) ≡ true)
          ⊎ (comes_before (pair_at feed s.near s.far) (pair_at feed r.near r.far) ≡ false)
          → Kept r s (choose (comes_before (pair_at feed s.near s.far) (pair_at feed r.near r.far)) s r)
      go (inl e) =
          let l = ltb-true (key_of key s) (key_of key r) (sym same ∙ e) in
          rw (choose_yes s r e) (record { one = inr refl; left = omega arith; right = omega arith })
      go (inr e) =
          let l = ltb-false (key_of key s) (key_of key r) (sym same ∙ e) in
          rw (choose_no s r e) (record { one = inl refl; left = omega arith; right = omega arith })

  -- The earliest of a run and some others is one of them, with the least key.
  pub record Least (r : Run) (others : List Run) (e : Run) : Type 0 where
    pub one : Among e (r ∷ others)
    pub least : (s : Run) → Among s (r ∷ others) → key_of key e ≤ key_of key s

  -- What the definition takes is such a run.
  pub earliest_least : (r : Run) (others : List Run) → ((s : Run) → Among s (r ∷ others) → LowEnds s) → Least r others (earliest feed r others)
  unfolding earliest
  earliest_least r [] h = record { one = first refl; least = λ s m. only s m }
    where
      only : (s : Run) → Among s (r ∷ []) → key_of key r ≤ key_of key s
      only s (later x4) = elim x4 [ ]
      only s (first e) = rw e (omega arith)
  earliest_least r (s ∷ others) h = go kept (earliest_least (choose (sooner feed s r) s r) others (λ t m. ends t m))
    where
      kept : Kept r s (choose (sooner feed s r) s r)
      kept = keeps r s (h r (first refl)) (h s (later (first refl)))

      ends : (t : Run) → Among t (choose (sooner feed s r) s r ∷ others) → LowEnds t
      ends t (first e) = ⊎_elim (λ q. h t (first (e ∙ q))) (λ q. h t (later (first (e ∙ q)))) kept.one
      ends t (later m) = h t (later (later m))

      go : Kept r s (choose (sooner feed s r) s r) → Least (choose (sooner feed s r) s r) others (earliest feed (choose (sooner feed s r) s r) others)
          → Least r (s ∷ others) (earliest feed (choose (sooner feed s r) s r) others)
      go c l = record { one = one l.one; least = λ t m. least t m }
        where
          one : Among (earliest feed (choose (sooner feed s r) s r) others) (choose (sooner feed s r) s r ∷ others)
              → Among (earliest feed (choose (sooner feed s r) s r) others) (r ∷ s ∷ others)
          one (first e) = ⊎_elim (λ q. first (e ∙ q)) (λ q. later (first (e ∙ q))) c.one
          one (later m) = later (later m)

          least : (t : Run) → Among t (r ∷ s ∷ others) → key_of key (earliest feed (choose (sooner feed s r) s r) others) ≤ key_of key t
          least t (first e) = rw e (omega (arith, c.left, l.least (choose (sooner feed s r) s r) (first refl)))
          least t (later (first e)) = rw e (omega (arith, c.right, l.least (choose (sooner feed s r) s r) (first refl)))
          least t (later (later m)) = l.least t (later m)

  -- The earliest of a list of runs that holds every run between the reached pins and those left, and no other.
  pub earliest_of_lem : (reached left : List ℕ) → ((a : ℕ) → Among a reached → a < most_pins) → ((a : ℕ) → Among a left → a < most_pins)
      → (r : Run) (l : List Run) → Among r l → ((s : Run) → Among s l → Among s.near reached × Among s.far left)
      → ((c d : ℕ) → Among c reached → Among d left → Among (run c d) l) → Earliest key reached left (earliest_of feed l)
  unfolding earliest_of
  earliest_of_lem reached left low low' r [] m f g = elim m [ ]
  earliest_of_lem reached left low low' r (s ∷ others) m f g =
      let z = earliest_least s others (λ t n. record { near = low t.near (f t n).0; far = low' t.far (f t n).1 }) in
      record {
        from = (f (earliest feed s others) z.one).0;
        to = (f (earliest feed s others) z.one).1;
        least = λ c d hc hd. z.least (run c d) (g c d hc hd);
      }

  -- The run that is taken next is the earliest.
  pub next-earliest : (reached left : List ℕ) → ((a : ℕ) → Among a reached → a < most_pins) → ((a : ℕ) → Among a left → a < most_pins)
      → (a b : ℕ) → Among a reached → Among b left → Earliest key reached left (next_run feed reached left)
  unfolding next_run
  next-earliest reached left low low' a b ha hb =
      earliest_of_lem reached left low low' (run a b) (runs_between reached left) (in_between left ha hb) (λ s m. between_in reached left m)
      (λ c d hc hd. in_between left hc hd)
