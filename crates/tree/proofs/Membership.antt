-- Members of a list, lists without repeats, and the lists of pins and runs that the growth is made of. Assumes nothing.
use mathlib.Core.Path.{◌≡◌, refl, sym, ap, ◌∙◌}
use mathlib.Core.Bool.{Bool, true, false, not}
use mathlib.Core.List.{List, [], ◌∷◌}
use mathlib.Core.Logic.{◌⊎◌, inl, inr}
use Prim.Native.Nat.{ℕ, zero, suc, ◌+◌, ◌<◌, ◌≤◌}
use native.Mathlib.Omega.{arith}
use lib.Dec.{eqb}
use lib.ListN.{length, get_or}
use borrow.Author.Tests.{eq-eqb, ne_eqb, eqb-false, not-true}
use Rattle.basics.proofs.Tests.{decide}
use Rattle.board.specs.Spots.{Spot}
use Rattle.std.specs.Prelude.{None}
use Rattle.board.proofs.Flat.{same_or_not}
use Rattle.tree.specs.declared.Run.{Run}
use Rattle.board.specs.Spots.{most_pins, present}
use Rattle.tree.specs.Growth.{run, kept_if, pins_from, without, runs_from, runs_between, pins_of}
pub use Rattle.basics.specs.Lists.{Among, first, later}
pub use Rattle.basics.proofs.Members.{in_front, in_back, in_either}

-- No member stands twice.
pub data Distinct : List ℕ → Type 0 where
  none : Distinct []
  also : {a : ℕ} {l : List ℕ} → (Among a l → ⊥) → Distinct l → Distinct (a ∷ l)

-- Nor does one of those after the first.
pub distinct_rest : {a : ℕ} {l : List ℕ} → Distinct (a ∷ l) → Distinct l
distinct_rest (also out d) = d

-- Both ends of a run are pin numbers.
pub record LowEnds (r : Run) : Type 0 where
  pub near : r.near < most_pins
  pub far : r.far < most_pins

-- ---- a number before others, where a test holds
-- Where the test holds, the number comes first;
pub kept_yes : {t : Bool} (n : ℕ) (l : List ℕ) → t ≡ true → kept_if t n l ≡ n ∷ l
unfolding kept_if
kept_yes n l e = rw e

-- where it fails, it is left out.
pub kept_no : {t : Bool} (n : ℕ) (l : List ℕ) → t ≡ false → kept_if t n l ≡ l
unfolding kept_if
kept_no n l e = rw e

-- What stands there is that number, or stood there before.
pub in_kept : {a n : ℕ} (t : Bool) {l : List ℕ} → Among a (kept_if t n l) → ((t ≡ true) × (a ≡ n)) ⊎ Among a l
unfolding kept_if
in_kept true (first e) = inl (refl, e)
in_kept true (later h) = inr h
in_kept false h = inr h

-- That number stands there where the test holds,
pub kept_new : {a n : ℕ} {t : Bool} (l : List ℕ) → t ≡ true → a ≡ n → Among a (kept_if t n l)
kept_new {n = n} l e f = rw (kept_yes n l e) (first f)

-- and what stood there before still does.
pub kept_old : {a : ℕ} (n : ℕ) (t : Bool) {l : List ℕ} → Among a l → Among a (kept_if t n l)
unfolding kept_if
kept_old n true h = later h
kept_old n false h = h

-- ---- the pins without one
-- Numbers that the test tells apart are not the same,
another_no : (m n : ℕ) → not (eqb m n) ≡ true → m ≡ n → ⊥
another_no m n e = eqb-false m n (not-true (eqb m n) e)

-- and those that are not are told apart.
another_yes : (m n : ℕ) → (m ≡ n → ⊥) → not (eqb m n) ≡ true
another_yes m n q = ap not (ne_eqb m n q)

-- What is left without a pin stood there before, and is another.
pub without_in : {a : ℕ} (n : ℕ) (l : List ℕ) → Among a (without n l) → Among a l × (a ≡ n → ⊥)
unfolding without
without_in {a = a} n [] h = elim h [ ]
without_in {a} n (m ∷ l) h = go (in_kept (not (eqb m n)) h) (without_in n l)
  where
    go : ((not (eqb m n) ≡ true) × (a ≡ m)) ⊎ Among a (without n l) → (Among a (without n l) → Among a l × (a ≡ n → ⊥)) → Among a (m ∷ l) × (a ≡ n → ⊥)
    go (inl e) ih = (first e.1, λ q. another_no m n e.0 (sym e.1 ∙ q))
    go (inr k) ih = (later (ih k).0, (ih k).1)

-- Any other pin is left.
pub in_without : {a : ℕ} (n : ℕ) {l : List ℕ} → Among a l → (a ≡ n → ⊥) → Among a (without n l)
unfolding without
in_without n (first {b = m} {l = l} e) ne = kept_new (without n l) (another_yes m n (λ q. ne (e ∙ q))) e
in_without n (later {b = m} h) ne = kept_old m (not (eqb m n)) (in_without n h ne)

-- Without a pin that is not there all are left.
pub without-none : (n : ℕ) (l : List ℕ) → (Among n l → ⊥) → without n l ≡ l
unfolding without
without-none n [] h = refl
without-none n (m ∷ l) h =
    kept_yes m (without n l) (another_yes m n (λ q. h (first (sym q)))) ∙ ap (◌∷◌ m) (without-none n l (λ k. h (later k)))

-- Without a pin that is there one fewer is left.
pub length_without : (n : ℕ) {l : List ℕ} → Distinct l → Among n l → length l ≡ suc (length (without n l))
unfolding without
length_without n none h = elim h [ ]
length_without n (also {a = m} {l = l} d ds) h = go (same_or_not m n) h (length_without n ds)
  where
    go : (m ≡ n) ⊎ (m ≡ n → ⊥) → Among n (m ∷ l) → (Among n l → length l ≡ suc (length (without n l)))
        → suc (length l) ≡ suc (length (kept_if (not (eqb m n)) m (without n l)))
    go (inl e) k ih = ap suc (sym (ap length (kept_no m (without n l) (ap not (eq-eqb m n e)) ∙ without-none n l (λ z. d (rw e z)))))
    go (inr e) (first f) ih = absurd (e (sym f))
    go (inr e) (later k) ih = ap suc (ih k ∙ sym (ap length (kept_yes m (without n l) (another_yes m n e))))

-- A list without repeats stays so with a new number before it.
distinct_kept : (m : ℕ) (t : Bool) {l : List ℕ} → (Among m l → ⊥) → Distinct l → Distinct (kept_if t m l)
unfolding kept_if
distinct_kept m true d k = also d k
distinct_kept m false d k = k

-- What is left stands there once.
pub distinct_without : (n : ℕ) {l : List ℕ} → Distinct l → Distinct (without n l)
unfolding without
distinct_without n none = none
distinct_without n (also {a = m} {l = l} d ds) = distinct_kept m (not (eqb m n)) (λ w. d (without_in n l w).0) (distinct_without n ds)

-- ---- the pins that are there: pin i + k stands among them where the k-th spot has a pin
-- What stands among the pins is the number of a spot that has a pin,
pub pins_there_lem : {a : ℕ} (i : ℕ) (feed : List Spot) → Among a (pins_from i feed)
    → (k : ℕ) × (a ≡ i + k) × (k < length feed) × (present (get_or feed k None) ≡ true)
unfolding pins_from
pins_there_lem {a = a} i [] h = elim h [ ]
pins_there_lem {a} i (s ∷ feed) h = go (in_kept (present s) h) (pins_there_lem (suc i) feed)
  where
    go : ((present s ≡ true) × (a ≡ i)) ⊎ Among a (pins_from (suc i) feed)
        → (Among a (pins_from (suc i) feed) → (k : ℕ) × (a ≡ suc i + k) × (k < length feed) × (present (get_or feed k None) ≡ true))
        → (k : ℕ) × (a ≡ i + k) × (k < suc (length feed)) × (present (get_or (s ∷ feed) k None) ≡ true)
    go (inl e) ih = (0, omega (arith, e.1), omega arith, e.0)
    go (inr m) ih = let z = ih m in (suc z.0, omega (arith, z.1), omega (arith, z.2), z.3)

-- and the number of every such spot stands there.
pub there_pins : (i : ℕ) (feed : List Spot) (k : ℕ) → k < length feed → present (get_or feed k None) ≡ true → Among (i + k) (pins_from i feed)
unfolding pins_from
there_pins i [] k l e = absurd (omega arith)
there_pins i (s ∷ feed) zero l e = kept_new (pins_from (suc i) feed) e (omega arith)
there_pins i (s ∷ feed) (suc k) l e =
    let q : i + suc k ≡ suc i + k = omega arith in
    rw q (kept_old i (present s) (there_pins (suc i) feed k (omega arith) e))

-- So a pin of a feed is the number of a spot that has a pin.
pub pin_in : {a : ℕ} (feed : List Spot) → Among a (pins_of feed) → (a < length feed) × (present (get_or feed a None) ≡ true)
unfolding pins_of
pin_in {a} feed m =
    let z = pins_there_lem 0 feed m in
    let q : a ≡ z.0 = omega (arith, z.1) in
    (omega (arith, z.1, z.2), rw q z.3)

-- Each pin stands there once.
pub pins_distinct : (i : ℕ) (feed : List Spot) → Distinct (pins_from i feed)
unfolding pins_from
pins_distinct i [] = none
pins_distinct i (s ∷ feed) =
    distinct_kept i (present s) (λ h. let z = pins_there_lem (suc i) feed h in omega (arith, z.1)) (pins_distinct (suc i) feed)

-- No pin of a feed is listed twice.
pub pins_once : (feed : List Spot) (f : ℕ) (left : List ℕ) → pins_of feed ≡ f ∷ left → Distinct (f ∷ left)
unfolding pins_of
pins_once feed f left e = rw e at (pins_distinct 0 feed)

-- They are listed by ascending number: the first is the lowest.
pub pins_lowest : (i : ℕ) (feed : List Spot) {f : ℕ} {left : List ℕ} → pins_from i feed ≡ f ∷ left → (a : ℕ) → Among a (f ∷ left) → f ≤ a
unfolding pins_from
pins_lowest i [] e a m = absurd (omega (arith, ap length e))
pins_lowest i (s ∷ feed) {f} {left} e a m = go (decide (present s)) (pins_there_lem i (s ∷ feed) (rw (sym e) at m)) (λ q. pins_lowest (suc i) feed q a m)
  where
    go : (present s ≡ true) ⊎ (present s ≡ false) → ((k : ℕ) × (a ≡ i + k) × (k < suc (length feed)) × (present (get_or (s ∷ feed) k None) ≡ true))
        → (pins_from (suc i) feed ≡ f ∷ left → f ≤ a) → f ≤ a
    go (inl t) z ih =
        let q : i ∷ pins_from (suc i) feed ≡ f ∷ left = sym (kept_yes i (pins_from (suc i) feed) t) ∙ e in
        let p : i ≡ f = cc in
        omega (arith, z.1)
    go (inr t) z ih = ih (sym (kept_no i (pins_from (suc i) feed) t) ∙ e)

-- A number more, at most.
few_kept : (n : ℕ) (t : Bool) (l : List ℕ) (m : ℕ) → length l ≤ m → length (kept_if t n l) ≤ suc m
unfolding kept_if
few_kept n true l m h = omega arith
few_kept n false l m h = omega arith

-- There are no more pins than spots.
pub pins_few : (i : ℕ) (feed : List Spot) → length (pins_from i feed) ≤ length feed
unfolding pins_from
pins_few i [] = omega arith
pins_few i (s ∷ feed) = few_kept i (present s) (pins_from (suc i) feed) (length feed) (pins_few (suc i) feed)

-- ---- the runs between some near and some far pins
-- A run from a near pin goes from it to one of the far ones,
from_in : {r : Run} (near : ℕ) (fars : List ℕ) → Among r (runs_from near fars) → (r.near ≡ near) × Among r.far fars
unfolding runs_from
from_in {r = r} near [] x' = elim x' [ ]
from_in near (b ∷ fars) (first e) = (ap (λ (z : Run). z.near) e, first (ap (λ (z : Run). z.far) e))
from_in near (b ∷ fars) (later h) = let z = from_in near fars h in (z.0, later z.1)

-- and every such run stands there.
in_from : {b : ℕ} (near : ℕ) {fars : List ℕ} → Among b fars → Among (run near b) (runs_from near fars)
unfolding runs_from
in_from near (first e) = first (ap (run near) e)
in_from near (later h) = later (in_from near h)

-- A run between goes from one of the near pins to one of the far ones,
pub between_in : {r : Run} (nears fars : List ℕ) → Among r (runs_between nears fars) → Among r.near nears × Among r.far fars
unfolding runs_between
between_in {r = r} [] fars h = elim h [ ]
between_in {r} (n ∷ nears) fars h = go (in_either (runs_from n fars) h) (between_in nears fars)
  where
    go : Among r (runs_from n fars) ⊎ Among r (runs_between nears fars) → (Among r (runs_between nears fars) → Among r.near nears × Among r.far fars)
        → Among r.near (n ∷ nears) × Among r.far fars
    go (inl k) ih = let z = from_in n fars k in (first z.0, z.1)
    go (inr k) ih = let z = ih k in (later z.0, z.1)

-- A run from the same pin.
as_near : {a n b : ℕ} {l : List Run} → a ≡ n → Among (run n b) l → Among (run a b) l
as_near e h = rw e h

-- and every such run stands there.
pub in_between : {a b : ℕ} {nears : List ℕ} (fars : List ℕ) → Among a nears → Among b fars → Among (run a b) (runs_between nears fars)
unfolding runs_between
in_between fars (first {b = n} {l = nears} e) k = in_front (runs_between nears fars) (as_near e (in_from n k))
in_between fars (later {b = n} h) k = in_back (runs_from n fars) (in_between fars h k)
