-- Ways along runs, runs with one taken out, and that a way from one group of pins to another crosses between them on a run,
-- without which each end of the way still reaches an end of the run. Assumes nothing.
use mathlib.Core.Path.{◌≡◌, refl, sym, ap, ◌∙◌}
use mathlib.Core.Bool.{Bool, true, false}
use mathlib.Core.List.{List, [], ◌∷◌}
use mathlib.Core.Logic.{◌⊎◌, inl, inr, ⊎_elim}
use Prim.Native.Nat.{ℕ}
use native.Mathlib.Omega.{arith}
use Rattle.tree.specs.declared.Run.{Run}
pub use Rattle.basics.specs.Lists.{Among, first, later}
pub use Rattle.tree.specs.Spanning.{EndsAre, Way, stay, along, Out, top, under}

-- The ends of a run are its ends in either direction.
pub ends_turn : {r : Run} {a b : ℕ} → EndsAre r a b → EndsAre r b a
ends_turn (inl e) = inr (e.1, e.0)
ends_turn (inr e) = inl (e.1, e.0)

-- Two pairs of ends of one run are in the same or in opposite directions.
pub ends_two : {r : Run} {a b c d : ℕ} → EndsAre r a b → EndsAre r c d → ((a ≡ c) × (b ≡ d)) ⊎ ((a ≡ d) × (b ≡ c))
ends_two (inl e) (inl f) = inl (e.0 ∙ sym f.0, e.1 ∙ sym f.1)
ends_two (inl e) (inr f) = inr (e.0 ∙ sym f.1, e.1 ∙ sym f.0)
ends_two (inr e) (inl f) = inr (e.0 ∙ sym f.1, e.1 ∙ sym f.0)
ends_two (inr e) (inr f) = inl (e.0 ∙ sym f.0, e.1 ∙ sym f.1)

-- A way between two pins, by other names.
pub way_as : {runs : List Run} {a b c d : ℕ} → a ≡ c → b ≡ d → Way runs a b → Way runs c d
way_as e f w = rw (sym e, sym f) w

-- A way can be gone on with,
pub way_then : {runs : List Run} {a b c : ℕ} → Way runs a b → Way runs b c → Way runs a c
way_then (stay e) v = way_as (sym e) refl v
way_then (along r m h e w) v = along r m h e (way_then w v)

-- one run is a way,
pub way_one : {runs : List Run} {r : Run} {a b : ℕ} → Among r runs → EndsAre r a b → Way runs a b
way_one {r = r} {b = b} h e = along r b h e (stay refl)

-- a way leads back,
pub way_back : {runs : List Run} {a b : ℕ} → Way runs a b → Way runs b a
way_back (stay e) = stay (sym e)
way_back (along r m h e w) = way_then (way_back w) (way_one h (ends_turn e))

-- and a way stays one where there are more runs.
pub way_more : {runs others : List Run} {a b : ℕ} → ((r : Run) → Among r runs → Among r others) → Way runs a b → Way others a b
way_more f (stay e) = stay e
way_more f (along r m h e w) = along r m (f r h) e (way_more f w)

-- What does not change along a run does not change along a way.
pub way_same : {A : Type 0} {runs : List Run} {a b : ℕ} (f : ℕ → A) → ((r : Run) → Among r runs → f r.near ≡ f r.far) → Way runs a b → f a ≡ f b
way_same f h (stay e) = ap f e
way_same f h (along r m k e w) = ⊎_elim (λ p. ap f p.0 ∙ h r k ∙ ap f (sym p.1)) (λ p. ap f p.0 ∙ sym (h r k) ∙ ap f (sym p.1)) e ∙ way_same f h w

-- ---- one run taken out
-- The run stood among them,
pub out_in : {r : Run} {l m : List Run} → Out r l m → Among r l
out_in top = first refl
out_in (under o) = later (out_in o)

-- and so did the rest;
pub rest_in : {r q : Run} {l m : List Run} → Out r l m → Among q m → Among q l
rest_in top h = later h
rest_in (under o) (first e) = first e
rest_in (under o) (later h) = later (rest_in o h)

-- any that stood there is the run or one of the rest.
pub in_rest : {r q : Run} {l m : List Run} → Out r l m → Among q l → (q ≡ r) ⊎ Among q m
in_rest top (first e) = inl e
in_rest top (later h) = inr h
in_rest (under o) (first e) = inr (first e)
in_rest (under o) (later h) = ⊎_elim (λ e. inl e) (λ k. inr (later k)) (in_rest o h)

-- A run taken out of some, and the rest.
pub record Taken_out (r : Run) (l : List Run) : Type 0 where
  pub rest : List Run
  pub out : Out r l rest

-- Any run that stands among some can be taken out.
pub take_out : {r : Run} {l : List Run} → Among r l → Taken_out r l
take_out {r} (first {b = q} {l = l} e) = record { rest = l; out = at (sym e) }
  where
    at : {q : Run} → q ≡ r → Out r (q ∷ l) l
    at {q} p = rw p top
take_out (later {b = q} h) = let z = take_out h in record { rest = q ∷ z.rest; out = under z.out }

-- A way without the run, or two ways to its ends.
pub data Parted (e : Run) (rest : List Run) (s t : ℕ) : Type 0 where
  spared : Way rest s t → Parted e rest s t
  used : (x y : ℕ) → EndsAre e x y → Way rest s x → Way rest y t → Parted e rest s t

-- Every way is one of the two.
pub part : {e : Run} {l rest : List Run} {s t : ℕ} → Out e l rest → Way l s t → Parted e rest s t
part o (stay q) = spared (stay q)
part {e} {l} {rest} {s} {t} o (along r m h q w) = go (in_rest o h) (part o w)
  where
    back : {x y : ℕ} → ((s ≡ x) × (m ≡ y)) ⊎ ((s ≡ y) × (m ≡ x)) → EndsAre e s m → Way rest y t → Parted e rest s t
    back (inl z) f v = used s m f (stay refl) (way_as (sym z.1) refl v)
    back (inr z) f v = spared (way_as (sym z.0) refl v)

    go : (r ≡ e) ⊎ Among r rest → Parted e rest m t → Parted e rest s t
    go (inl p) (spared v) = used s m (rw p at q) (stay refl) v
    go (inl p) (used x y f u v) = back (ends_two (rw p at q) f) (rw p at q) v
    go (inr k) (spared v) = spared (along r m k q v)
    go (inr k) (used x y f u v) = used x y f (along r m k q u) v

-- ---- crossing from one group of pins to the other
-- A run e from x in one group to y in the other; without it there are still ways from s to x and from y to t.
pub record Crossing (f : ℕ → Bool) (l : List Run) (s t : ℕ) : Type 0 where
  pub e : Run
  pub rest : List Run
  pub out : Out e l rest
  pub x : ℕ
  pub y : ℕ
  pub ends : EndsAre e x y
  pub over : f x ≡ f y → ⊥
  pub near : Way rest s x
  pub far : Way rest y t

-- Two tests agree or do not.
same_or : (p q : Bool) → (p ≡ q) ⊎ (p ≡ q → ⊥)
same_or true true = inl refl
same_or false false = inl refl
same_or true false = inr (λ e. no e)
  where
    no : true ≡ false → ⊥
    no e = let z : ◌≡◌ {A = ℕ} 0 1 = cc in omega arith
same_or false true = inr (λ e. no e)
  where
    no : false ≡ true → ⊥
    no e = let z : ◌≡◌ {A = ℕ} 0 1 = cc in omega arith

module _ (f : ℕ → Bool) where
  -- A crossing is one with a run more.
  lift : {q : Run} {l : List Run} {s t : ℕ} → Crossing f l s t → Crossing f (q ∷ l) s t
  lift {q} c =
      record {
        e = c.e;
        rest = q ∷ c.rest;
        out = under c.out;
        x = c.x;
        y = c.y;
        ends = c.ends;
        over = c.over;
        near = way_more (λ r h. later h) c.near;
        far = way_more (λ r h. later h) c.far;
      }

  -- A way that goes over q from x to y and crosses before x has a crossing;
  early : {q : Run} {l : List Run} {s t x y : ℕ} → ((s t : ℕ) → Way l s t → (f s ≡ f t → ⊥) → Crossing f l s t) → (f s ≡ f t → ⊥)
      → EndsAre q x y → Crossing f l s x → Way l y t → Crossing f (q ∷ l) s t
  early {q} {l} {s} {t} {x} {y} ih ne d c w = go (part c.out w)
    where
      by : Way (q ∷ c.rest) c.y t → Crossing f (q ∷ l) s t
      by v =
          record {
            e = c.e;
            rest = q ∷ c.rest;
            out = under c.out;
            x = c.x;
            y = c.y;
            ends = c.ends;
            over = c.over;
            near = way_more (λ r h. later h) c.near;
            far = v;
          }

      go : Parted c.e c.rest y t → Crossing f (q ∷ l) s t
      go (spared v) = by (way_then (way_more (λ r h. later h) c.far) (along q y (first refl) d (way_more (λ r h. later h) v)))
      go (used x' y' d' u v) = turn (ends_two c.ends d')
        where
          turn : ((c.x ≡ x') × (c.y ≡ y')) ⊎ ((c.x ≡ y') × (c.y ≡ x')) → Crossing f (q ∷ l) s t
          turn (inl z) = by (way_more (λ r h. later h) (way_as (sym z.1) refl v))
          turn (inr z) = lift (ih s t (way_more (λ r h. rest_in c.out h) (way_then c.near (way_as (sym z.0) refl v))) ne)

  -- so has one that crosses after y.
  late : {q : Run} {l : List Run} {s t x y : ℕ} → ((s t : ℕ) → Way l s t → (f s ≡ f t → ⊥) → Crossing f l s t) → (f s ≡ f t → ⊥)
      → EndsAre q x y → Way l s x → Crossing f l y t → Crossing f (q ∷ l) s t
  late {q} {l} {s} {t} {x} {y} ih ne d w c = go (part c.out w)
    where
      by : Way (q ∷ c.rest) s c.x → Crossing f (q ∷ l) s t
      by v =
          record {
            e = c.e;
            rest = q ∷ c.rest;
            out = under c.out;
            x = c.x;
            y = c.y;
            ends = c.ends;
            over = c.over;
            near = v;
            far = way_more (λ r h. later h) c.far;
          }

      go : Parted c.e c.rest s x → Crossing f (q ∷ l) s t
      go (spared v) = by (way_then (way_more (λ r h. later h) v) (along q y (first refl) d (way_more (λ r h. later h) c.near)))
      go (used x' y' d' u v) = turn (ends_two c.ends d')
        where
          turn : ((c.x ≡ x') × (c.y ≡ y')) ⊎ ((c.x ≡ y') × (c.y ≡ x')) → Crossing f (q ∷ l) s t
          turn (inl z) = by (way_more (λ r h. later h) (way_as refl (sym z.0) u))
          turn (inr z) = lift (ih s t (way_more (λ r h. rest_in c.out h) (way_then (way_as refl (sym z.1) u) c.far)) ne)

  -- Without runs there is no way to another group.
  nowhere : {s t : ℕ} → Way [] s t → (f s ≡ f t → ⊥) → ⊥
  nowhere {s = s} {t = t} (along r m x8 _ _) ne = elim x8 [ ]
  nowhere (stay e) ne = ne (ap f e)

  -- A way between pins of two groups crosses on a run, without which each end of the way still reaches an end of the run.
  pub crossing : (l : List Run) (s t : ℕ) → Way l s t → (f s ≡ f t → ⊥) → Crossing f l s t
  crossing [] s t w ne = absurd (nowhere w ne)
  crossing (q ∷ l) s t w ne = go (part top w) (crossing l)
    where
      go : Parted q l s t → ((s t : ℕ) → Way l s t → (f s ≡ f t → ⊥) → Crossing f l s t) → Crossing f (q ∷ l) s t
      go (spared v) ih = lift (ih s t v ne)
      go (used x y d u v) ih = side (same_or (f x) (f y)) (same_or (f s) (f x))
        where
          side : (f x ≡ f y) ⊎ (f x ≡ f y → ⊥) → (f s ≡ f x) ⊎ (f s ≡ f x → ⊥) → Crossing f (q ∷ l) s t
          side (inr a) b = record { e = q; rest = l; out = top; x = x; y = y; ends = d; over = a; near = u; far = v }
          side (inl a) (inr b) = early ih ne d (ih s x u b) v
          side (inl a) (inl b) = late ih ne d u (ih y t v (λ z. ne (b ∙ a ∙ z)))
