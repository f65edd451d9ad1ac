-- Members of a list, of two lists joined and of a list of images. Assumes nothing.
use mathlib.Core.Path.{◌≡◌, refl, sym, ap, subst}
use mathlib.Core.List.{List, [], ◌∷◌, ◌++◌, map}
use mathlib.Core.Logic.{◌⊎◌, inl, inr, ⊎_elim}
use Rattle.basics.specs.Lists.{Among, first, later}

-- What stands in a list stands in it with others after it,
pub in_front : {A : Type 0} {a : A} {l : List A} (m : List A) → Among a l → Among a (l ++ m)
in_front m (first e) = first e
in_front m (later h) = later (in_front m h)

-- and with others before it;
pub in_back : {A : Type 0} {a : A} (l : List A) {m : List A} → Among a m → Among a (l ++ m)
in_back [] h = h
in_back (b ∷ l) h = later (in_back l h)

-- and what stands in two lists joined stands in one of them.
pub in_either : {A : Type 0} {a : A} (l : List A) {m : List A} → Among a (l ++ m) → Among a l ⊎ Among a m
in_either [] h = inr h
in_either (b ∷ l) (first e) = inl (first e)
in_either (b ∷ l) (later h) = ⊎_elim (λ k. inl (later k)) (λ k. inr k) (in_either l h)

-- What an image in a list of images comes from.
pub record From {A B : Type 0} (f : A → B) (b : B) (l : List A) : Type 0 where
  pub source : A
  pub among : Among source l
  pub is : f source ≡ b

-- The image of a member is a member of the list of images,
pub in_map : {A B : Type 0} (f : A → B) {a : A} {l : List A} → Among a l → Among (f a) (map f l)
in_map f (first e) = first (ap f e)
in_map f (later h) = later (in_map f h)

-- and every image there comes from a member.
pub from_map : {A B : Type 0} (f : A → B) {b : B} (l : List A) → Among b (map f l) → From f b l
from_map {A = A} {B = B} f {b = b} [] x' = elim x' [ ]
from_map f (a ∷ l) (first e) = record { source = a; among = first refl; is = sym e }
from_map {A} f {b} (a ∷ l) (later h) = one_more (from_map f l h)
  where
    one_more : From f b l → From f b (a ∷ l)
    one_more r = record { source = r.source; among = later r.among; is = r.is }

-- Each of a list is so.
pub data Every {A : Type 0} (P : A → Type 0) : List A → Type 0 where
  none : Every P []
  one : {a : A} {l : List A} → P a → Every P l → Every P (a ∷ l)

-- What holds of each holds of a member,
pub every_one : {A : Type 0} {P : A → Type 0} {a : A} {l : List A} → Every P l → Among a l → P a
every_one {A = A} {P = P} {a = a} none x3 = elim x3 [ ]
every_one {P = P} (one p r) (first e) = subst P (sym e) p
every_one (one p r) (later h) = every_one r h

-- and what holds of each of two lists holds of each of both joined.
pub every_join : {A : Type 0} {P : A → Type 0} {l m : List A} → Every P l → Every P m → Every P (l ++ m)
every_join none r = r
every_join (one p q) r = one p (every_join q r)
