-- A seat's edits, the latest first: where those that stand come, one more that stands, and an edit counted from the newest. Assumes nothing.
use mathlib.Core.Path.{◌≡◌, refl, ap, sym, ◌∙◌}
use mathlib.Core.List.{List, [], ◌∷◌, ◌++◌, reverse, reverse-append}
use Prim.Native.Nat.{ℕ, ◌+◌, ◌-◌, ◌<◌}
use native.Mathlib.Omega.{arith}
use lib.ListN.{length, take, drop, get_or, take-append-drop, length-drop, length-reverse}
use lib.Seq.{drop-cons, drop_at}
use Rattle.basics.proofs.Lists.{first_more}

-- The first k of a list, the latest first, come after the others when all are turned round.
pub turned : {A : Type 0} (l : List A) (n k : ℕ) → n ≡ length l → drop (n - k) (reverse l) ≡ reverse (take k l)
turned l n k e =
    let a : length (reverse (drop k l)) ≡ n - k = length-reverse (drop k l) ∙ length-drop k l ∙ rw (← e) in
    let p : reverse l ≡ reverse (drop k l) ++ reverse (take k l) = ap reverse (sym (take-append-drop k l)) ∙ reverse-append (take k l) (drop k l) in
    rw p (drop_at (reverse (drop k l)) (reverse (take k l)) (n - k) a)

-- One edit more stands than the first n: the edit of number n, counted from 0, is the latest.
pub stands_more : {A : Type 0} (l : List A) (n : ℕ) (d : A) → n < length l → reverse (take (n + 1) l) ≡ get_or l n d ∷ reverse (take n l)
stands_more l n d h = rw (← first_more d l n h) (reverse-append (take n l) (get_or l n d ∷ []))

-- The edit of number n is the one that has all but the first n + 1 after it.
pub counted_back : {A : Type 0} (l : List A) (n : ℕ) (d : A) → n < length l → get_or (reverse l) (length l - (n + 1)) d ≡ get_or l n d
counted_back {A = A} l n d h =
    let k : length l - (n + 1) < length (reverse l) = omega (arith, length-reverse l) in
    ap (λ (m : List A). get_or m 0 d) (sym (drop-cons (reverse l) (length l - (n + 1)) d k) ∙ turned l (length l) (n + 1) refl ∙ stands_more l n d h)
