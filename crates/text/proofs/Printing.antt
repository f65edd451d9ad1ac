-- Digits put one by one, and pieces put one after another, come to numbers and lines. Assumes nothing.
use mathlib.Core.Path.{◌≡◌, refl, sym, ◌∙◌, ap}
use mathlib.Core.Bool.{Bool, true, false}
use mathlib.Core.List.{List, [], ◌∷◌, ◌++◌, append_assoc, append-nil}
use Prim.Native.Nat.{ℕ, zero, suc, ◌+◌, ◌*◌, ◌/◌, ◌%◌, ◌^◌, ◌≤◌, ◌<◌, min}
use native.Mathlib.Nat.{pow-suc}
use native.Mathlib.Omega.{arith}
use lib.IntN.{ℤ, pos, nat_abs}
use lib.Signed.{lt_z}
use lib.Dec.{ltb, lit<}
use borrow.Author.Rules.{sfits_of}
use lib.ListN.{length, take, drop, get_or, set, length-append}
use lib.Seq.{sets, sets-eq, take_all, length-take-le, drop-drop}
use borrow.Rule.Slice.PartMut.{put_mid}
use mir.Syntax.{w32}
use mir.Val.{SFits}
use borrow.Author.Tests.{lt-ltb, le-ltb}
use Rattle.basics.specs.Tests.{choose}
use Rattle.board.proofs.Signed.{rd, lt_rd}
use Rattle.text.specs.Text.{text, text_for_each, over, answer_bytes, Holds}
use Rattle.text.specs.Digits.{digits, decimal, integer, hex_digit, hex}
use Rattle.board.proofs.Flat.{order}
use Rattle.text.proofs.Steps.{first_more, sets-append}
use mathlib.Core.Logic.{◌⊎◌, inl, inr}

-- With room for one digit more, a number from ten on is the digits of its tenth and its last digit,
digits_step : (k n : ℕ) → 10 ≤ n → digits k (n / 10) ++ ((48 + n % 10) ∷ []) ≡ digits (suc k) n
unfolding digits choose
digits_step k n h = rw (le-ltb n 10 h)

-- and a number below ten is one digit.
digits_small : (k n : ℕ) → n < 10 → (48 + n) ∷ [] ≡ digits (suc k) n
unfolding digits choose
digits_small k n h = rw (lt-ltb n 10 h)

-- Room for one digit more changes nothing: one step, by whether the number is below ten.
more_by : (k n : ℕ) → ((n / 10 < 10 ^ k) → digits k (n / 10) ≡ digits (suc k) (n / 10)) → n < 10 ^ suc k → (10 ≤ n) ⊎ (n < 10)
    → digits (suc k) n ≡ digits (suc (suc k)) n
more_by k n ih h (inl s) =
    sym (digits_step k n s)
    ∙ ap (λ (l : List ℕ). l ++ ((48 + n % 10) ∷ [])) (ih (omega (arith, pow-suc 10 k)))
    ∙ digits_step (suc k) n s
more_by k n ih h (inr s) = sym (digits_small k n s) ∙ digits_small (suc k) n s

-- Room for one digit more changes nothing where there is room already.
digits_more : (k n : ℕ) → n < 10 ^ suc k → digits (suc k) n ≡ digits (suc (suc k)) n
digits_more zero n h = sym (digits_small 0 n (omega (arith, pow-suc 10 0))) ∙ digits_small 1 n (omega (arith, pow-suc 10 0))
digits_more (suc k) n h = more_by (suc k) n (digits_more k (n / 10)) h (order 10 n)

-- So a number below ten is one digit,
decimal_small : (n : ℕ) → n < 10 → (48 + n) ∷ [] ≡ decimal n
decimal_small n h = digits_small 19 n h

-- and a larger one the digits of its tenth and its last digit.
decimal_large : (n : ℕ) → 10 ≤ n → n < 18446744073709551616 → decimal (n / 10) ++ ((48 + n % 10) ∷ []) ≡ decimal n
decimal_large n h k =
    ap (λ (l : List ℕ). l ++ ((48 + n % 10) ∷ [])) (sym (digits_more 18 (n / 10) (omega arith)))
    ∙ digits_step 19 n h

-- Digits take no more room than there is;
digits_short : (k n : ℕ) → length (digits k n) ≤ k
unfolding digits choose
digits_short zero n = omega arith
digits_short (suc k) n = by (ltb n 10) (digits_short k (n / 10))
  where
    by : (t : Bool) → length (digits k (n / 10)) ≤ k → length (choose t ((48 + n) ∷ []) (digits k (n / 10) ++ ((48 + n % 10) ∷ []))) ≤ suc k
    by true h = omega arith
    by false h = omega (arith, length-append (digits k (n / 10)) ((48 + n % 10) ∷ []))

-- and without its last at most nineteen.
pub decimal_rest : (n : ℕ) → n < 18446744073709551616 → length (decimal (n / 10)) ≤ 19
decimal_rest n h = rw (← (digits_more 18 (n / 10) (omega arith))) (digits_short 19 (n / 10))

module _ (o : List ℕ) (at n : ℕ) where
  -- A number below ten is put as one digit,
  pub put_small : n < 10 → (at + 1 ≡ at + length (decimal n)) × (set o at (48 + n) ≡ sets o at (decimal n))
  put_small h =
      (ap (λ (d : List ℕ). at + length d) (decimal_small n h), ap (sets o at) (decimal_small n h))

  -- and a larger one by its last digit after the others.
  pub put_large : {next : ℕ} {p : List ℕ} → 10 ≤ n → n < 18446744073709551616 → next ≡ at + length (decimal (n / 10))
      → p ≡ sets o at (decimal (n / 10))
      → (next + 1 ≡ at + length (decimal n)) × (set p next (48 + n % 10) ≡ sets o at (decimal n))
  put_large {next} {p} h k e f = (
    omega (arith, e, length-append (decimal (n / 10)) ((48 + n % 10) ∷ []), ap length (decimal_large n h k)),
    rw (f, e) (sets-append o at (decimal (n / 10)) ((48 + n % 10) ∷ []) ∙ ap (sets o at) (decimal_large n h k)),
  )

-- A piece was put from a position on: where it ends, and what the buffer holds.
abbrev pub Put : List ℕ → ℕ → List ℕ → ℕ → List ℕ → Type 0
Put o at p n v = (n ≡ at + length p) × (v ≡ sets o at p)

-- A piece put right after another is put with it;
pub then_put : (o : List ℕ) (at : ℕ) {m n : ℕ} {u v : List ℕ} (p q : List ℕ) → Put o at p m u → Put u m q n v → Put o at (p ++ q) n v
then_put o at p q h k =
    (omega (arith, h.0, k.0, length-append p q), k.1 ∙ rw (h.1, h.0) (sets-append o at p q))

-- likewise three pieces
pub put_all3 : (o : List ℕ) (at : ℕ) {k m n : ℕ} {u v w : List ℕ} (p q r : List ℕ) → Put o at p k u → Put u k q m v → Put v m r n w
    → Put o at (p ++ q ++ r) n w
put_all3 o at p q r g h i = then_put o at (p ++ q) r (then_put o at p q g h) i

-- and five.
pub put_all5 : (o : List ℕ) (at : ℕ) {k m n i j : ℕ} {u v w x y : List ℕ} (p q r s t : List ℕ)
    → Put o at p k u → Put u k q m v → Put v m r n w → Put w n s i x → Put x i t j y
    → Put o at (p ++ q ++ r ++ s ++ t) j y
put_all5 o at p q r s t a b c d e = put_all3 o at (p ++ q ++ r) s t (put_all3 o at p q r a b c) d e

-- What is put from the start on is a line of the buffer.
pub line : (o : List ℕ) (p : List ℕ) {n : ℕ} {v : List ℕ} → Put o 0 p n v → (n ≡ length p) × (v ≡ over p o)
line o p h = (omega (arith, h.0), h.1)

-- Hex digits below ten are 0 to 9,
pub hex_low : (d : ℕ) → d < 10 → 48 + d ≡ hex_digit d
unfolding hex_digit choose
hex_low d h = rw (lt-ltb d 10 h)

-- the others the small letters a to f.
pub hex_high : (d : ℕ) → 10 ≤ d → 87 + d ≡ hex_digit d
unfolding hex_digit choose
hex_high d h = rw (le-ltb d 10 h)

-- Bytes in hex are two digits each;
pub hex-length : (l : List ℕ) → length (hex l) ≡ length l * 2
unfolding hex
hex-length [] = refl
hex-length (b ∷ rest) = omega (arith, hex-length rest)

-- one byte more is two digits more,
hex_snoc : (l : List ℕ) (b : ℕ) → hex (l ++ (b ∷ [])) ≡ hex l ++ (hex_digit (b / 16) ∷ hex_digit (b % 16) ∷ [])
unfolding hex
hex_snoc [] b = refl
hex_snoc (a ∷ rest) b = ap (λ (l : List ℕ). hex_digit (a / 16) ∷ hex_digit (a % 16) ∷ l) (hex_snoc rest b)

-- and they are put after those before them.
pub hex_more : (o l : List ℕ) (at i : ℕ) {next x y : ℕ} {before : List ℕ} → i < length l → next ≡ at + i * 2 → before ≡ sets o at (hex (take i l))
    → x ≡ hex_digit (get_or l i 0 / 16) → y ≡ hex_digit (get_or l i 0 % 16)
    → set (set before next x) (suc next) y ≡ sets o at (hex (take (i + 1) l))
hex_more o l at i {next} {x} {y} {before} h n b e f =
    let m : at + i * 2 ≡ at + length (hex (take i l)) = omega (arith, hex-length (take i l), length-take-le i l (omega arith)) in
    let two : List ℕ = hex_digit (get_or l i 0 / 16) ∷ hex_digit (get_or l i 0 % 16) ∷ [] in
    let put : sets (sets o at (hex (take i l))) (at + i * 2) two ≡ sets o at (hex (take (i + 1) l)) =
    ap (λ (k : ℕ). sets (sets o at (hex (take i l))) k two) m
    ∙ sets-append o at (hex (take i l)) two
    ∙ ap (sets o at) (sym (hex_snoc (take i l) (get_or l i 0)) ∙ ap hex (first_more 0 l i h)) in
    rw (b, n, e, f) put

-- Bytes copied over a part of the buffer are put there.
pub copied : (o bytes now : List ℕ) (at k : ℕ) → now ≡ bytes → k ≡ length bytes → at + length bytes ≤ length o → put_mid at k o now ≡ sets o at bytes
copied o bytes now at k e f h =
    rw (e, f, drop-drop (length bytes) at o, sets-eq bytes o at h) (sym (append_assoc (take at o) bytes (drop (at + length bytes) o)))

-- A piece that reads as another was put as that other.
pub put_as : (o : List ℕ) (at : ℕ) {n : ℕ} {v : List ℕ} {p q : List ℕ} → p ≡ q → Put o at p n v → Put o at q n v
put_as o at e h = (h.0 ∙ ap (λ (l : List ℕ). at + length l) e, h.1 ∙ ap (sets o at) e)

-- A number below zero is a minus and how far it is from zero,
pub integer-below : (z : ℤ) → SFits w32 z → lt_z (rd z) (pos 0) ≡ true → text "-" ++ decimal (nat_abs z) ≡ integer z
unfolding integer choose
integer-below z h e = rw (lt_rd {a = z} {b = pos 0} h (sfits_of (lit< tt)) e)

-- any other is its digits.
pub integer_above : (z : ℤ) → SFits w32 z → lt_z (rd z) (pos 0) ≡ false → decimal (nat_abs z) ≡ integer z
unfolding integer choose
integer_above z h e = rw (lt_rd {a = z} {b = pos 0} h (sfits_of (lit< tt)) e)

-- The first elements of a list, counted no further than the list goes.
pub take-smaller : {A : Type 0} (l : List A) (n : ℕ) → take (min (length l) n) l ≡ take n l
take-smaller {A} l n = by (order n (length l))
  where
    by : (n ≤ length l) ⊎ (length l < n) → take (min (length l) n) l ≡ take n l
    by (inl h) =
        let e : min (length l) n ≡ n = omega arith in
        ap (λ (k : ℕ). take k l) e
    by (inr h) = take_all (min (length l) n) l (omega arith) ∙ sym (take_all n l (omega arith))

-- What is printed of a list with one element more is longer by that element's text;
each_snoc : {A : Type 0} (print : A → List ℕ) (l : List A) (a : A) → text_for_each print l ++ print a ≡ text_for_each print (l ++ (a ∷ []))
unfolding text_for_each
each_snoc print [] a = sym (append-nil (print a))
each_snoc print (b ∷ rest) a =
    append_assoc (print b) (text_for_each print rest) (print a) ∙ ap (λ (t : List ℕ). print b ++ t) (each_snoc print rest a)

-- so what is printed of the first elements grows element by element.
pub each_more : {A : Type 0} (print : A → List ℕ) (d : A) (l : List A) (i : ℕ) → i < length l
    → text_for_each print (take i l) ++ print (get_or l i d) ≡ text_for_each print (take (i + 1) l)
each_more print d l i h = each_snoc print (take i l) (get_or l i d) ∙ ap (text_for_each print) (first_more d l i h)

-- What is printed within fewer bytes is held within the room of an answer, under any name of its text.
pub held : (before : List ℕ) (most : ℕ) {p q : List ℕ} {n : ℕ} {after : List ℕ} → most ≤ answer_bytes → p ≡ q → Holds most p before n after
    → Holds answer_bytes q before n after
held before most k e h = ((h.0.0 ∙ ap length e, omega (arith, h.0.1)), h.1 ∙ ap (λ (t : List ℕ). over t before) e)
