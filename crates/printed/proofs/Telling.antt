-- What a host is told, the bytes that it lent, and drops are printed as the definitions say. Assumes nothing.
use mathlib.Core.Path.{◌≡◌, refl, sym}
use mathlib.Core.Bool.{true, false}
use mathlib.Core.List.{List, [], ◌∷◌, ◌++◌}
use Prim.Native.Nat.{ℕ}
use native.Mathlib.Omega.{arith}
use lib.ListN.{length}
use borrow.Author.Tests.{eq-eqb, ne_eqb}
use Rattle.basics.specs.Tests.{choose}
use Rattle.basics.proofs.Tests.{opposite, choose_yes, choose_no}
use Rattle.std.specs.Prelude.{Ok, Err}
use Rattle.std.specs.Result.{is_err}
use Rattle.refusal.specs.Refusals.{Verdict, accepted}
use Rattle.refusal.specs.declared.Told.{Told}
use Rattle.drops.specs.declared.Lost.{Lost}
use Rattle.text.specs.Text.{text, text_for_each}
use Rattle.text.specs.Digits.{field, hex}
use Rattle.printed.specs.Answers.{hex_part, carried_text, told_line, verdict_line, drop_text, drops_line, lost_line}

-- An accepted call is told by 0,
pub told_zero : (t : Told) → t.number ≡ 0 → text "0\n" ≡ told_line t
unfolding told_line choose
told_zero t h = rw (eq-eqb t.number 0 h)

-- a refused one by its refusal's number and what it carries.
pub told_refused : (t : Told) → (t.number ≡ 0 → ⊥) → field "refused " t.number ++ carried_text t.carried ++ text "\n" ≡ told_line t
unfolding told_line choose
told_refused t h = rw (ne_eqb t.number 0 h)

-- A buffer without bytes is not printed,
pub lent_none : (l : List ℕ) → length l ≡ 0 → [] ≡ hex_part l
unfolding hex_part
lent_none [] h = refl
lent_none (b ∷ rest) h = absurd (omega arith)

-- any other is a space and its bytes in hex.
pub lent_some : (l : List ℕ) → (length l ≡ 0 → ⊥) → text " " ++ hex l ≡ hex_part l
unfolding hex_part
lent_some [] h = absurd (h refl)
lent_some (b ∷ rest) h = refl

-- The library's test of an Err says which of the two a verdict is.
pub refused_is : (v : Verdict) → is_err v ≡ true → accepted v ≡ false
unfolding accepted
refused_is (Ok a) e = absurd (opposite e refl)
refused_is (Err r) e = refl

pub passed_is : (v : Verdict) → is_err v ≡ false → accepted v ≡ true
unfolding accepted
passed_is (Ok a) e = refl
passed_is (Err r) e = absurd (opposite refl e)

-- Drops that are refused print the line of the verdict,
pub lost_refused : (lost : Lost) → is_err lost.verdict ≡ true → verdict_line lost.verdict ≡ lost_line lost
unfolding lost_line
lost_refused lost h = sym (choose_no (drops_line lost.drops) (verdict_line lost.verdict) (refused_is lost.verdict h))

-- and accepted ones every drop.
pub lost_accepted : (lost : Lost) → is_err lost.verdict ≡ false → text "0" ++ text_for_each drop_text lost.drops ++ text "\n" ≡ lost_line lost
unfolding lost_line drops_line
lost_accepted lost h = sym (choose_yes (drops_line lost.drops) (verdict_line lost.verdict) (passed_is lost.verdict h))
