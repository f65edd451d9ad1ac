-- How large the numbers of a sheet and of its loads are, where they are in their ranges. Assumes nothing.
use mathlib.Core.Path.{◌≡◌, ap, ◌∙◌}
use mathlib.Core.Bool.{Bool, true}
use mathlib.Core.List.{List}
use Prim.Native.Nat.{ℕ, zero-le}
use lib.Dec.{lit≤, lit<}
use lib.IntN.{pos, negsuc}
use lib.Ieee.{binary32}
use Rattle.basics.specs.Tests.{each_of}
use Rattle.basics.proofs.Tests.{both_left, both_right}
use Rattle.basics.proofs.Anyone.{each_first, each_rest}
use Rattle.basics.specs.Lists.{Among, first, later}
use Rattle.loads.specs.declared.Sheet.{Sheet}
use Rattle.loads.specs.declared.Load.{Load}
use Rattle.loads.specs.declared.Load.TheVariants.{Amps, Watts, Spare}
use Rattle.loads.specs.Loads.{sheet_fits, load_fits, load_at, loads_fit, amps_of}
use Rattle.finite.specs.Bounds.{AtMost}
use Rattle.finite.proofs.Rounding.{holds}
use Rattle.finite.proofs.Operations.{AtLeast, div_at_most}
use Rattle.finite.proofs.Ranges.{range_most, range_least}

-- The most that a load is, in amps: 12,000 watts at 1 volt. It is 375 * 2 ^ 5.
abbrev pub most_load : ℕ
most_load = 12000

-- Where each of a list passes a test, any one of it does.
each_among : {A : Type 0} (test : A → Bool) {a : A} {l : List A} → Among a l → each_of test l ≡ true → test a ≡ true
each_among test (first {b = b} {l = l} e) h = ap test e ∙ each_first test b l h
each_among test (later {b = b} {l = l} m) h = each_among test m (each_rest test b l h)

module _ (sheet : Sheet) (fits : sheet_fits sheet ≡ true) where
  -- Supply volts in their range are at least 1,
  volts_least : AtLeast sheet.volts 1
  unfolding sheet_fits
  volts_least = range_least 1 (pos 0) 15 (pos 2) sheet.volts (both_left _ _ fits) 1 (lit< tt) (lit≤ tt)

  -- and ohms per step at most 1.
  pub ohms_most : AtMost sheet.ohms 1
  unfolding sheet_fits
  ohms_most = range_most 0 (pos 0) 5368709 (negsuc 28) sheet.ohms (both_right _ _ fits) 1 (lit≤ tt)

  -- A load in its range is at most 12,000 amps.
  pub amps_most : (load : Load) → load_fits load ≡ true → AtMost (amps_of sheet load) most_load
  unfolding load_fits amps_of
  amps_most (Amps a) h = range_most 0 (pos 0) 125 (pos 2) a h most_load (lit≤ tt)
  amps_most (Watts w) h =
      div_at_most binary32 375 5 (holds 375 5 (lit< tt) (lit≤ tt)) w sheet.volts most_load 1 (lit< tt) (lit≤ tt)
      (range_most 0 (pos 0) 375 (pos 5) w h most_load (lit≤ tt)) volts_least
  amps_most Spare h = zero-le

  -- So is that of each of some pins whose loads are.
  pub load_most : (loads : List Load) (pins : List ℕ) → loads_fit loads pins ≡ true → (pin : ℕ) → Among pin pins
      → AtMost (amps_of sheet (load_at loads pin)) most_load
  load_most loads pins h pin m = amps_most (load_at loads pin) (each_among (λ (p : ℕ). load_fits (load_at loads p)) m h)
