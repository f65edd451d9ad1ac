-- How large numbers get.
use Rattle.std.specs.Prelude.{ℕ, ◌*◌, ◌^◌, ◌≤◌, Float}
use Rattle.std.specs.Float.{nan, inf, fin}
use Rattle.std.specs.Float.Ieee.{up, down}

-- A number is finite, and at most so much in size, whatever its sign: `fin s m e` is m times 2 ^ e, which is `up e` over `down e`.
abbrev pub AtMost : Float → ℕ → Type 0
AtMost nan B = ⊥
AtMost (inf s) B = ⊥
AtMost (fin s m e) B = m * up e ≤ B * down e

-- The most that a drop can be, in volts: 31 runs, for each a current of at most 2 ^ 44 amps (the load, at most 12,000, and all later currents), at most 1 ohm
-- per step, and a distance of at most 240,000 steps, which is below 2 ^ 18.
abbrev pub most_drop : ℕ
most_drop = 31 * 2 ^ 62
