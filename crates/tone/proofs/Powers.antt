-- The powers of two of the power table. Assumes nothing.
use mathlib.Core.Path.{◌≡◌, ◌∙◌, ap}
use Prim.Native.Nat.{ℕ, ◌+◌, ◌-◌, ◌*◌, ◌/◌, ◌%◌, ◌^◌, ◌≤◌, ◌<◌, min}
use native.Mathlib.Decide.{dec_lt}
use native.Mathlib.Nat.{min-eq_left, min-eq_right, mul-le-mul}
use native.Mathlib.Omega.{arith}
use lib.Pow.{pow_mono}
use borrow.Author.Tests.{lt-ltb, le-ltb}
use lib.ListN.{get_or}
use mathlib.Core.List.{List}
use Rattle.tone.specs.loops.Factors.{power_at, IsPowerTable}

pub power_below : (i : ℕ) → i < 374 → power_at i ≡ 0
unfolding power_at
power_below i h = rw (lt-ltb i 374 h)

power_from : (i : ℕ) → 374 ≤ i → power_at i ≡ 2 ^ (min 385 i - 374)
unfolding power_at
power_from i h = rw (le-ltb i 374 h)

pub power_within : (i : ℕ) → 374 ≤ i → i ≤ 385 → power_at i ≡ 2 ^ (i - 374)
power_within i h k = power_from i h ∙ ap (λ (z : ℕ). 2 ^ (z - 374)) (min-eq_right k)

pub power_beyond : (i : ℕ) → 385 ≤ i → power_at i ≡ 2 ^ 11
power_beyond i h = power_from i (omega arith) ∙ ap (λ (z : ℕ). 2 ^ (z - 374)) (min-eq_left h)

pub power_most : (i : ℕ) → power_at i ≤ 2 ^ 11
power_most i = go (dec_lt i 374)
  where
    go : Dec (i < 374) → power_at i ≤ 2 ^ 11
    go (yes h) = omega (arith, power_below i h)
    go (no h) = rw (power_from i (omega arith)) (pow_mono {i = min 385 i - 374} {j = 11} (omega arith))

-- what is rounded, for every code and every factor whose entry is within the table
pub products : (powers : List ℕ) (factor code : ℕ) → IsPowerTable powers × (factor < 374 * 2 ^ 40) → code < 2 ^ 16
    → factor % 2 ^ 40 * (2 * (code % 256) + 1) * get_or powers (code / 256 + factor / 2 ^ 40) 0 ≤ 2 ^ 40 * 511 * 2 ^ 11
products powers factor code given small =
    mul-le-mul {m₂ = 2 ^ 11} (mul-le-mul {n₂ = 2 ^ 40} {m₂ = 511} (omega arith) (omega arith))
    (rw got (power_most (code / 256 + factor / 2 ^ 40)))
  where
    got : get_or powers (code / 256 + factor / 2 ^ 40) 0 ≡ power_at (code / 256 + factor / 2 ^ 40)
    got = given.0.entry (code / 256 + factor / 2 ^ 40) (omega arith)
