-- Step 6: levels of fractions, and the level of a channel as that of num · 2^up / (den · 2^down). Assumes nothing.
use mathlib.Core.Path.{◌≡◌, sym, ap, ◌∙◌}
use Prim.Native.Nat.{ℕ, ◌+◌, ◌-◌, ◌*◌, ◌^◌, ◌≤◌, ◌<◌, min}
use native.Mathlib.Nat.{div-eq_of_lt, le-div_iff_mul-le, le_of_eq, le_trans, min-eq_left, mul-pos}
use native.Mathlib.Omega.{arith}
use lib.Pow.{pow-add, pow_mono, pow_pos}
use Rattle.number.proofs.Laws.{Frac, ◌over◌, unit, unit_pos, unit_power}
use Rattle.number.specs.declared.channel.Channel.{Channel}
use Rattle.number.specs.declared.channel.Channel.TheVariants.{Black, Lit}
use Rattle.number.specs.declared.ratio.Stored.{Stored}
use Rattle.tone.specs.Levels.{level_of, nearest_whole}
use Rattle.luminance.proofs.Products.{power_difference}
use Rattle.tone.proofs.Rounding.{nearest_equal}

-- the larger power is the other and some places more
pub apart : (a b k : ℕ) → a + k ≤ b → 2 ^ a * 2 ^ k ≤ 2 ^ b
apart a b k h = le_trans (le_of_eq (sym (pow-add 2 a k))) (pow_mono h)

-- the level of a fraction from 255 on, and of one below 1/2
pub full_level : (x : Frac) → 0 < x.den → 255 * x.den ≤ x.num → 255 ≡ min 255 (nearest_whole x)
full_level x pos h = sym (min-eq_left ((le-div_iff_mul-le (mul-pos {m = 2} (omega arith) pos)).1 (omega arith)))

pub dark_level : (x : Frac) → 2 * x.num < x.den → 0 ≡ min 255 (nearest_whole x)
dark_level x h = ap (min 255) (sym (div-eq_of_lt (omega arith)))

-- the smaller power goes out of a fraction
pub lowered : (num up den down : ℕ) → 0 < den → up ≤ down
    → nearest_whole (num over den * 2 ^ (down - up)) ≡ nearest_whole (num * 2 ^ up over den * 2 ^ down)
lowered num up den down d h =
    nearest_equal _ _ (mul-pos d (pow_pos (down - up))) (mul-pos d (pow_pos down))
    (record { cross = regroup (2 ^ (down - up)) (2 ^ up) (2 ^ down) (power_difference down up h) })
  where
    regroup : (p q r : ℕ) → p * q ≡ r → num * (den * r) ≡ num * q * (den * p)
    regroup p q r f = omega (arith, ap (λ (z : ℕ). num * den * z) f)

-- of black, and of a lit channel
divisor_pos : (y : Stored) → 0 < unit * unit * ((2 * y.mantissa + 1) * 2 ^ y.exponent)
divisor_pos y = mul-pos (mul-pos unit_pos unit_pos) (mul-pos (omega arith) (pow_pos y.exponent))

pub black_level : (d : Stored) (c : Channel) (y : Stored) → c ≡ Black → 0 ≡ level_of d c y
unfolding level_of
black_level d c y q = rw q (ap (min 255) (sym (div-eq_of_lt (omega (arith, divisor_pos y)))))

pub lit_level : (d : Stored) (c : Channel) (y : Stored) (E M : ℕ) → c ≡ Lit E M
    → min 255 (nearest_whole
    (255 * (2 * d.mantissa + 1) * (2 * M + 1) * 2 ^ (d.exponent + E) over (2 * y.mantissa + 1) * 2 ^ (y.exponent + 137)))
    ≡ level_of d c y
unfolding level_of
lit_level d c y E M q =
    rw q (ap (min 255) (nearest_equal _ _ (mul-pos (omega arith) (pow_pos (y.exponent + 137))) (divisor_pos y)
    (record {
      cross = regroup (2 * d.mantissa + 1) (2 * M + 1) (2 * y.mantissa + 1) (2 ^ d.exponent) (2 ^ E) (2 ^ y.exponent) unit _ _
          (pow-add 2 d.exponent E) (pow-add 2 y.exponent 137 ∙ ap (λ (u : ℕ). 2 ^ y.exponent * u) (sym unit_power));
    })))
  where
    regroup : (d c y p q r u s t : ℕ) → s ≡ p * q → t ≡ r * u
        → 255 * d * c * s * (u * u * (y * r)) ≡ 255 * (d * p * (c * q) * u) * (y * t)
    regroup d c y p q r u s t f g = rw (f, g) (omega arith)
