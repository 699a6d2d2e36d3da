-- Step 4: the scaled luminance of a luminance. Assumes nothing.
use mathlib.Core.Path.{◌≡◌, sym, ap, ◌∙◌, subst}
use Prim.Native.Nat.{ℕ, ◌+◌, ◌-◌, ◌*◌, ◌^◌, ◌≤◌, ◌<◌}
use native.Mathlib.Nat.{mul_comm, mul-pos}
use native.Mathlib.Omega.{arith}
use lib.Dec.{T, leb, ltb, lit<}
use lib.Pow.{pow-add, pow_pos}
use Rattle.number.proofs.Laws.{
  ◌·◌,
  stored_worth,
  Frac,
  two_to,
  two_to_minus,
  Equal,
  AtMost,
  Below,
  stored_of,
  unit,
  unit_pos,
  unit_power,
  above_down,
  at_most_up,
  fits_between,
  in_range,
  is_mantissa,
  ratio_above,
  ratio_at_most,
  stored_alike,
  stores_alike,
}
use Rattle.number.specs.declared.ratio.Stored.{Stored}
use Rattle.tone.specs.declared.tone.Tone.{Tone}
use Rattle.tone.specs.Levels.{IsTone, key_over_average, scaled_of}
use Rattle.tone.specs.Claims.{IsScaled, ScaledInRange}
use Rattle.luminance.specs.Pixels.{IsLuminance}
use Rattle.luminance.proofs.Products.{power_difference, product_between}
use Rattle.luminance.proofs.Storables.{unit_ratio, Storable, StoresAs}

module _ (t : Tone) (y : Stored) (tone : IsTone t) (luminance : IsLuminance y) where
  abbrev K : ℕ
  K = t.key

  abbrev a : Stored
  a = t.average

  abbrev ratio : Frac
  ratio = unit_ratio (K * (2 * y.mantissa + 1)) (1000 * (2 * a.mantissa + 1)) (137 + y.exponent - a.exponent)

  abbrev exact : Frac
  exact = key_over_average t · stored_worth y

  equal : Equal ratio exact
  equal =
      record {
        cross = regroup (2 * y.mantissa + 1) (2 * a.mantissa + 1) (2 ^ (137 + y.exponent - a.exponent)) (2 ^ a.exponent)
            (2 ^ y.exponent) unit powers;
      }
    where
      powers : 2 ^ (137 + y.exponent - a.exponent) * 2 ^ a.exponent ≡ 2 ^ y.exponent * unit
      powers =
          power_difference (137 + y.exponent) a.exponent (omega (arith, luminance, tone)) ∙ pow-add 2 137 y.exponent
          ∙ mul_comm (2 ^ 137) (2 ^ y.exponent) ∙ ap (λ (u : ℕ). 2 ^ y.exponent * u) (sym unit_power)

      regroup : (v w p q r u : ℕ) → p * q ≡ r * u → K * v * p * (1000 * (w * q) * u) ≡ K * u * (v * r) * (1000 * w * u)
      regroup v w p q r u h = omega (arith, ap (λ (z : ℕ). K * v * w * u * z) h)

  positive : 0 < exact.den
  positive =
      mul-pos {m = 1000 * ((2 * a.mantissa + 1) * 2 ^ a.exponent)}
      (mul-pos {m = 1000} (lit< tt) (mul-pos (omega arith) (pow_pos a.exponent))) unit_pos

  scaled_num : (257 ≤ K * (2 * y.mantissa + 1)) × (K * (2 * y.mantissa + 1) ≤ 511000)
  scaled_num = product_between 1 1000 257 511 _ _ (tone.key.least, tone.key.most) (omega (arith, luminance.mantissa))

  exponents : (20 ≤ 137 + y.exponent - a.exponent) × (137 + y.exponent - a.exponent ≤ 254)
  exponents = (omega (arith, luminance, tone), omega (arith, luminance, tone))

  above : (k : ℕ) → T (ltb (1 * (511000 * 2 ^ 137)) (257 * 2 ^ 20 * 2 ^ k)) → Below (two_to_minus k) ratio
  above k h = ratio_above k 257 511000 20 scaled_num.0 (omega (arith, tone.average.mantissa)) exponents.0 h

  at_most : (k : ℕ) → T (leb (511000 * 2 ^ 254 * 1) (2 ^ k * (257000 * 2 ^ 137))) → AtMost ratio (two_to k)
  at_most k h = ratio_at_most k 511000 257000 254 scaled_num.1 (omega (arith, tone.average.mantissa)) exponents.1 h

  pub scaled_storable : Storable ratio
  scaled_storable = record { in_range = fits_between (above 129 tt) (at_most 127 tt) }

  pub scaled_stored : stored_of ratio ≡ scaled_of t y
  scaled_stored = sym (stored_alike scaled_storable.in_range equal positive)

  pub scaled_stores : StoresAs exact (scaled_of t y)
  scaled_stores = stores_alike scaled_storable.in_range equal positive

  range : IsScaled (scaled_of t y)
  range =
      let s = in_range scaled_storable.in_range in
      subst IsScaled scaled_stored
      (record {
        least = omega (arith, (above_down s 128).1 (above 128 tt));
        most = omega (arith, (at_most_up s 118).1 (at_most 118 tt));
        mantissa = is_mantissa s;
      })

-- "E is 1 to 246."
pub is_scaled : ScaledInRange
is_scaled t y tone luminance = range t y tone luminance
