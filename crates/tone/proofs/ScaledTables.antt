-- Step 4 by a table: the scaled luminance of (E, M) is that of (128, M) with the exponent moved by E − 128. Assumes nothing.
use mathlib.Core.Path.{◌≡◌, refl, sym, ap, ap₂, ◌∙◌}
use Prim.Native.Nat.{ℕ, ◌+◌, ◌-◌, ◌*◌, ◌/◌, ◌%◌, ◌^◌, ◌≤◌}
use native.Mathlib.Omega.{arith}
use Rattle.number.proofs.Laws.{◌over◌, IsMantissa, Stores, denominator_pos, shift_exponent, stored_as}
use Rattle.number.specs.declared.ratio.Stored.{Stored}
use Rattle.luminance.specs.Pixels.{IsLuminance}
use Rattle.tone.specs.declared.tone.Tone.{Tone}
use Rattle.tone.specs.Levels.{IsTone, key_over_average, scaled_of}
use Rattle.tone.specs.loops.ScaledTables.{with_exponent128, scaled_code}
use Rattle.tone.proofs.Scaled.{scaled_stores, is_scaled}

-- two numbers of one denominator, whose factors 2^k and 2^l make them equal, are stored alike but for the exponents
shifted_alike : {n n' d E M E' M' : ℕ} (k l : ℕ) → Stores (n over d) E M → Stores (n' over d) E' M' → n * 2 ^ k ≡ n' * 2 ^ l
    → (E + k ≡ E' + l) × (M ≡ M')
shifted_alike {n} {n'} {d} {E} {M} {E'} {M'} k l s t e = (ap (λ (z : Stored). z.exponent) same, ap (λ (z : Stored). z.mantissa) same)
  where
    same : ◌≡◌ {A = Stored} (record { exponent = E + k; mantissa = M }) (record { exponent = E' + l; mantissa = M' })
    same =
        sym (stored_as (shift_exponent k s) (record { cross = ap (λ (z : ℕ). z * d) e }) (denominator_pos t))
        ∙ stored_as (shift_exponent l t) (record { cross = refl }) (denominator_pos t)

is_luminance_128 : (M : ℕ) → IsMantissa M → IsLuminance (with_exponent128 M)
is_luminance_128 M m = record { least = omega arith; most = omega arith; mantissa = m }

-- the scaled luminance of y by the code of (128, M): the difference that gives its exponent fits
pub record Moved (code : ℕ) (y scaled : Stored) : Type 0 where
  pub least : 128 ≤ code / 256 + y.exponent
  pub most : code / 256 + y.exponent - 128 ≤ 246
  pub same : record { exponent = code / 256 + y.exponent - 128; mantissa = code % 256 } ≡ scaled

module _ (t : Tone) (y : Stored) (tone : IsTone t) (luminance : IsLuminance y) where
  middle : IsLuminance (with_exponent128 y.mantissa)
  middle = is_luminance_128 _ luminance.mantissa

  alike : let s = scaled_of t y in let m = scaled_of t (with_exponent128 y.mantissa) in
      (s.exponent + 128 ≡ m.exponent + y.exponent) × (s.mantissa ≡ m.mantissa)
  alike =
      shifted_alike 128 y.exponent (scaled_stores t y tone luminance)
      (scaled_stores t (with_exponent128 y.mantissa) tone middle)
      (swap (key_over_average t).num (2 * y.mantissa + 1) (2 ^ y.exponent) (2 ^ 128))
    where
      swap : (n v p q : ℕ) → n * (v * p) * q ≡ n * (v * q) * p
      swap n v p q = omega arith

  pub scaled_moved : Moved (scaled_code t y.mantissa) y (scaled_of t y)
  unfolding scaled_code
  scaled_moved =
      let s = is_scaled t y tone luminance in
      let m = is_scaled t (with_exponent128 y.mantissa) tone middle in
      let h = alike in
      record {
        least = omega arith;
        most = omega arith;
        same = ap₂ (λ (x m : ℕ). record { exponent = x; mantissa = m }) (omega arith) (omega arith);
      }
