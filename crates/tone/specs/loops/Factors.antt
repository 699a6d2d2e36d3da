-- What is kept of a luminance for step 6: 255 × display luminance / luminance as one number, exact enough for the level of every channel.
-- Assumes nothing.
use Rattle.std.specs.Prelude.{◌≡◌, cond, List, ℕ, ◌+◌, ◌-◌, ◌*◌, ◌/◌, ◌%◌, ◌^◌, ◌<◌, min, ltb, get_or}
use Rattle.number.specs.declared.ratio.Stored.{Stored}

-- 255 / (2M + 1) in 28 binary places, rounded up
abbrev pub reciprocal_of : (M : ℕ) → ℕ
reciprocal_of M = (255 * 2 ^ 28 + 2 * M) / (2 * M + 1)

-- The exponents' part, E of display luminance less E of luminance plus 255. From 373 on every lit channel has level 255.
abbrev pub offset_of : (display luminance : Stored) → ℕ
offset_of d y = min 373 (d.exponent + 255 - y.exponent)

-- both parts in one number
abbrev pub factor_of : (display luminance : Stored) → ℕ
factor_of d y = (2 * d.mantissa + 1) * reciprocal_of y.mantissa + offset_of d y * 2 ^ 40

-- The same by a table of reciprocals, whatever it holds: mantissas are taken modulo 128, and every reciprocal is below 2^28.
unfoldable pub factor_by : (reciprocals : List ℕ) (display luminance : Stored) → ℕ
factor_by rs d y = (2 * d.mantissa + 1) * (get_or rs (y.mantissa % 128) 0 % 2 ^ 28) + offset_of d y * 2 ^ 40

-- The power of two at an offset plus a channel's exponent: below 374 every level is 0, from 385 on 255.
unfoldable pub power_at : (i : ℕ) → ℕ
power_at i = cond (ltb i 374) 0 (2 ^ (min 385 i - 374))

-- the level of a channel by a factor and the channel's code, before 255 is taken for more
unfoldable pub wide_level : (factor code : ℕ) → ℕ
wide_level f n = (f % 2 ^ 40 * (2 * (n % 256) + 1) * power_at (n / 256 + f / 2 ^ 40) + 2 ^ 45) / 2 ^ 46

pub record IsPowerTable (entries : List ℕ) : Type 0 where
  pub entry : (i : ℕ) → i < 640 → get_or entries i 0 ≡ power_at i

pub record IsReciprocalTable (entries : List ℕ) : Type 0 where
  pub entry : (k : ℕ) → k < 128 → get_or entries k 0 ≡ reciprocal_of (128 + k)
