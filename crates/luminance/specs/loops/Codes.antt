-- A pixel by the 16-bit forms of its channels, and its luminance as a number for tables. Assumes nothing.
use Rattle.std.specs.Prelude.{◌≡◌, ℕ, ◌+◌, ◌-◌, ◌*◌, ◌/◌, ◌%◌, ◌^◌, ◌<◌, ◌≤◌, min, cond, List, ◌==◌, ◌≢◌, nat_lt, slice_index, None, Some}
use Rattle.number.proofs.Laws.{IsCode}
use Rattle.number.specs.declared.ratio.Stored.{Stored}
use Rattle.luminance.specs.Pixels.{code_pixel, Luminance, luminance_of}

-- Luminances in a row: 128 mantissas an exponent, from exponent 66 on, so that 0 is left for an unlit pixel.
abbrev pub index_of : Luminance → ℕ
index_of None = 0
index_of (Some y) = 128 * (y.exponent - 66) + (y.mantissa - 128)

-- one more than the index of (184,255)
abbrev pub index_count : ℕ
index_count = 15232

-- the luminance at an index from 128 on, below that count; the exponent of any other is cut to a byte
abbrev pub stored_at : (i : ℕ) → Stored
stored_at i = record { exponent = (i / 128 + 66) % 256; mantissa = i % 128 + 128 }

-- weight · 2^i, for i up to 47
pub record IsWeightTable (weight : ℕ) (entries : List ℕ) : Type 0 where
  pub entry : (i : ℕ) → i < 48 → slice_index entries i ≡ weight * 2 ^ i

-- the first thirteen binary digits of a number, with so many digits behind them
pub record IsCut (number digits shift : ℕ) : Type 0 where
  pub low : digits * 2 ^ shift ≤ number
  pub high : number < (digits + 1) * 2 ^ shift
  pub least : 4096 ≤ digits
  pub most : digits < 8192
  pub within : shift ≤ 50

-- How far the index of a quotient from 128 to 2047 lies behind that of an octave's beginning: 128 for each octave, and the quotient halved
-- once for each. The least of these sums is the one of the quotient's own octave.
abbrev pub octave_index : (quotient : ℕ) → ℕ
octave_index q = min (min q (q / 2 + 128)) (min (q / 4 + 256) (q / 8 + 384))

-- the place of a channel's exponent modulo 2^16, where green's is at 4
abbrev pub near_place : (code green : ℕ) → ℕ
near_place n g = (n / 256 + 4 + 2 ^ 16 - g / 256) % 2 ^ 16

-- the weighted sum of three channels, with red's and blue's at the places r and b
abbrev pub near_sum : (red green blue r b : ℕ) → ℕ
near_sum red green blue r b =
    (2 * (red % 256) + 1) * (27 * 2 ^ (r % 8)) + (2 * (green % 256) + 1) * (67 * 2 ^ 4) + (2 * (blue % 256) + 1) * (6 * 2 ^ (b % 8))

-- An index by that sum, modulo 2^16: 128 for each exponent of green and what the sum's quotient adds, less 128 · 68. It is 0 where green
-- has the exponent 0, and where red or blue lie further from it than 4 exponents below or 3 above.
unfoldable pub near_index : (red green blue : ℕ) → ℕ
near_index red green blue =
    let r = near_place red green in
    let b = near_place blue green in
    cond (green / 256 == 0) 0
    (cond (nat_lt b 8)
    (cond (nat_lt r 8) ((128 * (green / 256) + octave_index (near_sum red green blue r b / 64 / 25) + 2 ^ 16 - 8704) % 2 ^ 16) 0)
    0)

-- The index of a pixel's luminance, unless it is a multiple of 128.
pub record IsNear (red green blue index : ℕ) : Type 0 where
  pub right : IsCode red → IsCode green → IsCode blue → (index % 128 ≢ 0) → index ≡ index_of (luminance_of (code_pixel red green blue))
