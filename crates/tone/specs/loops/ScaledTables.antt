-- Step 4 by a table: the scaled luminances of the luminances with exponent 128, under one key and average. Assumes nothing.
use Rattle.std.specs.Prelude.{◌≡◌, List, ℕ, ◌+◌, ◌*◌, ◌<◌, get_or}
use Rattle.number.specs.declared.ratio.Stored.{Stored}
use Rattle.tone.specs.declared.tone.Tone.{Tone}
use Rattle.tone.specs.Levels.{scaled_of}

abbrev pub with_exponent128 : (M : ℕ) → Stored
with_exponent128 M = record { exponent = 128; mantissa = M }

-- 256 times the exponent plus the mantissa of the scaled luminance of (128, M)
unfoldable pub scaled_code : (t : Tone) (M : ℕ) → ℕ
scaled_code t M = 256 * (scaled_of t (with_exponent128 M)).exponent + (scaled_of t (with_exponent128 M)).mantissa

pub record IsScaledTable (t : Tone) (entries : List ℕ) : Type 0 where
  pub entry : (k : ℕ) → k < 128 → get_or entries k 0 ≡ scaled_code t (128 + k)
