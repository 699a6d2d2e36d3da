-- The factors of luminances under a tone, worked out as they appear. Assumes nothing.
use Rattle.std.specs.Prelude.{◌≡◌, ℕ, ◌%◌, ◌^◌, ◌<◌, min, cond, List, [], ◌∷◌, length, ◌==◌, ◌≢◌, slice_index, slice_index_or}
use Rattle.number.proofs.Laws.{IsMantissa}
use Rattle.number.specs.declared.channel.Pixel.{Pixel}
use Rattle.number.specs.declared.ratio.Stored.{Stored}
use Rattle.luminance.specs.loops.Codes.{index_count, stored_at}
use Rattle.tone.specs.declared.tone.Tone.{Tone}
use Rattle.tone.specs.Levels.{display_under, level_of}
use Rattle.tone.specs.loops.Factors.{factor_of}
use Rattle.body.specs.declared.levels.WideLevels.{WideLevels}
use Rattle.body.specs.Levels.{by_channel}

-- what stands for an unlit pixel: not 0, and every level is 0
abbrev pub unlit_factor : ℕ
unlit_factor = 2 ^ 40

-- the factor of the luminance at an index
unfoldable pub factor_under : (t : Tone) (i : ℕ) → ℕ
factor_under t i = cond (i == 0) unlit_factor (factor_of (display_under t (stored_at i)) (stored_at i))

-- each entry is 0, for not yet, or right
pub record IsFactorTable (t : Tone) (factors : List ℕ) : Type 0 where
  pub long : length factors ≡ index_count
  pub unlit : slice_index_or factors 0 0 ≡ unlit_factor
  pub entry : (i : ℕ) → i < index_count → slice_index factors i ≢ 0 → slice_index factors i ≡ factor_under t i

-- the limit of 255
abbrev pub limited : WideLevels → List ℕ
limited w = min 255 w.red ∷ min 255 w.green ∷ min 255 w.blue ∷ []

-- the levels of a pixel by a factor, before their limit
pub record LevelsBy (factor : ℕ) (p : Pixel) (wide : WideLevels) : Type 0 where
  pub lit : (d y : Stored) → IsMantissa d.mantissa → IsMantissa y.mantissa → factor ≡ factor_of d y
      → limited wide ≡ by_channel (λ c. level_of d c y) p
  pub unlit : factor % 2 ^ 40 ≡ 0 → limited wide ≡ by_channel (λ c. 0) p
