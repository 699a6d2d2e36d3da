-- The luminances of pixels, and how many pixels are lit. Assumes nothing.
use Rattle.std.specs.Prelude.{ℕ, suc, cond, List, [], ◌∷◌, None, Some}
use Rattle.number.specs.declared.channel.Pixel.{Pixel}
use Rattle.number.specs.declared.ratio.Stored.{Stored}
use Rattle.luminance.specs.Pixels.{any_lit, luminance_of, Luminance}

-- a pixel's luminance before others, where it has one
abbrev pub if_lit : Luminance → List Stored → List Stored
if_lit None ys = ys
if_lit (Some y) ys = y ∷ ys

-- One list stands for pixels in their tally: the luminances of the lit ones.
unfoldable pub luminances_of : List Pixel → List Stored
luminances_of [] = []
luminances_of (p ∷ ps) = if_lit (luminance_of p) (luminances_of ps)

-- "A pixel is lit if any of its three channel words is; N counts these pixels.": by the channels, with no luminance
abbrev pub lit_count : List Pixel → ℕ
lit_count [] = 0
lit_count (p ∷ ps) = cond (any_lit p) (suc (lit_count ps)) (lit_count ps)
