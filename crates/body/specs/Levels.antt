-- The levels of pixels under a tone. Assumes nothing.
-- "mapping gives three level bytes a pixel"
use Rattle.std.specs.Prelude.{ℕ, List, [], ◌∷◌, None, Some}
use mathlib.Core.List.{flat_map}
use Rattle.number.specs.declared.channel.Channel.{Channel}
use Rattle.number.specs.declared.channel.Pixel.{Pixel}
use Rattle.luminance.specs.Pixels.{luminance_of, Luminance}
use Rattle.tone.specs.declared.tone.Tone.{Tone}
use Rattle.tone.specs.Levels.{mapped_level}

-- steps 4 to 6 of a channel in a pixel of this luminance; the channels of an unlit pixel are black, and "Black gives 0"
abbrev pub level_in : Luminance → Tone → Channel → ℕ
level_in None t c = 0
level_in (Some y) t c = mapped_level t y c

-- a level for each channel of a pixel, in their order
abbrev pub by_channel : (Channel → ℕ) → Pixel → List ℕ
by_channel level p = level p.red ∷ level p.green ∷ level p.blue ∷ []

abbrev pub levels_of : Tone → Pixel → List ℕ
levels_of t p = by_channel (level_in (luminance_of p) t) p

-- the level bytes of pixels, one after another
abbrev pub levels_under : Tone → List Pixel → List ℕ
levels_under t ps = flat_map (levels_of t) ps
