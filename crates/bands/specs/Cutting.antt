-- The one tall strip of a row of bands, and a strip cut into bands. Assumes nothing.
use Rattle.std.specs.Prelude.{ℕ, ◌*◌, take, drop}
use mathlib.Core.List.{List, [], ◌∷◌, ◌++◌, flat_map}
use Rattle.number.specs.declared.channel.Channel.{Channel}
use Rattle.word.specs.declared.header.Header.{Header}
use Rattle.word.specs.Words.{pixels, strip_of}
use Rattle.strip.specs.Checks.{header_fields}
use Rattle.strip.specs.Reading.{strip_channels}
use Rattle.series.specs.Series.{Standing, series_of}
use Rattle.bands.specs.Checks.{with_rows, tall_header}

-- the channels of all bands, one after another
abbrev pub joined_channels : List Standing → List Channel
joined_channels bs = flat_map (λ b. strip_channels b.strip) bs

-- "the one tall strip": the first band's width, key and white point, the sum of the heights, all channels
abbrev pub tall_strip : List ℕ → List ℕ
tall_strip r = strip_of (tall_header r) (joined_channels (series_of r))

-- the row of bands of these heights that the channels of a page are cut into
unfoldable pub cut_channels : Header → (heights : List ℕ) → List Channel → List ℕ
cut_channels h [] cs = []
cut_channels h (n ∷ ns) cs =
    let count = 3 * pixels (with_rows h n) in
    strip_of (with_rows h n) (take count cs) ++ cut_channels h ns (drop count cs)

-- a strip cut "into whole rows"
abbrev pub cut_into : (heights : List ℕ) → List ℕ → List ℕ
cut_into ns s = cut_channels (header_fields s) ns (strip_channels s)
