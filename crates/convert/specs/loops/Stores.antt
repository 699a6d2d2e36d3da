-- What the four bytes of an RGBE pixel become, and what a store of them leaves. Assumes nothing.
use Rattle.std.specs.Prelude.{ℕ, List, slice_index}
use Rattle.number.specs.Channels.{code_of, channel_in}
use Rattle.number.specs.Sources.{channel_of_value, rgbe_value}
use Rattle.word.specs.Words.{channel_word}
use Rattle.word.specs.Placing.{Placed}
use Rattle.convert.specs.Formats.{rgbe_pixel}

-- the word of channel k of a page that comes from byte m beside the exponent byte e
abbrev pub rgbe_word : (k m e : ℕ) → ℕ
rgbe_word k m e = channel_word k (code_of (channel_in (channel_of_value (rgbe_value m e))))

-- the pixel of four bytes, the first of which has the index i
abbrev pub pixel_of : (i : ℕ) (bytes : List ℕ) → List Placed
pixel_of i bs = rgbe_pixel i (slice_index bs 0) (slice_index bs 1) (slice_index bs 2) (slice_index bs 3)

-- the word of the pixel's byte j as that of channel k
abbrev pub pixel_word : (k j : ℕ) (bytes : List ℕ) → ℕ
pixel_word k j bs = rgbe_word k (slice_index bs j) (slice_index bs 3)
