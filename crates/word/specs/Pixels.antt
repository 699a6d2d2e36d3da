-- The pixels that words stand for. Assumes nothing.
use Rattle.std.specs.Prelude.{ℕ, List, [], ◌∷◌, map}
use Rattle.number.specs.declared.channel.Channel.{Channel}
use Rattle.number.specs.declared.channel.Pixel.{Pixel}
use Rattle.number.specs.Channels.{code_channel}
use Rattle.word.specs.Fields.{low16}

-- "red, green, blue of each pixel in turn": channels by threes
abbrev pub pixel_of : (red green blue : Channel) → Pixel
pixel_of r g b = record { red = r; green = g; blue = b }

abbrev pub pixels_of : List Channel → List Pixel
pixels_of (r ∷ g ∷ b ∷ cs) = pixel_of r g b ∷ pixels_of cs
pixels_of (r ∷ g ∷ []) = []
pixels_of (r ∷ []) = []
pixels_of [] = []

-- the channel of an accepted word; of any other that of its lower half, black where that is none
abbrev pub word_channel : (w : ℕ) → Channel
word_channel w = code_channel (low16 w)

-- the pixels of channel words
abbrev pub word_pixels : List ℕ → List Pixel
word_pixels ws = pixels_of (map word_channel ws)
