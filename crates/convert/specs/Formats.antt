-- The source pictures, and the channels that stand in them. Assumes nothing.
use Rattle.std.specs.Prelude.{ℕ, ◌+◌, List, [], ◌∷◌, ◌++◌}
use Rattle.number.specs.Channels.{channel_of_code, Decoded}
use Rattle.number.specs.Sources.{channel_of_value, half_value, single_value, rgbe_value}
use Rattle.word.specs.Placing.{Placed, placed}

-- "RGBE", "Half", "single", "Stored"
pub data Format : Type 0 where
  rgbe : Format
  half : Format
  single : Format
  stored : Format

-- the elements of a pixel: "four bytes R, G, B, e", "three 16-bit numbers a pixel", "three 32-bit numbers", "one a channel"
abbrev pub per_pixel : Format → ℕ
per_pixel rgbe = 4
per_pixel half = 3
per_pixel single = 3
per_pixel stored = 3

-- what an element decodes to, whichever channel it is
abbrev pub half_element : (k bits : ℕ) → Decoded
half_element k b = channel_of_value (half_value b)

abbrev pub single_element : (k bits : ℕ) → Decoded
single_element k b = channel_of_value (single_value b)

abbrev pub stored_element : (k code : ℕ) → Decoded
stored_element k n = channel_of_code n

-- "An RGBE element is a byte; 6 names the channel's byte."
abbrev pub rgbe_channel : (i m e : ℕ) → Placed
rgbe_channel i m e = record { index = i; decoded = channel_of_value (rgbe_value m e) }

-- the pixel whose bytes begin at the index i
abbrev pub rgbe_pixel : (i r g b e : ℕ) → List Placed
rgbe_pixel i r g b e = rgbe_channel i r e ∷ rgbe_channel (i + 1) g e ∷ rgbe_channel (i + 2) b e ∷ []

-- the pixels from the index i on; bytes that are no whole pixel stand for nothing
abbrev pub rgbe_pixels : (i : ℕ) → List ℕ → List Placed
rgbe_pixels i [] = []
rgbe_pixels i (r ∷ []) = []
rgbe_pixels i (r ∷ g ∷ []) = []
rgbe_pixels i (r ∷ g ∷ b ∷ []) = []
rgbe_pixels i (r ∷ g ∷ b ∷ e ∷ bytes) = rgbe_pixel i r g b e ++ rgbe_pixels (i + 4) bytes

-- what a picture decodes to, its channels in order
abbrev pub decoded_source : Format → List ℕ → List Placed
decoded_source rgbe xs = rgbe_pixels 0 xs
decoded_source half xs = placed half_element 0 0 xs
decoded_source single xs = placed single_element 0 0 xs
decoded_source stored xs = placed stored_element 0 0 xs
