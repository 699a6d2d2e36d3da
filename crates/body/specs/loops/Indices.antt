-- How luminances stand in an output between the tally and the levels: in the place of each pixel, the index of its luminance in two bytes.
-- Assumes nothing.
use Rattle.std.specs.Prelude.{◌≡◌, ℕ, ◌/◌, ◌%◌, ◌^◌, ◌<◌, ◌≤◌, cond, List, [], ◌∷◌, map, length, ◌==◌, slice_index, None, Some}
use mathlib.Core.List.{flat_map}
use Rattle.number.specs.Channels.{IsCode}
use Rattle.number.specs.declared.channel.Pixel.{Pixel}
use Rattle.refusal.specs.Output.{onto}
use Rattle.word.specs.Fields.{low16}
use Rattle.word.specs.Pixels.{word_pixels}
use Rattle.luminance.specs.loops.Codes.{index_of, index_count, stored_at}
use Rattle.luminance.specs.Pixels.{luminance_of, IsLuminance, Luminance}

-- words whose lower halves are channels, at most 2^40 of them
pub record IsBody (ws : List ℕ) : Type 0 where
  pub few : length ws ≤ 2 ^ 40
  pub code : (k : ℕ) → k < length ws → IsCode (low16 (slice_index ws k))

-- the luminance at an index, none at 0
unfoldable pub luminance_at : (i : ℕ) → Luminance
luminance_at i = cond (i == 0) None (Some (stored_at i))

abbrev pub InRange : Luminance → Type 0
InRange None = Unit
InRange (Some y) = IsLuminance y

-- an index of a luminance that there is, or of none
pub record IsIndex (i : ℕ) : Type 0 where
  pub small : i < index_count
  pub luminance : InRange (luminance_at i)

-- a pixel's bytes: those of an index, the lower one first, and one that is free
abbrev pub index_bytes : (i : ℕ) → List ℕ
index_bytes i = i % 256 ∷ i / 256 ∷ 0 ∷ []

abbrev pub pixel_index : Pixel → ℕ
pixel_index p = index_of (luminance_of p)

abbrev pub index_list : List Pixel → List ℕ
index_list ps = map pixel_index ps

abbrev pub indices_of : List Pixel → List ℕ
indices_of ps = flat_map (λ p. index_bytes (pixel_index p)) ps

-- the front of the output has the indices of the words' pixels
pub record HoldsIndices (ws output : List ℕ) : Type 0 where
  pub front : onto (indices_of (word_pixels ws)) output ≡ output
