-- The walks over the strips of a row and over accepted bands. Assumes nothing.
use Rattle.std.specs.Prelude.{ℕ, ◌≡◌}
use mathlib.Core.List.{List, flat_map}
use Rattle.number.specs.declared.channel.Pixel.{Pixel}
use Rattle.refusal.specs.Output.{onto}
use Rattle.strip.specs.Reading.{strip_pixels}
use Rattle.body.specs.loops.Indices.{indices_of}
use Rattle.series.specs.Series.{Standing, series_of}
use Rattle.series.specs.loops.Walks.{series_from}
use Rattle.bands.specs.declared.walk.Strip.{Strip}
use Rattle.bands.specs.declared.walk.Strips.{Strips}

-- a strip that a walk gives, where it stands
abbrev pub standing : Strip → Standing
standing s = record { start = s.start; strip = s.words.now }

-- the strips that a walk has left
abbrev pub strips_left : Strips → List Standing
strips_left s = series_from s.row.now s.next

-- the pixels of bands, one after another
abbrev pub joined_pixels : List Standing → List Pixel
joined_pixels bs = flat_map (λ b. strip_pixels b.strip) bs

-- the front of the output has the indices of the pixels of all bands
pub record HoldsAll (r output : List ℕ) : Type 0 where
  pub front : onto (indices_of (joined_pixels (series_of r))) output ≡ output
