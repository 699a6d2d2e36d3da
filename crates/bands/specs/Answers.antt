-- What tallying and mapping a page in bands give. Assumes nothing.
use Rattle.std.specs.Prelude.{ℕ, Result}
use mathlib.Core.List.{List, flat_map}
use Rattle.refusal.specs.declared.Fault.{Fault}
use Rattle.average.specs.declared.tally.Tally.{Tally}
use Rattle.strip.specs.Reading.{strip_pixels}
use Rattle.body.specs.Levels.{levels_under}
use Rattle.page.specs.declared.tally.PageTally.{PageTally}
use Rattle.page.specs.Tallying.{tally_under}
use Rattle.page.specs.Mapping.{tone_under}
use Rattle.series.specs.Series.{Standing, series_of}
use Rattle.bands.specs.Joining.{join_tallies}
use Rattle.bands.specs.Checks.{band_header, check_tally_bands}

-- what the tally of a row of bands answers: of a refused row its refusal
unfoldable pub tally_bands : List ℕ → Result PageTally Fault
tally_bands r = tally_under (check_tally_bands r) (join_tallies (series_of r))

-- a band's levels under the average of a tally, with its own key and white point
abbrev pub band_levels : Tally → Standing → List ℕ
band_levels t b = levels_under (tone_under (band_header b) t) (strip_pixels b.strip)

-- "Bands are then mapped under the joined average", "their levels one after another"
abbrev pub joined_levels : List ℕ → List ℕ
joined_levels r = flat_map (band_levels (join_tallies (series_of r))) (series_of r)
