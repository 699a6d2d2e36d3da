-- The checks of a page in bands, in their order. Assumes nothing.
-- "A fold-out is shot as bands of whole rows. Each band is a strip of its own with the same width and key. The bands lie one behind the other
-- in one lent row"
use Rattle.std.specs.Prelude.{ℕ, ◌+◌, ◌*◌, Bool, ◌&&◌, List, [], ◌∷◌, map, leb, eqb, length, Result}
use Rattle.refusal.specs.declared.Refusal.TheVariants.{WrongLength, SmallOutput, UnlikeBands}
use Rattle.refusal.specs.declared.Fault.{Fault}
use Rattle.refusal.specs.Verdicts.{Verdict, accepted, require, and_then}
use Rattle.white.specs.Whites.{same_white}
use Rattle.word.specs.declared.header.Header.{Header}
use Rattle.word.specs.Words.{pixels, size_fits}
use Rattle.strip.specs.Checks.{header_fields}
use Rattle.strip.specs.Reading.{header_under}
use Rattle.light.specs.Light.{check_light}
use Rattle.series.specs.Series.{Standing, series_of, check_standing}
use Rattle.bands.specs.Joining.{join_tallies}

-- what a band declares
abbrev pub band_header : Standing → Header
band_header b = header_fields b.strip

-- ---- the checks; `above` is the number of rows of the bands above

-- a band is not refused for "a width or key unlike the first band's or a joined size over the limits of 1"; "Joined bands must agree in W, or
-- in having none, else 21" (2026-05)
unfoldable pub joins : (first : Header) (above : ℕ) (band : Header) → Bool
joins first above band =
    eqb band.width first.width && eqb band.key first.key && same_white band.white first.white
    && size_fits first.width (above + band.height)

-- "21 unlike bands, place 0, [..] after that band's own checks"
unfoldable pub check_band : (first : Header) (above : ℕ) → Standing → Verdict
check_band first above b = and_then (check_standing b) (require (joins first above (band_header b)) UnlikeBands 0 accepted)

-- band by band
unfoldable pub check_each : (first : Header) (above : ℕ) → List Standing → Verdict
check_each first above [] = accepted
check_each first above (b ∷ bs) = and_then (check_band first above b) (check_each first (above + (band_header b).height) bs)

-- "an empty row [..] is 3"; a cut band is 3 by its own checks. The first words of a row are its first band's, which declares three or more.
unfoldable pub check_bands : List ℕ → Verdict
check_bands r = require (leb 1 (length r)) WrongLength 0 (check_each (header_fields r) 0 (series_of r))

-- ---- the header of the whole

-- the same page with another number of rows
abbrev pub with_rows : Header → (rows : ℕ) → Header
with_rows h rows = record { width = h.width; height = rows; key = h.key; white = h.white }

abbrev pub band_heights : List Standing → List ℕ
band_heights bs = map (λ b. (band_header b).height) bs

abbrev pub sum_heights : List ℕ → ℕ
sum_heights [] = 0
sum_heights (n ∷ ns) = n + sum_heights ns

-- the joined height
unfoldable pub joined_height : List Standing → ℕ
joined_height bs = sum_heights (band_heights bs)

abbrev pub tall_header : List ℕ → Header
tall_header r = with_rows (header_fields r) (joined_height (series_of r))

-- width, joined height, key and white point; of a refused row its refusal
abbrev pub read_bands : List ℕ → Result Header Fault
read_bands r = header_under (check_bands r) (tall_header r)

-- ---- the checks of tallying and mapping

-- "For bands the rule looks at the joined tally only. Errors: 9 dark page, place 0, after every word has passed."
unfoldable pub check_tally_bands : List ℕ → Verdict
check_tally_bands r = and_then (check_bands r) (check_light (join_tallies (series_of r)).count (pixels (tall_header r)))

-- "the tray is checked last": an output of `room` bytes for "three level bytes a pixel"
unfoldable pub check_map_bands : List ℕ → (room : ℕ) → Verdict
check_map_bands r room = and_then (check_tally_bands r) (require (leb (3 * pixels (tall_header r)) room) SmallOutput 0 accepted)
