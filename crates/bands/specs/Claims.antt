-- A page in bands is the one tall page, for every way of cutting. Assumes nothing.
use Rattle.std.specs.Prelude.{ℕ, ◌≤◌, ◌≡◌, List, ℤ, length, Ok, Some}
use Rattle.number.proofs.Laws.{Every}
use Rattle.refusal.specs.Output.{onto}
use Rattle.refusal.specs.Verdicts.{accepted}
use Rattle.strip.specs.Checks.{header_fields, check_strip}
use Rattle.strip.specs.Reading.{read_header}
use Rattle.average.specs.Averages.{stored_average, ◌stored_as◌}
use Rattle.page.specs.Tallying.{◌averaging◌, tally_strip}
use Rattle.page.specs.Mapping.{strip_levels}
use Rattle.page.specs.Claims.{ToneBounds}
use Rattle.series.specs.Series.{series_of}
use Rattle.bands.specs.Joining.{join_tallies}
use Rattle.bands.specs.Checks.{check_bands, band_heights, sum_heights, read_bands, check_map_bands}
use Rattle.bands.specs.Answers.{tally_bands, joined_levels}
use Rattle.bands.specs.Cutting.{tall_strip, cut_into}

-- "the joined tally equals that of the one tall strip"; "their levels one after another are those of the tall page"
pub record IsTall (r : List ℕ) : Type 0 where
  pub accepted : check_strip (tall_strip r) ≡ accepted
  pub header : read_bands r ≡ read_header (tall_strip r)
  pub tally : tally_bands r ≡ tally_strip (tall_strip r)
  pub levels : joined_levels r ≡ strip_levels (tall_strip r)

-- Proved as `bands_are_tall` in proofs/Tall.antt.
abbrev pub BandsAreTall : Type 0
BandsAreTall = (r : List ℕ) → check_bands r ≡ accepted → IsTall r

-- bands of these heights that a strip was cut into
pub record AreItsBands (s heights r : List ℕ) : Type 0 where
  pub accepted : check_bands r ≡ accepted
  pub rows : band_heights (series_of r) ≡ heights
  pub whole : tall_strip r ≡ s
  pub tally : tally_bands r ≡ tally_strip s
  pub levels : joined_levels r ≡ strip_levels s

-- "for every way of cutting into whole rows": each band has a row or more. Proved as `cuts_are_bands` in proofs/Cuts.antt.
abbrev pub CutsAreBands : Type 0
CutsAreBands =
    (s heights : List ℕ) → check_strip s ≡ accepted → Every (λ n. 1 ≤ n) heights → sum_heights heights ≡ (header_fields s).height
    → AreItsBands s heights (cut_into heights s)

-- the A that the bands' tally reports, and demand 3 of it, on the tall page
pub record BandsReported (r bytes : List ℕ) : Type 0 where
  pub A : ℤ
  pub reported : tally_bands r ≡ Ok (join_tallies (series_of r) averaging Some (A stored_as stored_average A))
  pub bounds : ToneBounds (tall_strip r) A bytes

-- Demand 3, of every row that mapping accepts. Proved as `bands_demand_three` in proofs/Bounds.antt.
abbrev pub BandsDemandThree : Type 0
BandsDemandThree =
    (r output : List ℕ) → check_map_bands r (length output) ≡ accepted → BandsReported r (onto (joined_levels r) output)
