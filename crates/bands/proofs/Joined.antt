-- The joined tally of an accepted row, which is the tall strip's, and its answer. Assumes nothing.
use Prim.Native.Nat.{ℕ, ◌<◌}
use mathlib.Core.Path.{◌≡◌, sym, subst₂, ◌∙◌}
use mathlib.Core.List.{List}
use Rattle.refusal.specs.Verdicts.{and_then, accepted}
use Rattle.word.specs.Words.{pixels}
use Rattle.strip.specs.Checks.{header_fields}
use Rattle.strip.specs.Reading.{strip_pixels}
use Rattle.average.specs.declared.tally.Tally.{Tally}
use Rattle.average.specs.loops.Sums.{IsTally}
use Rattle.tone.specs.Levels.{IsTone}
use Rattle.light.specs.Light.{check_light}
use Rattle.body.proofs.Laws.{lit_count_law}
use Rattle.page.specs.Checks.{check_tally}
use Rattle.page.specs.Mapping.{tone_under}
use Rattle.page.specs.Tallying.{tally_under}
use Rattle.page.proofs.Laws.{strip_tally_law, strip_tone, tally_lit}
use Rattle.series.specs.Series.{series_of}
use Rattle.bands.specs.Checks.{check_bands, tall_header, check_tally_bands}
use Rattle.bands.specs.Cutting.{tall_strip}
use Rattle.bands.specs.Joining.{join_tallies}
use Rattle.bands.specs.Answers.{tally_bands}
use Rattle.bands.proofs.Accepted.{AreBands, bands_accepted}
use Rattle.bands.proofs.Tall.{tall_header_law, tall_whole, tall_tally, tall_checked}
use Rattle.std.specs.Prelude.{Err}
use Rattle.refusal.specs.declared.Fault.{Fault}

module _ (r : List ℕ) (e : check_bands r ≡ accepted) where
  ok : AreBands r
  ok = bands_accepted r e

  pub joined_tally : IsTally (join_tallies (series_of r))
  joined_tally = rw (tall_tally r ok) (strip_tally_law (tall_strip r) (tall_whole r ok))

  pub answered : (t : Tally) (n : ℕ) → t ≡ join_tallies (series_of r) → n ≡ pixels (tall_header r) → tally_under (check_light t.count n) t ≡ tally_bands r
  unfolding tally_bands check_tally_bands and_then
  answered t n f g = rw (e, f, g)

  -- what all bands are mapped under, where a pixel is lit
  module _ (light : check_tally_bands r ≡ accepted) where
    lit : check_tally (tall_strip r) ≡ accepted
    lit = sym (tall_checked r e) ∙ light

    pub joined_lit : 0 < (join_tallies (series_of r)).count
    joined_lit = rw (tall_tally r ok, lit_count_law (strip_pixels (tall_strip r))) (tally_lit (tall_strip r) lit)

    pub joined_tone : IsTone (tone_under (header_fields r) (join_tallies (series_of r)))
    joined_tone =
        let s = tall_strip r in
        subst₂ (λ h t. IsTone (tone_under h t)) (tall_header_law r ok) (sym (tall_tally r ok)) (strip_tone s (tall_whole r ok) (tally_lit s lit))

pub refused : (r : List ℕ) {f : Fault} → check_bands r ≡ Err f → Err f ≡ tally_bands r
unfolding tally_bands check_tally_bands and_then
refused r e = rw e
