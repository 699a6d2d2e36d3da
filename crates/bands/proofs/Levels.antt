-- What mapping a row of bands leaves in the output. Assumes nothing.
use Prim.Native.Nat.{ℕ, ◌*◌, ◌≤◌}
use mathlib.Core.Path.{◌≡◌, ◌∙◌}
use mathlib.Core.List.{List}
use borrow.Author.Tests.{leb-true}
use Rattle.refusal.specs.Output.{onto}
use Rattle.refusal.proofs.Laws.{require_passed, and_passed}
use Rattle.word.specs.Words.{pixels}
use Rattle.strip.specs.Checks.{header_fields}
use Rattle.body.specs.Levels.{levels_under}
use Rattle.body.specs.loops.Indices.{indices_of}
use Rattle.body.proofs.Laws.{length_indices, length_levels, over_indices}
use Rattle.page.specs.Mapping.{tone_under}
use Rattle.series.specs.Series.{series_of}
use Rattle.bands.specs.Joining.{join_tallies}
use Rattle.bands.specs.Checks.{check_bands, tall_header, check_tally_bands, check_map_bands}
use Rattle.bands.specs.Answers.{joined_levels}
use Rattle.bands.specs.loops.Walks.{joined_pixels, HoldsAll}
use Rattle.bands.proofs.Checking.{light_passed}
use Rattle.bands.proofs.Accepted.{bands_accepted, levels_of_law}
use Rattle.refusal.specs.Verdicts.{accepted}

-- ---- an accepted row and output

pub record Fits (r : List ℕ) (room : ℕ) : Type 0 where
  pub bands : check_bands r ≡ accepted
  pub light : check_tally_bands r ≡ accepted
  pub fits : 3 * pixels (tall_header r) ≤ room

pub map_limits : (r : List ℕ) (room : ℕ) → check_map_bands r room ≡ accepted → Fits r room
unfolding check_map_bands
map_limits r room e =
    let q = and_passed _ _ e in
    record { bands = light_passed r q.0; light = q.0; fits = leb-true _ _ (require_passed _ _ _ _ q.1).0 }

-- ---- over the indices that the tally left

module _ (r : List ℕ) (e : check_bands r ≡ accepted) (old : List ℕ) {kept : List ℕ} (k : kept ≡ onto (indices_of (joined_pixels (series_of r))) old) where
  pub indices_left : HoldsAll r kept
  indices_left = let ps = joined_pixels (series_of r) in rw k (record { front = over_indices ps (indices_of ps) old (length_indices ps) })

  pub levels_left_law : {new : List ℕ}
      → new ≡ onto (levels_under (tone_under (header_fields r) (join_tallies (series_of r))) (joined_pixels (series_of r))) kept → new ≡ onto (joined_levels r) old
  levels_left_law f =
      let ps = joined_pixels (series_of r) in
      let t = join_tallies (series_of r) in
      let tone = tone_under (header_fields r) t in
      f ∙ rw (levels_of_law t (header_fields r) (series_of r) (bands_accepted r e).each, k) (over_indices ps (levels_under tone ps) old (length_levels tone ps))
