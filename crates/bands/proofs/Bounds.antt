-- Demand 3 of a page in bands, and the promises of its two calls. Assumes nothing.
use Prim.Native.Nat.{ℕ}
use mathlib.Core.Path.{◌≡◌, refl, sym, ap, ◌∙◌}
use mathlib.Core.List.{List}
use lib.ListN.{length}
use Rattle.refusal.specs.Output.{onto}
use Rattle.refusal.specs.Verdicts.{and_then, Verdict, accepted}
use Rattle.strip.proofs.RoundTrip.{output_accepted}
use Rattle.average.specs.Averages.{stored_average, ◌stored_as◌}
use Rattle.page.specs.Claims.{TallyPromise, MapPromise}
use Rattle.page.specs.Checks.{check_map}
use Rattle.page.proofs.Laws.{tally_checked, map_checked, demand_three, tally_bound, map_bound}
use Rattle.bands.specs.Checks.{check_bands, check_tally_bands}
use Rattle.bands.specs.Answers.{tally_bands, joined_levels}
use Rattle.bands.specs.Cutting.{tall_strip}
use Rattle.bands.specs.Claims.{BandsDemandThree}
use Rattle.bands.proofs.Accepted.{bands_accepted}
use Rattle.bands.proofs.Tall.{tall_page, tall_tally, tall_checked, bands_are_tall}
use Rattle.bands.proofs.Levels.{Fits, map_limits}
use Rattle.std.specs.Prelude.{Err, Ok, Some}
use Rattle.page.specs.Tallying.{◌averaging◌}

-- ---- the two calls

-- where a row is accepted, its tally is the tall strip's
pub tally_promise : (r : List ℕ) → TallyPromise (tall_strip r) (tally_bands r)
unfolding tally_bands check_tally_bands and_then
tally_promise r = by (check_bands r) refl
  where
    by : (v : Verdict) → check_bands r ≡ v → TallyPromise (tall_strip r) (tally_bands r)
    by (Ok u) e = rw (bands_are_tall r e).tally (tally_bound (tall_strip r))
    by (Err f) e = rw e tt

pub map_promise : (r output : List ℕ) {room : ℕ} → Fits r room → MapPromise (tall_strip r) accepted (onto (joined_levels r) output)
map_promise r output q =
    rw (bands_are_tall r q.bands).levels (map_bound (tall_strip r) output (sym (tall_checked r q.bands) ∙ q.light))

-- ---- both together

-- an output for the levels of all bands is one for the tall strip's
tall_mapped : (r : List ℕ) (room : ℕ) → Fits r room → check_map (tall_strip r) room ≡ accepted
tall_mapped r room q =
    let s = tall_strip r in
    map_checked s room (output_accepted _ _ (tall_page r (bands_accepted r q.bands)) room q.fits)
    ∙ sym (tally_checked s (bands_are_tall r q.bands).accepted) ∙ sym (tall_checked r q.bands) ∙ q.light

pub bands_demand_three : BandsDemandThree
bands_demand_three r output e =
    let q = map_limits r (length output) e in
    let tall = bands_are_tall r q.bands in
    let page = demand_three (tall_strip r) output (tall_mapped r (length output) q) in
    record {
      A = page.A;
      reported =
          tall.tally ∙ page.reported ∙ ap (λ t. Ok (t averaging Some (page.A stored_as stored_average page.A))) (sym (tall_tally r (bands_accepted r q.bands)));
      bounds = rw tall.levels page.bounds;
    }
