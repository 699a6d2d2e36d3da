-- Demand 3 of a page, and the promises of the two calls. Assumes nothing.
use Prim.Native.Nat.{ℕ}
use mathlib.Core.Path.{◌≡◌, refl}
use mathlib.Core.List.{List, [], ◌∷◌, ◌++◌, flat_map}
use mathlib.Core.Logic.{inl, inr}
use lib.ListN.{length}
use Rattle.number.specs.declared.channel.Pixel.{Pixel}
use Rattle.number.proofs.Laws.{Every}
use Rattle.word.specs.Words.{pixels}
use Rattle.strip.specs.Checks.{header_fields, check_strip}
use Rattle.refusal.specs.Output.{onto}
use Rattle.strip.specs.Reading.{strip_pixels}
use Rattle.average.specs.declared.tally.Tally.{Tally}
use Rattle.average.specs.Averages.{stored_average, average_of, ◌stored_as◌}
use Rattle.light.specs.Light.{check_light}
use Rattle.tone.specs.declared.tone.Tone.{Tone}
use Rattle.tone.specs.Levels.{IsTone}
use Rattle.luminance.specs.Pixels.{IsPixel}
use Rattle.tone.proofs.Laws.{level_bound}
use Rattle.page.specs.Tallying.{strip_luminances, strip_tally, tally_steps, tally_under, tally_strip}
use Rattle.body.specs.Levels.{levels_under}
use Rattle.body.proofs.Laws.{stored_luminance, lit_luminance, lit_count_law, every_luminance}
use Rattle.page.specs.Checks.{check_tally}
use Rattle.page.specs.Mapping.{strip_levels}
use Rattle.page.specs.Claims.{MeanHalf, EachThree, LitBound, LevelHalf, DemandThree, TallyPromise, MapPromise}
use Rattle.average.proofs.Laws.{present, extremes_hold, mean_bound}
use Rattle.page.proofs.Checks.{tally_refused, tally_checked, tally_whole, tally_lit, map_tally}
use Rattle.page.proofs.Strips.{strip_valid, strip_tone}
use Rattle.std.specs.Prelude.{Err, Ok, Some}
use Rattle.refusal.specs.Verdicts.{Verdict, accepted}
use Rattle.refusal.specs.declared.Fault.{Fault}

-- ---- the levels of a list of pixels, with anything behind them

module _ (t : Tone) (tone : IsTone t) where
  levels_bound : (ps : List Pixel) (rest : List ℕ) → Every IsPixel ps → EachThree (LitBound t) ps (levels_under t ps ++ rest)
  unfolding flat_map
  levels_bound [] rest valid = tt
  levels_bound (p ∷ ps) rest valid = (
    (λ lit.
        let e = lit_luminance p lit in
        let bound = level_bound p valid.0 (stored_luminance p) e in
        rw e (
          bound p.red (inl refl) t tone,
          bound p.green (inr (inl refl)) t tone,
          bound p.blue (inr (inr refl)) t tone,
        )),
    levels_bound ps rest valid.1,
  )

-- ---- an accepted strip: it has a lit pixel

module _ (s : List ℕ) (ok : check_tally s ≡ accepted) where
  -- so that it has an average
  strip_present : average_of (strip_tally s).count (strip_tally s).sum ≡ Some (tally_steps (strip_tally s) stored_as stored_average (tally_steps (strip_tally s)))
  strip_present = present _ _ (rw (lit_count_law (strip_pixels s)) (tally_lit s ok))

  mean_half : MeanHalf (strip_pixels s) (tally_steps (strip_tally s))
  mean_half =
      record {
        count = lit_count_law (strip_pixels s);
        mean = mean_bound (strip_luminances s) (every_luminance (strip_pixels s) (strip_valid s (tally_whole s ok))) _ _ strip_present;
      }

  level_half : (output : List ℕ) → LevelHalf (header_fields s) (strip_pixels s) (tally_steps (strip_tally s)) (onto (strip_levels s) output)
  level_half output =
      let whole = tally_whole s ok in
      record { each = levels_bound _ (strip_tone s whole (tally_lit s ok)) (strip_pixels s) _ (strip_valid s whole) }

-- ---- what the calls promise

-- a tally of so many pixels, in their light
pub tallied : (s : List ℕ) → check_strip s ≡ accepted → (t : Tally) (n : ℕ) → t ≡ strip_tally s → n ≡ pixels (header_fields s)
    → tally_under (check_light t.count n) t ≡ tally_strip s
unfolding tally_strip
tallied s e t n f g = rw (tally_checked s e, f, g, lit_count_law (strip_pixels s))

pub refused : (s : List ℕ) {f : Fault} → check_strip s ≡ Err f → Err f ≡ tally_strip s
unfolding tally_strip
refused s e = rw (tally_refused s e)

pub tally_bound : (s : List ℕ) → TallyPromise s (tally_strip s)
unfolding tally_strip
tally_bound s = by (check_tally s) refl
  where
    by : (v : Verdict) → check_tally s ≡ v → TallyPromise s (tally_under v (strip_tally s))
    by (Ok u) e =
        let count = lit_count_law (strip_pixels s) in
        record {
          lit = tally_lit s e;
          count = count;
          present = strip_present s e;
          mean = mean_half s e;
          extremes = record { count = count; extremes = extremes_hold (strip_luminances s) };
        }
    by (Err f) e = tt

pub map_bound : (s output : List ℕ) → check_tally s ≡ accepted → MapPromise s accepted (onto (strip_levels s) output)
map_bound s output e = (tally_lit s e, level_half s e output)

-- ---- both together

pub demand_three : DemandThree
unfolding tally_strip
demand_three s output e =
    let ok = map_tally s (length output) e in
    record {
      A = tally_steps (strip_tally s);
      reported = rw (ok, strip_present s ok);
      bounds = record { mean = mean_half s ok; levels = level_half s ok output };
    }
