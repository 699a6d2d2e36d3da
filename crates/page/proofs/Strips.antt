-- What the tally and the levels of an accepted strip rest on. Assumes nothing.
use Prim.Native.Nat.{ℕ, zero, suc, ◌*◌, ◌/◌, ◌≤◌, ◌<◌, min}
use mathlib.Core.Path.{◌≡◌, ◌∙◌}
use mathlib.Core.List.{List, [], ◌∷◌}
use native.Mathlib.Omega.{arith}
use lib.ListN.{length, get_or}
use Rattle.number.specs.Channels.{Coded}
use Rattle.number.proofs.Laws.{Every}
use Rattle.refusal.specs.Output.{onto}
use Rattle.refusal.proofs.Laws.{and_passed}
use Rattle.word.specs.Fields.{low16, decode_word}
use Rattle.word.specs.Pixels.{word_channel, word_pixels}
use Rattle.word.specs.Placing.{placed, first_refusal}
use Rattle.word.specs.Words.{pixels, body_start}
use Rattle.word.proofs.Decoding.{holds, is_word}
use Rattle.word.proofs.Limits.{size_limits, key_limits}
use Rattle.word.proofs.Pixels.{word_channel_law}
use Rattle.strip.specs.Checks.{header_fields, body_part}
use Rattle.strip.specs.Reading.{strip_pixels}
use Rattle.strip.proofs.Limits.{Whole, length_body}
use Rattle.strip.proofs.Bodies.{pixels_in}
use Rattle.strip.proofs.RoundTrip.{count_pixels}
use Rattle.luminance.specs.Pixels.{IsPixel}
use Rattle.average.specs.Tallies.{tally_of}
use Rattle.average.specs.loops.Sums.{IsTally}
use Rattle.average.proofs.Laws.{is_tally, present, reported_range}
use Rattle.tone.specs.Levels.{IsTone}
use Rattle.body.specs.Luminances.{luminances_of, lit_count}
use Rattle.body.specs.loops.Indices.{IsBody, indices_of, HoldsIndices}
use Rattle.body.proofs.Laws as body
use Rattle.body.proofs.Laws.{pixels_valid, lit_count_law, luminances_few, every_luminance, indices_held}
use Rattle.light.specs.Light.{check_light}
use Rattle.light.specs.loops.Counting.{enough_for}
use Rattle.light.proofs.Laws.{counted_enough}
use Rattle.page.specs.Checks.{strip_light}
use Rattle.page.specs.Tallying.{strip_luminances, strip_tally}
use Rattle.page.specs.Mapping.{tone_under, strip_levels}
use Rattle.refusal.specs.Verdicts.{accepted}

-- the lower halves of accepted words are channels
codes : (start k : ℕ) (ws : List ℕ) → first_refusal (placed decode_word start k ws) ≡ accepted
    → (i : ℕ) → i < length ws → Coded (low16 (get_or ws i 0)) (word_channel (get_or ws i 0))
codes start k [] e i h = absurd (omega arith)
codes start k (w ∷ ws) e zero h =
    let told = holds _ _ (and_passed _ _ e).0 in
    rw (word_channel_law k w told) (is_word k w told).coded
codes start k (w ∷ ws) e (suc i) h = codes start (suc k) ws (and_passed _ _ e).1 i (omega arith)

module _ (s : List ℕ) (ok : Whole s) where
  few_pixels : pixels (header_fields s) ≤ 16777216
  few_pixels = (size_limits _ _ ok.head.size_fits).count

  pub strip_body : IsBody (body_part s)
  strip_body =
      let n = length_body s ok.head in
      let most = few_pixels in
      record { few = omega arith; code = codes (body_start (header_fields s)) 0 (body_part s) ok.channels }

  pub strip_valid : Every IsPixel (strip_pixels s)
  strip_valid = rw (pixels_in s ok.channels) (pixels_valid (body_part s))

  -- its channel words, as a call is given them
  module _ {words : List ℕ} (e : words ≡ body_part s) where
    pub words_count : length words / 3 ≡ pixels (header_fields s)
    words_count = let n = length_body s ok.head in rw e (omega arith)

    pub words_tally : tally_of (luminances_of (word_pixels words)) ≡ strip_tally s
    words_tally = rw (e, pixels_in s ok.channels)

    -- with the indices of its luminances in an output
    pub words_indices : (old : List ℕ) {new : List ℕ} → new ≡ onto (indices_of (word_pixels words)) old
        → new ≡ onto (indices_of (strip_pixels s)) old
    words_indices old f = rw (e, ← pixels_in s ok.channels) at f

    -- lit pixels are counted until they are enough
    pub words_light : check_light (min (enough_for (length words / 3)) (lit_count (word_pixels words))) (length words / 3) ≡ strip_light s
    words_light = counted_enough _ _ ∙ rw (words_count, e, pixels_in s ok.channels)

  pub strip_tally_law : IsTally (strip_tally s)
  strip_tally_law =
      let few = luminances_few (strip_pixels s) in
      let n = count_pixels s ok in
      let most = few_pixels in
      is_tally (strip_luminances s) (every_luminance (strip_pixels s) strip_valid) (omega arith)

  -- what it is mapped under, where a pixel is lit
  pub strip_tone : 0 < lit_count (strip_pixels s) → IsTone (tone_under (header_fields s) (strip_tally s))
  strip_tone lit =
      let q = key_limits _ ok.head.key_fits in
      let some : 0 < length (strip_luminances s) = rw (lit_count_law (strip_pixels s)) lit in
      record {
        key = record { least = q.least; most = q.most };
        average = reported_range _ _ strip_tally_law.sum (present _ _ some);
        white = ok.head.white.fits;
      }

  pub length_levels : length (strip_levels s) ≡ 3 * pixels (header_fields s)
  length_levels =
      body.length_levels (tone_under (header_fields s) (strip_tally s)) (strip_pixels s) ∙ rw (count_pixels s ok)

  -- the indices of its luminances in an output
  module _ (old : List ℕ) {t : List ℕ} (e : t ≡ onto (indices_of (strip_pixels s)) old) where
    pub strip_indices : HoldsIndices (body_part s) t
    strip_indices = rw (e, pixels_in s ok.channels) (indices_held (body_part s) old)

    pub over_indices : onto (strip_levels s) t ≡ onto (strip_levels s) old
    over_indices =
        rw e (body.over_indices (strip_pixels s) (strip_levels s) old (body.length_levels (tone_under (header_fields s) (strip_tally s)) (strip_pixels s)))
