-- An accepted row of bands is the one tall strip. Assumes nothing.
use Prim.Native.Nat.{ℕ, ◌*◌, ◌≤◌}
use mathlib.Core.Path.{◌≡◌, refl, sym, ap, ap₂, ◌∙◌}
use mathlib.Core.Bool.{true}
use mathlib.Core.List.{List, [], ◌∷◌, ◌++◌, flat_map}
use native.Mathlib.Omega.{arith}
use lib.ListN.{length, length-append}
use Rattle.number.specs.Channels.{IsChannel}
use Rattle.number.proofs.Laws.{Every, every_append}
use Rattle.refusal.specs.Verdicts.{and_then, accepted}
use Rattle.white.specs.Whites.{white_fits}
use Rattle.word.specs.declared.header.Header.{Header}
use Rattle.word.specs.Words.{pixels, key_fits}
use Rattle.word.specs.Pixels.{pixels_of}
use Rattle.word.proofs.Limits.{size_limits}
use Rattle.word.proofs.Pixels.{pixels_append}
use Rattle.strip.specs.Checks.{header_fields, check_strip}
use Rattle.strip.specs.Reading.{strip_channels, strip_pixels, header_under}
use Rattle.strip.proofs.Limits.{Whole, whole_strip}
use Rattle.strip.proofs.RoundTrip.{IsPage, header_written, written_accepted, channels_written, page_read, count_pixels}
use Rattle.average.specs.Tallies.{tally_of}
use Rattle.body.specs.Luminances.{luminances_of}
use Rattle.body.specs.Levels.{levels_under}
use Rattle.body.proofs.Laws.{lit_count_law}
use Rattle.light.specs.Light.{check_light}
use Rattle.page.specs.Checks.{strip_light, check_tally}
use Rattle.page.specs.Tallying.{strip_tally, tally_under, tally_strip}
use Rattle.page.specs.Mapping.{tone_under, strip_levels}
use Rattle.page.proofs.Laws.{tally_checked}
use Rattle.series.specs.Series.{Standing, series_of}
use Rattle.series.proofs.Laws.{series_next}
use Rattle.bands.specs.Joining.{join_tallies}
use Rattle.bands.specs.Checks.{with_rows, joined_height, tall_header, check_bands, check_tally_bands}
use Rattle.bands.specs.Answers.{tally_bands, joined_levels}
use Rattle.bands.specs.Cutting.{joined_channels, tall_strip}
use Rattle.bands.specs.Claims.{BandsAreTall}
use Rattle.bands.specs.loops.Walks.{joined_pixels}
use Rattle.bands.proofs.Accepted.{IsBand, AreBands, bands_accepted, tallies_of, levels_of_law}

-- ---- the channels of bands, one after another

module _ (first : Header) where
  row_count : (bs : List Standing) → Every (IsBand first) bs → length (joined_channels bs) ≡ 3 * pixels (with_rows first (joined_height bs))
  unfolding flat_map joined_height
  row_count [] valid = omega arith
  row_count (b ∷ bs) valid =
      let n = (page_read b.strip valid.0.whole).count in
      let rest = row_count bs valid.1 in
      length-append (strip_channels b.strip) (joined_channels bs) ∙ rw (n, rest, valid.0.width) (omega arith)

  row_valid : (bs : List Standing) → Every (IsBand first) bs → Every IsChannel (joined_channels bs)
  unfolding flat_map
  row_valid [] valid = tt
  row_valid (b ∷ bs) valid =
      every_append IsChannel (strip_channels b.strip) (joined_channels bs) (page_read b.strip valid.0.whole).valid (row_valid bs valid.1)

  -- each band has whole pixels
  row_pixels : (bs : List Standing) → Every (IsBand first) bs → pixels_of (joined_channels bs) ≡ joined_pixels bs
  unfolding flat_map
  row_pixels [] valid = refl
  row_pixels (b ∷ bs) valid =
      let n = (page_read b.strip valid.0.whole).count in
      pixels_append (strip_channels b.strip) (joined_channels bs) (omega arith)
      ∙ ap (λ ps. strip_pixels b.strip ++ ps) (row_pixels bs valid.1)

-- ---- the tall strip

-- the first band's key and white point are within their limits
row_key : (r : List ℕ) → AreBands r → key_fits (header_fields r).key ≡ true
row_key r ok =
    let b = rw (series_next r 0 ok.some) at ok.each in
    rw b.0.key at b.0.whole.head.key_fits

row_white : (r : List ℕ) → AreBands r → white_fits (header_fields r).white ≡ true
row_white r ok =
    let b = rw (series_next r 0 ok.some) at ok.each in
    rw b.0.white at b.0.whole.head.white.fits

module _ (r : List ℕ) (ok : AreBands r) where
  pub tall_page : IsPage (tall_header r) (joined_channels (series_of r))
  tall_page =
      record {
        size = ok.fits;
        key = row_key r ok;
        white = row_white r ok;
        count = row_count (header_fields r) (series_of r) ok.each;
        valid = row_valid (header_fields r) (series_of r) ok.each;
      }

  pub tall_accepted : check_strip (tall_strip r) ≡ accepted
  unfolding check_strip
  tall_accepted = written_accepted _ _ tall_page accepted refl

  pub tall_header_law : header_fields (tall_strip r) ≡ tall_header r
  tall_header_law = header_written _ _ tall_page

  pub tall_pixels : strip_pixels (tall_strip r) ≡ joined_pixels (series_of r)
  tall_pixels = ap pixels_of (channels_written _ _ tall_page) ∙ row_pixels (header_fields r) (series_of r) ok.each

  pub tall_whole : Whole (tall_strip r)
  tall_whole = whole_strip (tall_strip r) tall_accepted

  -- so many pixels have all bands
  pub count_all : length (joined_pixels (series_of r)) ≡ pixels (tall_header r)
  count_all = ap length (sym tall_pixels) ∙ count_pixels (tall_strip r) tall_whole ∙ ap pixels tall_header_law

  pub few_pixels : length (joined_pixels (series_of r)) ≤ 16777216
  few_pixels = rw count_all (size_limits _ _ ok.fits).count

  pub tall_tally : join_tallies (series_of r) ≡ strip_tally (tall_strip r)
  tall_tally = tallies_of (series_of r) ∙ ap (λ ps. tally_of (luminances_of ps)) (sym tall_pixels)

  -- and its light
  tall_light : check_light (join_tallies (series_of r)).count (pixels (tall_header r)) ≡ strip_light (tall_strip r)
  tall_light =
      ap₂ check_light (ap (λ t. t.count) tall_tally ∙ lit_count_law (strip_pixels (tall_strip r))) (ap pixels (sym tall_header_law))

  -- of the header the key alone counts for the levels
  pub tall_levels : joined_levels r ≡ strip_levels (tall_strip r)
  tall_levels =
      let s = tall_strip r in
      levels_of_law (join_tallies (series_of r)) (header_fields r) (series_of r) ok.each
      ∙ ap₂ (λ t ps. levels_under (tone_under (header_fields r) t) ps) tall_tally (sym tall_pixels)
      ∙ ap (λ h. levels_under (tone_under h (strip_tally s)) (strip_pixels s)) (sym tall_header_law)

-- the checks of the tally of an accepted row are those of the tall strip's
pub tall_checked : (r : List ℕ) → check_bands r ≡ accepted → check_tally_bands r ≡ check_tally (tall_strip r)
unfolding check_tally_bands and_then
tall_checked r e =
    let ok = bands_accepted r e in
    rw (e, tally_checked (tall_strip r) (tall_accepted r ok)) (tall_light r ok)

pub bands_are_tall : BandsAreTall
unfolding tally_bands tally_strip
bands_are_tall r e =
    let ok = bands_accepted r e in
    let a = tall_accepted r ok in
    record {
      accepted = a;
      header = ap₂ header_under (e ∙ sym a) (sym (tall_header_law r ok));
      tally = ap₂ tally_under (tall_checked r e) (tall_tally r ok);
      levels = tall_levels r ok;
    }
