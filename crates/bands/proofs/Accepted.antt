-- What an accepted row of bands keeps to. Assumes nothing.
use Prim.Native.Nat.{ℕ, ◌+◌, ◌<◌}
use mathlib.Core.Path.{◌≡◌, refl, sym, ap, ap₂, ◌∙◌}
use mathlib.Core.Bool.{true}
use mathlib.Core.List.{List, [], ◌∷◌, ◌++◌, flat_map}
use native.Mathlib.Nat.{zero-add}
use native.Mathlib.Omega.{arith}
use borrow.Author.Tests.{eqb-true, leb-true}
use lib.ListN.{length}
use Rattle.number.proofs.Laws.{Every}
use Rattle.std.specs.Prelude.{Ok, Err, IsOk}
use Rattle.refusal.specs.Verdicts.{Verdict, accepted}
use Rattle.refusal.proofs.Laws.{require_passed, and_passed}
use Rattle.word.specs.declared.header.Header.{Header}
use Rattle.word.specs.Words.{size_fits}
use Rattle.white.specs.Whites.{White}
use Rattle.white.proofs.Limits.{both_true, white_same}
use Rattle.strip.specs.Checks.{header_fields}
use Rattle.strip.specs.Reading.{strip_pixels}
use Rattle.strip.proofs.Limits.{Whole, whole_strip}
use Rattle.average.specs.declared.tally.Tally.{Tally}
use Rattle.average.specs.Averages.{stored_average}
use Rattle.average.specs.Tallies.{tally_of, join}
use Rattle.body.specs.Luminances.{luminances_of}
use Rattle.body.specs.Levels.{levels_under}
use Rattle.body.proofs.Laws.{tally_join, levels_append}
use Rattle.page.specs.Tallying.{strip_luminances, tally_steps}
use Rattle.page.specs.Mapping.{tone_under}
use Rattle.series.specs.Series.{Standing, series_of}
use Rattle.series.proofs.Laws.{standing_accepted, series_next}
use Rattle.bands.specs.Checks.{band_header, joins, check_band, check_each, check_bands, joined_height}
use Rattle.bands.specs.Joining.{join_tallies}
use Rattle.bands.specs.Answers.{band_levels}
use Rattle.bands.specs.loops.Walks.{joined_pixels}

-- ---- one band

pub record IsBand (first : Header) (b : Standing) : Type 0 where
  pub whole : Whole b.strip
  pub width : (band_header b).width ≡ first.width
  pub key : (band_header b).key ≡ first.key
  pub white : (band_header b).white ≡ first.white

pub record Joined (first : Header) (above : ℕ) (b : Standing) : Type 0 where
  pub band : IsBand first b
  pub fits : size_fits first.width (above + (band_header b).height) ≡ true

pub band_accepted : (first : Header) (above : ℕ) (b : Standing) → check_band first above b ≡ accepted → Joined first above b
unfolding check_band joins
band_accepted first above b e =
    let a = and_passed _ _ e in
    let p = both_true _ _ (require_passed _ _ _ _ a.1).0 in
    let o = both_true _ _ p.0 in
    let q = both_true _ _ o.0 in
    record {
      band = record {
        whole = whole_strip _ (standing_accepted b a.0);
        width = eqb-true _ _ q.0;
        key = eqb-true _ _ q.1;
        white = white_same _ _ o.1;
      };
      fits = p.1;
    }

-- ---- all bands

pub each_accepted : (first : Header) (above : ℕ) (bs : List Standing) → check_each first above bs ≡ accepted → Every (IsBand first) bs
unfolding check_each
each_accepted first above [] e = tt
each_accepted first above (b ∷ bs) e =
    let a = and_passed _ _ e in
    ((band_accepted first above b a.0).band, each_accepted first (above + (band_header b).height) bs a.1)

-- one band or more have a joined size within the limits
joined_fits : (first : Header) (above : ℕ) (b : Standing) (bs : List Standing) → check_each first above (b ∷ bs) ≡ accepted
    → size_fits first.width (above + joined_height (b ∷ bs)) ≡ true
unfolding check_each joined_height
joined_fits first above b [] e =
    let same : above + ((band_header b).height + 0) ≡ above + (band_header b).height = omega arith in
    rw same (band_accepted first above b (and_passed _ _ e).0).fits
joined_fits first above b (c ∷ bs) e =
    let h = (band_header b).height in
    let same : above + (h + joined_height (c ∷ bs)) ≡ above + h + joined_height (c ∷ bs) = omega arith in
    rw same (joined_fits first (above + h) c bs (and_passed _ _ e).1)

-- an accepted row
pub record AreBands (r : List ℕ) : Type 0 where
  pub some : 0 < length r
  pub each : Every (IsBand (header_fields r)) (series_of r)
  pub fits : size_fits (header_fields r).width (joined_height (series_of r)) ≡ true

pub bands_accepted : (r : List ℕ) → check_bands r ≡ accepted → AreBands r
unfolding check_bands
bands_accepted r e =
    let a = require_passed _ _ _ _ e in
    let some = leb-true 1 (length r) a.0 in
    let next = series_next r 0 (omega arith) in
    record {
      some = omega arith;
      each = each_accepted (header_fields r) 0 (series_of r) a.1;
      fits = rw next (rw zero-add at (joined_fits (header_fields r) 0 _ _ (rw next at a.1)));
    }

-- a row that passed its checks
pub passed : (r : List ℕ) → IsOk (check_bands r) → check_bands r ≡ accepted
passed r e = by (check_bands r) e
  where
    by : (v : Verdict) → IsOk v → v ≡ accepted
    by (Ok u) e = refl
    by (Err f) e = cc

pub bands_passed : (r : List ℕ) → IsOk (check_bands r) → AreBands r
bands_passed r e = bands_accepted r (passed r e)

-- ---- their pixels

-- the joined tally is that of all pixels
pub tallies_of : (bs : List Standing) → join_tallies bs ≡ tally_of (luminances_of (joined_pixels bs))
unfolding join_tallies flat_map luminances_of
tallies_of [] = refl
tallies_of (b ∷ bs) =
    ap (join (tally_of (strip_luminances b.strip))) (tallies_of bs) ∙ sym (tally_join (strip_pixels b.strip) (joined_pixels bs))

-- bands of one key and white point are mapped as their pixels together are
pub levels_of_law : (t : Tally) (first : Header) (bs : List Standing) → Every (IsBand first) bs
    → flat_map (band_levels t) bs ≡ levels_under (tone_under first t) (joined_pixels bs)
unfolding flat_map
levels_of_law t first [] valid = refl
levels_of_law t first (b ∷ bs) valid =
    let same : tone_under (band_header b) t ≡ tone_under first t =
    ap₂ (λ (K : ℕ) (w : White). record { key = K; average = stored_average (tally_steps t); white = w }) valid.0.key valid.0.white in
    ap₂ (λ ls ms. ls ++ ms) (ap (λ u. levels_under u (strip_pixels b.strip)) same) (levels_of_law t first bs valid.1)
    ∙ sym (levels_append (tone_under first t) (strip_pixels b.strip) (joined_pixels bs))
