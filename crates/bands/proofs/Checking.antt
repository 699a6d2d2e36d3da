-- The checks of a row of bands as a walk from band to band. Assumes nothing.
use Prim.Native.Nat.{ℕ, zero, suc, ◌+◌, ◌*◌, ◌≤◌, ◌<◌, min}
use mathlib.Core.Path.{◌≡◌, refl, sym, ap, ◌∙◌}
use mathlib.Core.List.{List, [], ◌∷◌}
use native.Mathlib.Omega.{arith}
use lib.Dec.{leb}
use borrow.Author.Tests.{le-leb}
use lib.ListN.{length, drop, length-drop}
use lib.Seq.{drop-drop}
use Rattle.std.specs.List.{sum_by}
use Rattle.std.proofs.lemmas.List.Sums.{sum_by-cons}
use Rattle.number.proofs.Laws.{Every}
use Rattle.refusal.specs.declared.Refusal.TheVariants.{WrongLength, SmallOutput}
use Rattle.refusal.specs.Verdicts.{require, and_then, Verdict, accepted}
use Rattle.refusal.proofs.Laws.{and_passed, and_refused}
use Rattle.word.specs.declared.header.Header.{Header}
use Rattle.word.specs.Words.{pixels}
use Rattle.word.proofs.Limits.{size_limits}
use Rattle.strip.specs.Checks.{header_fields}
use Rattle.series.specs.Series.{Standing, strips_from, series_of, standing_at}
use Rattle.light.specs.Light.{check_light}
use Rattle.light.specs.loops.Counting.{enough_for}
use Rattle.light.proofs.Laws.{counted_enough}
use Rattle.bands.specs.Joining.{join_tallies}
use Rattle.bands.specs.Checks.{band_header, check_band, check_each, check_bands, joined_height, tall_header, check_tally_bands, check_map_bands}
use Rattle.bands.proofs.Accepted.{band_accepted, passed, bands_passed}
use Rattle.std.specs.Prelude.{Err, IsOk}
use Rattle.refusal.specs.Faults.{◌found_at◌}
use Rattle.refusal.specs.declared.Fault.{Fault}

-- ---- an empty row, and any other

module _ (r : List ℕ) where
  pub checked_empty : length r ≡ 0 → check_bands r ≡ Err (WrongLength found_at 0)
  unfolding check_bands require
  checked_empty h = rw h

  pub checked_each : 0 < length r → check_bands r ≡ check_each (header_fields r) 0 (series_of r)
  unfolding check_bands require
  checked_each h = rw (le-leb 1 (length r) (omega arith))

-- ---- where the strips of a row stand

pub record StandsIn (r : List ℕ) (b : Standing) : Type 0 where
  pub within : b.start ≤ length r
  pub same : b ≡ standing_at r b.start

behind : (r : List ℕ) (i w : ℕ) (ws : List ℕ) → drop i r ≡ w ∷ ws → drop (suc i) r ≡ ws
behind r i w ws e = let n : suc i ≡ i + 1 = omega arith in rw n (sym (drop-drop 1 i r) ∙ ap (drop 1) e)

stand_from : (r : List ℕ) (i left : ℕ) (ws : List ℕ) → drop i r ≡ ws → Every (StandsIn r) (strips_from i left ws)
unfolding strips_from
stand_from r i left [] e = tt
stand_from r i (suc left) (w ∷ ws) e = stand_from r (suc i) left ws (behind r i w ws e)
stand_from r i zero (w ∷ ws) e =
    (record { within = omega (arith, length-drop i r, ap length e); same = rw e }, stand_from r (suc i) _ ws (behind r i w ws e))

pub series_stand : (r : List ℕ) → Every (StandsIn r) (series_of r)
series_stand r = stand_from r 0 0 r refl

-- ---- the walk: the verdict on the bands that are left is that on all

pub record Checking (r : List ℕ) (first : Header) (above : ℕ) (left : List Standing) : Type 0 where
  pub few : above ≤ 8192
  pub stand : Every (StandsIn r) left
  pub same : check_each first above left ≡ check_each first 0 (series_of r)

module _ (r : List ℕ) (first : Header) where
  pub checking_all : {left : List Standing} → left ≡ series_of r → Checking r first 0 left
  checking_all e = rw e (record { few = omega arith; stand = series_stand r; same = refl })

  module _ {above : ℕ} {left : List Standing} (inv : Checking r first above left) where
    pub checking_done : left ≡ [] → check_each first 0 (series_of r) ≡ accepted
    unfolding check_each
    checking_done e = sym (rw e at inv.same)

    module _ {b : Standing} {bs : List Standing} (n : left ≡ b ∷ bs) where
      pub next_stands : StandsIn r b
      next_stands = (rw n at inv.stand).0

      opened : check_each first 0 (series_of r) ≡ and_then (check_band first above b) (check_each first (above + (header_fields b.strip).height) bs)
      unfolding check_each
      opened = sym (rw n at inv.same)

      pub checking_next : check_band first above b ≡ accepted → Checking r first (above + (header_fields b.strip).height) bs
      unfolding and_then
      checking_next e =
          let limits = size_limits _ _ (band_accepted first above b e).fits in
          record { few = limits.height; stand = (rw n at inv.stand).1; same = sym (rw e at opened) }

      pub checking_refused : {f : Fault} → check_band first above b ≡ Err f → check_each first 0 (series_of r) ≡ Err f
      unfolding and_then
      checking_refused e = rw e at opened

-- ---- the size of the whole

pub rows_sum : (bs : List Standing) → sum_by (λ b. (band_header b).height) bs ≡ joined_height bs
unfolding joined_height
rows_sum [] = refl
rows_sum (b ∷ bs) = sum_by-cons _ b bs ∙ ap (λ n. (band_header b).height + n) (rows_sum bs)

module _ (r : List ℕ) where
  pub few_rows : IsOk (check_bands r) → joined_height (series_of r) ≤ 8192
  few_rows e = (size_limits _ _ (bands_passed r e).fits).height

  -- the pixels of all bands
  pub few_joined : IsOk (check_bands r) → pixels (tall_header r) ≤ 16777216
  few_joined e = (size_limits _ _ (bands_passed r e).fits).count

-- ---- the light of all bands, then the output

module _ (r : List ℕ) where
  pub light_passed : check_tally_bands r ≡ accepted → check_bands r ≡ accepted
  unfolding check_tally_bands
  light_passed e = (and_passed _ _ e).0

  -- lit pixels are counted until they are enough
  pub light_counted : {v : Verdict} → IsOk (check_bands r)
      → v ≡ check_light (min (enough_for (pixels (tall_header r))) (join_tallies (series_of r)).count) (pixels (tall_header r))
      → v ≡ check_tally_bands r
  unfolding check_tally_bands and_then
  light_counted e f = f ∙ counted_enough _ _ ∙ rw (passed r e)

module _ (r : List ℕ) (room : ℕ) where
  pub light_refused : {f : Fault} → check_tally_bands r ≡ Err f → Err f ≡ check_map_bands r room
  unfolding check_map_bands
  light_refused e = and_refused _ (sym e) refl

  pub bands_refused : {f : Fault} → check_bands r ≡ Err f → Err f ≡ check_map_bands r room
  unfolding check_map_bands check_tally_bands
  bands_refused e = and_refused _ (and_refused _ (sym e) refl) refl

  pub map_checked : check_tally_bands r ≡ accepted
      → check_map_bands r room ≡ require (leb (3 * pixels (tall_header r)) room) SmallOutput 0 accepted
  unfolding check_map_bands and_then
  map_checked e = rw e
